use Rattle.std.proofs.Common.{subst, ap, ◌∙◌, Result, Err}
use Rattle.uf_cid.specs.declared.bytes.StrictFault.{StrictFault}
use Rattle.uf_fileread.specs.Parts.{AreParts, parts_block}
use Rattle.uf_fileread.specs.declared.node_parts.NodeParts.{NodeParts}
use Rattle.uf_tree.specs.Codecs.{Reads}
use Rattle.uf_fileedit.proofs.Roots.{no-root}
use Rattle.uf_fileedit.proofs.root.node_in.Goals as goal

pub returns-in-Err-NotCanonical-clause-says : goal.returns-in-Err-NotCanonical-clause-says
returns-in-Err-NotCanonical-clause-says c = λ codec. no-root c.args.cid.now c.args.block.now codec
    (subst (λ (r : Result NodeParts StrictFault). Reads AreParts parts_block c.args.block.now r) (c.in-Err-NotCanonical.is ∙ ap (λ (f : StrictFault). Err f) c.in-Err-NotCanonical.field-0-is) c.read_parts.ensures)
