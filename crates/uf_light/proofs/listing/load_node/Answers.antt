use Rattle.std.proofs.Common.{ap, subst, ◌∙◌, None, Result, Err, refl}
use Rattle.uf_cid.specs.declared.bytes.StrictFault.{StrictFault}
use Rattle.uf_tree.specs.Codecs.{Reads}
use Rattle.uf_fileread.specs.Parts.{parts_block}
use Rattle.uf_fileread.specs.declared.node_parts.NodeParts.{NodeParts}
use Rattle.uf_fileread.specs.Sending.{MayStand}
use Rattle.uf_fileread.proofs.Reading.{bad_node}
use Rattle.uf_light.proofs.listing.load_node.Goals as goal

pub returns-in-Err-NotCanonical-clause-cause : goal.returns-in-Err-NotCanonical-clause-cause
returns-in-Err-NotCanonical-clause-cause g c = bad_node g.S.X.BlockHash.block32 22 None c.args.cid.now c.block.result.now (g.S.Store.seen c.args.store.now) (g.S.Store.seen c.need.new.store)
    (λ at_root. refl) c.in_ok-need.ensures.found c.in_ok-need.ensures.cause c.block.ensures
    (subst (λ (r : Result NodeParts StrictFault). Reads (MayStand 22 None) parts_block c.block.result.now r) (c.in-Err-NotCanonical.is ∙ ap (λ (f : StrictFault). Err f) c.in-Err-NotCanonical.field-0-is) c.read_node.ensures)
