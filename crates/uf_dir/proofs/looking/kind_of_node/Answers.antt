use Rattle.std.proofs.Common.{refl, ap, Ok, Err}
use Rattle.std.proofs.lemmas.Result.{err_from_is_err_and}
use Rattle.uf_dagpb.specs.Spelling.{node_bytes}
use Rattle.uf_fileread.specs.declared.size.FileSize.{FileSize}
use Rattle.uf_tree.proofs.Files.{file_read}
use Rattle.uf_dir.proofs.Roots.{unread-kind}
use Rattle.uf_dir.proofs.looking.kind_of_node.Goals as goal

pub returns-in_err-file-in-None : goal.returns-in_err-file-in-None
returns-in_err-file-in-None c =
    let out = err_from_is_err_and c.from_residual-in_err-file-in-None.result c.from_residual-in_err-file-in-None.ensures.1 in
    rw (out.1, out.2) (unread-kind (node_bytes c.args.node) c.root_of_node.result c.in_err-file-in-None.field-0.0 c.root_of_node.ensures.reads (rw c.in-None.is at c.in_ok-root.ensures)
    (file_read (node_bytes c.args.node) c.args.node (Err c.in_err-file-in-None.field-0.0) c.requires.short (c.requires.node, refl) c.in_err-file-in-None.ensures))

pub returns-in_ok-file-in-None : goal.returns-in_ok-file-in-None
returns-in_ok-file-in-None c =
    let read = file_read (node_bytes c.args.node) c.args.node (Ok c.in_ok-file-in-None.file) c.requires.short (c.requires.node, refl) c.in_ok-file-in-None.ensures in
    record {
      node = c.in_ok-file-in-None.file;
      valid = read.0;
      is = read.1;
      length_is = ap (λ (s : FileSize). s.length) c.size_by.ensures;
      links_are = ap (λ (s : FileSize). s.links) c.size_by.ensures;
      meta_is = ap (λ (s : FileSize). s.meta) c.size_by.ensures;
    }
