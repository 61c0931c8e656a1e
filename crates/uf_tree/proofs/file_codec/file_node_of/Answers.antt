use Rattle.std.proofs.lemmas.Result.{err_from_is_err_and}
use Rattle.uf_tree.proofs.Files.{file_of_parts, file_unread}
use Rattle.uf_tree.proofs.file_codec.file_node_of.Goals as goal

pub returns-in_err-sizes-in-Some : goal.returns-in_err-sizes-in-Some
returns-in_err-sizes-in-Some c =
    let out = err_from_is_err_and c.from_residual.result c.from_residual.ensures.1 in rw (out.1, out.2)
    (file_unread c.args.node c.in-Some.content c.as_slice.result.now c.in_err-sizes-in-Some.field-0.0 c.in-Some.is c.as_slice.ensures c.in_err-sizes-in-Some.ensures)

pub returns-in_ok-sizes-in-Some : goal.returns-in_ok-sizes-in-Some
returns-in_ok-sizes-in-Some c =
    file_of_parts c.args.node c.in-Some.content c.as_slice.result.now c.in_ok-sizes-in-Some.sizes c.in_ok-sizes-in-Some.meta c.whole.result c.in-Some.is c.as_slice.ensures c.in_ok-sizes-in-Some.ensures c.whole.ensures
