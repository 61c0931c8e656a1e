use Rattle.std.proofs.Common.{arith}
use Rattle.std.proofs.lemmas.Result.{err_from_is_err_and}
use Rattle.uf_tree.proofs.Files.{file_refused, file_read}
use Rattle.uf_tree.proofs.file_codec.read_file_node.Goals as goal

pub returns-in_err-decode_strict : goal.returns-in_err-decode_strict
returns-in_err-decode_strict c =
    let out = err_from_is_err_and c.from_residual.result c.from_residual.ensures.1 in rw (out.1, out.2)
    (file_refused c.args.bytes.now c.in_err-decode_strict.field-0.0 c.in_err-decode_strict.ensures)

pub returns : goal.returns
returns c = file_read c.args.bytes.now c.in_ok-decode_strict.field-0 c.file_node_of.result (omega arith) c.in_ok-decode_strict.ensures c.file_node_of.ensures
