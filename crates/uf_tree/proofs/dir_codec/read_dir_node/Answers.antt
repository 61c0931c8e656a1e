use Rattle.std.proofs.Common.{arith}
use Rattle.std.proofs.lemmas.Result.{err_from_is_err_and}
use Rattle.uf_tree.proofs.Directories.{dir_refused, dir_read}
use Rattle.uf_tree.proofs.dir_codec.read_dir_node.Goals as goal

pub returns-in_err-node : goal.returns-in_err-node
returns-in_err-node c =
    let out = err_from_is_err_and c.from_residual.result c.from_residual.ensures.1 in rw (out.1, out.2)
    (dir_refused c.args.bytes.now c.in_err-node.field-0.0 c.in_err-node.ensures)

pub returns : goal.returns
returns c = dir_read c.args.bytes.now c.in_ok-node.node c.dir_node_of.result (omega arith) c.in_ok-node.ensures c.dir_node_of.ensures
