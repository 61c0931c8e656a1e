use Rattle.std.proofs.Common.{arith}
use Rattle.std.proofs.lemmas.Result.{err_from_is_err_and}
use Rattle.uf_tree.proofs.Shards.{shard_refused, shard_read}
use Rattle.uf_tree.proofs.shard_read.read_shard_node.Goals as goal

pub returns-in_err-node : goal.returns-in_err-node
returns-in_err-node c =
    let out = err_from_is_err_and c.from_residual.result c.from_residual.ensures.1 in rw (out.1, out.2)
    (shard_refused c.args.bytes.now c.in_err-node.field-0.0 c.in_err-node.ensures)

pub returns : goal.returns
returns c = shard_read c.args.bytes.now c.in_ok-node.node c.shard_node_of.result (omega arith) c.in_ok-node.ensures c.shard_node_of.ensures
