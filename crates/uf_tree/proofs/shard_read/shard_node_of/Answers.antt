use Rattle.uf_tree.proofs.Shards.{shard_of_parts}
use Rattle.uf_tree.proofs.shard_read.shard_node_of.Goals as goal

pub returns-in_ok-items-in-Some : goal.returns-in_ok-items-in-Some
returns-in_ok-items-in-Some c =
    shard_of_parts c.args.node.now c.in-Some.content c.as_slice.result.now c.as_slice-in-Some-2.result.now c.as_slice-in-Some.result.now c.in_ok-items-in-Some.items c.in_ok-meta-in-Some.meta c.whole.result
    c.in-Some.is c.as_slice.ensures c.as_slice-in-Some-2.ensures c.as_slice-in-Some.ensures c.in_ok-meta-in-Some.ensures c.in_ok-items-in-Some.ensures c.whole.ensures
