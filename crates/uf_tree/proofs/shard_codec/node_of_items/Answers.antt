use Rattle.uf_tree.proofs.Shards.{shard_is, shard_small}
use Rattle.uf_tree.proofs.shard_codec.node_of_items.Goals as goal

pub returns-clause-block : goal.returns-clause-block
returns-clause-block c =
    shard_is c.node_of.result c.args.meta.now c.args.items.now c.as_slice.result.now c.as_slice-2.result.now c.in_ok-content.content c.as_slice-3.result.now c.as_slice.ensures c.as_slice-2.ensures c.in_ok-content.ensures c.as_slice-3.ensures c.node_of.ensures

pub returns-clause-small : goal.returns-clause-small
returns-clause-small c =
    shard_small c.node_of.result c.args.meta.now c.args.items.now c.requires.items
    (shard_is c.node_of.result c.args.meta.now c.args.items.now c.as_slice.result.now c.as_slice-2.result.now c.in_ok-content.content c.as_slice-3.result.now c.as_slice.ensures c.as_slice-2.ensures c.in_ok-content.ensures c.as_slice-3.ensures c.node_of.ensures)
