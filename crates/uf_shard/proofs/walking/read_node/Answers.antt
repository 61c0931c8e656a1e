use Rattle.uf_shard.proofs.Walks.{above-elsewhere}
use Rattle.uf_shard.proofs.walking.read_node.Goals as goal

pub returns-else-is_above : goal.returns-else-is_above
returns-else-is_above c = above-elsewhere c.args.left c.args.bytes.now c.in_ok-node.node c.is_above.result c.in_ok-node.ensures c.is_above.ensures c.if-is_above.false
