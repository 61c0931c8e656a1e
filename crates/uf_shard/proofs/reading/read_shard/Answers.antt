use Rattle.uf_shard.specs.Placed.{way}
use Rattle.uf_shard.proofs.Readings.{placed-elsewhere}
use Rattle.uf_shard.proofs.reading.read_shard.Goals as goal

pub returns-else-is_placed : goal.returns-else-is_placed
returns-else-is_placed g c = placed-elsewhere g.N.NameHash.name64 (way c.args.hash c.args.level) c.args.bytes.now c.in_ok-node.node c.is_placed.result c.in_ok-node.ensures c.is_placed.ensures c.if-is_placed.false
