use Rattle.uf_shard.proofs.Readings.{first-placed}
use Rattle.uf_shard.proofs.reading.is_first.Goals as goal

pub returns : goal.returns
returns g c = first-placed g.N.NameHash.name64 c.args.node.now c.is_placed.result c.requires c.is_placed.ensures
