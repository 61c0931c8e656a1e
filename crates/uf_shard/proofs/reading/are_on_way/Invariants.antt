use Rattle.std.proofs.Common.{take}
use Rattle.std.specs.List.{AllByRecursion}
use Rattle.uf_tree.specs.Roles.{IsOnWay}
use Rattle.uf_shard.specs.Placed.{way}
use Rattle.uf_shard.proofs.reading.are_on_way.Given as goal

abbrev pub invariant-loop-placed : goal.invariant-loop-placed
invariant-loop-placed g l = AllByRecursion (IsOnWay g.N.NameHash.name64 (way l.hash l.level)) (take l.placed-index l.items)
