use Rattle.std.proofs.Common.{take}
use Rattle.std.specs.List.{AllByRecursion}
use Rattle.uf_shard.specs.Walked.{HasLevel}
use Rattle.uf_shard.proofs.walking.have_levels.Given as goal

abbrev pub invariant-loop-placed : goal.invariant-loop-placed
invariant-loop-placed l = AllByRecursion (HasLevel l.left) (take l.placed-index l.items)
