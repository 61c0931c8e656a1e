use Rattle.std.proofs.Common.{◌≡◌}
use Rattle.uf_shard.specs.Placed.{way}
use Rattle.uf_shard.proofs.reading.shares_way.Given as goal

abbrev pub invariant-loop-above : goal.invariant-loop-above
invariant-loop-above l = way l.other l.above ≡ way l.hash l.above
