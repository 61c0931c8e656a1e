use Rattle.std.proofs.Common.{◌≤◌}
use Rattle.uf_cache.proofs.cached.CachedStore.foresee.Given as goal

abbrev pub invariant-loop-cid : goal.invariant-loop-cid
invariant-loop-cid g l = l.count ≤ 8
