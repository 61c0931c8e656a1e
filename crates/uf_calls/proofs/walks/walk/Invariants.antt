use Rattle.std.proofs.Common.{◌≡◌, None}
use Rattle.uf_calls.proofs.walks.walk.Given as goal

abbrev pub invariant-loop-root : goal.invariant-loop-root
invariant-loop-root l = l.walk.due ≡ None
