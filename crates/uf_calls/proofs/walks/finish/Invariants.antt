use Rattle.std.proofs.Common.{◌≡◌, None}
use Rattle.uf_calls.proofs.walks.finish.Given as goal

abbrev pub invariant-loop : goal.invariant-loop
invariant-loop l = l.walk.due ≡ None
