use Rattle.std.proofs.Common.{◌≡◌, drop}
use Rattle.uf_walk.proofs.ahead.Frontier.take_away.Given as goal

abbrev pub invariant-loop : goal.invariant-loop
invariant-loop l = l.self ≡ drop l.counter l.initial.self
