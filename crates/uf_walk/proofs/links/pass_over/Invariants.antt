use Rattle.std.proofs.Common.{map, length}
use Rattle.uf_walk.specs.Ahead.{Passed}
use Rattle.uf_walk.proofs.links.pass_over.Given as goal

abbrev pub invariant-loop-next : goal.invariant-loop-next
invariant-loop-next l = Passed (map (λ k. k.cid) l.met.keys) l.initial.ahead l.ahead

abbrev pub decreases-loop-next : goal.decreases-loop-next
decreases-loop-next l = length l.ahead
