use Rattle.std.proofs.Common.{sym, ◌∙◌}
use Rattle.uf_walk.proofs.Passing.{passes_one, popped}
use Rattle.uf_walk.proofs.links.pass_over.Goals as goal

pub loop-next-preserved : goal.loop-next-preserved
loop-next-preserved c =
    let next = c.in-Some.next in
    passes_one _ _ _ _ next c.loop-next.invariant (popped _ _ _ next c.in-Some.ensures c.pop_front.ensures) (sym c.has.ensures ∙ c.if-not-has.false)
