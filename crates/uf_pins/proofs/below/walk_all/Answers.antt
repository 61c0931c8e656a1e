use Rattle.std.proofs.Common.{Err, subst, ◌∙◌, arith}
use Rattle.std.proofs.lemmas.Result.{err_from_is_err_and}
use Rattle.uf_store.specs.Contents.{held_at}
use Rattle.uf_walk.specs.Order.{Course, follow_held, ordered}
use Rattle.uf_walk.specs.Turns.{HandsOut}
use Rattle.uf_walk.specs.Walked.{course}
use Rattle.uf_pins.specs.Reach.{ReachesAll, StopsReach}
use Rattle.uf_pins.proofs.Touched.{each-handed, handed-next}
use Rattle.uf_pins.proofs.below.walk_all.Goals as goal

pub returns-in_err-take_next-in-At-clause-reached : goal.returns-in_err-take_next-in-At-clause-reached
returns-in_err-take_next-in-At-clause-reached g c t is =
    let out = err_from_is_err_and c.from_residual-in_err-take_next-in-At.result c.from_residual-in_err-take_next-in-At.ensures.1 in
    let handed : HandsOut c.in-At.cid c.loop-cid.walk c.advance.new.self = rw c.in-At.is at c.in_ok-advance.ensures in
    let on = handed.course (follow_held (held_at t)) ∙ c.loop-cid.invariant.course t is in
    let h : ReachesAll (ordered (held_at t) (course (follow_held (held_at t)) c.args.walk.now)) (Err c.in_err-take_next-in-At.field-0.0) c.push.new.self =
    subst (λ (x : Course). StopsReach (ordered (held_at t) x) c.in_err-take_next-in-At.field-0.0) on
    (c.in_err-take_next-in-At.ensures.order t (c.loop-cid.invariant.reads.told ∙ is)) in
    rw (out.1, out.2) h

pub returns-in_err-advance-clause-each : goal.returns-in_err-advance-clause-each
returns-in_err-advance-clause-each g c t is =
    each-handed (held_at t) c.args.walk.now c.loop-cid.walk _ _ (c.loop-cid.invariant.course t is) (omega (arith, c.loop-cid.invariant.touched))

pub returns-in_err-push-in-At-clause-each : goal.returns-in_err-push-in-At-clause-each
returns-in_err-push-in-At-clause-each g c t is =
    each-handed (held_at t) c.args.walk.now c.loop-cid.walk _ _ (c.loop-cid.invariant.course t is) (omega (arith, c.loop-cid.invariant.touched))

pub returns-in_err-take_next-in-At-clause-each : goal.returns-in_err-take_next-in-At-clause-each
returns-in_err-take_next-in-At-clause-each g c t is =
    let handed : HandsOut c.in-At.cid c.loop-cid.walk c.advance.new.self = rw c.in-At.is at c.in_ok-advance.ensures in
    each-handed (held_at t) c.args.walk.now c.advance.new.self _ _ (handed.course (follow_held (held_at t)) ∙ c.loop-cid.invariant.course t is)
    (handed-next _ _ _ _ _ _ handed c.loop-cid.invariant.touched c.in_err-take_next-in-At.ensures.touches)
