use Rattle.std.proofs.Common.{subst, sym, ap, ◌∙◌}
use Rattle.std.proofs.lemmas.Result.{err_from_is_err_and}
use Rattle.uf_store.specs.Contents.{held_at}
use Rattle.uf_store.proofs.Calls.{reads-reads}
use Rattle.uf_same.specs.Comparing.{RefusesSame}
use Rattle.uf_same.specs.Verdict.{follow_both, verdict_of}
use Rattle.uf_same.proofs.comparing.compare_along.Goals as goal

pub returns-in_err-clash-in-At-clause-verdict : goal.returns-in_err-clash-in-At-clause-verdict
returns-in_err-clash-in-At-clause-verdict g c = λ t u is ws.
    let out = err_from_is_err_and c.from_residual-in_err-clash-in-At.result c.from_residual-in_err-clash-in-At.ensures.1 in
    let inv = c.loop-cid.invariant in
    let hands = rw c.in-At.is at c.in_ok-advance.ensures in
    rw (out.1, out.2) (subst (λ x. RefusesSame (verdict_of (held_at t) (held_at u) x) c.in_err-clash-in-At.field-0.0) (hands.course (follow_both (held_at t) (held_at u)) ∙ inv.course t u is ws)
    (c.in_err-clash-in-At.ensures.compares t u (inv.left.told ∙ is) (inv.right.told ∙ ws)))

pub returns-in-Some-clause-verdict : goal.returns-in-Some-clause-verdict
returns-in-Some-clause-verdict g c = λ t u is ws.
    let inv = c.loop-cid.invariant in
    let hands = rw c.in-At.is at c.in_ok-advance.ensures in
    ap (verdict_of (held_at t) (held_at u)) (sym (hands.course (follow_both (held_at t) (held_at u)) ∙ inv.course t u is ws))
    ∙ (rw c.in-Some.is at (c.in_ok-clash-in-At.ensures.compares t u (inv.left.told ∙ is) (inv.right.told ∙ ws)))

pub loop-cid-preserved : goal.loop-cid-preserved
loop-cid-preserved g c =
    let inv = c.loop-cid.invariant in
    let hands = rw c.in-At.is at c.in_ok-advance.ensures in
    let took = rw c.in_default.is at c.in_ok-clash-in-At.ensures.steps in
    record {
      due = took.due;
      course = λ t u is ws. (rw c.in_default.is at (c.in_ok-clash-in-At.ensures.compares t u (inv.left.told ∙ is) (inv.right.told ∙ ws))) ∙ hands.course (follow_both (held_at t) (held_at u)) ∙ inv.course t u is ws;
      left = reads-reads inv.left c.in_ok-clash-in-At.ensures.left;
      left_misses = c.in_ok-clash-in-At.ensures.left_misses ∙ inv.left_misses;
      right = reads-reads inv.right c.in_ok-clash-in-At.ensures.right;
    }
