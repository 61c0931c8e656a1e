use native.Mathlib.Numerals.{unary_clauses}
use Rattle.std.proofs.Common.{ℕ, [], ap, subst, ◌∙◌}
use Rattle.uf_store.specs.Contents.{held_at}
use Rattle.uf_walk.specs.Order.{Whole}
use Rattle.uf_walk.specs.Walked.{with_root}
use Rattle.uf_same.specs.Comparing.{Judges}
use Rattle.uf_same.specs.Verdict.{follow_both, verdict_of}
use Rattle.uf_same.proofs.comparing.compare_from.Goals as goal

pub returns-clause-verdict : goal.returns-clause-verdict
returns-clause-verdict g c = λ t u is ws.
    let f = follow_both (held_at t) (held_at u) in
    let new = c.new-walk.ensures in
    simp unary_clauses at (subst (λ x. Judges (verdict_of (held_at t) (held_at u) x) c.compare_along.result)
    (c.in_ok-add_root.ensures.ok.course f ∙ ap (with_root f c.new-walk.result.most c.args.root.now) (new.course f) ∙ ap (λ (m : ℕ). with_root f m c.args.root.now (Whole [])) new.most)
    (c.compare_along.ensures.verdict t u is ws))
