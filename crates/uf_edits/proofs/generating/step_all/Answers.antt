use Rattle.uf_gen.specs.Grown.{stepped}
use Rattle.std.proofs.Common.{sym, subst, arith, Result, Err}
use Rattle.std.proofs.lemmas.Result.{err_from_is_err_and}
use Rattle.uf_plain.specs.declared.rule.Rule.{Rule}
use Rattle.uf_tree.specs.Tree.{Entries}
use Rattle.uf_edits.specs.Generated.{Grows, StandsFor, small_profile}
use Rattle.uf_edits.proofs.Grown.{one-more, step-stops}
use Rattle.uf_edits.proofs.generating.step_all.Goals as goal

pub loop-i-preserved : goal.loop-i-preserved
loop-i-preserved g c =
    let X = g.S.X.BlockHash.block32 in
    let N = g.N.NameHash.name64 in
    let step = c.args.step in
    let seed = c.args.seed in
    let n = c.args.n in (
      λ start. subst (λ (r : Result Entries Rule). StandsFor X N r (g.S.Store.seen c.step_one.new.store) c.step_one.new.tree)
          (sym (one-more X N step n seed c.loop-i.i))
          (c.in_ok-step_one.ensures.grows (stepped X N small_profile seed step n c.loop-i.i) (c.loop-i.invariant.0 start)),
      c.in_ok-step_one.ensures.mfs,
    )

pub returns-in_err-step_one-clause-grows : goal.returns-in_err-step_one-clause-grows
returns-in_err-step_one-clause-grows g c = λ start.
    let X = g.S.X.BlockHash.block32 in
    let N = g.N.NameHash.name64 in
    let step = c.args.step in
    let seed = c.args.seed in
    let n = c.args.n in
    let now = g.S.Store.seen c.step_one.new.store in
    let f = c.in_err-step_one.field-0.0 in
    let out = err_from_is_err_and c.from_residual.result c.from_residual.ensures.1 in
    rw (out.1, out.2)
    (step-stops X N step n seed c.loop-i.i now c.step_one.new.tree f (omega (arith, c.loop-i-test.true))
    (subst (λ (r : Result Entries Rule). Grows X N r now c.step_one.new.tree (Err f)) (sym (one-more X N step n seed c.loop-i.i))
    (c.in_err-step_one.ensures.grows (stepped X N small_profile seed step n c.loop-i.i) (c.loop-i.invariant.0 start))))
