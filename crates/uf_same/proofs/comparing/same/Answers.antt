use Rattle.std.proofs.Common.{true, false, sym, ap, subst}
use Rattle.uf_store.specs.Contents.{held_at}
use Rattle.uf_same.specs.Comparing.{Judges}
use Rattle.uf_same.specs.Verdict.{by_equal}
use Rattle.uf_same.proofs.Equal.{tie_is}
use Rattle.uf_same.proofs.comparing.same.Goals as goal

pub returns-then-ne-clause-verdict : goal.returns-then-ne-clause-verdict
returns-then-ne-clause-verdict g c t u is ws =
    ap (by_equal (held_at t) (held_at u) c.args.most c.args.a.now) (tie_is c.args.a.now c.args.b.now c.ne.result false c.ne.ensures c.if-ne.true)

pub returns-clause-verdict : goal.returns-clause-verdict
returns-clause-verdict g c t u is ws =
    subst (λ v. Judges v c.compare_from.result) (sym (ap (by_equal (held_at t) (held_at u) c.args.most c.args.a.now) (tie_is c.args.a.now c.args.b.now c.ne.result true c.ne.ensures c.if-ne.false)))
    (c.compare_from.ensures.verdict t u is ws)
