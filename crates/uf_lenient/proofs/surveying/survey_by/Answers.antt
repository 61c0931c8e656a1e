use Rattle.std.proofs.Common.{ap, ◌+◌, Err}
use Rattle.std.proofs.lemmas.Result.{err_from_is_err_and}
use Rattle.uf_lenient.proofs.Ends.{not-gathered, surveyed}
use Rattle.uf_lenient.proofs.Saying.{by-good, leaves-both, leaves-of-good}
use Rattle.uf_lenient.specs.Steps.{Surveys}
use Rattle.uf_lenient.proofs.surveying.survey_by.Goals as goal

pub returns-in_err-gathered-clause-says : goal.returns-in_err-gathered-clause-says
returns-in_err-gathered-clause-says g c =
    let out = err_from_is_err_and c.from_residual.result c.from_residual.ensures.1 in
    rw (out.1, out.2) (leaves-of-good (λ held. Surveys held c.args.limits.now c.args.cid.now (Err c.in_err-gathered.field-0.0)) c.args.leaf g.S.X.BlockHash.block32 (g.S.Store.seen c.args.store.now).told
    (by-good g.S.X.BlockHash.block32 (g.S.Store.seen c.args.store.now).told (λ held says. not-gathered held c.args.limits.now c.args.cid.now (c.from-left.result + 1) c.in_err-gathered.field-0.0 (ap (λ n. n + 1) c.from-left.ensures) says) c.in_err-gathered.ensures.says))

pub returns-clause-says : goal.returns-clause-says
returns-clause-says g c =
    leaves-both c.args.leaf g.S.X.BlockHash.block32 (g.S.Store.seen c.args.store.now).told (g.S.Store.seen c.gather.new.store).told c.in_ok-gathered.ensures.reads.told
    (λ held says later. surveyed held c.args.limits.now c.args.cid.now c.in_ok-gathered.gathered c.gather.new.visits c.complete.new.visits (c.from-left.result + 1) c.complete.result (ap (λ n. n + 1) c.from-left.ensures) says later c.complete.ensures.shape)
    (leaves-of-good _ c.args.leaf g.S.X.BlockHash.block32 (g.S.Store.seen c.args.store.now).told c.in_ok-gathered.ensures.says) c.complete.ensures.says
