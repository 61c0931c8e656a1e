use Rattle.std.proofs.lemmas.Result.{err_from_is_err_and}
use Rattle.uf_adopt.proofs.Denoted.{reading-unsaved, says-denoted, says-fault, surveyed-unsaved}
use Rattle.uf_adopt.proofs.Saving.{denoted-saves, survey-saves}
use Rattle.uf_adopt.proofs.adopting.adopt.Goals as goal

pub returns-in_err-survey-clause-says : goal.returns-in_err-survey-clause-says
returns-in_err-survey-clause-says g c =
    let out = err_from_is_err_and c.from_residual.result c.from_residual.ensures.1 in
    rw (out.1, out.2) (says-fault g.S.X.BlockHash.block32 g.N.NameHash.name64 c.args.p.now c.args.limits.now (g.S.Store.seen c.args.store.now).told (g.S.Store.seen c.survey.new.store).told c.args.cid.now c.in_err-survey.field-0.0 c.in_err-survey.ensures.good)

pub returns-clause-says : goal.returns-clause-says
returns-clause-says g c =
    says-denoted g.S.X.BlockHash.block32 g.N.NameHash.name64 c.args.p.now c.args.limits.now (g.S.Store.seen c.args.store.now).told (g.S.Store.seen c.survey.new.store).told (g.S.Store.seen c.adopt_surveyed.new.store).told c.args.cid.now _ c.adopt_surveyed.result c.in_ok-survey.ensures.told c.in_ok-survey.ensures.good
    c.adopt_surveyed.ensures.builds

pub returns-in_err-survey-clause-refused : goal.returns-in_err-survey-clause-refused
returns-in_err-survey-clause-refused g c =
    let out = err_from_is_err_and c.from_residual.result c.from_residual.ensures.1 in
    rw (out.1, out.2) (reading-unsaved c.in_err-survey.field-0.0 (g.S.Store.seen c.args.store.now).told (g.S.Store.seen c.survey.new.store).told c.in_err-survey.ensures.told)

pub returns-clause-refused : goal.returns-clause-refused
returns-clause-refused g c =
    surveyed-unsaved g.S.X.BlockHash.block32 g.N.NameHash.name64 c.args.p.now c.args.limits.now (g.S.Store.seen c.args.store.now).told (g.S.Store.seen c.survey.new.store).told (g.S.Store.seen c.adopt_surveyed.new.store).told c.args.cid.now _ c.adopt_surveyed.result c.in_ok-survey.ensures.told c.in_ok-survey.ensures.good
    c.adopt_surveyed.ensures.builds c.adopt_surveyed.ensures.saves

pub returns-in_err-survey-clause-no_other : goal.returns-in_err-survey-clause-no_other
returns-in_err-survey-clause-no_other g c =
    survey-saves g.S.X.BlockHash.block32 g.N.NameHash.name64 c.args.p.now c.args.limits.now c.args.cid.now (g.S.Store.seen c.args.store.now).told (g.S.Store.seen c.survey.new.store).told c.survey.ensures.told

pub returns-clause-no_other : goal.returns-clause-no_other
returns-clause-no_other g c =
    denoted-saves g.S.X.BlockHash.block32 g.N.NameHash.name64 c.args.p.now c.args.limits.now c.args.cid.now _ (g.S.Store.seen c.args.store.now).told (g.S.Store.seen c.survey.new.store).told (g.S.Store.seen c.adopt_surveyed.new.store).told
    c.in_ok-survey.ensures.told c.in_ok-survey.ensures.good c.adopt_surveyed.ensures.no_other
