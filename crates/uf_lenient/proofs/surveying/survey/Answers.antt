use Rattle.uf_lenient.specs.Steps.{Surveys}
use Rattle.uf_lenient.proofs.Saying.{held-so}
use Rattle.uf_lenient.proofs.surveying.survey.Goals as goal

pub returns-clause-says : goal.returns-clause-says
returns-clause-says g c = held-so (λ held. Surveys held c.args.limits.now c.args.cid.now c.survey_by.result) g.S.X.BlockHash.block32 (g.S.Store.seen c.args.store.now).told c.survey_by.ensures.says
