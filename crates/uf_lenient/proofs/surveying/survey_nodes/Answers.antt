use Rattle.uf_lenient.specs.Steps.{Surveys}
use Rattle.uf_lenient.specs.declared.due.LeafVisit.TheVariants.{Asked}
use Rattle.uf_lenient.proofs.Saying.{leaves-held}
use Rattle.uf_lenient.proofs.surveying.survey_nodes.Goals as goal

pub returns-clause-says : goal.returns-clause-says
returns-clause-says g c = leaves-held (λ held. Surveys held c.args.limits.now c.args.cid.now c.survey_by.result) Asked g.S.X.BlockHash.block32 (g.S.Store.seen c.args.store.now).told c.survey_by.ensures.says
