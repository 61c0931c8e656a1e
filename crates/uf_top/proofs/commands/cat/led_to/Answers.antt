use Rattle.uf_top.proofs.Cats.{same-fault}
use Rattle.uf_top.proofs.Grafted.{way-told}
use Rattle.uf_top.proofs.commands.cat.led_to.Goals as goal

pub returns-in-Err-clause-leads : goal.returns-in-Err-clause-leads
returns-in-Err-clause-leads g c = way-told g.S.X.BlockHash.block32 (g.S.Store.seen c.args.store.now).told c.args.path.now c.in-Err.fault c.dag_refusal.result c.in-Err.ensures.good c.dag_refusal.ensures

pub returns-in-Err-clause-reads : goal.returns-in-Err-clause-reads
returns-in-Err-clause-reads g c = record {
  cause = same-fault c.args.path.now c.in-Err.fault g.S.X.BlockHash.block32 (g.S.Store.seen c.args.store.now) (g.S.Store.seen c.resolve.new.store) c.dag_refusal.result c.dag_refusal.ensures c.in-Err.ensures.cause;
  told = c.in-Err.ensures.told;
}
