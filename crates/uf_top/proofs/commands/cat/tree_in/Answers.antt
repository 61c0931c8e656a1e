use Rattle.std.proofs.Common.{◌∙◌}
use Rattle.uf_command.specs.Kinds.{fault_behind}
use Rattle.uf_store.specs.Faults.{NoneIsBad}
use Rattle.uf_store.proofs.Calls.{shown-after}
use Rattle.uf_top.proofs.Cats.{same-fault}
use Rattle.uf_top.proofs.Grafted.{below-told, tree-told}
use Rattle.uf_top.proofs.commands.cat.tree_in.Goals as goal

pub returns-in-Err-clause-finds : goal.returns-in-Err-clause-finds
returns-in-Err-clause-finds g c =
    below-told g.S.X.BlockHash.block32 (g.S.Store.seen c.args.store.now).told (g.S.Store.seen c.led_to.new.store).told c.in_ok-cid.ensures.reads.told c.args.path.now c.in_ok-cid.cid c.in_ok-cid.ensures.leads
    c.in-Err.fault c.dag_refusal.result c.in-Err.ensures.good c.dag_refusal.ensures

pub returns-in-Err-clause-reads : goal.returns-in-Err-clause-reads
returns-in-Err-clause-reads g c =
    let a = g.S.Store.seen c.args.store.now in let m = g.S.Store.seen c.led_to.new.store in let b = g.S.Store.seen c.survey.new.store in
    record {
      cause = shown-after g.S.X.BlockHash.block32 NoneIsBad (fault_behind c.dag_refusal.result) a m b c.in_ok-cid.ensures.reads.cause
          (same-fault c.args.path.now c.in-Err.fault g.S.X.BlockHash.block32 m b c.dag_refusal.result c.dag_refusal.ensures c.in-Err.ensures.cause);
      told = c.in-Err.ensures.told ∙ c.in_ok-cid.ensures.reads.told;
    }

pub returns-clause-finds : goal.returns-clause-finds
returns-clause-finds g c =
    tree-told g.S.X.BlockHash.block32 (g.S.Store.seen c.args.store.now).told (g.S.Store.seen c.led_to.new.store).told c.in_ok-cid.ensures.reads.told c.args.path.now c.in_ok-cid.cid c.in_ok-cid.ensures.leads _ c.in-Ok.ensures.good
