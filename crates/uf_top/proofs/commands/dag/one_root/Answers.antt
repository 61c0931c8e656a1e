use Rattle.std.proofs.lemmas.Result.{err_from_is_err_and}
use Rattle.uf_top.proofs.Comparing.{root-read, root-unread}
use Rattle.uf_top.proofs.commands.dag.one_root.Goals as goal

pub returns-in_err-imported : goal.returns-in_err-imported
returns-in_err-imported g c =
    let out = err_from_is_err_and c.from_residual.result c.from_residual.ensures.1 in let e = c.import.ensures in
    rw (out.1, out.2) (root-unread g.S.X.BlockHash.block32 (g.S.Store.seen c.args.store.now) (g.S.Store.seen c.import.new.store) (g.I.Source.left c.args.input.now)
    (g.I.Source.faults c.args.input.now) (g.I.Source.faults c.import.new.input) e.saves c.import.result c.in_err-imported.field-0.0 c.in_err-imported.ensures.cases e.reads e.cause e.fault e.counts)

pub returns : goal.returns
returns g c =
    let e = c.import.ensures in
    root-read g.S.X.BlockHash.block32 (g.S.Store.seen c.args.store.now) (g.S.Store.seen c.import.new.store) (g.I.Source.left c.args.input.now)
    (g.I.Source.faults c.args.input.now) (g.I.Source.faults c.import.new.input) e.saves c.import.result c.in_ok-imported.imported c.in_ok-imported.ensures.cases e.reads e.counts
    c.only_root.result c.only_root.ensures
