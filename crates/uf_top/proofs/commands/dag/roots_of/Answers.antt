use Rattle.std.proofs.lemmas.Result.{err_from_is_err_and}
use Rattle.uf_top.proofs.Imported.{car-refused, roots-synced}
use Rattle.uf_top.proofs.commands.dag.roots_of.Goals as goal

pub returns-in_err-imported : goal.returns-in_err-imported
returns-in_err-imported g c =
    let out = err_from_is_err_and c.from_residual.result c.from_residual.ensures.1 in let e = c.in_err-imported.ensures in
    rw (out.1, out.2) (car-refused g.S.X.BlockHash.block32 (g.S.Store.seen c.args.store.now) (g.S.Store.seen c.import.new.store) (g.I.Source.left c.args.input.now)
    (g.I.Source.faults c.args.input.now) (g.I.Source.faults c.import.new.input) e.good e.saves c.in_err-imported.field-0.0 e.reads e.cause e.fault e.counts)

pub returns : goal.returns
returns g c =
    let e = c.in_ok-imported.ensures in let s = c.firm_lines.ensures in
    roots-synced g.S.X.BlockHash.block32 (g.S.Store.seen c.args.store.now) (g.S.Store.seen c.import.new.store) (g.I.Source.left c.args.input.now)
    (g.I.Source.faults c.args.input.now) (g.I.Source.faults c.import.new.input) e.good e.saves (g.S.Store.seen c.firm_lines.new.store) e.cause e.counts
    c.in_ok-imported.imported c.firm_lines.result e.reads s.lines s.stopped s.synced s.failed s.cause
