use Rattle.std.proofs.lemmas.Result.{err_from_is_err_and}
use Rattle.uf_top.proofs.Compared.{compared-does, printed-sections, uncompared-does}
use Rattle.uf_top.proofs.commands.dag.compare_car.Goals as goal

pub returns-in_err-text-clause-does : goal.returns-in_err-text-clause-does
returns-in_err-text-clause-does g c =
    let out = err_from_is_err_and c.from_residual.result c.from_residual.ensures.1 in
    rw (out.1, out.2) (λ N side er er2.
    let k = c.in_err-text.ensures in
    uncompared-does g.S.X.BlockHash.block32 N c.args.cid.now (g.S.Store.seen c.args.store.now) (g.S.Store.seen c.comparison.new.store) k.told (g.I.Source.left c.args.input.now) (g.I.Source.left c.comparison.new.input)
    (g.I.Source.faults c.args.input.now) (g.I.Source.faults c.comparison.new.input) c.args.touches.now c.comparison.new.touches (g.O.Sink.holds c.args.output.now) (g.O.Sink.faults c.args.output.now) side er er2 c.in_err-text.field-0.0 k)

pub returns-in_err-text-clause-own : goal.returns-in_err-text-clause-own
returns-in_err-text-clause-own g c =
    let out = err_from_is_err_and c.from_residual.result c.from_residual.ensures.1 in
    rw (out.1, out.2) (c.in_err-text.ensures.sections)

pub returns-clause-does : goal.returns-clause-does
returns-clause-does g c = λ N side er er2.
    let k = c.in_ok-text.ensures in
    compared-does g.S.X.BlockHash.block32 N c.args.cid.now (g.S.Store.seen c.args.store.now) (g.S.Store.seen c.comparison.new.store) k.told (g.I.Source.left c.args.input.now) (g.I.Source.left c.comparison.new.input)
    (g.I.Source.faults c.args.input.now) (g.I.Source.faults c.comparison.new.input) c.args.touches.now c.comparison.new.touches (g.O.Sink.holds c.args.output.now) (g.O.Sink.faults c.args.output.now) side er er2
    c.in_ok-text.text k (g.O.Sink.holds c.print.new.output) (g.O.Sink.faults c.print.new.output) c.print.result c.print.ensures

pub returns-clause-own : goal.returns-clause-own
returns-clause-own g c =
    printed-sections g.S.X.BlockHash.block32 (g.I.Source.left c.args.input.now) (g.S.Store.seen c.args.store.now) (g.S.Store.seen c.comparison.new.store) c.in_ok-text.text (g.O.Sink.holds c.args.output.now) (g.O.Sink.holds c.print.new.output)
    (g.O.Sink.faults c.args.output.now) (g.O.Sink.faults c.print.new.output) c.print.result c.print.ensures
