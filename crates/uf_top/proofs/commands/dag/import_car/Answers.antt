use Rattle.std.proofs.lemmas.Result.{err_from_is_err_and}
use Rattle.uf_top.proofs.Imported.{kept-does, unkept-does}
use Rattle.uf_top.proofs.commands.dag.import_car.Goals as goal

pub returns-in_err-text : goal.returns-in_err-text
returns-in_err-text g c =
    let out = err_from_is_err_and c.from_residual.result c.from_residual.ensures.1 in
    rw (out.1, out.2) (λ N side er er2.
    unkept-does g.S.X.BlockHash.block32 N (g.S.Store.seen c.args.store.now) (g.S.Store.seen c.roots_of.new.store) (g.I.Source.left c.args.input.now) (g.I.Source.left c.roots_of.new.input)
    (g.I.Source.faults c.args.input.now) (g.I.Source.faults c.roots_of.new.input) c.args.touches.now c.roots_of.new.touches (g.O.Sink.holds c.args.output.now) (g.O.Sink.faults c.args.output.now) side er er2
    c.in_err-text.field-0.0 c.in_err-text.ensures)

pub returns : goal.returns
returns g c = λ N side er er2.
    kept-does g.S.X.BlockHash.block32 N (g.S.Store.seen c.args.store.now) (g.S.Store.seen c.roots_of.new.store) (g.I.Source.left c.args.input.now) (g.I.Source.left c.roots_of.new.input)
    (g.I.Source.faults c.args.input.now) (g.I.Source.faults c.roots_of.new.input) c.args.touches.now c.roots_of.new.touches (g.O.Sink.holds c.args.output.now) (g.O.Sink.faults c.args.output.now) side er er2
    c.in_ok-text.text c.in_ok-text.ensures (g.O.Sink.holds c.print.new.output) (g.O.Sink.faults c.print.new.output) c.print.result c.print.ensures
