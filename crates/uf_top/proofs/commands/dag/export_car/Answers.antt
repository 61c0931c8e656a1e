use Rattle.std.proofs.lemmas.Result.{err_from_is_err_and}
use Rattle.uf_top.proofs.Exported.{car-sent, car-unsent}
use Rattle.uf_top.proofs.commands.dag.export_car.Goals as goal

pub returns : goal.returns
returns g c = λ N left reads side er er2.
    let e = c.in_ok-export.ensures in
    car-sent g.S.X.BlockHash.block32 N c.args.cid.now (g.S.Store.seen c.args.store.now) (g.S.Store.seen c.export.new.store) e.told left reads
    (g.O.Sink.holds c.args.output.now) (g.O.Sink.holds c.export.new.out) (g.O.Sink.faults c.args.output.now) (g.O.Sink.faults c.export.new.out) c.args.touches.now c.export.new.touches side er er2
    c.in_ok-export.field-0 e.text e.some e.cause e.counts

pub returns-in_err-export : goal.returns-in_err-export
returns-in_err-export g c =
    let out = err_from_is_err_and c.from_residual.result c.from_residual.ensures.1 in
    rw (out.1, out.2) (λ N left reads side er er2.
    let e = c.in_err-export.ensures in
    car-unsent g.S.X.BlockHash.block32 N c.args.cid.now (g.S.Store.seen c.args.store.now) (g.S.Store.seen c.export.new.store) e.told left reads
    (g.O.Sink.holds c.args.output.now) (g.O.Sink.holds c.export.new.out) (g.O.Sink.faults c.args.output.now) (g.O.Sink.faults c.export.new.out) c.args.touches.now c.export.new.touches side er er2
    c.in_err-export.field-0.0 e.text e.some e.cause e.counts)
