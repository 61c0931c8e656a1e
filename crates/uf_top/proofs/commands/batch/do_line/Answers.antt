use Rattle.std.proofs.Common.{[], Some, refl}
use Rattle.uf_top.specs.Around.{around, host_side}
use Rattle.uf_top.proofs.Lined.{closes, closes-none}
use Rattle.uf_top.proofs.commands.batch.do_line.Goals as goal

pub returns-in-None : goal.returns-in-None
returns-in-None g c =
    closes-none g.S.X.BlockHash.block32 g.N.NameHash.name64 c.args.line.now
    (around (g.S.Store.seen c.args.store.now) (Some []) 0 (g.O.Sink.holds c.args.output.now) (g.O.Sink.faults c.args.output.now) c.args.touches.now (host_side (g.W.Host.tree c.args.host.now) (g.W.Host.read_faults c.args.host.now) (g.W.Host.write_faults c.args.host.now)) (record { held = g.E.Sink.holds c.args.errors.now; faults = g.E.Sink.faults c.args.errors.now }))
    (around (g.S.Store.seen c.serve_line.new.store) (Some []) 0 (g.O.Sink.holds c.serve_line.new.output) (g.O.Sink.faults c.serve_line.new.output) c.serve_line.new.touches (host_side (g.W.Host.tree c.serve_line.new.host) (g.W.Host.read_faults c.serve_line.new.host) (g.W.Host.write_faults c.serve_line.new.host)) (record { held = g.E.Sink.holds c.args.errors.now; faults = g.E.Sink.faults c.args.errors.now }))
    refl (c.in-None.ensures (record { held = g.E.Sink.holds c.args.errors.now; faults = g.E.Sink.faults c.args.errors.now }) (record { held = g.E.Sink.holds c.args.errors.now; faults = g.E.Sink.faults c.args.errors.now }))

pub returns-in-Some : goal.returns-in-Some
returns-in-Some g c =
    closes g.S.X.BlockHash.block32 g.N.NameHash.name64 c.args.line.now c.in-Some.done
    (around (g.S.Store.seen c.args.store.now) (Some []) 0 (g.O.Sink.holds c.args.output.now) (g.O.Sink.faults c.args.output.now) c.args.touches.now (host_side (g.W.Host.tree c.args.host.now) (g.W.Host.read_faults c.args.host.now) (g.W.Host.write_faults c.args.host.now)) (record { held = g.E.Sink.holds c.args.errors.now; faults = g.E.Sink.faults c.args.errors.now }))
    (around (g.S.Store.seen c.serve_line.new.store) (Some []) 0 (g.O.Sink.holds c.serve_line.new.output) (g.O.Sink.faults c.serve_line.new.output) c.serve_line.new.touches (host_side (g.W.Host.tree c.serve_line.new.host) (g.W.Host.read_faults c.serve_line.new.host) (g.W.Host.write_faults c.serve_line.new.host)) (record { held = g.E.Sink.holds c.args.errors.now; faults = g.E.Sink.faults c.args.errors.now }))
    (λ er2. c.in-Some.ensures (record { held = g.E.Sink.holds c.args.errors.now; faults = g.E.Sink.faults c.args.errors.now }) er2)
    (record { held = g.O.Sink.holds c.close_line.new.output; faults = g.O.Sink.faults c.close_line.new.output })
    (record { held = g.E.Sink.holds c.close_line.new.errors; faults = g.E.Sink.faults c.close_line.new.errors })
    c.close_line.result c.close_line.ensures
