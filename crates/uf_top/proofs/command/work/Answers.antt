use Rattle.std.proofs.Common.{None, subst, sym}
use Rattle.std.specs.Prelude.{IfErr}
use Rattle.uf_command.specs.Kinds.{IsOf}
use Rattle.uf_command.specs.Natures.{may_end, only_reads, own_store}
use Rattle.uf_top.specs.Around.{around, host_side}
use Rattle.uf_top.specs.Cars.{ByOwnStore}
use Rattle.uf_top.specs.Working.{Does}
use Rattle.uf_top.proofs.Unclashed.{settles, settles-kinds, settles-own}
use Rattle.uf_top.proofs.command.work.Goals as goal

pub returns-clause-does : goal.returns-clause-does
returns-clause-does g c = λ er er2.
    let a = around (g.S.Store.seen c.args.store.now) (g.I.Source.left c.args.input.now) (g.I.Source.faults c.args.input.now) (g.O.Sink.holds c.args.output.now) (g.O.Sink.faults c.args.output.now) c.args.touches.now (host_side (g.W.Host.tree c.args.host.now) (g.W.Host.read_faults c.args.host.now) (g.W.Host.write_faults c.args.host.now)) er in
    let b = around (g.S.Store.seen c.carry_out-done.new.store) (g.I.Source.left c.carry_out-done.new.input) (g.I.Source.faults c.carry_out-done.new.input) (g.O.Sink.holds c.carry_out-done.new.output) (g.O.Sink.faults c.carry_out-done.new.output) c.carry_out-done.new.touches (host_side (g.W.Host.tree c.carry_out-done.new.host) (g.W.Host.read_faults c.carry_out-done.new.host) (g.W.Host.write_faults c.carry_out-done.new.host)) er2 in
    subst (λ done. Does g.S.X.BlockHash.block32 g.N.NameHash.name64 c.args.command.now done a b) (sym c.settle.ensures)
    (settles g.S.X.BlockHash.block32 g.N.NameHash.name64 c.args.command.now a b (only_reads c.args.command.now) c.carry_out-done.result (c.carry_out-done.ensures.does er er2))

pub returns-clause-own : goal.returns-clause-own
returns-clause-own g c =
    let own = own_store c.args.command.now in let left = g.I.Source.left c.args.input.now in
    let a = g.S.Store.seen c.args.store.now in let b = g.S.Store.seen c.carry_out-done.new.store in
    subst (λ done. IfErr done (ByOwnStore g.S.X.BlockHash.block32 own left a b)) (sym c.settle.ensures)
    (settles-own g.S.X.BlockHash.block32 own left a b (only_reads c.args.command.now) c.carry_out-done.result c.carry_out-done.ensures.own)

pub returns-clause-kinds : goal.returns-clause-kinds
returns-clause-kinds g c =
    subst (λ done. IsOf (may_end c.args.command.now) done) (sym c.settle.ensures) (settles-kinds c.args.command.now c.carry_out-done.result (c.carry_out-done.ensures.does (record { held = None; faults = 0 }) (record { held = None; faults = 0 })).kinds)
