use Rattle.std.proofs.Common.{[], Some, Ok, inl, subst}
use Rattle.uf_command.specs.Batches.{IsAskedBy, line_in}
use Rattle.uf_top.specs.Around.{around, host_side}
use Rattle.uf_top.proofs.Lined.{serves-refused}
use Rattle.uf_top.proofs.commands.batch.serve_line.Goals as goal

pub returns-in-Some-Err : goal.returns-in-Some-Err
returns-in-Some-Err g c = λ er er2.
    serves-refused g.S.X.BlockHash.block32 g.N.NameHash.name64 c.args.line.now c.in-Some-Err.why
    (around (g.S.Store.seen c.args.store.now) (Some []) 0 (g.O.Sink.holds c.args.output.now) (g.O.Sink.faults c.args.output.now) c.args.touches.now (host_side (g.W.Host.tree c.args.host.now) (g.W.Host.read_faults c.args.host.now) (g.W.Host.write_faults c.args.host.now)) er) er2
    (subst (λ asked. IsAskedBy (Some asked) (line_in c.args.line.now)) c.in-Some-Err.field-0-is c.in-Some-Err.ensures.asked)

pub returns-in-Some-Ok : goal.returns-in-Some-Ok
returns-in-Some-Ok g c = λ er er2. record {
  asked = Ok c.in-Some-Ok.command;
  asks = inl (subst (λ asked. IsAskedBy (Some asked) (line_in c.args.line.now)) c.in-Some-Ok.field-0-is c.in-Some-Ok.ensures.asked);
  serves = c.work.ensures.does er er2;
  own = c.work.ensures.own;
  kinds = c.work.ensures.kinds;
}
