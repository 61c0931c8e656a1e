use Rattle.std.proofs.Common.{refl, subst}
use Rattle.uf_command.specs.Peers.{TellsTalk}
use Rattle.uf_command.specs.Telling.{IsSent}
use Rattle.uf_top.proofs.commands.pull.serve_wants.Goals as goal

pub returns : goal.returns
returns g c = λ N side. record {
  done = c.serve-done.result;
  tells = subst (λ done. TellsTalk (λ line. IsSent line (g.E.Sink.holds c.args.errors.now) (g.E.Sink.holds c.tell_talk.new.errors) (g.E.Sink.faults c.args.errors.now) (g.E.Sink.faults c.tell_talk.new.errors)) done c.tell_talk.result) c.serve_end.ensures c.tell_talk.ensures;
  frames = c.serve-done.ensures.frames;
  some = c.serve-done.ensures.some;
  cause = c.serve-done.ensures.cause;
  fault = c.serve-done.ensures.fault;
  reads = c.serve-done.ensures.reads;
  writes = c.serve-done.ensures.writes;
  told = c.serve-done.ensures.told;
  host = refl;
}
