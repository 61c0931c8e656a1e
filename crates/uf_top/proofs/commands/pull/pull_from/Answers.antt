use Rattle.std.proofs.Common.{refl, subst}
use Rattle.uf_command.specs.Peers.{TellsTalk}
use Rattle.uf_command.specs.Telling.{IsSent}
use Rattle.uf_top.proofs.Standings.{stands-kept}
use Rattle.uf_top.proofs.Talks.{head-stays}
use Rattle.uf_top.proofs.commands.pull.pull_from.Goals as goal

pub returns : goal.returns
returns g c = λ N side. record {
  done = c.pull-done.result;
  tells = subst (λ done. TellsTalk (λ line. IsSent line (g.E.Sink.holds c.args.errors.now) (g.E.Sink.holds c.tell_talk.new.errors) (g.E.Sink.faults c.args.errors.now) (g.E.Sink.faults c.tell_talk.new.errors)) done c.tell_talk.result) c.pull_end.ensures c.tell_talk.ensures;
  pulls = c.pull-done.ensures.pulls;
  wants = c.pull-done.ensures.wants;
  last = c.pull-done.ensures.last;
  some = c.pull-done.ensures.some;
  cause = c.pull-done.ensures.cause;
  fault = c.pull-done.ensures.fault;
  reads = c.pull-done.ensures.reads;
  writes = c.pull-done.ensures.writes;
  good = c.pull-done.ensures.good;
  saves = c.pull-done.ensures.saves;
  head = head-stays g.S.X.BlockHash.block32 _ _ c.pull-done.ensures.saves;
  stands = λ standing stands. stands-kept g.S.X.BlockHash.block32 N _ _ standing c.pull-done.ensures.good (head-stays g.S.X.BlockHash.block32 _ _ c.pull-done.ensures.saves) stands;
  host = refl;
}
