use Rattle.std.proofs.Common.{◌≡◌, ◌≤◌, ◌+◌}
use Rattle.uf_store.specs.Faults.{StaysCalm}
use Rattle.uf_lenient.specs.Streams.{HasSent}
use Rattle.uf_lenient.proofs.streaming.write_pieces.Given as goal

abbrev pub invariant-loop-piece : goal.invariant-loop-piece
invariant-loop-piece g l = record {
  sent : HasSent (g.S.Store.seen l.initial.store).told l.initial.pieces l.pieces (g.O.Sink.holds l.initial.out) (g.O.Sink.holds l.out) l.count;
  sink : g.O.Sink.faults l.out ≡ g.O.Sink.faults l.initial.out;
  calm : StaysCalm (g.S.Store.seen l.initial.store) (g.S.Store.seen l.store);
  told : (g.S.Store.seen l.store).told ≡ (g.S.Store.seen l.initial.store).told;
  touched : l.initial.touches ≤ l.touches;
  touches : l.touches + l.pieces.1 ≤ l.initial.touches + l.initial.pieces.1;
}

abbrev pub decreases-loop-piece : goal.decreases-loop-piece
decreases-loop-piece g l = l.pieces.1
