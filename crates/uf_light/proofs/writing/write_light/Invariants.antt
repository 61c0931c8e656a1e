use Rattle.std.proofs.Common.{◌≡◌, ◌≤◌, ◌+◌, ◌*◌, None, Some, take}
use Rattle.uf_store.specs.Contents.{Contents, held_at}
use Rattle.uf_store.specs.Calls.{OnlyReads}
use Rattle.uf_store.specs.Faults.{NoneIsBad}
use Rattle.uf_car.specs.Exporting.{WritesAll, WritesSome}
use Rattle.uf_car.specs.Text.{car_text}
use Rattle.uf_light.proofs.writing.write_light.Given as goal

abbrev pub invariant-loop-place : goal.invariant-loop-place
invariant-loop-place g l = record {
  text : (t : Contents) → (g.S.Store.seen l.fn.store).told ≡ Some t → WritesAll (car_text (held_at t) l.root (take l.place l.order)) l.written (g.O.Sink.holds l.fn.out) (g.O.Sink.holds l.out);
  some : WritesSome (g.O.Sink.holds l.fn.out) (g.O.Sink.holds l.out);
  few : l.written ≤ 59 + l.place * 2097198;
  reads : OnlyReads g.S.X.BlockHash.block32 NoneIsBad None (g.S.Store.seen l.fn.store) (g.S.Store.seen l.store);
  counted : g.O.Sink.faults l.out ≡ g.O.Sink.faults l.fn.out;
  touched : l.touches ≡ l.initial.touches + l.place;
}
