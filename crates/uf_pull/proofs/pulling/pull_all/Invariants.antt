use Rattle.std.proofs.Common.{◌≡◌, ◌-◌, ◌≤◌, List, ℕ, Some, None, length}
use Rattle.uf_cid.specs.declared.cid.Cid.{Cid}
use Rattle.uf_store.specs.Contents.{Contents, held_at}
use Rattle.uf_pull.specs.Pulling.{IsOnCourse, PullsOn, OnlyPulls, at_first, stand}
use Rattle.uf_pull.specs.Reading.{IsInPlace}
use Rattle.uf_pull.specs.Serving.{WritesBytes}
use Rattle.uf_pull.proofs.pulling.pull_all.Given as goal

abbrev pub invariant-rest : goal.invariant-rest
invariant-rest g l = record {
  due : l.walk.due ≡ None;
  most : l.walk.most ≡ l.fn.walk.most;
  place : IsInPlace l.peer;
  few : l.peer.added ≤ length l.walk.handed;
  within : length l.walk.handed ≤ l.fn.walk.most;
  goes : (t : Contents) (bytes : List ℕ) (root : Cid) → (g.S.Store.seen l.fn.store).told ≡ Some t → g.I.Source.left l.fn.input ≡ Some bytes → IsOnCourse root (held_at t) l.fn.walk
      → PullsOn g.S.X.BlockHash.block32 l.fn.walk.most root at_first t bytes (g.O.Sink.holds l.fn.out) (stand l.peer) l.walk (g.S.Store.seen l.store).told (g.I.Source.left l.input) (g.O.Sink.holds l.out);
  some : WritesBytes (g.O.Sink.holds l.fn.out) (g.O.Sink.holds l.out);
  pulls : OnlyPulls g.S.X.BlockHash.block32 None (g.S.Store.seen l.fn.store) (g.S.Store.seen l.store);
  source : g.I.Source.faults l.input ≡ g.I.Source.faults l.fn.input;
  sink : g.O.Sink.faults l.out ≡ g.O.Sink.faults l.fn.out;
}

abbrev pub decreases-rest : goal.decreases-rest
decreases-rest g l = l.walk.most - length l.walk.handed
