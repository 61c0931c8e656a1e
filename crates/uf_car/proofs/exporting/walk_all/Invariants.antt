use Rattle.std.proofs.Common.{◌≡◌, ◌-◌, None, Some, length}
use Rattle.uf_store.specs.Contents.{Contents, held_at}
use Rattle.uf_store.specs.Calls.{OnlyReads}
use Rattle.uf_store.specs.Faults.{NoneIsBad}
use Rattle.uf_walk.specs.Order.{follow_held}
use Rattle.uf_walk.specs.Walked.{course}
use Rattle.uf_car.proofs.exporting.walk_all.Given as goal

abbrev pub invariant-loop-cid : goal.invariant-loop-cid
invariant-loop-cid g l = record {
  due : l.walk.due ≡ None;
  course : (t : Contents) → (g.S.Store.seen l.initial.store).told ≡ Some t → course (follow_held (held_at t)) l.walk ≡ course (follow_held (held_at t)) l.initial.walk;
  reads : OnlyReads g.S.X.BlockHash.block32 NoneIsBad None (g.S.Store.seen l.initial.store) (g.S.Store.seen l.store);
}

abbrev pub decreases-loop-cid : goal.decreases-loop-cid
decreases-loop-cid g l = l.walk.most - length l.walk.handed
