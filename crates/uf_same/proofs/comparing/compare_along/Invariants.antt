use Rattle.std.proofs.Common.{◌≡◌, ◌-◌, None, Some, length}
use Rattle.uf_store.specs.Contents.{Contents, held_at}
use Rattle.uf_store.specs.Calls.{OnlyReads}
use Rattle.uf_store.specs.Faults.{NoneIsBad}
use Rattle.uf_walk.specs.Walked.{course}
use Rattle.uf_same.specs.Verdict.{follow_both}
use Rattle.uf_same.proofs.comparing.compare_along.Given as goal

abbrev pub invariant-loop-cid : goal.invariant-loop-cid
invariant-loop-cid g l = record {
  due : l.walk.due ≡ None;
  course : (t u : Contents) → (g.A.Store.seen l.initial.left).told ≡ Some t → (g.B.Store.seen l.initial.right).told ≡ Some u
      → course (follow_both (held_at t) (held_at u)) l.walk ≡ course (follow_both (held_at t) (held_at u)) l.initial.walk;
  left : OnlyReads g.A.X.BlockHash.block32 NoneIsBad None (g.A.Store.seen l.initial.left) (g.A.Store.seen l.left);
  left_misses : (g.A.Store.seen l.left).misses ≡ (g.A.Store.seen l.initial.left).misses;
  right : OnlyReads g.A.X.BlockHash.block32 NoneIsBad None (g.B.Store.seen l.initial.right) (g.B.Store.seen l.right);
}

abbrev pub decreases-loop-cid : goal.decreases-loop-cid
decreases-loop-cid g l = l.walk.most - length l.walk.handed
