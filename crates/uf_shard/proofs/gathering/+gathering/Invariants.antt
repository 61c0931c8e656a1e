use Rattle.std.proofs.Common.{◌≡◌, ◌≤◌, ◌+◌, ◌*◌, ℕ, List, length, take}
use Rattle.std.specs.Prelude.{IfSome}
use Rattle.uf_store.specs.Contents.{held_at}
use Rattle.uf_store.specs.Faults.{StaysCalm}
use Rattle.uf_store.specs.Keeping.{Agrees}
use Rattle.uf_tree.specs.Nodes.{Named}
use Rattle.uf_shard.specs.Listing.{AddsSlots}
use Rattle.uf_shard.specs.Walked.{AreOver, all_blocks}
use Rattle.uf_shard.proofs.gathering.+gathering.Given as goal

abbrev pub decreases-gather : goal.decreases-gather
decreases-gather g l = 3 * l.left + 2

abbrev pub decreases-gather_slots : goal.decreases-gather_slots
decreases-gather_slots g l = 3 * l.left + 1

abbrev pub decreases-gather_slot : goal.decreases-gather_slot
decreases-gather_slot g l = 3 * l.left

abbrev pub invariant-gather_slots-loop-placed : goal.invariant-gather_slots-loop-placed
invariant-gather_slots-loop-placed g l = record {
  adds : IfSome (g.S.Store.seen l.initial.store).told (λ t. AddsSlots (held_at t) l.left (take l.placed-index l.items) l.initial.rows.items l.rows.items);
  touches : (N : List ℕ → ℕ) (over : ℕ → List Named) → AreOver g.S.X.BlockHash.block32 N l.left over l.items
      → Agrees (g.S.Store.seen l.initial.store).told (all_blocks g.S.X.BlockHash.block32 N l.left over l.items)
      → l.touches ≤ l.initial.touches + length (all_blocks g.S.X.BlockHash.block32 N l.left over (take l.placed-index l.items));
  touched : l.initial.touches ≤ l.touches;
  calm : StaysCalm (g.S.Store.seen l.initial.store) (g.S.Store.seen l.store);
  told : (g.S.Store.seen l.store).told ≡ (g.S.Store.seen l.initial.store).told;
}
