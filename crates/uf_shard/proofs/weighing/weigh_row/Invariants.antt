use Rattle.std.proofs.Common.{◌≡◌, ◌≤◌, ◌+◌, ◌*◌, ◌++◌, ℕ, List, length, take}
use Rattle.uf_store.specs.Faults.{StaysCalm}
use Rattle.uf_store.specs.Keeping.{Agrees}
use Rattle.uf_tree.specs.Nodes.{Named}
use Rattle.uf_shard.specs.Weighed.{AreRoots, row_below, row_blocks, row_least}
use Rattle.uf_shard.proofs.weighing.weigh_row.Given as goal

abbrev pub invariant-loop-cid : goal.invariant-loop-cid
invariant-loop-cid g l = record {
  weighs : (N : List ℕ → ℕ) (ls : List (List Named)) → AreRoots g.S.X.BlockHash.block32 N l.left l.cids ls
      → Agrees (g.S.Store.seen l.initial.store).told (row_blocks g.S.X.BlockHash.block32 N l.left ls)
      → (l.rest + row_least g.S.X.BlockHash.block32 N l.left (take l.cid-index ls) ≡ l.room + 74 * l.cid-index)
      × (l.below ≡ l.initial.below ++ row_below g.S.X.BlockHash.block32 N l.left (take l.cid-index ls));
  within : l.rest + 74 * length l.below ≤ l.room + 74 * l.cid-index + 74 * length l.initial.below;
  grows : length l.initial.below ≤ length l.below;
  touches : l.touches ≡ l.initial.touches + l.cid-index;
  calm : StaysCalm (g.S.Store.seen l.initial.store) (g.S.Store.seen l.store);
  told : (g.S.Store.seen l.store).told ≡ (g.S.Store.seen l.initial.store).told;
}
