use Rattle.std.proofs.Common.{◌≡◌, ◌+◌, ◌*◌, ◌≤◌, length, None}
use Rattle.uf_store.specs.Among.{SavesAmong}
use Rattle.uf_store.specs.Calls.{OnlySaves}
use Rattle.uf_store.specs.Faults.{NoneIsBad}
use Rattle.uf_store.specs.Keeping.{Holds}
use Rattle.uf_tree.specs.ShardPlan.{flat_tabulate, tabulate}
use Rattle.uf_shard.specs.Buckets.{blocks_at, item_at}
use Rattle.uf_shard.proofs.building.+shards.Given as goal

abbrev pub decreases-save_shard : goal.decreases-save_shard
decreases-save_shard g l = 3 * l.left + 2

abbrev pub decreases-save_slots : goal.decreases-save_slots
decreases-save_slots g l = 3 * l.left + 1

abbrev pub decreases-save_slot : goal.decreases-save_slot
decreases-save_slot g l = 3 * l.left

abbrev pub invariant-save_slots-loop-at : goal.invariant-save_slots-loop-at
invariant-save_slots-loop-at g l = record {
  items : l.items ≡ tabulate l.at 0 (item_at g.S.X.BlockHash.block32 g.N.NameHash.name64 l.left l.slots);
  held : Holds (g.S.Store.seen l.store).told (flat_tabulate l.at 0 (blocks_at g.S.X.BlockHash.block32 g.N.NameHash.name64 l.left l.slots));
  saves : OnlySaves g.S.X.BlockHash.block32 NoneIsBad None (g.S.Store.seen l.initial.store) (g.S.Store.seen l.store);
  no_other : SavesAmong g.S.X.BlockHash.block32 (flat_tabulate 256 0 (blocks_at g.S.X.BlockHash.block32 g.N.NameHash.name64 l.left l.slots)) (g.S.Store.seen l.initial.store).told (g.S.Store.seen l.store).told;
  touches : l.touches ≤ l.initial.touches + length (flat_tabulate l.at 0 (blocks_at g.S.X.BlockHash.block32 g.N.NameHash.name64 l.left l.slots));
  touched : l.initial.touches ≤ l.touches;
}
