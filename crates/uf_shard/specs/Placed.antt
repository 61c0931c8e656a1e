-- The items of a shard where it is read.
use Rattle.std.specs.Prelude.{◌<◌, ℕ, List, map, IsTrue}
use Rattle.std.specs.List.{AllByRecursion, range_with_len}
use Rattle.uf_murmur.specs.Slots.{slot}
use Rattle.uf_store.specs.declared.store.Role.{Role}
use Rattle.uf_store.specs.declared.store.Role.TheVariants.{Directory, Shard, FileNode, Leaf}
use Rattle.uf_tree.specs.declared.nodes.ShardNode.{ShardNode}
use Rattle.uf_tree.specs.Metas.{is_meta}
use Rattle.uf_tree.specs.Nodes.{InSlot}
use Rattle.uf_tree.specs.Roles.{IsCanonicalShard, IsOnWay, MayCarry}
use Rattle.uf_tree.specs.Validity.{IsShard}

-- the slots of a hash at the levels above one (UnixFS v1, "HAMTDirectory")
abbrev pub way : ℕ → ℕ → List ℕ
way hash level = map (slot hash) (range_with_len 0 level)

-- the slots of a shard after the slots on the way to it
pub record IsPlaced (N : List ℕ → ℕ) (above : List ℕ) (items : List InSlot) : Type 0 where
  pub valid : IsShard items
  pub on_way : AllByRecursion (IsOnWay N above) items

-- the same with metadata, which only the shard of level 0 may carry
pub record IsPlacedNode (N : List ℕ → ℕ) (above : List ℕ) (node : ShardNode) : Type 0 where
  pub good : IsTrue (is_meta node.meta)
  pub carries : MayCarry above node.meta
  pub placed : IsPlaced N above node.items

-- a block that isn't canonical as the shard of its level on the way of a hash
abbrev pub IsBadOnWay : (List ℕ → ℕ) → ℕ → Role → List ℕ → Type 0
IsBadOnWay N hash Directory bytes = ⊥
IsBadOnWay N hash (Shard level) bytes = (level < 8) × (IsCanonicalShard N (way hash level) bytes → ⊥)
IsBadOnWay N hash FileNode bytes = ⊥
IsBadOnWay N hash Leaf bytes = ⊥
