-- A shard tree read where it stands, whether a plan gives it or not.
use Rattle.std.specs.Prelude.{◌≡◌, ◌<◌, ℕ, zero, suc, List, [], ◌∷◌, ◌++◌, length, Some, IsTrue}
use Rattle.uf_cid.specs.declared.cid.Cid.{Cid}
use Rattle.uf_cid.specs.Blocks.{Lookup}
use Rattle.uf_store.specs.declared.store.Role.{Role}
use Rattle.uf_store.specs.declared.store.Role.TheVariants.{Directory, Shard, FileNode, Leaf as LeafRole}
use Rattle.uf_tree.specs.declared.meta.Meta.{Meta}
use Rattle.uf_tree.specs.declared.nodes.Item.{Item}
use Rattle.uf_tree.specs.declared.nodes.Item.TheVariants.{Leaf, Sub}
use Rattle.uf_tree.specs.Changes.{with_name}
use Rattle.uf_tree.specs.Metas.{is_meta}
use Rattle.uf_tree.specs.Nodes.{InSlot, Named, shard_block}
use Rattle.uf_tree.specs.Roles.{IsCanonicalShard}
use Rattle.uf_tree.specs.Validity.{IsShard}

-- the names of these slots in their order, a shard below in its slot's place
abbrev pub AreListed : (Cid → List Named → Type 0) → List InSlot → List Named → Type 0
AreListed Below [] rows = rows ≡ []
AreListed Below ((s, Leaf name e) ∷ items) rows =
    (rest : List Named) × (rows ≡ (name, e) ∷ rest) × AreListed Below items rest
AreListed Below ((s, Sub e) ∷ items) rows =
    (front rest : List Named) × (rows ≡ front ++ rest) × Below e.cid front × AreListed Below items rest

-- the shard under a CID is held, and these are its names in the order of the slots; its metadata tells no name
pub record Lists (Below : Cid → List Named → Type 0) (held : Lookup) (cid : Cid) (rows : List Named) : Type 0 where
  pub meta : Meta
  pub items : List InSlot
  pub good : IsTrue (is_meta meta)
  pub valid : IsShard items
  pub is_held : held cid ≡ Some (shard_block meta items)
  pub listed : AreListed Below items rows

-- nothing stands below the last level
abbrev pub NoneBelow : Cid → List Named → Type 0
NoneBelow cid rows = ⊥

-- the names of the shard tree under a CID that has n levels below its root (UnixFS v1, "HAMTDirectory")
abbrev pub AreRows : Lookup → ℕ → Cid → List Named → Type 0
AreRows held zero cid rows = Lists NoneBelow held cid rows
AreRows held (suc left) cid rows = Lists (AreRows held left) held cid rows

-- the names of a shard that stands below one with n levels below it
abbrev pub AreRowsBelow : Lookup → ℕ → Cid → List Named → Type 0
AreRowsBelow held zero cid rows = ⊥
AreRowsBelow held (suc left) cid rows = AreRows held left cid rows

-- the names of one slot
abbrev pub IsListed : (Cid → List Named → Type 0) → Item → List Named → Type 0
IsListed Below (Leaf name e) rows = rows ≡ (name, e) ∷ []
IsListed Below (Sub e) rows = Below e.cid rows

-- names were put after others: those of the shard under a CID, of some slots, or of one
pub record AddsShard (held : Lookup) (left : ℕ) (cid : Cid) (before now : List Named) : Type 0 where
  pub rows : List Named
  pub are : AreRows held left cid rows
  pub added : now ≡ before ++ rows

pub record AddsSlots (held : Lookup) (left : ℕ) (items : List InSlot) (before now : List Named) : Type 0 where
  pub rows : List Named
  pub are : AreListed (AreRowsBelow held left) items rows
  pub added : now ≡ before ++ rows

pub record AddsSlot (held : Lookup) (left : ℕ) (item : Item) (before now : List Named) : Type 0 where
  pub rows : List Named
  pub are : IsListed (AreRowsBelow held left) item rows
  pub added : now ≡ before ++ rows

-- the names in byte order; of a name that comes twice the first
abbrev pub in_order : List Named → List Named
in_order [] = []
in_order (e ∷ l) = with_name e.0 e.1 (in_order l)

-- a block that isn't canonical as a shard of its level, whatever hash gives the slots
abbrev pub IsBadShard : Role → List ℕ → Type 0
IsBadShard Directory bytes = ⊥
IsBadShard (Shard level) bytes = (level < 8)
    × ((N : List ℕ → ℕ) (way : List ℕ) → length way ≡ level → IsCanonicalShard N way bytes → ⊥)
IsBadShard FileNode bytes = ⊥
IsBadShard LeafRole bytes = ⊥
