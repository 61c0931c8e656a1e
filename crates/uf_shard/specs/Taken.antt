-- What the removal of a name gives (UnixFS v1, "HAMTDirectory").
use Rattle.std.specs.Prelude.{◌≡◌, ◌≤◌, ℕ, suc, List, [], ◌∷◌, length, map, Bool, true, false, IfSome, IsTrue, ⊤}
use Rattle.std.specs.declared.option.Option.{Option}
use Rattle.std.specs.declared.option.Option.TheVariants.{None, Some}
use Rattle.std.specs.declared.result.Result.{Result}
use Rattle.std.specs.declared.result.Result.TheVariants.{Ok, Err}
use Rattle.std.specs.FinMap.Entries.{find, is_sorted}
use Rattle.std.specs.List.{AllByRecursion}
use Rattle.std.specs.Ordering.{nat_cmp}
use Rattle.uf_cid.specs.Blocks.{Held}
use Rattle.uf_store.specs.Among.{SavesAmong}
use Rattle.uf_store.specs.Contents.{Told}
use Rattle.uf_store.specs.Clashes.{IsSaving}
use Rattle.uf_store.specs.Lost.{AgreesAfter}
use Rattle.uf_store.specs.Keeping.{Holds}
use Rattle.uf_store.specs.declared.store.StoreFault.{StoreFault}
use Rattle.uf_tree.specs.declared.meta.Meta.{Meta}
use Rattle.uf_tree.specs.declared.nodes.Item.TheVariants.{Leaf, Sub}
use Rattle.uf_tree.specs.declared.nodes.Entry.{Entry}
use Rattle.uf_tree.specs.Changes.{without}
use Rattle.uf_tree.specs.Metas.{none}
use Rattle.uf_tree.specs.Names.{names_cmp}
use Rattle.uf_tree.specs.Nodes.{InSlot, Named, item_entry, node_entry, shard_block}
use Rattle.uf_tree.specs.ShardPlan.{shard}
use Rattle.uf_tree.specs.Validity.{IsInSlot, IsItem}
use Rattle.uf_shard.specs.declared.removed.Removed.{Removed}
use Rattle.uf_shard.specs.declared.removed.Removed.TheVariants.{Absent, Empty, Left}
use Rattle.uf_shard.specs.declared.rest.Rest.{Rest}
use Rattle.uf_shard.specs.declared.rest.Rest.TheVariants.{Same, Of}
use Rattle.uf_shard.specs.Answers.{shard_node_held}
use Rattle.uf_shard.specs.Changed.{GivesItem, GivesItems, MayLose}
use Rattle.uf_shard.specs.Planned.{IsShardCid}

-- where the name wasn't there, or was the only one, nothing was saved
abbrev pub SavesNothing : Removed → Told → Told → Type 0
SavesNothing Absent before now = now ≡ before
SavesNothing Empty before now = now ≡ before
SavesNothing (Left e) before now = ⊤

-- slots that are the slots of a shard where there is one
pub record AreInSlots (items : List InSlot) : Type 0 where
  pub sorted : IsTrue (is_sorted nat_cmp items)
  pub each : AllByRecursion IsInSlot items

-- the same of what is left of some slots, where the name is there
abbrev pub UnsavedItems : Option (List InSlot) → Told → Told → Type 0
UnsavedItems None before now = now ≡ before
UnsavedItems (Some []) before now = now ≡ before
UnsavedItems (Some (p ∷ items)) before now = ⊤

-- the same of what is left of one slot
abbrev pub UnsavedRest : Rest → Told → Told → Type 0
UnsavedRest Same before now = now ≡ before
UnsavedRest (Of None) before now = now ≡ before
UnsavedRest (Of (Some item)) before now = ⊤

-- a slot is left free where the shard below it has no slots, and then nothing was saved
abbrev pub UnsavedBelow : List InSlot → Rest → Told → Told → Type 0
UnsavedBelow items Same before now = ⊤
UnsavedBelow items (Of None) before now = (items ≡ []) × (now ≡ before)
UnsavedBelow items (Of (Some item)) before now = ⊤

-- what is left is the entry of a shard
abbrev pub LeavesShard : (List ℕ → List ℕ) → Removed → Type 0
LeavesShard hash Absent = ⊤
LeavesShard hash Empty = ⊤
LeavesShard hash (Left e) = IsShardCid hash e.cid

-- what a slot has without a name is a valid item
abbrev pub IsValidRest : Rest → Type 0
IsValidRest Same = ⊤
IsValidRest (Of item) = IfSome item IsItem

-- an entry's slot is free without the entry's name, and as before without another
abbrev pub LeafWithout : Bool → Rest → Type 0
LeafWithout true rest = rest ≡ Of None
LeafWithout false rest = rest ≡ Same

-- what a slot has of these slots of the shard below it: nothing of none, a lone entry itself, and else it has the shard
abbrev pub collapsed : List InSlot → Rest
collapsed [] = Of None
collapsed ((s, Leaf name e) ∷ []) = Of (Some (Leaf name e))
collapsed ((s, Sub e) ∷ []) = Same
collapsed (a ∷ b ∷ items) = Same

-- nothing but the shard of these slots was saved, and nothing where it needn't stand
abbrev pub SavesRest : (List ℕ → List ℕ) → List InSlot → Rest → (before now : Told) → Type 0
SavesRest X items Same before now = SavesAmong X (shard_node_held X none items ∷ []) before now
SavesRest X items (Of item) before now = now ≡ before

-- nothing is left of no slots, and else the shard of these with the metadata, which is held
abbrev pub IsLeftOf : (List ℕ → List ℕ) → (before now : Told) → Meta → List InSlot → Removed → Type 0
IsLeftOf X before now m items Absent = ⊥
IsLeftOf X before now m items Empty = items ≡ []
IsLeftOf X before now m items (Left e) = (1 ≤ length items)
    × (e ≡ node_entry X (shard_block m items) (map (λ (p : InSlot). item_entry p.1) items))
    × Holds now ((e.cid, shard_block m items) ∷ [])

-- the list has the name
abbrev pub HasName : List ℕ → List Named → Type 0
HasName name l = (e : Entry) × (find names_cmp name l ≡ Some e)

module _ (X : List ℕ → List ℕ) (N : List ℕ → ℕ) where
  -- what is left of a directory in shards: nothing, or the entry of the metadata and these pairs
  abbrev pub left_of : Meta → List Named → Removed
  left_of m [] = Empty
  left_of m (e ∷ l) = Left (shard X N 7 m (e ∷ l)).entry

  -- the answer where a name is taken out of a directory in shards
  abbrev pub left_without : List ℕ → Meta → List Named → Removed
  left_without name m l = elim (find names_cmp name l) [ None ↦ Absent | Some old ↦ left_of m (without name l) ]

  -- where something is left, what is told agrees with its blocks, and those that aren't held are old ones that weren't
  -- held before
  abbrev pub AgreesLeft : (before now : Told) → List Held → List ℕ → Meta → List Named → Removed → Type 0
  AgreesLeft before now old name m l Absent = ⊤
  AgreesLeft before now old name m l Empty = ⊤
  AgreesLeft before now old name m l (Left e) = AgreesAfter before now old (shard X N 7 m (without name l)).blocks

  -- what the removal of a name gives in the slots of a shard of these pairs: nothing where the name isn't there
  abbrev pub TakesSlots : (before now : Told) → List Held → ℕ → List ℕ → List Named
      → Result (Option (List InSlot)) StoreFault → Type 0
  TakesSlots before now old left name l (Ok None) = find names_cmp name l ≡ None
  TakesSlots before now old left name l (Ok (Some items)) =
      HasName name l × GivesItems X N now old left items (without name l)
  TakesSlots before now old left name l (Err fault) = MayLose before old fault

  -- the same in one slot of it
  abbrev pub TakesSlot : (before now : Told) → List Held → ℕ → List ℕ → List Named → Result Rest StoreFault → Type 0
  TakesSlot before now old left name l (Ok Same) = find names_cmp name l ≡ None
  TakesSlot before now old left name l (Ok (Of item)) =
      HasName name l × GivesItem X N now old left item (without name l)
  TakesSlot before now old left name l (Err fault) = MayLose before old fault

  -- what a slot has of the slots of the shard below it, those of these pairs, or a save failed
  abbrev pub LeavesBelow : (before now : Told) → List InSlot → Result Rest StoreFault → Type 0
  LeavesBelow before now items (Ok Same) = ⊥
  LeavesBelow before now items (Ok (Of item)) = (old : List Held) (left : ℕ) (l : List Named)
      → IsTrue (is_sorted names_cmp l) → GivesItems X N before old left items l
      → GivesItem X N now old (suc left) item l
  LeavesBelow before now items (Err fault) = IsSaving fault
