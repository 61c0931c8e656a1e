-- What one change of a shard tree asks and gives, level by level (UnixFS v1, "HAMTDirectory").
use Rattle.std.specs.Prelude.{◌≡◌, ◌≢◌, ◌⊎◌, ◌≤◌, ◌-◌, ℕ, zero, suc, List, length, true, ⊤, Some}
use Rattle.std.specs.declared.option.Option.{Option}
use Rattle.std.specs.declared.result.Result.{Result}
use Rattle.std.specs.declared.result.Result.TheVariants.{Ok, Err}
use Rattle.std.specs.FinMap.Entries.{find}
use Rattle.std.specs.List.{AllByRecursion}
use Rattle.std.specs.Ordering.{is_lt}
use Rattle.uf_cid.specs.Blocks.{Held}
use Rattle.uf_store.specs.Contents.{Told}
use Rattle.uf_store.specs.Keeping.{Agrees}
use Rattle.uf_store.specs.Clashes.{IsSaving}
use Rattle.uf_store.specs.Lost.{LosesOne}
use Rattle.uf_store.specs.declared.store.StoreFault.{StoreFault}
use Rattle.uf_store.specs.declared.store.StoreFault.TheVariants.{Failed, Damaged, Missing, BadBlock, Clash, Memory}
use Rattle.uf_tree.specs.declared.nodes.Entry.{Entry}
use Rattle.uf_tree.specs.declared.nodes.Item.{Item}
use Rattle.uf_tree.specs.declared.nodes.Item.TheVariants.{Leaf}
use Rattle.uf_tree.specs.Changes.{with_name}
use Rattle.uf_tree.specs.Names.{names_cmp}
use Rattle.uf_tree.specs.Nodes.{InSlot, Named}
use Rattle.uf_tree.specs.Roles.{IsOnWay}
use Rattle.uf_tree.specs.Shardable.{HasShard}
use Rattle.uf_tree.specs.ShardPlan.{shard_below, shard_items, slot_blocks, slot_item}
use Rattle.uf_tree.specs.Validity.{IsDirectory, IsItem}
use Rattle.uf_shard.specs.declared.fault.DirFault.{DirFault}
use Rattle.uf_shard.specs.declared.fault.DirFault.TheVariants.{Collision, TooBig, Store}
use Rattle.uf_shard.specs.Buckets.{FitsSlot, deeper}
use Rattle.uf_shard.specs.Placed.{way}
use Rattle.uf_shard.specs.Known.{AreKnown}

-- the level that has n below it
abbrev pub level : ℕ → ℕ
level zero = 7
level (suc left) = 6 - left

-- an item that can stand in a slot after these slots
pub record IsItemAt (N : List ℕ → ℕ) (above : List ℕ) (s : ℕ) (item : Item) : Type 0 where
  pub valid : IsItem item
  pub on_way : IsOnWay N above (s, item)

-- a fault that may come where these blocks agree with what is told: one of them is lost, the store failed or met a
-- clash, or there was no memory
abbrev pub MayLose : Told → List Held → StoreFault → Type 0
MayLose told l Failed = ⊤
MayLose told l (Damaged cid) = ⊤
MayLose told l (Missing cid) = LosesOne told cid l
MayLose told l (BadBlock cid role) = ⊥
MayLose told l (Clash cid held bytes) = ⊤
MayLose told l Memory = ⊤

-- an entry under a name, or out of memory
abbrev pub LeafOr : List ℕ → Entry → Result Item DirFault → Type 0
LeafOr name e (Ok item) = item ≡ Leaf name e
LeafOr name e (Err (Collision first second)) = ⊥
LeafOr name e (Err TooBig) = ⊥
LeafOr name e (Err (Store fault)) = fault ≡ Memory

-- these are the two names in byte order
pub record IsOrdered (name other first second : List ℕ) : Type 0 where
  pub in_order : is_lt (names_cmp first second) ≡ true
  pub are : ((first ≡ name) × (second ≡ other)) ⊎ ((first ≡ other) × (second ≡ name))

-- a collision of these two names in byte order, or out of memory to show them
abbrev pub IsOrderedOr : List ℕ → List ℕ → DirFault → Type 0
IsOrderedOr name other (Collision first second) = IsOrdered name other first second
IsOrderedOr name other TooBig = ⊥
IsOrderedOr name other (Store fault) = fault ≡ Memory

module _ (N : List ℕ → ℕ) where
  -- no other name of the list has the hash of this one
  abbrev pub HasNoTwin : List ℕ → List Named → Type 0
  HasNoTwin name l = AllByRecursion (λ (e : Named). N e.0 ≡ N name → e.0 ≡ name) l

  -- another name of the list has the hash of this one, and these are the two in byte order
  pub record AreTwins (name : List ℕ) (l : List Named) (first second : List ℕ) : Type 0 where
    pub other : List ℕ
    pub entry : Entry
    pub is_there : find names_cmp other l ≡ Some entry
    pub one_hash : N other ≡ N name
    pub differ : other ≢ name
    pub are : IsOrdered name other first second

  -- the names have the slots of a hash at n levels
  abbrev pub AreAlong : ℕ → ℕ → List Named → Type 0
  AreAlong hash levels l = AllByRecursion (λ (e : Named). way (N e.0) levels ≡ way hash levels) l

module _ (X : List ℕ → List ℕ) (N : List ℕ → ℕ) where
  -- the slots of the shard of these pairs with n levels below it, and the shard blocks below it
  abbrev pub slots_of : ℕ → List Named → List InSlot
  slots_of left l = shard_items N (deeper X N left) (level left) l

  abbrev pub below : ℕ → List Named → List Held
  below left l = shard_below N (deeper X N left) (level left) l

  -- what a slot of such a shard has of these pairs, and the shard blocks below it
  abbrev pub item_of : ℕ → List Named → Option Item
  item_of left l = slot_item (deeper X N left) l

  abbrev pub blocks_of : ℕ → List Named → List Held
  blocks_of left l = slot_blocks (deeper X N left) l

  -- the slots are those of the shard of these pairs on the way of a hash, and what is told agrees with the blocks below
  pub record AreItems (hash left : ℕ) (told : Told) (items : List InSlot) (l : List Named) : Type 0 where
    pub valid : IsDirectory l
    pub apart : HasShard N left l
    pub along : AreAlong N hash (7 - left) l
    pub same : items ≡ slots_of left l
    pub agrees : Agrees told (below left l)

  -- a slot of such a shard has what it has of these pairs, and what is told agrees with the blocks below it
  pub record IsSlot (hash left : ℕ) (told : Told) (found : Option Item) (l : List Named) : Type 0 where
    pub valid : IsDirectory l
    pub fits : FitsSlot N left l
    pub along : AreAlong N hash (8 - left) l
    pub same : found ≡ item_of left l
    pub agrees : Agrees told (blocks_of left l)

  -- the slots are those of the shard of these pairs, and each block below it is held or an old one
  pub record GivesItems (told : Told) (old : List Held) (left : ℕ) (items : List InSlot) (l : List Named) : Type 0 where
    pub same : items ≡ slots_of left l
    pub known : AreKnown told old (below left l)

  -- the same of what one slot has
  pub record GivesItem (told : Told) (old : List Held) (left : ℕ) (found : Option Item) (l : List Named) : Type 0 where
    pub same : found ≡ item_of left l
    pub known : AreKnown told old (blocks_of left l)

  -- what the put of an entry under a name gives in the slots of a shard of these pairs
  abbrev pub PutsSlots : (before now : Told) → List Held → ℕ → List ℕ → Entry → List Named
      → Result (List InSlot) DirFault → Type 0
  PutsSlots before now old left name e l (Ok items) =
      HasNoTwin N name l × GivesItems now old left items (with_name name e l)
  PutsSlots before now old left name e l (Err (Collision first second)) = AreTwins N name l first second
  PutsSlots before now old left name e l (Err TooBig) = ⊥
  PutsSlots before now old left name e l (Err (Store fault)) = MayLose before old fault

  -- the same in one slot of it
  abbrev pub PutsSlot : (before now : Told) → List Held → ℕ → List ℕ → Entry → List Named
      → Result Item DirFault → Type 0
  PutsSlot before now old left name e l (Ok item) =
      HasNoTwin N name l × GivesItem now old left (Some item) (with_name name e l)
  PutsSlot before now old left name e l (Err (Collision first second)) = AreTwins N name l first second
  PutsSlot before now old left name e l (Err TooBig) = ⊥
  PutsSlot before now old left name e l (Err (Store fault)) = MayLose before old fault

  -- what a slot has, after the shard below it was saved of slots that those of these pairs are, or a save failed
  abbrev pub SavesBelow : (before now : Told) → List InSlot → Result Item DirFault → Type 0
  SavesBelow before now items (Ok item) = (old : List Held) (left : ℕ) (l : List Named) → 2 ≤ length l
      → GivesItems before old left items l → GivesItem now old (suc left) (Some item) l
  SavesBelow before now items (Err (Collision first second)) = ⊥
  SavesBelow before now items (Err TooBig) = ⊥
  SavesBelow before now items (Err (Store fault)) = IsSaving fault
