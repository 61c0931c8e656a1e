-- Shards loaded one by one, and what the shards of a plan have below them.
use Rattle.std.specs.Prelude.{◌≡◌, ◌≢◌, ◌≤◌, ◌-◌, ℕ, zero, suc, List, [], ◌∷◌, length, ⊤, Some, None}
use Rattle.std.specs.Prelude.{IfErr, IfSome, IsTrue}
use Rattle.std.specs.declared.result.Result.{Result}
use Rattle.std.specs.declared.result.Result.TheVariants.{Ok, Err}
use Rattle.std.specs.List.{AllByRecursion, flat_map}
use Rattle.uf_cid.specs.declared.cid.Cid.{Cid}
use Rattle.uf_cid.specs.Blocks.{Held}
use Rattle.uf_edge.specs.Counts.{Stood}
use Rattle.uf_store.specs.Contents.{Told, held_at}
use Rattle.uf_store.specs.Keeping.{Agrees}
use Rattle.uf_store.specs.Lost.{IsLossOf}
use Rattle.uf_store.specs.Seen.{Seen}
use Rattle.uf_store.specs.declared.store.StoreFault.{StoreFault}
use Rattle.uf_store.specs.declared.store.StoreFault.TheVariants.{Failed, Damaged, Missing, BadBlock, Clash, Memory}
use Rattle.uf_tree.specs.declared.meta.Meta.{Meta}
use Rattle.uf_tree.specs.declared.nodes.Item.{Item}
use Rattle.uf_tree.specs.declared.nodes.Item.TheVariants.{Leaf, Sub}
use Rattle.uf_tree.specs.declared.nodes.ShardNode.{ShardNode}
use Rattle.uf_tree.specs.Codecs.{shard_node_block}
use Rattle.uf_tree.specs.Metas.{is_meta, none}
use Rattle.uf_tree.specs.Nodes.{InSlot, Named}
use Rattle.uf_tree.specs.ShardPlan.{shard}
use Rattle.uf_tree.specs.Shardable.{HasShard}
use Rattle.uf_tree.specs.Validity.{IsDirectory, IsShardNode}

-- a shard stands only where a level is left for it
abbrev pub HasLevel : ℕ → InSlot → Type 0
HasLevel left p = elim p.1 [ Leaf name e ↦ ⊤ | Sub e ↦ 1 ≤ left ]

-- the shard of a level may carry metadata: that of level 0 any, and one below it none
abbrev pub MayCarryAt : ℕ → Meta → Type 0
MayCarryAt zero m = ⊤
MayCarryAt (suc level) m = m ≡ none

-- a shard with n levels below it
pub record IsAbove (left : ℕ) (node : ShardNode) : Type 0 where
  pub valid : IsShardNode node
  pub carries : MayCarryAt (7 - left) node.meta
  pub levels : AllByRecursion (HasLevel left) node.items

-- the block was found, and it is a shard of these slots
pub record HasItems (left : ℕ) (cid : Cid) (before : Seen) (items : List InSlot) : Type 0 where
  pub node : ShardNode
  pub are : items ≡ node.items
  pub above : IsAbove left node
  pub is_held : IfSome before.told (λ t. held_at t cid ≡ Some (shard_node_block node))

-- the block was found, and it is no shard with n levels below it
pub record IsNoShard (left : ℕ) (cid : Cid) (before now : Seen) : Type 0 where
  pub is_held : IfSome before.told (λ t. held_at t cid ≡ Some now.lent)
  pub no_shard : (node : ShardNode) → IsAbove left node → now.lent ≢ shard_node_block node

-- a shard was loaded, or its block is lost or bad, or the store failed
abbrev pub LoadsItems : ℕ → Cid → Seen → Seen → Result (List InSlot) StoreFault → Type 0
LoadsItems left cid before now (Ok items) = HasItems left cid before items
LoadsItems left cid before now (Err Failed) = ⊤
LoadsItems left cid before now (Err (Damaged c)) = ⊤
LoadsItems left cid before now (Err (Missing c)) = (c ≡ cid) × IfSome before.told (λ t. held_at t cid ≡ None)
LoadsItems left cid before now (Err (BadBlock c role)) = IsNoShard left cid before now
LoadsItems left cid before now (Err (Clash c held bytes)) = ⊥
LoadsItems left cid before now (Err Memory) = ⊤

module _ (X : List ℕ → List ℕ) (N : List ℕ → ℕ) where
  -- the CID is that of the shard with this metadata, these pairs and n levels below it
  pub record IsRoot (left : ℕ) (root : Cid) (m : Meta) (l : List Named) : Type 0 where
    pub good : IsTrue (is_meta m)
    pub carries : MayCarryAt (7 - left) m
    pub valid : IsDirectory l
    pub some : 1 ≤ length l
    pub apart : HasShard N left l
    pub cid : root ≡ (shard X N left m l).entry.cid

  -- a slot of a shard with n levels below it has these pairs
  abbrev pub IsOver : ℕ → Item → List Named → Type 0
  IsOver left (Leaf name e) l = l ≡ (name, e) ∷ []
  IsOver zero (Sub e) l = ⊥
  IsOver (suc left) (Sub e) l = IsRoot left e.cid none l

  -- the shard blocks below a slot that has these pairs
  abbrev pub blocks_over : ℕ → Item → List Named → List Held
  blocks_over left (Leaf name e) l = []
  blocks_over zero (Sub e) l = []
  blocks_over (suc left) (Sub e) l = (shard X N left none l).blocks

  -- the same for the slots of a shard, where each slot has the pairs that `over` gives
  abbrev pub AreOver : ℕ → (ℕ → List Named) → List InSlot → Type 0
  AreOver left over items = AllByRecursion (λ (p : InSlot). IsOver left p.1 (over p.0)) items

  abbrev pub all_blocks : ℕ → (ℕ → List Named) → List InSlot → List Held
  all_blocks left over items = flat_map (λ (p : InSlot). blocks_over left p.1 (over p.0)) items

-- where the store didn't fail, a fault is that one of these blocks is lost, or out of memory
abbrev pub LosesOnly : {A : Type 0} → List Held → Result A StoreFault → Seen → Seen → Type 0
LosesOnly blocks result before now =
    Stood before.faults now.faults → IfErr result (IsLossOf before.told blocks)

module _ (X : List ℕ → List ℕ) (told : Told) where
  -- what holds of the pairs and blocks of each plan of the shard under a CID, where what is told agrees with the blocks
  abbrev pub OverShard : ℕ → Cid → (List Named → List Held → Type 0) → Type 0
  OverShard left cid P = (N : List ℕ → ℕ) (m : Meta) (l : List Named) → IsRoot X N left cid m l
      → Agrees told (shard X N left m l).blocks → P l (shard X N left m l).blocks

  -- the same of some slots
  abbrev pub OverSlots : ℕ → List InSlot → ((ℕ → List Named) → List Held → Type 0) → Type 0
  OverSlots left items P = (N : List ℕ → ℕ) (over : ℕ → List Named) → AreOver X N left over items
      → Agrees told (all_blocks X N left over items) → P over (all_blocks X N left over items)

  -- the same of one slot
  abbrev pub OverSlot : ℕ → Item → (List Named → List Held → Type 0) → Type 0
  OverSlot left item P = (N : List ℕ → ℕ) (l : List Named) → IsOver X N left item l
      → Agrees told (blocks_over X N left item l) → P l (blocks_over X N left item l)
