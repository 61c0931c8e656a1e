-- Shards weighed row by row: one that isn't read yet counts as two names of one byte.
use Rattle.std.specs.Prelude.{◌≡◌, ◌<◌, ◌≤◌, ◌+◌, ◌-◌, ◌*◌, ℕ, List, [], ◌∷◌, ◌++◌, length, ⊤, Some, None}
use Rattle.std.specs.Prelude.{nat_lt, if◌then◌else◌}
use Rattle.std.specs.declared.option.Option.{Option}
use Rattle.std.specs.List.{flat_map, sum_by}
use Rattle.uf_cid.specs.declared.cid.Cid.{Cid}
use Rattle.uf_cid.specs.Blocks.{Held}
use Rattle.uf_store.specs.Contents.{Told}
use Rattle.uf_store.specs.Keeping.{Agrees}
use Rattle.uf_tree.specs.declared.nodes.Item.{Item}
use Rattle.uf_tree.specs.declared.nodes.Item.TheVariants.{Leaf, Sub}
use Rattle.uf_tree.specs.DirPlan.{weight}
use Rattle.uf_tree.specs.Metas.{none}
use Rattle.uf_tree.specs.Nodes.{InSlot, Named}
use Rattle.uf_tree.specs.ShardPlan.{shard}
use Rattle.uf_shard.specs.Changed.{slots_of}
use Rattle.uf_shard.specs.Walked.{IsRoot}

-- what is left of a room, or nothing where the weight is more than the room
abbrev pub room_after : ℕ → ℕ → Option ℕ
room_after room weight = if nat_lt room weight then None else Some (room - weight)

-- the least that a slot weighs: its entry, or two names of one byte for a shard
abbrev pub least_weight : Item → ℕ
least_weight (Leaf name e) = length name + 36
least_weight (Sub e) = 74

-- the CID of the shard in a slot
abbrev pub shard_in : Item → List Cid
shard_in (Leaf name e) = []
shard_in (Sub e) = e.cid ∷ []

-- the same of some slots
abbrev pub least_of : List InSlot → ℕ
least_of items = sum_by (λ (p : InSlot). least_weight p.1) items

abbrev pub shards_in : List InSlot → List Cid
shards_in items = flat_map (λ (p : InSlot). shard_in p.1) items

-- the weight of all pairs of a row of shards
abbrev pub row_weight : List (List Named) → ℕ
row_weight ls = sum_by weight ls

module _ (X : List ℕ → List ℕ) (N : List ℕ → ℕ) where
  -- the CIDs are those of the shards of these lists of pairs, each of two pairs at least
  abbrev pub AreRoots : ℕ → List Cid → List (List Named) → Type 0
  AreRoots left [] [] = ⊤
  AreRoots left [] (l ∷ ls) = ⊥
  AreRoots left (cid ∷ cids) [] = ⊥
  AreRoots left (cid ∷ cids) (l ∷ ls) = IsRoot X N left cid none l × (2 ≤ length l) × AreRoots left cids ls

  -- the blocks of a row of shards
  abbrev pub row_blocks : ℕ → List (List Named) → List Held
  row_blocks left ls = flat_map (λ (l : List Named). (shard X N left none l).blocks) ls

  -- the least that the slots of a row of shards weigh, and the shards below them
  abbrev pub row_least : ℕ → List (List Named) → ℕ
  row_least left ls = sum_by (λ (l : List Named). least_of (slots_of X N left l)) ls

  abbrev pub row_below : ℕ → List (List Named) → List Cid
  row_below left ls = flat_map (λ (l : List Named). shards_in (slots_of X N left l)) ls

  -- what is left of a room after a row of shards, in which each counted as two names before, and the shards below it
  abbrev pub LeavesRoom : ℕ → List (List Named) → ℕ → (before now : List Cid) → Option ℕ → Type 0
  LeavesRoom left ls room before now None = room + 74 * length ls < row_weight ls
  LeavesRoom left ls room before now (Some rest) =
      (rest + row_least left ls ≡ room + 74 * length ls) × (now ≡ before ++ row_below left ls)

-- what holds of the pairs and blocks of each row of planned shards under these CIDs, where what is told agrees
abbrev pub OverRow : (List ℕ → List ℕ) → Told → ℕ → List Cid
    → ((List ℕ → ℕ) → List (List Named) → List Held → Type 0) → Type 0
OverRow X told left cids P = (N : List ℕ → ℕ) (ls : List (List Named)) → AreRoots X N left cids ls
    → Agrees told (row_blocks X N left ls) → P N ls (row_blocks X N left ls)
