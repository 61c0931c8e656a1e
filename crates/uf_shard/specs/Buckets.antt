-- The pairs of a directory with the hashes of their names, and the slots that take them (UnixFS v1, "HAMTDirectory").
use Rattle.std.specs.Prelude.{◌≡◌, ◌≤◌, ℕ, zero, suc, List, [], length, map, get_or, ◌==◌, ◌⊎◌}
use Rattle.std.specs.declared.option.Option.{Option}
use Rattle.std.specs.List.{AllByRecursion, filter}
use Rattle.uf_cid.specs.Blocks.{Held}
use Rattle.uf_murmur.specs.Slots.{slot}
use Rattle.uf_tree.specs.declared.nodes.Item.{Item}
use Rattle.uf_tree.specs.FilePlan.{Plan}
use Rattle.uf_tree.specs.Metas.{none}
use Rattle.uf_tree.specs.Nodes.{Named}
use Rattle.uf_tree.specs.Shardable.{HasShard}
use Rattle.uf_tree.specs.ShardPlan.{no_shard, shard, slot_blocks, slot_item}
use Rattle.uf_tree.specs.Validity.{IsNamed}
use Rattle.uf_shard.specs.declared.hashed.Hashed.{Hashed}

-- the pairs of these rows
abbrev pub pairs_of : List Hashed → List Named
pairs_of rows = map (λ (row : Hashed). row.pair.now) rows

-- each row has the hash of its name
abbrev pub AreHashed : (List ℕ → ℕ) → List Hashed → Type 0
AreHashed N rows = AllByRecursion (λ (row : Hashed). row.hash ≡ N row.pair.now.0) rows

-- the rows whose hash has this slot at a level
abbrev pub rows_at : ℕ → ℕ → List Hashed → List Hashed
rows_at level s rows = filter (λ (row : Hashed). slot row.hash level == s) rows

-- one pair at most, or, above the last level, pairs that have a shard one level deeper
abbrev pub FitsSlot : (List ℕ → ℕ) → ℕ → List Named → Type 0
FitsSlot N zero l = length l ≤ 1
FitsSlot N (suc left) l = (length l ≤ 1) ⊎ HasShard N left l

-- rows that a slot of the shard with n levels below it can take
pub record AreForSlot (N : List ℕ → ℕ) (left : ℕ) (rows : List Hashed) : Type 0 where
  pub hashed : AreHashed N rows
  pub named : AllByRecursion IsNamed (pairs_of rows)
  pub fits : FitsSlot N left (pairs_of rows)

-- rows that have a shard with n levels below it
pub record AreForShard (N : List ℕ → ℕ) (left : ℕ) (rows : List Hashed) : Type 0 where
  pub hashed : AreHashed N rows
  pub named : AllByRecursion IsNamed (pairs_of rows)
  pub some : 1 ≤ length rows
  pub apart : HasShard N left (pairs_of rows)

module _ (X : List ℕ → List ℕ) (N : List ℕ → ℕ) where
  -- the shard below a slot of the shard with n levels below it, which has no metadata
  abbrev pub deeper : ℕ → List Named → Plan
  deeper zero = no_shard X N
  deeper (suc left) = shard X N left none

  -- what a slot has of the rows that stand in its place
  abbrev pub item_at : ℕ → List (List Hashed) → ℕ → Option Item
  item_at left slots s = slot_item (deeper left) (pairs_of (get_or slots s []))

  -- the shard blocks below a slot
  abbrev pub blocks_at : ℕ → List (List Hashed) → ℕ → List Held
  blocks_at left slots s = slot_blocks (deeper left) (pairs_of (get_or slots s []))
