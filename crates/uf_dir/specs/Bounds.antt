-- How many touches a call on a directory makes at least, and an edit may need beyond a few.
use Rattle.std.specs.Prelude.{◌≡◌, ◌≢◌, ◌<◌, ◌≤◌, ℕ, ◌+◌, ◌*◌, ◌/◌, List, length, min, true, None, Some, if◌then◌else◌}
use Rattle.std.specs.FinMap.Entries.{find}
use Rattle.std.specs.declared.result.Result.{Result}
use Rattle.std.specs.declared.result.Result.TheVariants.{Ok, Err}
use Rattle.uf_store.specs.declared.store.StoreFault.{StoreFault}
use Rattle.uf_tree.specs.declared.profile.Profile.{Profile}
use Rattle.uf_tree.specs.Changes.{without}
use Rattle.uf_tree.specs.DirPlan.{is_sharded}
use Rattle.uf_tree.specs.Metas.{none}
use Rattle.uf_tree.specs.Names.{names_cmp}
use Rattle.uf_tree.specs.Nodes.{Named}
use Rattle.uf_tree.specs.ShardPlan.{shard}
use Rattle.uf_tree.specs.TreePlan.{collision}

-- the count of touches hasn't fallen, and where the answer is a fault it has risen
abbrev pub TouchedAtFault : {A : Type 0} → Result A StoreFault → (before now : ℕ) → Type 0
TouchedAtFault (Ok a) before now = before ≤ now
TouchedAtFault (Err fault) before now = before < now

-- how many shard blocks the directory of these pairs has in shards, whatever its metadata
abbrev pub shard_count : (List ℕ → List ℕ) → (List ℕ → ℕ) → List Named → ℕ
shard_count X N l = length (shard X N 7 none l).blocks

-- weighing the shards after a removal: no more than there are, and few where they are much heavier than the threshold
abbrev pub weighing : Profile → ℕ → ℕ
weighing p count = min count (4 * (p.threshold / 37 + 1) + 8)

-- weighing after the removal of a name from this directory: none where it was in one block, or the name isn't there
abbrev pub weighing_from : (List ℕ → List ℕ) → (List ℕ → ℕ) → Profile → List ℕ → List Named → ℕ
weighing_from X N p name l = elim (find names_cmp name l) [
  | None ↦ 0
  | Some old ↦ if is_sharded p l then weighing p (shard_count X N l) else 0
]

-- reading n shards and saving one block, where a directory has become light
abbrev pub gathering : Profile → ℕ → List Named → ℕ
gathering p count l = if is_sharded p l then 0 else count + 1

-- what a removal of a name from shards may need beyond a few touches, where the name is there
abbrev pub settling : (List ℕ → List ℕ) → (List ℕ → ℕ) → Profile → List ℕ → List Named → ℕ
settling X N p name l = elim (find names_cmp name l) [
  | None ↦ 0
  | Some old ↦ weighing p (shard_count X N l) + gathering p (shard_count X N l) (without name l)
]

-- a directory that two names of one hash keep out of shards takes no touch
abbrev pub IsFree : (List ℕ → ℕ) → Profile → List Named → ℕ → ℕ → Type 0
IsFree N p l before now = is_sharded p l ≡ true → collision N l ≢ None → now ≡ before

-- four for each shard block of a directory that goes into shards, and none where two of its names have one hash
abbrev pub splitting : (List ℕ → List ℕ) → (List ℕ → ℕ) → List Named → ℕ
splitting X N l = elim (collision N l) [ None ↦ 4 * shard_count X N l | Some refusal ↦ 0 ]

-- four for each shard block where a directory becomes sharded or basic
abbrev pub crossing : (List ℕ → List ℕ) → (List ℕ → ℕ) → Profile → List Named → List Named → ℕ
crossing X N p l m =
    if is_sharded p l
    then (if is_sharded p m then 0 else splitting X N l)
    else (if is_sharded p m then splitting X N m else 0)
