-- What a removal leaves.
use Rattle.std.specs.Prelude.{◌≡◌, ◌⊎◌, ◌+◌, ◌≤◌, ◌++◌, ℕ, List, IfOk, IfSome, Some, None, true}
use Rattle.std.specs.declared.option.Option.{Option}
use Rattle.std.specs.declared.result.Result.{Result}
use Rattle.std.specs.declared.result.Result.TheVariants.{Ok, Err}
use Rattle.std.specs.FinMap.Entries.{find}
use Rattle.uf_cid.specs.declared.cid.Cid.{Cid}
use Rattle.uf_edge.specs.Counts.{Stood}
use Rattle.uf_store.specs.declared.store.StoreFault.{StoreFault}
use Rattle.uf_store.specs.Among.{SavesAmong}
use Rattle.uf_store.specs.Calls.{Calm}
use Rattle.uf_store.specs.Clashes.{IsSaving}
use Rattle.uf_store.specs.Contents.{Told}
use Rattle.uf_store.specs.Keeping.{Agrees, Holds, StaysAgreed}
use Rattle.uf_store.specs.Lost.{AgreesAfter, IsLossOf}
use Rattle.uf_store.specs.Seen.{Finds, Seen}
use Rattle.uf_tree.specs.declared.meta.Meta.{Meta}
use Rattle.uf_tree.specs.declared.nodes.Entry.{Entry}
use Rattle.uf_tree.specs.declared.profile.Profile.{Profile}
use Rattle.uf_tree.specs.DirPlan.{is_sharded}
use Rattle.uf_tree.specs.Changes.{without}
use Rattle.uf_tree.specs.Names.{names_cmp}
use Rattle.uf_tree.specs.Nodes.{Named}
use Rattle.uf_tree.specs.ShardPlan.{shard}
use Rattle.uf_shard.specs.Planned.{IsPlanned as IsShardPlan}
use Rattle.uf_dir.specs.Bounds.{settling}
use Rattle.uf_dir.specs.Planned.{dir_entry, entry_without, own_blocks}
use Rattle.uf_dir.specs.Roots.{IsRootCid}

-- the pairs that are left, where the name is there
abbrev pub pairs_left : List ℕ → List Named → Option (List Named)
pairs_left name l = elim (find names_cmp name l) [ None ↦ None | Some old ↦ Some (without name l) ]

-- what a removal answers for a directory in one block: None, and nothing is saved, where the name isn't there, and else
-- the entry of the rest, whose block is held
abbrev pub TakesBasic : (List ℕ → List ℕ) → (List ℕ → ℕ) → Profile → Meta → List ℕ → List Named → (before now : Told)
    → Result (Option Entry) StoreFault → Type 0
TakesBasic X N p meta name l before now (Ok None) = (find names_cmp name l ≡ None) × (now ≡ before)
TakesBasic X N p meta name l before now (Ok (Some e)) =
    (entry_without X N p meta name l ≡ Some e) × Holds now (own_blocks X N p meta (without name l))
TakesBasic X N p meta name l before now (Err fault) = IsSaving fault

-- pairs too heavy for one block leave the entry of their shards and what is told as they are; else the entry is that of
-- their one block, which is held
abbrev pub Fits : (List ℕ → List ℕ) → (List ℕ → ℕ) → Profile → Meta → Entry → List Named → (before now : Told)
    → Result Entry StoreFault → Type 0
Fits X N p meta entry pairs before now (Ok e) =
    ((is_sharded p pairs ≡ true) × (now ≡ before) × (e ≡ entry))
    ⊎ ((e ≡ dir_entry X N p meta pairs) × Holds now (own_blocks X N p meta pairs))
Fits X N p meta entry pairs before now (Err fault) = IsSaving fault

-- neither count of what went wrong stands at its last value, so a failure or a clash would show
pub record CanRise (seen : Seen) : Type 0 where
  pub faults : Stood seen.faults seen.faults
  pub clashes : Stood seen.clashes seen.clashes

module _ (X : List ℕ → List ℕ) (N : List ℕ → ℕ) where
  -- the entry is that of the shards with this metadata and these pairs, the store agrees with their blocks, and it
  -- stays calm
  pub record AreShards (meta : Meta) (entry : Entry) (before now : Seen) (l : List Named) : Type 0 where
    pub plan : IsShardPlan X N entry.cid meta l
    pub same : entry ≡ (shard X N 7 meta l).entry
    pub agrees : Agrees before.told (shard X N 7 meta l).blocks
    pub calm : Calm before now

  -- the CID is that of the shards with this metadata and these pairs, the store agrees with their blocks before and
  -- after, and it stays calm
  pub record StayShards (meta : Meta) (root : Cid) (before now : Seen) (l : List Named) : Type 0 where
    pub plan : IsShardPlan X N root meta l
    pub stays : StaysAgreed before.told now.told (shard X N 7 meta l).blocks
    pub calm : Calm before now

  -- the directory of these pairs is left in shards, or its one block is held
  abbrev pub IsLeftOrHeld : Profile → Meta → List Named → (before now : Told) → Type 0
  IsLeftOrHeld p meta l before now = ((is_sharded p l ≡ true) × (now ≡ before)) ⊎ Holds now (own_blocks X N p meta l)

  -- the answer is the entry of the directory of these pairs, which is left or held in one block, or one of their shards
  -- is lost; out of memory is free
  abbrev pub SettlesOver : Profile → Meta → List Named → (before now : Told) → Result Entry StoreFault → Type 0
  SettlesOver p meta l before now (Ok e) = (e ≡ dir_entry X N p meta l) × IsLeftOrHeld p meta l before now
  SettlesOver p meta l before now (Err fault) = IsLossOf before (shard X N 7 meta l).blocks fault

  -- the answer is what is left of the directory of these pairs without a name, with whose blocks the store agrees
  -- then, or one of the old shards is lost; out of memory is free
  abbrev pub TakesOver : Profile → Meta → List ℕ → List Named → (before now : Told)
      → Result (Option Entry) StoreFault → Type 0
  TakesOver p meta name l before now (Ok None) = None ≡ entry_without X N p meta name l
  TakesOver p meta name l before now (Ok (Some e)) = (Some e ≡ entry_without X N p meta name l)
      × AgreesAfter before now (shard X N 7 meta l).blocks (own_blocks X N p meta (without name l))
  TakesOver p meta name l before now (Err fault) = IsLossOf before (shard X N 7 meta l).blocks fault

-- what a directory in shards of this entry and with this metadata comes to: the entry of a directory's root, and for
-- the pairs of these shards that of their directory
pub record SettlesShards (X : List ℕ → List ℕ) (p : Profile) (meta : Meta) (entry : Entry) (before now : Seen)
    (result : Result Entry StoreFault) : Type 0 where
  pub made : IfOk result (λ e. IsRootCid X (Some p) e.cid)
  pub over : (N : List ℕ → ℕ) (l : List Named) → AreShards X N meta entry before now l
      → SettlesOver X N p meta l before.told now.told result

-- what a removal answers for a directory in shards: the entry of a directory's root, or None, and nothing is saved, and
-- for the pairs of these shards what is left of them
pub record TakesSharded (X : List ℕ → List ℕ) (N : List ℕ → ℕ) (p : Profile) (meta : Meta) (root : Cid)
    (name : List ℕ) (before now : Seen) (result : Result (Option Entry) StoreFault) : Type 0 where
  pub made : IfOk result (λ left. IfSome left (λ e. IsRootCid X (Some p) e.cid))
  pub none : IfOk result (λ left. left ≡ None → now.told ≡ before.told)
  pub over : (l : List Named) → StayShards X N meta root before now l
      → TakesOver X N p meta name l before.told now.told result

module _ (X : List ℕ → List ℕ) (N : List ℕ → ℕ) (p : Profile) (meta : Meta) (root : Cid) (name : List ℕ) where
  -- what a removal from the shards whose root was lent saves is among the shards without the name and the own blocks of
  -- what is left
  abbrev pub SavesLeft : (lent now : Seen) → Type 0
  SavesLeft lent now = (before : Seen) (l : List Named) → Finds X root before lent → IsShardPlan X N root meta l
      → StaysAgreed before.told now.told (shard X N 7 meta l).blocks → CanRise before
      → SavesAmong X ((shard X N 7 meta (without name l)).blocks ++ own_blocks X N p meta (without name l))
      before.told now.told

  -- sixteen touches, and what weighing the rest and making it one block needs, where the store stays calm
  abbrev pub TouchesLeft : (lent now : Seen) → (from to : ℕ) → Type 0
  TouchesLeft lent now from to = (before : Seen) (l : List Named) → Finds X root before lent
      → StayShards X N meta root before now l → to ≤ from + (16 + settling X N p name l)
