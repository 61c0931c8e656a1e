-- What an edit or a listing says of a directory in shards, by what the store told before its root was loaded.
use Rattle.std.specs.Prelude.{ℕ, List}
use Rattle.std.specs.declared.result.Result.{Result}
use Rattle.uf_cid.specs.declared.cid.Cid.{Cid}
use Rattle.uf_edge.specs.Counts.{Stood}
use Rattle.uf_store.specs.declared.store.StoreFault.{StoreFault}
use Rattle.uf_store.specs.Among.{SavesAmong}
use Rattle.uf_store.specs.Keeping.{Agrees, StaysAgreed}
use Rattle.uf_store.specs.Lost.{AgreesAfter, ReadsOver}
use Rattle.uf_store.specs.Seen.{Finds, Seen}
use Rattle.uf_tree.specs.declared.meta.Meta.{Meta}
use Rattle.uf_tree.specs.declared.nodes.Entry.{Entry}
use Rattle.uf_tree.specs.declared.nodes.ShardNode.{ShardNode}
use Rattle.uf_tree.specs.Changes.{with_name, without}
use Rattle.uf_tree.specs.Nodes.{Named}
use Rattle.uf_tree.specs.ShardPlan.{shard}
use Rattle.uf_shard.specs.declared.fault.DirFault.{DirFault}
use Rattle.uf_shard.specs.declared.removed.Removed.{Removed}
use Rattle.uf_shard.specs.Answers.{GivesOver, shard_refusal}
use Rattle.uf_shard.specs.Planned.{IsPlanned}
use Rattle.uf_shard.specs.Reached.{HasFirst}
use Rattle.uf_shard.specs.Taken.{AgreesLeft, left_without}

module _ (X : List ℕ → List ℕ) (N : List ℕ → ℕ) where
  -- this is said of the directory whose root was loaded, as the way of a name asks: by what the store showed before,
  -- its metadata and its names
  abbrev pub OfFirst : List ℕ → ShardNode → Seen → (Seen → Meta → List Named → Type 0) → Type 0
  OfFirst name node lent P =
      (root : Cid) (before : Seen) (m : Meta) (l : List Named) → HasFirst X N (N name) root node before lent
      → IsPlanned X N root m l → P before m l

  -- the same of the directory with this root
  abbrev pub OfFound : Cid → Seen → (Seen → Meta → List Named → Type 0) → Type 0
  OfFound root lent P =
      (before : Seen) (m : Meta) (l : List Named) → Finds X root before lent → IsPlanned X N root m l → P before m l

module _ (X : List ℕ → List ℕ) (N : List ℕ → ℕ) (before now : Seen) (m : Meta) (l : List Named) where
  -- over a calm store that agrees with the shards, the answer is the entry with this put under this name, or what
  -- refuses that, or a shard is lost
  abbrev pub PutsOver : List ℕ → Entry → Result Entry DirFault → Type 0
  PutsOver name e result =
      Agrees before.told (shard X N 7 m l).blocks → Stood before.faults now.faults → Stood before.clashes now.clashes
      → GivesOver before.told (shard X N 7 m l).blocks (shard_refusal X N m (with_name name e l))
      (shard X N 7 m (with_name name e l)).entry result

  -- a store that agrees with the shards before and after agrees with those of the directory with the entry
  abbrev pub AgreesPut : List ℕ → Entry → Type 0
  AgreesPut name e =
      StaysAgreed before.told now.told (shard X N 7 m l).blocks
      → AgreesAfter before.told now.told (shard X N 7 m l).blocks (shard X N 7 m (with_name name e l)).blocks

  -- what is saved is among the shards of the directory with the entry
  abbrev pub SavesPut : List ℕ → Entry → Type 0
  SavesPut name e =
      Agrees before.told (shard X N 7 m l).blocks
      → SavesAmong X (shard X N 7 m (with_name name e l)).blocks before.told now.told

  -- over a calm store that agrees with the shards, the answer is what is left without the name, or a shard is lost
  abbrev pub RemovesOver : List ℕ → Result Removed StoreFault → Type 0
  RemovesOver name result =
      Agrees before.told (shard X N 7 m l).blocks → Stood before.faults now.faults → Stood before.clashes now.clashes
      → ReadsOver before.told (shard X N 7 m l).blocks (left_without X N name m l) result

  -- a store that agrees with the shards before and after agrees with those of what is left
  abbrev pub AgreesRemoved : List ℕ → Removed → Type 0
  AgreesRemoved name left =
      StaysAgreed before.told now.told (shard X N 7 m l).blocks
      → AgreesLeft X N before.told now.told (shard X N 7 m l).blocks name m l left

  -- what is saved is among the shards of the directory without the name
  abbrev pub SavesRemoved : List ℕ → Type 0
  SavesRemoved name =
      Agrees before.told (shard X N 7 m l).blocks
      → SavesAmong X (shard X N 7 m (without name l)).blocks before.told now.told

  -- over a store that agrees with the shards and doesn't fail, the answer is the names and entries, or a shard is lost
  abbrev pub ListsOver : Result (List Named) StoreFault → Type 0
  ListsOver result =
      Agrees before.told (shard X N 7 m l).blocks → Stood before.faults now.faults
      → ReadsOver before.told (shard X N 7 m l).blocks l result
