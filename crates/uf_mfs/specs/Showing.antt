-- What each kind of call shows of its fault and leaves of the store, by the tree that it reads or edits.
use Rattle.std.specs.Prelude.{◌≡◌, ℕ, List, IfOk, IfSome, OnErr, Some, None}
use Rattle.std.specs.declared.option.Option.{Option}
use Rattle.std.specs.declared.result.Result.{Result}
use Rattle.uf_cid.specs.declared.cid.Cid.{Cid}
use Rattle.uf_dir.specs.Roots.{IsRootCid}
use Rattle.uf_store.specs.declared.store.StoreFault.{StoreFault}
use Rattle.uf_store.specs.Calls.{OnlyReads, OnlySaves}
use Rattle.uf_store.specs.Faults.{fault_in}
use Rattle.uf_store.specs.Seen.{Seen}
use Rattle.uf_tree.specs.declared.nodes.Entry.{Entry}
use Rattle.uf_tree.specs.declared.profile.Profile.{Profile}
use Rattle.uf_mfs.specs.declared.fault.MfsFault.{MfsFault}
use Rattle.uf_mfs.specs.declared.fault.Stop.{Stop}
use Rattle.uf_mfs.specs.declared.mfs.Mfs.{Mfs}
use Rattle.uf_mfs.specs.declared.thing.Thing.{Thing}
use Rattle.uf_mfs.specs.Answers.{ShownInTree}
use Rattle.uf_mfs.specs.Bad.{IsBadInTree, IsBadUnder, IsRequired}
use Rattle.uf_mfs.specs.Moving.{EditsTree, ReadsTree}
use Rattle.uf_mfs.specs.Remade.{IsBadRemadeIn}
use Rattle.uf_mfs.specs.Standing.{IsMfs}
use Rattle.uf_mfs.specs.Steps.{stop_fault, tree_fault}
use Rattle.uf_mfs.specs.Touches.{CountsUp}
use Rattle.uf_mfs.specs.Writes.{IsBadWrittenIn}

-- the count of touches doesn't fall in a step, and it has risen where a block is blamed
abbrev pub StepCounts : {A : Type 0} → Result A Stop → ℕ → ℕ → Type 0
StepCounts result was is = CountsUp (stop_fault result) was is

-- the count of touches doesn't fall in a call on the tree, and it has risen where a block is blamed
abbrev pub CallCounts : {A : Type 0} → Result A MfsFault → ℕ → ℕ → Type 0
CallCounts result was is = CountsUp (tree_fault result) was is

-- the same in a call over the store
abbrev pub ReadCounts : {A : Type 0} → Result A StoreFault → ℕ → ℕ → Type 0
ReadCounts result was is = CountsUp (fault_in result) was is

-- after a refusal the tree in memory is as it was, and it keeps its profile, which is accepted
abbrev pub KeepsMfs : {A : Type 0} → (was is : Mfs) → Result A MfsFault → Type 0
KeepsMfs was is result = OnErr result (is ≡ was) × IsMfs is × (is.profile ≡ was.profile)

-- the entry that is answered, where there is one, is that of the root of a directory of this profile
abbrev pub MakesRootCid : (List ℕ → List ℕ) → Profile → Result (Option Entry) Stop → Type 0
MakesRootCid X p result = IfOk result (λ new. IfSome new (λ e. IsRootCid X (Some p) e.cid))

module _ (X : List ℕ → List ℕ) (N : List ℕ → ℕ) where
  -- a step that reads in the tree with this root
  abbrev pub ReadsBelow : Cid → Option StoreFault → Seen → Seen → Type 0
  ReadsBelow root fault before now = OnlyReads X (IsBadInTree X N None root) fault before now

  -- the same below what was met
  abbrev pub ReadsUnder : Thing → Option StoreFault → Seen → Seen → Type 0
  ReadsUnder thing fault before now = OnlyReads X (IsBadUnder X N None thing) fault before now

  -- the same of a call on an opened tree
  abbrev pub ReadsInTree : {A : Type 0} → Cid → Result A MfsFault → Seen → Seen → Type 0
  ReadsInTree root result before now = ReadsTree X (IsBadInTree X N None root) result before now

  -- a step that edits the tree with this root by this profile
  abbrev pub SavesInTree : {A : Type 0} → Profile → Cid → Result A Stop → Seen → Seen → Type 0
  SavesInTree p root result before now = OnlySaves X (IsBadInTree X N (Some p) root) (stop_fault result) before now

  -- the same of a move in an opened tree
  abbrev pub SavesMoving : {A : Type 0} → Mfs → Result A MfsFault → Seen → Seen → Type 0
  SavesMoving mfs result before now =
      EditsTree X (IsBadInTree X N (Some mfs.profile) mfs.root.cid) result before now

  -- the same of a step that changes the metadata of what was met in some tree
  abbrev pub SavesRemade : {A : Type 0} → Profile → Thing → Result A Stop → Seen → Seen → Type 0
  SavesRemade p thing result before now = (root : Cid) → IsRequired X root thing
      → OnlySaves X (IsBadRemadeIn X N p root) (stop_fault result) before now

  -- the cause of a fault of a call that reads the tree in memory
  abbrev pub ShowsReading : {A : Type 0} → Mfs → Result A MfsFault → Seen → Seen → Type 0
  ShowsReading mfs result before now = ShownInTree X (IsBadInTree X N None mfs.root.cid) result before now

  -- the same of one that edits it
  abbrev pub ShowsEdit : {A : Type 0} → Mfs → Result A MfsFault → Seen → Seen → Type 0
  ShowsEdit mfs result before now =
      ShownInTree X (IsBadInTree X N (Some mfs.profile) mfs.root.cid) result before now

  -- the same of one that changes metadata in it
  abbrev pub ShowsRemake : {A : Type 0} → Mfs → Result A MfsFault → Seen → Seen → Type 0
  ShowsRemake mfs result before now = ShownInTree X (IsBadRemadeIn X N mfs.profile mfs.root.cid) result before now

  -- the same of one that edits a file of it
  abbrev pub ShowsWriting : {A : Type 0} → Mfs → Result A MfsFault → Seen → Seen → Type 0
  ShowsWriting mfs result before now =
      ShownInTree X (IsBadWrittenIn X N mfs.profile now.told mfs.root.cid) result before now
