-- Steps below a command: the store's fault in what they answer, and what an edit of a folder does.
use Rattle.std.specs.Prelude.{◌≡◌, ◌≢◌, ℕ, List, [], ◌++◌, Bool, true, false}
use Rattle.std.specs.declared.option.Option.{Option}
use Rattle.std.specs.declared.option.Option.TheVariants.{None, Some}
use Rattle.std.specs.declared.result.Result.{Result}
use Rattle.std.specs.declared.result.Result.TheVariants.{Ok, Err}
use Rattle.uf_cid.specs.Blocks.{Held}
use Rattle.uf_store.specs.declared.store.StoreFault.{StoreFault}
use Rattle.uf_store.specs.Calls.{Calm}
use Rattle.uf_store.specs.Contents.{Told}
use Rattle.uf_store.specs.Keeping.{StaysAgreed}
use Rattle.uf_edge.specs.Counts.{Stood}
use Rattle.uf_store.specs.Seen.{Seen}
use Rattle.uf_tree.specs.declared.nodes.Entry.{Entry}
use Rattle.uf_tree.specs.declared.profile.Profile.{Profile}
use Rattle.uf_tree.specs.Tree.{Tree, File, Dir, Entries}
use Rattle.uf_tree.specs.TreePlan.{blocks}
use Rattle.uf_plain.specs.declared.change.Change.{Change}
use Rattle.uf_plain.specs.declared.change.Change.TheVariants.{Make, Put, Remove}
use Rattle.uf_plain.specs.declared.rule.Refused.{Refused}
use Rattle.uf_plain.specs.declared.rule.Refused.TheVariants.{Exists, RootRefused}
use Rattle.uf_plain.specs.Edits.{child, without_child}
use Rattle.uf_plain.specs.Moves.{put_at_spot, spot_names}
use Rattle.uf_plain.specs.declared.spot.Spot.{Spot}
use Rattle.uf_plain.specs.Rules.{allowed}
use Rattle.uf_mfs.specs.declared.fault.MfsFault.{MfsFault}
use Rattle.uf_mfs.specs.declared.fault.MfsFault.TheVariants as fault
use Rattle.uf_mfs.specs.declared.fault.Stop.{Stop}
use Rattle.uf_mfs.specs.declared.fault.Stop.TheVariants as stop
use Rattle.uf_mfs.specs.declared.mfs.Mfs.{Mfs}
use Rattle.uf_mfs.specs.Answers.{EditsAfter, MovesAfter, MovesTo}
use Rattle.uf_mfs.specs.Standing.{IsAgreed, IsEntry, IsPlanOf, StandsAt}

-- the store's fault in the answer of a step
abbrev pub stop_fault : {A : Type 0} → Result A Stop → Option StoreFault
stop_fault (Ok a) = None
stop_fault (Err (stop.Refused why)) = None
stop_fault (Err (stop.Store fault)) = Some fault

-- and in that of a call
abbrev pub tree_fault : {A : Type 0} → Result A MfsFault → Option StoreFault
tree_fault (Ok a) = None
tree_fault (Err (fault.Rule rule)) = None
tree_fault (Err (fault.Ready ready)) = None
tree_fault (Err fault.Sink) = None
tree_fault (Err (fault.Store f)) = Some f

module _ (X : List ℕ → List ℕ) (N : List ℕ → ℕ) (p : Profile) (before now : Seen) (more : List Held) where
  -- the entry is that of the directory of these entries, the store agrees with its blocks and with these others before
  -- and after, and it stayed calm
  pub record IsFolderOver (folder : Entry) (es : Entries) : Type 0 where
    pub plan : IsPlanOf X N p folder (Dir es)
    pub stays : StaysAgreed before.told now.told (more ++ blocks X N p (Dir es))
    pub calm : Calm before now

  -- of such a folder this is answered
  abbrev pub GivesFolder : Entry → (Entries → Result Entries Refused) → Result Entry Stop → Type 0
  GivesFolder folder next result = (es : Entries) → IsFolderOver folder es
      → EditsAfter X N before.told now.told (more ++ blocks X N p (Dir es)) p (next es) result

  -- the same of an edit, whose folder may have no plan
  abbrev pub EditsFolder : Entry → (Entries → Result Entries Refused) → Result Entry Stop → Type 0
  EditsFolder folder edit result = GivesFolder folder (λ es. allowed X N p (edit es)) result

  -- of the folder of these entries this edit is answered, with no entry where it stays as it is
  abbrev pub ChangesOver : Entries → Result Entries Refused → Result (Option Entry) Stop → Type 0
  ChangesOver es next (Ok None) = next ≡ Ok es
  ChangesOver es next (Ok (Some e)) =
      EditsAfter X N before.told now.told (more ++ blocks X N p (Dir es)) p (allowed X N p next) (Ok e)
  ChangesOver es next (Err given) =
      EditsAfter X N before.told now.told (more ++ blocks X N p (Dir es)) p (allowed X N p next) (Err given)

  -- the same of each such folder
  abbrev pub ChangesFolder : Entry → (Entries → Result Entries Refused) → Result (Option Entry) Stop → Type 0
  ChangesFolder folder edit result =
      (es : Entries) → IsFolderOver folder es → ChangesOver es (edit es) result

module _ (X : List ℕ → List ℕ) (N : List ℕ → ℕ) (p : Profile) (before now : Seen) where
  -- of each such folder that has a member of this name it is taken away
  abbrev pub TakesMember : Entry → List ℕ → Result (Option Entry) Stop → Type 0
  TakesMember folder name result = (es : Entries) → child name es ≢ None → IsFolderOver X N p before now [] folder es
      → ChangesOver X N p before now [] es (Ok (without_child name es)) result

  -- of each such folder, where this entry is put into it, this edit is answered, by the tree that the entry stands for
  abbrev pub ChangesPut : (entry folder : Entry) → (Tree → Entries → Result Entries Refused)
      → Result (Option Entry) Stop → Type 0
  ChangesPut entry folder edit result = (t : Tree) → IsPlanOf X N p entry t
      → ChangesFolder X N p before now (blocks X N p t) folder (edit t) result

  -- the same of an edit of the root
  abbrev pub EditsPut : (entry root : Entry) → (Tree → Entries → Result Entries Refused) → Result Entry Stop → Type 0
  EditsPut entry root edit result = (t : Tree) → IsPlanOf X N p entry t
      → EditsFolder X N p before now (blocks X N p t) root (edit t) result

module _ (X : List ℕ → List ℕ) (N : List ℕ → ℕ) (before now : Seen) where
  -- the tree in memory moves to the next one, or is refused, or one of the old tree's blocks or of these others is lost
  abbrev pub MovesTree : List Held → (was is : Mfs) → List (List ℕ) → (Profile → Entries → Result Entries Refused)
      → Result Unit MfsFault → Type 0
  MovesTree more was is names next result = (p : Profile) (es : Entries) → was.profile ≡ p
      → IsFolderOver X N p before now more was.root es
      → MovesAfter X N before.told now.told (more ++ blocks X N p (Dir es)) p names is (next p es) result

  -- the same where all the old tree's blocks are held: all of the next one's are then, or memory was wanting
  abbrev pub MovesWhole : (was is : Mfs) → List (List ℕ) → (Profile → Entries → Result Entries Refused)
      → Result Unit MfsFault → Type 0
  MovesWhole was is names next result = (p : Profile) (es : Entries) → StandsAt X N before.told was p es
      → Stood before.faults now.faults → Stood before.clashes now.clashes
      → MovesTo X N now.told p names is (next p es) result

  -- the tree in memory moves so by an edit at these names, after which it may have no plan
  abbrev pub EditsAgreed : (was is : Mfs) → List (List ℕ) → (List (List ℕ) → Entries → Result Entries Refused)
      → Result Unit MfsFault → Type 0
  EditsAgreed was is names edit result = MovesTree [] was is names (λ p es. allowed X N p (edit names es)) result

  -- the same where all the old tree's blocks are held
  abbrev pub EditsWhole : (was is : Mfs) → List (List ℕ) → (List (List ℕ) → Entries → Result Entries Refused)
      → Result Unit MfsFault → Type 0
  EditsWhole was is names edit result = MovesWhole was is names (λ p es. allowed X N p (edit names es)) result

  -- the tree in memory moves so by a put of this entry, whatever tree it stands for
  abbrev pub PlacesAgreed : (was is : Mfs) → Entry → Spot → Result Unit MfsFault → Type 0
  PlacesAgreed was is e spot result = (t : Tree) → IsPlanOf X N was.profile e t
      → MovesTree (blocks X N was.profile t) was is (spot_names spot)
      (λ p es. allowed X N p (put_at_spot spot t es)) result

  -- the same where all blocks of both are held
  abbrev pub PlacesWhole : (was is : Mfs) → Entry → Spot → Result Unit MfsFault → Type 0
  PlacesWhole was is e spot result = (t : Tree) (p : Profile) (es : Entries) → IsEntry X N before.told p e t
      → StandsAt X N before.told was p es → Stood before.faults now.faults → Stood before.clashes now.clashes
      → MovesTo X N now.told p (spot_names spot) is (allowed X N p (put_at_spot spot t es)) result

-- why the root isn't edited so
abbrev pub refused_root : Change → Refused
refused_root Make = Exists 0
refused_root (Put e) = RootRefused
refused_root (Remove recursive) = RootRefused

-- the folder after an edit: as it is, where there is no new entry
abbrev pub entry_or : Entry → Result (Option Entry) Stop → Result Entry Stop
entry_or folder (Ok None) = Ok folder
entry_or folder (Ok (Some e)) = Ok e
entry_or folder (Err given) = Err given

-- a folder that was there or is new, by its entry
abbrev pub opened : Result (Entry × Bool) Stop → Result Entry Stop
opened (Ok found) = Ok found.0
opened (Err given) = Err given

-- what was found under a name: a folder that is there, or a new one where the name is free
abbrev pub IsOpened : (List ℕ → List ℕ) → (List ℕ → ℕ) → Told → Profile → Option Tree → Entry × Bool → Type 0
IsOpened X N told p None found = found.1 ≡ true
IsOpened X N told p (Some (File m bytes)) found = ⊥
IsOpened X N told p (Some (Dir below)) found = (found.1 ≡ false) × IsAgreed X N told p found.0 (Dir below)

-- the folder below, where it is new or was changed
abbrev pub changed_below : Entry × Bool → Option Entry → Option Entry
changed_below found (Some below) = Some below
changed_below found None = elim found.1 [ true ↦ Some found.0 | false ↦ None ]
