-- Copies and moves in the tree: a refusal is reported with the path that it is about.
use Rattle.std.specs.Prelude.{◌≡◌, ℕ, ◌≤◌, ◌+◌, ◌*◌, List, [], length, Bool, true, false, ⊤}
use Rattle.std.specs.declared.option.Option.{Option}
use Rattle.std.specs.declared.option.Option.TheVariants.{None, Some}
use Rattle.std.specs.declared.result.Result.{Result}
use Rattle.std.specs.declared.result.Result.TheVariants.{Ok, Err}
use Rattle.uf_edge.specs.Counts.{Stood}
use Rattle.uf_path.specs.declared.path.Path.{Path}
use Rattle.uf_plain.specs.declared.rule.Rule.{Rule}
use Rattle.uf_plain.specs.declared.rule.Rule.TheVariants as rules
use Rattle.uf_plain.specs.Rules.{path_text}
use Rattle.uf_plain.specs.declared.spot.Lie.{Lie}
use Rattle.uf_plain.specs.declared.spot.Lie.TheVariants.{Itself, Below, Apart}
use Rattle.uf_plain.specs.declared.spot.Spot.{Spot}
use Rattle.uf_plain.specs.declared.rule.Refused.{Refused}
use Rattle.uf_plain.specs.Edits.{and_then, at, child, removed}
use Rattle.uf_plain.specs.Moves.{allowed_move, as_replaceable, as_vacant, folder_at, lie_of, moved_to, name_of}
use Rattle.uf_plain.specs.Moves.{put_at_spot, shifted, spot_in, spot_names, spotted, target, then_go, told_of}
use Rattle.uf_store.specs.declared.store.StoreFault.{StoreFault}
use Rattle.uf_store.specs.declared.store.StoreFault.TheVariants.{Memory}
use Rattle.uf_store.specs.declared.store.Role.{Role}
use Rattle.uf_store.specs.Calls.{OnlyReads, OnlySaves}
use Rattle.uf_store.specs.Contents.{Told}
use Rattle.uf_store.specs.Lost.{IsLossOf}
use Rattle.uf_store.specs.Seen.{Seen}
use Rattle.uf_tree.specs.declared.nodes.Entry.{Entry}
use Rattle.uf_tree.specs.declared.profile.Profile.{Profile}
use Rattle.uf_tree.specs.Tree.{Dir, Entries, Tree}
use Rattle.uf_tree.specs.TreePlan.{blocks}
use Rattle.uf_mfs.specs.declared.fault.MfsFault.{MfsFault}
use Rattle.uf_mfs.specs.declared.fault.MfsFault.TheVariants as fault
use Rattle.uf_mfs.specs.declared.mfs.Mfs.{Mfs}
use Rattle.uf_mfs.specs.declared.target.MoveTarget.{MoveTarget}
use Rattle.uf_mfs.specs.declared.thing.Thing.{Thing}
use Rattle.uf_mfs.specs.declared.thing.Thing.TheVariants.{File as FileAt, Folder as FolderAt}
use Rattle.uf_mfs.specs.Over.{OverFolder, OverTree}
use Rattle.uf_mfs.specs.Standing.{IsAfter, IsAgreedMember, IsAgreedThing, StandsAfter, StandsAt}
use Rattle.uf_mfs.specs.Steps.{IsFolderOver, tree_fault}
use Rattle.uf_mfs.specs.Touches.{TouchesTree, crossings_of, weighing_at, where_done}

-- what a call gives where the plain tree gives this: what stands for that, or the rule that refuses it, or a fault of
-- the store that may come
abbrev pub GivesOr : {A B : Type 0} → (StoreFault → Type 0) → (A → B → Type 0) → Result A Rule → Result B MfsFault
    → Type 0
GivesOr May P (Ok a) (Ok b) = P a b
GivesOr May P (Err rule) (Ok b) = ⊥
GivesOr May P (Ok a) (Err (fault.Rule given)) = ⊥
GivesOr May P (Err rule) (Err (fault.Rule given)) = given ≡ rule
GivesOr May P w (Err (fault.Ready ready)) = ⊥
GivesOr May P w (Err fault.Sink) = ⊥
GivesOr May P w (Err (fault.Store f)) = May f

-- the same, where all blocks are held: out of memory is free
abbrev pub Gives : {A B : Type 0} → (A → B → Type 0) → Result A Rule → Result B MfsFault → Type 0
Gives P w r = GivesOr (λ f. f ≡ Memory) P w r

-- a move of something to where it lies in it is refused so, or there was no memory for that
abbrev pub IsInside : List (List ℕ) → List (List ℕ) → MfsFault → Type 0
IsInside source names (fault.Rule rule) = rule ≡ rules.Inside (path_text source) (path_text names)
IsInside source names (fault.Ready ready) = ⊥
IsInside source names fault.Sink = ⊥
IsInside source names (fault.Store f) = f ≡ Memory

-- the entry of what is at a path
abbrev pub entry_in : Thing → Entry
entry_in (FileAt e size) = e
entry_in (FolderAt e seen) = e

-- the entry of what is there, where that is a folder
abbrev pub folder_there : Option Thing → Option Entry
folder_there None = None
folder_there (Some (FileAt e size)) = None
folder_there (Some (FolderAt e seen)) = Some e

-- this may be put where that is: a file over a file, and anything where nothing is
abbrev pub replaces : Thing → Option Thing → Bool
replaces thing None = true
replaces (FileAt e size) (Some (FileAt old old_size)) = true
replaces thing (Some there) = false

-- an opened tree is ready, and nothing is written to a sink
abbrev pub IsInTree : {A : Type 0} → Result A MfsFault → Type 0
IsInTree (Ok a) = ⊤
IsInTree (Err (fault.Rule rule)) = ⊤
IsInTree (Err (fault.Ready ready)) = ⊥
IsInTree (Err fault.Sink) = ⊥
IsInTree (Err (fault.Store f)) = ⊤

-- what a call that reads an opened tree shows and leaves
pub record ReadsTree {A : Type 0} (hash : List ℕ → List ℕ) (IsBad : Role → List ℕ → Type 0) (result : Result A MfsFault)
    (before now : Seen) : Type 0 where
  pub reads : OnlyReads hash IsBad (tree_fault result) before now
  pub in_tree : IsInTree result

-- and one that edits it
pub record EditsTree {A : Type 0} (hash : List ℕ → List ℕ) (IsBad : Role → List ℕ → Type 0) (result : Result A MfsFault)
    (before now : Seen) : Type 0 where
  pub saves : OnlySaves hash IsBad (tree_fault result) before now
  pub in_tree : IsInTree result

-- the spot of a name in the folder at these names, and that folder
abbrev pub lands : List (List ℕ) → List ℕ → Entries → Result (Spot × Entries) Refused
lands folder name es = and_then (folder_at folder es) (spot_in folder (Some name))

-- that spot, where nothing is there; a folder that isn't there is reported with these names
abbrev pub vacant_at : List (List ℕ) → List (List ℕ) → List ℕ → Entries → Result Spot Rule
vacant_at names folder name es = then_go (told_of names (lands folder name es)) (λ (found : Spot × Entries).
    told_of (spot_names found.0) (as_vacant found.0 (child found.0.name found.1)))

module _ (X : List ℕ → List ℕ) (N : List ℕ → ℕ) where
  -- where a move goes was found: its names, and what is there
  pub record IsFound (told : Told) (p : Profile) (found : Spot × Entries) (given : MoveTarget) : Type 0 where
    pub names : given.names ≡ spot_names found.0
    pub there : IsAgreedMember X N told p (child found.0.name found.1) given.there

  -- a call that looks for a place in the tree gives this, or one of the tree's blocks is lost
  abbrev pub GivesOver : {A B : Type 0} → Told → Profile → Entries → (A → B → Type 0) → Result A Rule
      → Result B MfsFault → Type 0
  GivesOver told p es P w r = GivesOr (IsLossOf told (blocks X N p (Dir es))) P w r

  module _ (before now : Seen) where
    -- this spot in the folder of this entry is answered, or a rule refuses it, or one of the folder's blocks is lost
    abbrev pub GivesSpot : Entry → (Entries → Result Spot Rule) → Result Spot MfsFault → Type 0
    GivesSpot folder spot result = OverFolder X N before now folder
        (λ p es. GivesOver before.told p es (λ spot given. given ≡ spot) (spot es) result)

    -- this spot in the tree in memory is answered, or a rule refuses it, or one of the tree's blocks is lost
    abbrev pub SpotsOver : Mfs → (Entries → Result Spot Rule) → Result Spot MfsFault → Type 0
    SpotsOver mfs spot result = OverTree X N before now mfs
        (λ p es. GivesOver before.told p es (λ spot given. given ≡ spot) (spot es) result)

    -- where a move goes is answered so
    abbrev pub FindsTarget : Entry → (Entries → Result (Spot × Entries) Rule) → Result MoveTarget MfsFault → Type 0
    FindsTarget folder found result = OverFolder X N before now folder
        (λ p es. GivesOver before.told p es (IsFound before.told p) (found es) result)

    -- the root moves to that of the next tree, or a rule refuses it, or one of the old tree's blocks is lost
    abbrev pub MovesRoot : (was : Mfs) → (Profile → Entries → Result Entries Rule) → Result Entry MfsFault → Type 0
    MovesRoot was next result = (p : Profile) (es : Entries) → was.profile ≡ p
        → IsFolderOver X N p before now [] was.root es
        → GivesOver before.told p es
        (λ fs e. IsAfter X N before.told now.told (blocks X N p (Dir es)) p e (Dir fs)) (next p es) result

    -- the same of a move of what is at these names, which was found as this thing
    abbrev pub MovesThing : (was : Mfs) → List (List ℕ) → Tree → Thing → (Entries → Result Entries Rule)
        → Result Entry MfsFault → Type 0
    MovesThing was source t thing next result = (es : Entries) → IsFolderOver X N was.profile before now [] was.root es
        → at 0 source (Dir es) ≡ Ok t → IsAgreedThing X N before.told was.profile t thing
        → GivesOver before.told was.profile es
        (λ fs e. IsAfter X N before.told now.told (blocks X N was.profile (Dir es)) was.profile e (Dir fs))
        (allowed_move X N was.profile (next es)) result

    -- and this many touches are enough for it, whatever the answer
    abbrev pub TouchesThing : (was : Mfs) → List (List ℕ) → Tree → Thing → (Entries → ℕ) → ℕ → ℕ → Type 0
    TouchesThing was source t thing bound t0 t1 = (es : Entries)
        → IsFolderOver X N was.profile before now [] was.root es → at 0 source (Dir es) ≡ Ok t
        → IsAgreedThing X N before.told was.profile t thing → t1 ≤ t0 + bound es

    -- the tree in memory moves to the next one, or a rule refuses that, or one of the old tree's blocks is lost
    abbrev pub MovesBy : (was is : Mfs) → (Profile → Entries → Result Entries Rule) → Result Unit MfsFault → Type 0
    MovesBy was is next result = (p : Profile) (es : Entries) → was.profile ≡ p
        → IsFolderOver X N p before now [] was.root es
        → GivesOver before.told p es
        (λ fs done. StandsAfter X N before.told now.told (blocks X N p (Dir es)) is p fs) (next p es) result

    -- the same where all the old tree's blocks are held: all of the next one's are then, or memory was wanting
    abbrev pub MovesHeld : (was is : Mfs) → (Profile → Entries → Result Entries Rule) → Result Unit MfsFault → Type 0
    MovesHeld was is next result = (p : Profile) (es : Entries) → StandsAt X N before.told was p es
        → Stood before.faults now.faults → Stood before.clashes now.clashes
        → Gives (λ fs done. StandsAt X N now.told is p fs) (next p es) result

    -- the tree in memory moves so, where what it would become may have no plan
    abbrev pub CarriesOver : (was is : Mfs) → (Entries → Result Entries Rule) → Result Unit MfsFault → Type 0
    CarriesOver was is next result = MovesBy was is (λ p es. allowed_move X N p (next es)) result

    -- the same where all the old tree's blocks are held
    abbrev pub CarriesHeld : (was is : Mfs) → (Entries → Result Entries Rule) → Result Unit MfsFault → Type 0
    CarriesHeld was is next result = MovesHeld was is (λ p es. allowed_move X N p (next es)) result

    -- the same of the root
    abbrev pub CarriesRoot : Mfs → (Entries → Result Entries Rule) → Result Entry MfsFault → Type 0
    CarriesRoot was next result = MovesRoot was (λ p es. allowed_move X N p (next es)) result

-- a move goes to where its source is
abbrev pub IsOntoItself : List (List ℕ) → Path → Entries → Type 0
IsOntoItself source dest es = elim (target dest (name_of source) es) [
  | Ok found ↦ lie_of source (spot_names found.0) ≡ Itself
  | Err rule ↦ ⊥
]

module _ (X : List ℕ → List ℕ) (N : List ℕ → ℕ) (p : Profile) where
  -- a put of this tree at a spot: each directory on its names that becomes sharded or basic
  abbrev pub put_crossings : Spot → Tree → Entries → ℕ
  put_crossings spot t es = crossings_of X N p (spot_names spot) es (put_at_spot spot t es)

  -- a copy: a few touches for each name of both paths, and those of the put
  abbrev pub copy_bound : List (List ℕ) → Path → Entries → ℕ
  copy_bound source dest es = 64 * (length source + length dest.names + 3)
      + elim (at 0 source (Dir es)) [
        | Ok t ↦ elim (spotted dest (name_of source) es) [ Ok spot ↦ put_crossings spot t es | Err rule ↦ 0 ]
        | Err why ↦ 0
      ]

  -- taking the source away, and putting its tree at a spot of what is left
  abbrev pub shift_crossings : List (List ℕ) → Spot → Tree → Entries → ℕ
  shift_crossings source spot t es =
      crossings_of X N p source es (removed true source es)
      + where_done (removed true source es) (weighing_at X N p source es)
      + elim (removed true source es) [ Ok left ↦ put_crossings spot t left | Err why ↦ 0 ]

  -- the same by how the spot lies to the source, over this member there: none where it lies in it, and where it can't
  -- take the place of what is there
  abbrev pub moving_crossings : Lie → List (List ℕ) → Spot → Option Tree → Tree → Entries → ℕ
  moving_crossings Itself source spot there t es = 0
  moving_crossings Below source spot there t es = 0
  moving_crossings Apart source spot there t es =
      where_done (as_replaceable (length (spot_names spot)) t there) (shift_crossings source spot t es)

  -- the same of what was found as the target
  abbrev pub found_crossings : List (List ℕ) → Spot × Entries → Tree → Entries → ℕ
  found_crossings source found t es =
      moving_crossings (lie_of source (spot_names found.0)) source found.0 (child found.0.name found.1) t es

  -- a move: a few touches for each name of both paths, and those of the removal and of the put, where both are done
  abbrev pub move_bound : List (List ℕ) → Path → Entries → ℕ
  move_bound source dest es = 64 * (length source + length dest.names + 3)
      + elim (at 0 source (Dir es)) [
        | Ok t ↦ elim (target dest (name_of source) es) [
          | Ok found ↦ found_crossings source found t es
          | Err rule ↦ 0
        ]
        | Err why ↦ 0
      ]

module _ (X : List ℕ → List ℕ) (N : List ℕ → ℕ) (before now : Seen) (was : Mfs) where
  -- this many touches are enough for a copy in the tree in memory
  abbrev pub TouchesCopy : List (List ℕ) → Path → ℕ → ℕ → Type 0
  TouchesCopy source dest t0 t1 = TouchesTree X N before now was (copy_bound X N was.profile source dest) t0 t1

  -- and for a move
  abbrev pub TouchesMove : List (List ℕ) → Path → ℕ → ℕ → Type 0
  TouchesMove source dest t0 t1 = TouchesTree X N before now was (move_bound X N was.profile source dest) t0 t1

  module _ (source : List (List ℕ)) (thing : Thing) where
    -- what is at these names, which was found as this thing, moves to what was found as its target
    abbrev pub MovesFound : MoveTarget → Result Entry MfsFault → Type 0
    MovesFound target result = (t : Tree) (found : Spot × Entries)
        → IsFound X N before.told was.profile found target
        → MovesThing X N before now was source t thing (moved_to source t found) result

    -- and this many touches are enough for it: a few for each name of both, and those of the removal and of the put
    abbrev pub TouchesFound : MoveTarget → ℕ → ℕ → Type 0
    TouchesFound target t0 t1 = (t : Tree) (found : Spot × Entries)
        → IsFound X N before.told was.profile found target → TouchesThing X N before now was source t thing
        (λ es. 40 * (length source + length target.names) + found_crossings X N was.profile source found t es) t0 t1

    -- it is taken away, and put at the spot of these names
    abbrev pub MovesToSpot : List (List ℕ) → Result Entry MfsFault → Type 0
    MovesToSpot names result = (t : Tree) (spot : Spot) → names ≡ spot_names spot
        → MovesThing X N before now was source t thing (shifted source spot t) result

    -- and this many touches are enough for it
    abbrev pub TouchesToSpot : List (List ℕ) → ℕ → ℕ → Type 0
    TouchesToSpot names t0 t1 = (t : Tree) (spot : Spot) → names ≡ spot_names spot
        → TouchesThing X N before now was source t thing
        (λ es. 40 * (length source + length names) + shift_crossings X N was.profile source spot t es) t0 t1
