-- How the count of touches moves, and how many an edit of a tree may need beyond a few for each name.
use Rattle.std.specs.Prelude.{◌≡◌, ℕ, ◌<◌, ◌≤◌, ◌+◌, ◌*◌, List, [], ◌∷◌, length, ⊤}
use Rattle.std.specs.declared.option.Option.{Option}
use Rattle.std.specs.declared.option.Option.TheVariants.{None, Some}
use Rattle.std.specs.declared.result.Result.{Result}
use Rattle.std.specs.declared.result.Result.TheVariants.{Ok, Err}
use Rattle.uf_cid.specs.Blocks.{Held}
use Rattle.uf_store.specs.declared.store.StoreFault.{StoreFault}
use Rattle.uf_store.specs.declared.store.StoreFault.TheVariants.{Failed, Damaged, Missing, BadBlock, Clash, Memory}
use Rattle.uf_store.specs.Seen.{Seen}
use Rattle.uf_tree.specs.declared.nodes.Entry.{Entry}
use Rattle.uf_tree.specs.declared.profile.Profile.{Profile}
use Rattle.uf_tree.specs.Tree.{Tree, File, Dir, Entries, Nothing, pairs}
use Rattle.uf_tree.specs.Metas.{none}
use Rattle.uf_tree.specs.TreePlan.{blocks, named_entries}
use Rattle.uf_dir.specs.Bounds.{crossing, weighing_from}
use Rattle.uf_plain.specs.declared.change.Change.{Change}
use Rattle.uf_plain.specs.declared.change.Change.TheVariants.{Make, Put, Remove}
use Rattle.uf_plain.specs.declared.rule.Refused.{Refused}
use Rattle.uf_plain.specs.Edits.{at, child, with_child, without_child}
use Rattle.uf_plain.specs.Needs.{own_needs}
use Rattle.uf_mfs.specs.declared.thing.Thing.{Thing}
use Rattle.uf_mfs.specs.declared.thing.Thing.TheVariants.{File as FileAt, Folder as FolderAt}
use Rattle.uf_mfs.specs.declared.mfs.Mfs.{Mfs}
use Rattle.uf_mfs.specs.Standing.{IsPlanOf}
use Rattle.uf_mfs.specs.Steps.{IsFolderOver}

-- a block is blamed
abbrev pub IsBlaming : Option StoreFault → Type 0
IsBlaming None = ⊥
IsBlaming (Some Failed) = ⊥
IsBlaming (Some (Damaged cid)) = ⊥
IsBlaming (Some (Missing cid)) = ⊥
IsBlaming (Some (BadBlock cid role)) = ⊤
IsBlaming (Some (Clash cid held bytes)) = ⊥
IsBlaming (Some Memory) = ⊥

-- the count of touches doesn't fall, and it has risen where a block is blamed
pub record CountsUp (fault : Option StoreFault) (before now : ℕ) : Type 0 where
  pub kept : before ≤ now
  pub risen : IsBlaming fault → before < now

-- this many touches where this is done, none where a rule refuses it before its plan is looked at
abbrev pub where_done : {A : Type 0} → Result A Refused → ℕ → ℕ
where_done (Ok next) touches = touches
where_done (Err why) touches = 0

-- how many blocks are still to be loaded to say what this is: of a folder that a lookup begins at, its root block
abbrev pub unseen : Thing → ℕ
unseen (FileAt e size) = 0
unseen (FolderAt e None) = 1
unseen (FolderAt e (Some root)) = 0

-- the same of what some names lead to from this thing
abbrev pub unseen_after : List (List ℕ) → Thing → ℕ
unseen_after [] thing = unseen thing
unseen_after (name ∷ names) thing = 0

-- the entries of a directory
abbrev pub entries_in : Tree → Entries
entries_in (File m bytes) = Nothing none
entries_in (Dir es) = es

-- the members of a directory, none of a file
abbrev pub members_in : Tree → List (List ℕ × Tree)
members_in t = pairs (entries_in t)

-- the entries of the directory under a name, none where there is no such directory
abbrev pub entries_at : List ℕ → Entries → Entries
entries_at name es = elim (child name es) [ None ↦ Nothing none | Some t ↦ entries_in t ]

-- a call that reads at these names: a few touches for each, and those that what is there takes
abbrev pub read_bound : (Tree → ℕ) → List (List ℕ) → Tree → ℕ
read_bound more names t = 64 * (length names + 3) + elim (at 0 names t) [ Ok found ↦ more found | Err why ↦ 0 ]

module _ (X : List ℕ → List ℕ) (N : List ℕ → ℕ) (p : Profile) where
  -- each directory on these names that becomes sharded or basic between two trees
  abbrev pub crossings : List (List ℕ) → Entries → Entries → ℕ
  crossings [] es fs = 0
  crossings (name ∷ names) es fs = crossing X N p (named_entries X N p es) (named_entries X N p fs)
      + crossings names (entries_at name es) (entries_at name fs)

  -- the same between a tree and what an edit makes of it, none where a rule refuses it
  abbrev pub crossings_of : List (List ℕ) → Entries → Result Entries Refused → ℕ
  crossings_of names es (Ok fs) = crossings names es fs
  crossings_of names es (Err why) = 0

  -- the weighing of the directory that loses the last of these names
  abbrev pub weighing_at : List (List ℕ) → Entries → ℕ
  weighing_at [] es = 0
  weighing_at (name ∷ []) es = weighing_from X N p name (named_entries X N p es)
  weighing_at (name ∷ next ∷ names) es = weighing_at (next ∷ names) (entries_at name es)

  -- of an edit that gives this: only a removal weighs, and only where it is done
  abbrev pub weighing_of : Change → List (List ℕ) → Entries → Result Entries Refused → ℕ
  weighing_of Make names es next = 0
  weighing_of (Put e) names es next = 0
  weighing_of (Remove recursive) names es next = where_done next (weighing_at names es)

  -- an edit at these names: a few touches for each, and those of directories that become sharded or basic
  abbrev pub touch_bound : List (List ℕ) → Entries → Result Entries Refused → ℕ
  touch_bound names es next = 64 * (length names + 3) + crossings_of names es next

  -- the same of a removal, which weighs the directory that loses the name, where it is done
  abbrev pub removal_bound : List (List ℕ) → Entries → Result Entries Refused → ℕ
  removal_bound names es next = touch_bound names es next + where_done next (weighing_at names es)

  -- a folder after an edit at these names: a few touches for each, and those of directories that become sharded or
  -- basic
  abbrev pub edit_bound : List (List ℕ) → (Entries → Result Entries Refused) → Entries → ℕ
  edit_bound names edit es = 40 * length names + crossings_of names es (edit es)

  -- the names of a directory: its own blocks
  abbrev pub names_touches : Tree → ℕ
  names_touches t = length (own_needs X N p t)

  -- its rows: its own blocks, and two for each row
  abbrev pub rows_touches : Tree → ℕ
  rows_touches t = length (own_needs X N p t) + 2 * length (members_in t)

  -- where the entry is that of a folder, whose blocks the store agrees with before and after, and the store stayed
  -- calm, this many touches are enough, whatever the answer
  abbrev pub TouchesFolder : (before now : Seen) → List Held → Entry → (Entries → ℕ) → ℕ → ℕ → Type 0
  TouchesFolder before now more folder bound was is = (es : Entries) → IsFolderOver X N p before now more folder es
      → is ≤ was + bound es

  -- the same of an edit at these names
  abbrev pub TouchesMaking : (before now : Seen) → Entry → List (List ℕ)
      → (List (List ℕ) → Entries → Result Entries Refused) → ℕ → ℕ → Type 0
  TouchesMaking before now folder names edit was is =
      TouchesFolder before now [] folder (edit_bound names (edit names)) was is

  -- the same of a put of this entry, by the tree that it stands for
  abbrev pub TouchesPut : (before now : Seen) → (entry folder : Entry) → (Tree → Entries → ℕ) → ℕ → ℕ → Type 0
  TouchesPut before now entry folder bound was is = (t : Tree) → IsPlanOf X N p entry t
      → TouchesFolder before now (blocks X N p t) folder (bound t) was is

  -- a directory of the first entries that becomes one of the others
  abbrev pub crossed : Entries → Entries → ℕ
  crossed es fs = crossing X N p (named_entries X N p es) (named_entries X N p fs)

  -- a put under this name: n touches, and those of a directory that becomes sharded
  abbrev pub putting_bound : ℕ → List ℕ → Tree → Entries → ℕ
  putting_bound few name t es = few + crossed es (with_child name t es)

  -- a name taken away: the weighing of the directory, and its becoming basic
  abbrev pub taking_bound : List ℕ → Entries → ℕ
  taking_bound name es = 18 + weighing_from X N p name (named_entries X N p es) + crossed es (without_child name es)

module _ (X : List ℕ → List ℕ) (N : List ℕ → ℕ) (before now : Seen) where
  -- of the tree in memory, with whose blocks the store agrees before and after, this many touches are enough
  abbrev pub TouchesTree : Mfs → (Entries → ℕ) → (was is : ℕ) → Type 0
  TouchesTree mfs bound was is = TouchesFolder X N mfs.profile before now [] mfs.root bound was is

  -- the same by its profile
  abbrev pub TouchesBy : Mfs → (Profile → Entries → ℕ) → (was is : ℕ) → Type 0
  TouchesBy mfs bound was is = (p : Profile) → mfs.profile ≡ p
      → TouchesFolder X N p before now [] mfs.root (bound p) was is

  -- the same of an edit at these names
  abbrev pub TouchesEdit : Mfs → List (List ℕ) → (List (List ℕ) → Entries → Result Entries Refused) → (was is : ℕ)
      → Type 0
  TouchesEdit mfs names edit was is = TouchesBy mfs (λ p es. touch_bound X N p names es (edit names es)) was is

  -- the same where no directory becomes sharded or basic: a few touches for each name
  abbrev pub TouchesNames : Mfs → List (List ℕ) → (was is : ℕ) → Type 0
  TouchesNames mfs names was is = TouchesTree mfs (λ es. 64 * (length names + 3)) was is
