-- Edits of a folder along a path: a change of its members, or of the bytes or the metadata of one of them.
use Rattle.std.specs.Prelude.{◌≡◌, ◌+◌, ◌*◌, ◌≤◌, ℕ, List, [], ◌∷◌, Bool, length, true}
use Rattle.std.specs.declared.option.Option.{Option}
use Rattle.std.specs.declared.option.Option.TheVariants.{Some}
use Rattle.std.specs.declared.result.Result.{Result}
use Rattle.std.specs.declared.result.Result.TheVariants.{Ok, Err}
use Rattle.uf_cid.specs.Blocks.{Held}
use Rattle.uf_cid.specs.declared.cid.Cid.{Cid}
use Rattle.uf_edge.specs.Counts.{Stood}
use Rattle.uf_store.specs.Calls.{OnlySaves}
use Rattle.uf_store.specs.Contents.{Told}
use Rattle.uf_store.specs.Seen.{Seen}
use Rattle.uf_store.specs.declared.store.Role.{Role}
use Rattle.uf_tree.specs.declared.nodes.Entry.{Entry}
use Rattle.uf_tree.specs.declared.profile.Profile.{Profile}
use Rattle.uf_tree.specs.Tree.{Entries, Tree, File, Dir}
use Rattle.uf_plain.specs.declared.rule.Refused.{Refused}
use Rattle.uf_plain.specs.declared.rule.Refused.TheVariants.{IsADirectory}
use Rattle.uf_plain.specs.Edits.{at, change, child, edited, may_be}
use Rattle.uf_plain.specs.Metas.{is_meta_edit, meta_edited, remade, with_remade}
use Rattle.uf_plain.specs.Needs.{own_needs}
use Rattle.uf_mfs.specs.declared.editing.Act.{Act}
use Rattle.uf_mfs.specs.declared.editing.Act.TheVariants.{Change, Remake, Rewrite}
use Rattle.uf_mfs.specs.declared.editing.EditSite.{EditSite}
use Rattle.uf_mfs.specs.declared.fault.Stop.{Stop}
use Rattle.uf_mfs.specs.declared.thing.Thing.{Thing}
use Rattle.uf_mfs.specs.Bad.{IsBadInTree}
use Rattle.uf_mfs.specs.declared.mfs.Mfs.{Mfs}
use Rattle.uf_mfs.specs.Missing.{FolderMisses, IsPut, PutMisses}
use Rattle.uf_mfs.specs.Reading.{AreHeights}
use Rattle.uf_mfs.specs.Remade.{IsBadRemadeIn}
use Rattle.uf_mfs.specs.Standing.{IsAgreed, IsAgreedMember, IsMeant, brought}
use Rattle.uf_mfs.specs.Steps.{ChangesFolder, ChangesOver, EditsFolder, IsFolderOver}
use Rattle.uf_mfs.specs.Steps.{refused_root, stop_fault}
use Rattle.uf_mfs.specs.Touches.{TouchesFolder, crossings_of, weighing_of, where_done}
use Rattle.uf_mfs.specs.Writes.{IsBadWrittenIn, file_touches, leaves_bytes, member_at, with_fitting}

-- what an edit asks of the member of its name before anything is done
abbrev pub may_act : Act → ℕ → Option Tree → Result Unit Refused
may_act (Change what) led o = may_be what led o
may_act (Rewrite what) led o = Ok tt
may_act (Remake what) led o = Ok tt

-- a change of metadata is accepted
abbrev pub is_act : Act → Bool
is_act (Change what) = true
is_act (Rewrite what) = true
is_act (Remake what) = is_meta_edit what

-- what it does in the folder of its name; a put entry stands for this tree
abbrev pub acted : Profile → Act → List ℕ → Tree → ℕ → List ℕ → Entries → Result Entries Refused
acted p (Change what) piece t = change what t
acted p (Rewrite what) piece t = with_fitting p what piece
acted p (Remake what) piece t = with_remade what

-- what it does to the root: only its metadata can be changed
abbrev pub acted_root : Act → Entries → Result Entries Refused
acted_root (Change what) es = Err (refused_root what)
acted_root (Rewrite what) es = Err (IsADirectory 0)
acted_root (Remake what) es = meta_edited what [] es

-- the tree after it at these names
abbrev pub acted_at : Profile → Act → List ℕ → Tree → List (List ℕ) → Entries → Result Entries Refused
acted_at p what piece t [] es = acted_root what es
acted_at p what piece t (name ∷ names) es = edited (acted p what piece t) 0 name names es

-- what an edit on its way does in the folder of its name
abbrev pub acted_by : EditSite → Tree → ℕ → List ℕ → Entries → Result Entries Refused
acted_by site t led name es = acted site.profile site.what site.piece.now t led name es

-- the same along these names
abbrev pub edited_along : EditSite → Tree → List ℕ → List (List ℕ) → Entries → Result Entries Refused
edited_along site t name names es =
    edited (acted site.profile site.what site.piece.now t) site.led name names es

-- it leaves this tree, which is at its names, as it is
abbrev pub LeavesTree : Act → List ℕ → Tree → Type 0
LeavesTree (Change what) piece t = ⊥
LeavesTree (Rewrite what) piece (File m bytes) = leaves_bytes what piece ≡ true
LeavesTree (Rewrite what) piece (Dir es) = ⊥
LeavesTree (Remake what) piece t = remade what t ≡ t

-- how often it touches the store at the root
abbrev pub root_touches : Act → ℕ
root_touches (Change what) = 0
root_touches (Rewrite what) = 0
root_touches (Remake what) = 3

module _ (X : List ℕ → List ℕ) (N : List ℕ → ℕ) (p : Profile) where
  -- a put entry stands for this tree
  abbrev pub IsActMeant : Act → Tree → Type 0
  IsActMeant (Change what) t = IsMeant X N p what t
  IsActMeant (Rewrite what) t = Unit {0}
  IsActMeant (Remake what) t = Unit {0}

  -- the blocks that it brings
  abbrev pub act_brought : Act → Tree → List Held
  act_brought (Change what) t = brought X N p what t
  act_brought (Rewrite what) t = []
  act_brought (Remake what) t = []

  -- a block that isn't canonical where the edit reads
  abbrev pub IsBadActed : Told → Cid → Act → Role → List ℕ → Type 0
  IsBadActed told root (Change what) role bytes = IsBadInTree X N (Some p) root role bytes
  IsBadActed told root (Rewrite what) role bytes = IsBadWrittenIn X N p told root role bytes
  IsBadActed told root (Remake what) role bytes = IsBadRemadeIn X N p root role bytes

  -- for the touches of an edit of a file its heights are needed
  abbrev pub HasRows : Act → (ℕ → ℕ) → Type 0
  HasRows (Change what) rows = Unit {0}
  HasRows (Rewrite what) rows = AreHeights p rows
  HasRows (Remake what) rows = Unit {0}

  -- the touches that it takes beyond those of the names, where the tree gives this: a removal weighs, a file is
  -- rewritten, and a root is made anew; none of them where a rule refuses it
  abbrev pub act_touches : (ℕ → ℕ) → Act → List ℕ → List (List ℕ) → Entries → Result Entries Refused → ℕ
  act_touches rows (Change what) piece names es next = weighing_of X N p what names es next
  act_touches rows (Rewrite what) piece names es next =
      where_done next (file_touches p rows what piece (member_at names es))
  act_touches rows (Remake what) piece names es next = where_done next 3

  -- the touches of an edit at these names: n, those of directories that become sharded or basic, and its own
  abbrev pub act_bound : ℕ → (ℕ → ℕ) → Act → List ℕ → List (List ℕ) → (Entries → Result Entries Refused) → Entries → ℕ
  act_bound few rows what piece names next es =
      few + crossings_of X N p names es (next es) + act_touches rows what piece names es (next es)

  module _ (before now : Seen) where
    -- an edit shows the cause of its fault, and saves blocks alone
    abbrev pub SavesActed : {A : Type 0} → Act → Cid → Result A Stop → Type 0
    SavesActed what root result = OnlySaves X (IsBadActed now.told root what) (stop_fault result) before now

module _ (X : List ℕ → List ℕ) (N : List ℕ → ℕ) (before now : Seen) where
  -- where an edit leaves what is at the names from this folder as it is, no block is saved, and this is so
  abbrev pub LeavesThere : Entry → ℕ → List (List ℕ) → Act → List ℕ → Type 0 → Type 0
  LeavesThere folder led names what piece R = (p : Profile) (es : Entries) (t : Tree)
      → IsAgreed X N before.told p folder (Dir es) → Stood before.faults now.faults
      → at led names (Dir es) ≡ Ok t → LeavesTree what piece t → (now.told ≡ before.told) × R

  -- of the tree in memory this edit at the names is answered, by its root
  abbrev pub ActsOnRoot : Mfs → Act → List ℕ → List (List ℕ) → Result Entry Stop → Type 0
  ActsOnRoot mfs what piece names result = (t : Tree) → IsActMeant X N mfs.profile what t
      → EditsFolder X N mfs.profile before now (act_brought X N mfs.profile what t) mfs.root
      (acted_at mfs.profile what piece t names) result

  -- and this many touches are enough for it
  abbrev pub TouchesRoot : Mfs → Act → List ℕ → List (List ℕ) → (was is : ℕ) → Type 0
  TouchesRoot mfs what piece names was is = (t : Tree) (rows : ℕ → ℕ) → IsActMeant X N mfs.profile what t
      → HasRows X N mfs.profile what rows
      → TouchesFolder X N mfs.profile before now (act_brought X N mfs.profile what t) mfs.root
      (act_bound X N mfs.profile (40 * length names) rows what piece names (acted_at mfs.profile what piece t names))
      was is

  -- where it puts an entry, no other block is missing than what a put there needs
  abbrev pub MissesRoot : Mfs → Act → List (List ℕ) → Result Entry Stop → Type 0
  MissesRoot mfs what names result =
      IsPut what → PutMisses X N mfs.profile before now mfs.root names (stop_fault result)

  module _ (site : EditSite) (folder : Entry) where
    -- of this folder an edit at these names is answered, with no entry where it stays as it is
    abbrev pub ActsAlong : List ℕ → List (List ℕ) → Result (Option Entry) Stop → Type 0
    ActsAlong name names result = (t : Tree) → IsActMeant X N site.profile site.what t
        → ChangesFolder X N site.profile before now (act_brought X N site.profile site.what t) folder
        (edited_along site t name names) result

    -- and this many touches are enough for it
    abbrev pub TouchesAlong : List ℕ → List (List ℕ) → (was is : ℕ) → Type 0
    TouchesAlong name names was is = (t : Tree) (rows : ℕ → ℕ) → IsActMeant X N site.profile site.what t
        → HasRows X N site.profile site.what rows
        → TouchesFolder X N site.profile before now (act_brought X N site.profile site.what t) folder
        (act_bound X N site.profile (40 * (length names + 1)) rows site.what site.piece.now (name ∷ names)
        (edited_along site t name names)) was is

    -- it shows the cause of its fault, and saves blocks alone
    abbrev pub SavesActing : {A : Type 0} → Result A Stop → Type 0
    SavesActing result = SavesActed X N site.profile before now site.what folder.cid result

    -- where it puts an entry, no other block is missing than the folder's own
    abbrev pub MissesHere : {A : Type 0} → Result A Stop → Type 0
    MissesHere result = IsPut site.what
        → FolderMisses X N site.profile before now folder (own_needs X N site.profile) (stop_fault result)

    -- the same along these names, where it may miss what a put there needs
    abbrev pub MissesAlong : {A : Type 0} → List (List ℕ) → Result A Stop → Type 0
    MissesAlong names result =
        IsPut site.what → PutMisses X N site.profile before now folder names (stop_fault result)

    module _ (name : List ℕ) (found : Option Thing) where
      -- of this folder, where this was found under the name, an edit of the name is answered
      abbrev pub ActsHere : Result (Option Entry) Stop → Type 0
      ActsHere result = (t : Tree) (es : Entries) → IsActMeant X N site.profile site.what t
          → IsAgreedMember X N before.told site.profile (child name es) found
          → IsFolderOver X N site.profile before now (act_brought X N site.profile site.what t) folder es
          → ChangesOver X N site.profile before now (act_brought X N site.profile site.what t) es
          (acted_by site t (site.led + 1) name es) result

      -- and this many touches are enough for it
      abbrev pub TouchesActing : (was is : ℕ) → Type 0
      TouchesActing was is = (t : Tree) (rows : ℕ → ℕ) (es : Entries) → IsActMeant X N site.profile site.what t
          → HasRows X N site.profile site.what rows
          → IsAgreedMember X N before.told site.profile (child name es) found
          → IsFolderOver X N site.profile before now (act_brought X N site.profile site.what t) folder es
          → is ≤ was + act_bound X N site.profile 19 rows site.what site.piece.now (name ∷ [])
          (acted_by site t (site.led + 1) name) es
