-- A file of the tree written into and cut.
use Rattle.std.specs.Prelude.{◌≡◌, ◌⊎◌, ◌+◌, ◌≤◌, ℕ, List, [], ◌∷◌, length, max, Bool, false, not, nat_lt}
use Rattle.std.specs.Prelude.{if◌then◌else◌}
use Rattle.std.specs.declared.option.Option.{Option}
use Rattle.std.specs.declared.option.Option.TheVariants.{None, Some}
use Rattle.std.specs.declared.result.Result.{Result}
use Rattle.std.specs.declared.result.Result.TheVariants.{Ok, Err}
use Rattle.uf_build.specs.declared.fault.BuildFault.{BuildFault}
use Rattle.uf_build.specs.declared.fault.BuildFault.TheVariants.{FileTooLong, Spent, Store}
use Rattle.uf_cid.specs.Blocks.{Held}
use Rattle.uf_cid.specs.declared.cid.Cid.{Cid}
use Rattle.uf_fileedit.specs.Bad.{IsBadEdited}
use Rattle.uf_fileedit.specs.Touches.{cut_chunks, edit_touches, written_chunks}
use Rattle.uf_store.specs.declared.store.Role.{Role}
use Rattle.uf_store.specs.Calls.{Calm, OnlySaves}
use Rattle.uf_store.specs.Contents.{Told}
use Rattle.uf_store.specs.Keeping.{StaysAgreed}
use Rattle.uf_store.specs.Lost.{IsLossOf}
use Rattle.uf_store.specs.Seen.{Seen}
use Rattle.uf_tree.specs.declared.nodes.Entry.{Entry}
use Rattle.uf_tree.specs.declared.meta.Meta.{Meta}
use Rattle.uf_tree.specs.declared.profile.Profile.{Profile}
use Rattle.uf_tree.specs.Profiles.{most_bytes}
use Rattle.uf_tree.specs.Tree.{Tree, File, Dir, Entries}
use Rattle.uf_tree.specs.TreePlan.{blocks}
use Rattle.uf_plain.specs.declared.file.FileEdit.{FileEdit}
use Rattle.uf_plain.specs.declared.file.FileEdit.TheVariants.{Write, Truncate}
use Rattle.uf_plain.specs.declared.file.WriteHow.{WriteHow}
use Rattle.uf_plain.specs.declared.rule.Refused.{Refused}
use Rattle.uf_plain.specs.declared.rule.Refused.TheVariants as why
use Rattle.uf_plain.specs.Edits.{and_then, child, edited, with_child}
use Rattle.uf_plain.specs.Files.{begun, fitting, kept_meta, new_bytes, rewritten}
use Rattle.uf_mfs.specs.declared.fault.Stop.{Stop}
use Rattle.uf_mfs.specs.declared.fault.Stop.TheVariants as stop
use Rattle.uf_mfs.specs.declared.editing.EditSite.{EditSite}
use Rattle.uf_mfs.specs.declared.mfs.Mfs.{Mfs}
use Rattle.uf_mfs.specs.declared.thing.Thing.{Thing}
use Rattle.uf_mfs.specs.declared.thing.Thing.TheVariants.{File as FileAt, Folder as FolderAt}
use Rattle.uf_mfs.specs.declared.writing.Start.{Start}
use Rattle.uf_mfs.specs.declared.writing.Start.TheVariants.{Empty, There}
use Rattle.uf_mfs.specs.Answers.{MeetsOr}
use Rattle.uf_mfs.specs.Bad.{IsBadInTree}
use Rattle.uf_mfs.specs.Standing.{IsAfter, IsAgreed, IsAgreedMember, IsPlanOf}
use Rattle.uf_mfs.specs.Reading.{AreHeights, rows_with}
use Rattle.uf_mfs.specs.Steps.{IsFolderOver, stop_fault}
use Rattle.uf_mfs.specs.Touches.{TouchesFolder, entries_at, touch_bound, where_done}

-- a block that isn't canonical at its place in some file
abbrev pub IsBadInSome : (List ℕ → List ℕ) → Profile → Told → Role → List ℕ → Type 0
IsBadInSome X p told role bytes = (root : Cid) × IsBadEdited X p told root role bytes

-- a block that isn't canonical on the way to a file of the tree with this root, or in the file that is edited
abbrev pub IsBadWrittenIn : (List ℕ → List ℕ) → (List ℕ → ℕ) → Profile → Told → Cid → Role → List ℕ → Type 0
IsBadWrittenIn X N p told root role bytes =
    IsBadInTree X N (Some p) root role bytes ⊎ IsBadInSome X p told role bytes

-- an edit creates a file that isn't there
abbrev pub may_create : FileEdit → Bool
may_create (Write how) = how.create
may_create (Truncate size) = false

-- an edit empties a file first
abbrev pub cuts_first : FileEdit → Bool
cuts_first (Write how) = how.cut
cuts_first (Truncate size) = false

-- an edit leaves the bytes of each file as they are: it writes nothing, and empties none
abbrev pub leaves_bytes : FileEdit → List ℕ → Bool
leaves_bytes (Write how) [] = not how.cut
leaves_bytes (Write how) (z ∷ x) = false
leaves_bytes (Truncate size) piece = false

-- and so those of what was found under its name, where that is a file
abbrev pub leaves_found : FileEdit → List ℕ → Option Thing → Bool
leaves_found what piece None = false
leaves_found what piece (Some (FileAt e size)) = leaves_bytes what piece
leaves_found what piece (Some (FolderAt e root)) = false

-- the member of the last of these names
abbrev pub member_at : List (List ℕ) → Entries → Option Tree
member_at [] es = None
member_at (name ∷ []) es = child name es
member_at (name ∷ next ∷ names) es = member_at (next ∷ names) (entries_at name es)

-- the bytes of the file that an edit makes of what is under its name, or what refuses it
abbrev pub fitting_bytes : Profile → FileEdit → List ℕ → ℕ → Option Tree → Result (List ℕ) Refused
fitting_bytes p what piece led o = and_then (new_bytes what piece led o) (fitting p)

-- what an edit of a file does in its folder, where the new bytes fit
abbrev pub with_fitting : Profile → FileEdit → List ℕ → ℕ → List ℕ → Entries → Result Entries Refused
with_fitting p what piece led name es =
    let o = child name es in
    and_then (fitting_bytes p what piece led o) (λ bytes. Ok (with_child name (File (kept_meta o) bytes) es))

-- the folder after an edit of the file at these names, where the new bytes fit, before its plan is looked at
abbrev pub fitting_edit : Profile → FileEdit → List ℕ → List (List ℕ) → Entries → Result Entries Refused
fitting_edit p what piece [] es = Err (why.IsADirectory 0)
fitting_edit p what piece (name ∷ names) es = edited (with_fitting p what piece) 0 name names es

-- the answer of an edit of a file as that of a step: such an edit is begun anew, and so never spent
abbrev pub IsStepOf : Result Entry BuildFault → Result Entry Stop → Type 0
IsStepOf (Ok e) given = given ≡ Ok e
IsStepOf (Err FileTooLong) given = given ≡ Err (stop.Refused why.FileTooLong)
IsStepOf (Err Spent) given = ⊥
IsStepOf (Err (Store fault)) given = given ≡ Err (stop.Store fault)

-- how many chunks of a file of these bytes an edit changes
abbrev pub changed_chunks : Profile → FileEdit → List ℕ → List ℕ → ℕ
changed_chunks p (Write how) piece bytes = written_chunks p.chunk (length bytes) how.offset (length piece)
changed_chunks p (Truncate size) piece bytes = cut_chunks p.chunk (length bytes) size

-- how often an edit of a file of this metadata and these bytes touches the store at most, by the chunks that it changes
-- and the rows of the old or the new file, the greater. Not at all where the new one is too long
abbrev pub rewriting_touches : Profile → (ℕ → ℕ) → FileEdit → List ℕ → Meta → List ℕ → ℕ
rewriting_touches p rows what piece m bytes =
    let new = length (rewritten what piece bytes) in
    if nat_lt (most_bytes p) new then 0
    else edit_touches (changed_chunks p what piece bytes) (max (rows_with rows m (length bytes)) (rows_with rows m new))

-- the same of what is under the file's name, none where that is refused
abbrev pub file_touches : Profile → (ℕ → ℕ) → FileEdit → List ℕ → Option Tree → ℕ
file_touches p rows what piece o =
    elim (begun what 0 o) [ Ok bytes ↦ rewriting_touches p rows what piece (kept_meta o) bytes | Err why ↦ 0 ]

module _ (X : List ℕ → List ℕ) (N : List ℕ → ℕ) (told : Told) (p : Profile) where
  -- what an edit of this member begins with: the file of these bytes that it is, or no bytes, the metadata that stays,
  -- and a write
  abbrev pub IsStart : FileEdit → Option Tree → List ℕ → Start → Type 0
  IsStart what o bytes (Empty m how) = (bytes ≡ []) × (m ≡ kept_meta o) × (what ≡ Write how)
  IsStart what o bytes (There e) = let file = File (kept_meta o) bytes in (o ≡ Some file) × IsAgreed X N told p e file

module _ (X : List ℕ → List ℕ) (N : List ℕ → ℕ) (p : Profile) (before now : Seen) where
  -- the entry is that of the file of this metadata and these bytes, the store agrees with its blocks before and after,
  -- and it stayed calm
  pub record IsFileOver (e : Entry) (m : Meta) (bytes : List ℕ) : Type 0 where
    pub plan : IsPlanOf X N p e (File m bytes)
    pub stays : StaysAgreed before.told now.told (blocks X N p (File m bytes))
    pub calm : Calm before now

  -- over these old blocks: the file of this metadata and these bytes, or what refuses it, or one of the old blocks is
  -- lost
  abbrev pub MakesFile : List Held → Meta → Result (List ℕ) Refused → Result Entry Stop → Type 0
  MakesFile old m bytes result = MeetsOr (IsLossOf before.told old)
      (λ bytes e. IsAfter X N before.told now.told old p e (File m bytes)) bytes result

-- an edit of the file at these names: a few touches for each, those of directories that become sharded or basic, and
-- those of the file, where no rule refuses it before its plan is looked at
abbrev pub writing_bound : (List ℕ → List ℕ) → (List ℕ → ℕ) → Profile → (ℕ → ℕ) → FileEdit → List ℕ → List (List ℕ)
    → Entries → ℕ
writing_bound X N p rows what piece names es =
    let next = fitting_edit p what piece names es in
    touch_bound X N p names es next + where_done next (file_touches p rows what piece (member_at names es))

module _ (X : List ℕ → List ℕ) (N : List ℕ → ℕ) (before now : Seen) where
  -- this many touches are enough for an edit of the file at these names of the tree in memory
  abbrev pub TouchesWriting : Mfs → FileEdit → List ℕ → List (List ℕ) → (was is : ℕ) → Type 0
  TouchesWriting mfs what piece names was is = (p : Profile) (rows : ℕ → ℕ) → mfs.profile ≡ p → AreHeights p rows
      → TouchesFolder X N p before now [] mfs.root (writing_bound X N p rows what piece names) was is

-- a step that edits the file with this root, or one that it makes
abbrev pub SavesEdited : (List ℕ → List ℕ) → Profile → Cid → Result Entry Stop → Seen → Seen → Type 0
SavesEdited X p root result before now = OnlySaves X (IsBadEdited X p now.told root) (stop_fault result) before now

module _ (X : List ℕ → List ℕ) (before now : Seen) (site : EditSite) (what : FileEdit) (found : Option Thing) where
  -- in each folder where this was found under some name, over the folder's blocks, the file is made that the edit
  -- makes of it
  abbrev pub MakesMember : Result Entry Stop → Type 0
  MakesMember result = (N : List ℕ → ℕ) (folder : Entry) (name : List ℕ) (es : Entries)
      → IsAgreedMember X N before.told site.profile (child name es) found
      → IsFolderOver X N site.profile before now [] folder es
      → MakesFile X N site.profile before now (blocks X N site.profile (Dir es)) (kept_meta (child name es))
      (fitting_bytes site.profile what site.piece.now (site.led + 1) (child name es)) result

  -- and this many touches are enough for it
  abbrev pub TouchesMember : (was is : ℕ) → Type 0
  TouchesMember was is = (N : List ℕ → ℕ) (rows : ℕ → ℕ) (folder : Entry) (name : List ℕ) (es : Entries)
      → AreHeights site.profile rows → IsAgreedMember X N before.told site.profile (child name es) found
      → IsFolderOver X N site.profile before now [] folder es
      → is ≤ was + file_touches site.profile rows what site.piece.now (child name es)

module _ (X : List ℕ → List ℕ) (before now : Seen) (site : EditSite) where
  -- over the blocks of any folder, the file of this metadata is made that a write makes of no bytes
  abbrev pub CreatesFile : WriteHow → Meta → Result Entry Stop → Type 0
  CreatesFile how m result = (N : List ℕ → ℕ) (folder : Entry) (es : Entries)
      → IsFolderOver X N site.profile before now [] folder es
      → MakesFile X N site.profile before now (blocks X N site.profile (Dir es)) m
      (fitting site.profile (rewritten (Write how) site.piece.now [])) result

  -- of the file of this entry, over its blocks, the file is made that an edit makes of it
  abbrev pub RewritesFile : FileEdit → Entry → Result Entry Stop → Type 0
  RewritesFile what old result = (N : List ℕ → ℕ) (m : Meta) (bytes : List ℕ)
      → IsFileOver X N site.profile before now old m bytes
      → MakesFile X N site.profile before now (blocks X N site.profile (File m bytes)) m
      (fitting site.profile (rewritten what site.piece.now bytes)) result

  -- and this many touches are enough for it
  abbrev pub TouchesFile : FileEdit → Entry → (was is : ℕ) → Type 0
  TouchesFile what old was is = (N : List ℕ → ℕ) (rows : ℕ → ℕ) (m : Meta) (bytes : List ℕ)
      → AreHeights site.profile rows → IsFileOver X N site.profile before now old m bytes
      → is ≤ was + rewriting_touches site.profile rows what site.piece.now m bytes
