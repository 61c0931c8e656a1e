-- What an edit says of each file of which it has the entry, and where a file is made.
use Rattle.std.specs.Prelude.{◌≡◌, ◌+◌, ◌-◌, ◌*◌, ◌≤◌, ◌&&◌, ℕ, List, [], ◌∷◌, length, max, nat_lt, IfErr, IfOk, OnOk}
use Rattle.std.specs.declared.option.Option.{Option}
use Rattle.std.specs.declared.result.Result.{Result}
use Rattle.uf_build.specs.declared.fault.BuildFault.{BuildFault}
use Rattle.uf_cid.specs.Blocks.{Held}
use Rattle.uf_cid.specs.declared.cid.Cid.{Cid}
use Rattle.uf_edge.specs.Counts.{Stood}
use Rattle.uf_fileread.specs.Ranges.{IsFile}
use Rattle.uf_fileread.specs.declared.node_parts.NodeParts.{NodeParts}
use Rattle.uf_store.specs.Faults.{Answers}
use Rattle.uf_store.specs.Keeping.{Agrees, Holds, StaysAgreed}
use Rattle.uf_store.specs.Lost.{AgreesAfter, IsLossOf, ReadsOver}
use Rattle.uf_store.specs.Seen.{Seen}
use Rattle.uf_store.specs.Writing.{SavesOnly}
use Rattle.uf_store.specs.declared.store.StoreFault.{StoreFault}
use Rattle.uf_tree.specs.FilePlan.{file_plan}
use Rattle.uf_tree.specs.FileSub.{IsFileHeight, IsHeight}
use Rattle.uf_tree.specs.Laying.{laid}
use Rattle.uf_tree.specs.Profiles.{most_bytes}
use Rattle.uf_tree.specs.Roots.{root_over}
use Rattle.uf_tree.specs.declared.meta.Meta.{Meta}
use Rattle.uf_tree.specs.declared.nodes.Entry.{Entry}
use Rattle.uf_tree.specs.declared.profile.Profile.{Profile}
use Rattle.uf_fileedit.specs.Answers.{EditsOver, RefusesTooLong, ShownEdit}
use Rattle.uf_fileedit.specs.Bad.{IsBadEdited}
use Rattle.uf_fileedit.specs.Changes.{GivesFile, overlaid, size_after}
use Rattle.uf_fileedit.specs.Roots.{IsRootOf, IsRootOver}
use Rattle.uf_fileedit.specs.Touches.{IsEditWithin, cut_chunks, edit_touches, written_chunks}
use Rattle.uf_fileedit.specs.declared.changing.PartEdit.{PartEdit}

-- the bytes of a file that is cut or filled to this length, or else to no less than the end of the piece that is laid
-- over it
abbrev pub bytes_edited : Option ℕ → ℕ → List ℕ → List ℕ → List ℕ
bytes_edited wanted offset piece b = overlaid (size_after (length b) wanted offset (length piece)) b offset piece

-- the store agrees with these blocks before and after, and has stayed calm: then a fault is that one of them is lost,
-- or out of memory
abbrev pub LosesOf : {A : Type 0} → List Held → Seen → Seen → Result A StoreFault → Type 0
LosesOf l before now answer =
    Agrees before.told l → Agrees now.told l → Stood before.faults now.faults → Stood before.clashes now.clashes
    → IfErr answer (IsLossOf now.told l)

module _ (X : List ℕ → List ℕ) (p : Profile) (root : Cid) where
  -- no fault of the store was passed over, and a bad block isn't canonical at its place in the file with this root
  abbrev ShowsInFile : {A : Type 0} → Seen → Seen → Result A StoreFault → Type 0
  ShowsInFile before now answer = Answers X (IsBadEdited X p now.told root) answer before now

  -- and nothing was written
  abbrev pub ReadsInFile : {A : Type 0} → Seen → Seen → Result A StoreFault → Type 0
  ReadsInFile before now answer = ShowsInFile before now answer × (now.told ≡ before.told)

  -- and nothing was written but blocks
  abbrev pub SavesInFile : {A : Type 0} → Seen → Seen → Result A StoreFault → Type 0
  SavesInFile before now answer = ShowsInFile before now answer × SavesOnly X before.told now.told

  -- no fault of an edit was passed over, and a bad block isn't canonical at its place in the file with this root
  abbrev pub ShowsInEdited : Seen → Seen → Result Entry BuildFault → Type 0
  ShowsInEdited before now answer = ShownEdit X (IsBadEdited X p now.told root) answer before now

-- a bad block isn't canonical in any file, and nothing was written but blocks
abbrev pub SavesNewFile : {A : Type 0} → (List ℕ → List ℕ) → Profile → Seen → Seen → Result A StoreFault → Type 0
SavesNewFile X p before now answer =
    ((root : Cid) → ShowsInFile X p root before now answer) × SavesOnly X before.told now.told

module _ (X : List ℕ → List ℕ) (p : Profile) (entry : Entry) where
  -- this is said of the metadata and the bytes of each file of this profile that has this entry
  abbrev pub OfFile : (Meta → List ℕ → Type 0) → Type 0
  OfFile P =
      (m : Meta) (b : List ℕ) (height : ℕ) → IsFile X p m b entry.cid height → entry ≡ (file_plan X p m b).entry → P m b

  -- this is said of each file of this profile and CID with whose blocks the store agrees
  abbrev pub OfAgreed : Seen → (Meta → List ℕ → Type 0) → Type 0
  OfAgreed seen P =
      (m : Meta) (b : List ℕ) (height : ℕ) → IsFile X p m b entry.cid height
      → Agrees seen.told (file_plan X p m b).blocks → P m b

  -- over a calm store that agrees with the file's blocks before and after, the entry is that of the file of the changed
  -- bytes, or a block of the old one is lost
  abbrev pub EditsFile : (List ℕ → List ℕ) → Seen → Seen → Result Entry BuildFault → Type 0
  EditsFile change before now answer = OfFile (λ m b. StaysAgreed before.told now.told (file_plan X p m b).blocks
      → Stood before.faults now.faults → Stood before.clashes now.clashes
      → EditsOver before.told (file_plan X p m b).blocks (file_plan X p m (change b)).entry answer)

  -- where the store agrees with the file's blocks before and after, after Ok it agrees with those of the changed one,
  -- and each of these that isn't held is an old one that wasn't held before
  abbrev pub AgreesWithEdited : (List ℕ → List ℕ) → Seen → Seen → Result Entry BuildFault → Type 0
  AgreesWithEdited change before now answer = OfFile (λ m b.
      StaysAgreed before.told now.told (file_plan X p m b).blocks
      → OnOk answer (AgreesAfter before.told now.told (file_plan X p m b).blocks (file_plan X p m (change b)).blocks))

  -- where all blocks of the file are held, after Ok all of the changed one are
  abbrev pub HoldsEdited : (List ℕ → List ℕ) → Seen → Seen → Result Entry BuildFault → Type 0
  HoldsEdited change before now answer = OfFile (λ m b.
      Agrees before.told (file_plan X p m b).blocks → Holds before.told (file_plan X p m b).blocks
      → OnOk answer (Holds now.told (file_plan X p m (change b)).blocks))

  -- over a store that agrees with the file's blocks the touches are those of an edit of n chunks of a file that has
  -- this size afterwards
  abbrev pub CostsEdited : Seen → (List ℕ → ℕ) → (List ℕ → ℕ) → ℕ → ℕ → Type 0
  CostsEdited seen size chunks before now =
      (m : Meta) (b : List ℕ) (rows after : ℕ) → IsFile X p m b entry.cid rows
      → Agrees seen.told (file_plan X p m b).blocks → IsFileHeight p.chunk p.width m (size b) after
      → now ≤ before + edit_touches (chunks b) (max rows after)

  -- the touches of a write: those of an edit of the chunks that it changes
  abbrev pub CostsWrite : Seen → ℕ → List ℕ → ℕ → ℕ → Type 0
  CostsWrite seen offset piece before now = CostsEdited seen (λ b. length (laid b offset piece))
      (λ b. written_chunks p.chunk (length b) offset (length piece)) before now

  -- the touches of a cut or a filling: those of an edit of the chunks from one end to the other
  abbrev pub CostsCut : Seen → ℕ → ℕ → ℕ → Type 0
  CostsCut seen size before now =
      CostsEdited seen (λ b. size) (λ b. cut_chunks p.chunk (length b) size) before now

  -- where the store agrees with the file's blocks before and after, after Ok the entry is that of the file of the
  -- changed bytes, and each block of it is held or an old one. Over a calm store a fault is that an old one is lost
  abbrev pub GivesEdited : (List ℕ → List ℕ) → Seen → Seen → Result Entry StoreFault → Type 0
  GivesEdited change before now answer = OfFile (λ m b.
      Agrees before.told (file_plan X p m b).blocks → Agrees now.told (file_plan X p m b).blocks
      → IfOk answer (λ e. GivesFile X p m now.told (file_plan X p m b).blocks e (change b)))
      × OfFile (λ m b. LosesOf (file_plan X p m b).blocks before now answer)

  -- over a store that agrees with the file's blocks: the root is one touch, the new one too, and the zeros between;
  -- the old rows that the new file hasn't are one each, and each chunk two in each row
  abbrev pub CostsEdit : Seen → Option ℕ → ℕ → List ℕ → ℕ → ℕ → Type 0
  CostsEdit seen wanted offset piece before now =
      (m : Meta) (b : List ℕ) (height rows after a z : ℕ) → IsFile X p m b entry.cid height
      → Agrees seen.told (file_plan X p m b).blocks → IsHeight p.chunk p.width (length b) rows
      → IsHeight p.chunk p.width (size_after (length b) wanted offset (length piece)) after
      → IsEditWithin p.chunk (length b) (size_after (length b) wanted offset (length piece)) offset (length piece) a z
      → now ≤ before + 3 + (rows - after) + 2 * (after + 1) * (z - a)

  -- nothing is written to a store that agrees with the file's blocks where it has this length already, and the piece
  -- has no bytes
  abbrev pub LeavesSame : Option ℕ → ℕ → List ℕ → Seen → Seen → Type 0
  LeavesSame wanted offset piece before now = OfAgreed before (λ m b.
      length b ≡ size_after (length b) wanted offset (length piece) → length piece ≡ 0 → now.told ≡ before.told)

  -- where the store agrees with the file's root, after Ok this is said of the metadata, the bytes and the answer
  abbrev GivesRoot : (Meta → List ℕ → NodeParts → Type 0) → Seen → Result NodeParts StoreFault → Type 0
  GivesRoot P before answer =
      (m : Meta) (b : List ℕ) (height : ℕ) → IsFile X p m b entry.cid height
      → Agrees before.told (root_over X p.chunk p.width m height b ∷ []) → IfOk answer (P m b)

  -- and where it has not failed, a fault is that the root is lost, or out of memory
  abbrev LosesRoot : Seen → Seen → Result NodeParts StoreFault → Type 0
  LosesRoot before now answer =
      (m : Meta) (b : List ℕ) (height : ℕ) → IsFile X p m b entry.cid height
      → Agrees before.told (root_over X p.chunk p.width m height b ∷ []) → Stood before.faults now.faults
      → IfErr answer (IsLossOf before.told (root_over X p.chunk p.width m height b ∷ []))

  -- the parts below the root are those that the bytes need
  abbrev pub FindsRoot : Seen → Seen → Result NodeParts StoreFault → Type 0
  FindsRoot before now answer = GivesRoot (IsRootOver X p) before answer × LosesRoot before now answer

-- the same over each profile, whatever height the parts have
abbrev pub FindsSomeRoot : (List ℕ → List ℕ) → Entry → Seen → Seen → Result NodeParts StoreFault → Type 0
FindsSomeRoot X entry before now answer = ((p : Profile) → GivesRoot X p entry (IsRootOf X p) before answer)
    × ((p : Profile) → LosesRoot X p entry before now answer)

module _ (X : List ℕ → List ℕ) (entry : Entry) (meta : Meta) where
  -- over a calm store that agrees with a file's blocks the entry is that of the file with this metadata, or the root
  -- is lost
  abbrev pub SetsMeta : Seen → Seen → Result Entry StoreFault → Type 0
  SetsMeta before now answer =
      (p : Profile) (m : Meta) (b : List ℕ) (height : ℕ) → IsFile X p m b entry.cid height
      → entry ≡ (file_plan X p m b).entry → Agrees before.told (file_plan X p m b).blocks
      → Stood before.faults now.faults → Stood before.clashes now.clashes
      → ReadsOver before.told (root_over X p.chunk p.width m height b ∷ []) (file_plan X p meta b).entry answer

  -- where the store agrees with a file's blocks before and after, after Ok it agrees with those of the file with this
  -- metadata, and each of these that isn't held is an old one that wasn't held before
  abbrev pub AgreesWithMeta : Seen → Seen → Result Entry StoreFault → Type 0
  AgreesWithMeta before now answer = (p : Profile) → OfFile X p entry (λ m b.
      StaysAgreed before.told now.told (file_plan X p m b).blocks
      → OnOk answer (AgreesAfter before.told now.told (file_plan X p m b).blocks (file_plan X p meta b).blocks))

  -- where all blocks of a file are held, after Ok all of the one with this metadata are
  abbrev pub HoldsWithMeta : Seen → Seen → Result Entry StoreFault → Type 0
  HoldsWithMeta before now answer = (p : Profile) → OfFile X p entry (λ m b.
      Agrees before.told (file_plan X p m b).blocks → Holds before.told (file_plan X p m b).blocks
      → OnOk answer (Holds now.told (file_plan X p meta b).blocks))

  -- nothing is written to a store that agrees with the blocks of a file that has this metadata
  abbrev pub LeavesWithMeta : Seen → Seen → Type 0
  LeavesWithMeta before now =
      (p : Profile) (b : List ℕ) (height : ℕ) → IsFile X p meta b entry.cid height
      → Agrees before.told (file_plan X p meta b).blocks → now.told ≡ before.told

module _ (X : List ℕ → List ℕ) (p : Profile) (meta : Meta) where
  -- over a calm store the entry is that of the file of this metadata and these bytes, or out of memory
  abbrev pub MakesNewFile : List ℕ → Seen → Seen → Result Entry BuildFault → Type 0
  MakesNewFile bytes before now answer = StaysAgreed before.told now.told []
      → Stood before.faults now.faults → Stood before.clashes now.clashes
      → EditsOver before.told [] (file_plan X p meta bytes).entry answer

  -- over a store that tells, after Ok all blocks of the file of this metadata and these bytes are held
  abbrev pub HoldsNewFile : List ℕ → Seen → Seen → Result Entry BuildFault → Type 0
  HoldsNewFile bytes before now answer = StaysAgreed before.told now.told []
      → OnOk answer (Holds now.told (file_plan X p meta bytes).blocks)

  -- over a store that tells, after Ok the entry is that of the file of n zeros with this piece laid over them, and its
  -- blocks are held; over a calm one a fault is out of memory
  abbrev pub GivesNewFile : PartEdit → List ℕ → Seen → Seen → Result Entry StoreFault → Type 0
  GivesNewFile target piece before now answer = (Agrees before.told [] → Agrees now.told []
      → IfOk answer (λ e. GivesFile X p meta now.told [] e (overlaid target.size [] target.offset piece)))
      × LosesOf [] before now answer

-- the touches of a new file: those of a write into a file of no bytes
abbrev pub CostsCreate : Profile → Meta → ℕ → List ℕ → ℕ → ℕ → Type 0
CostsCreate p meta offset piece before now = (rows : ℕ)
    → IsFileHeight p.chunk p.width meta (length (laid [] offset piece)) rows
    → now ≤ before + edit_touches (written_chunks p.chunk 0 offset (length piece)) rows

-- the file would be too long exactly where a piece that has bytes ends after the most that a file may have
abbrev pub RefusesLongWrite : Profile → ℕ → List ℕ → Result Entry BuildFault → Type 0
RefusesLongWrite p offset piece answer =
    RefusesTooLong (nat_lt 0 (length piece) && nat_lt (most_bytes p) (offset + length piece)) answer

-- what is made of no old part within n chunks: two touches for each chunk and row, and three
abbrev pub CostsNewFile : Profile → PartEdit → List ℕ → ℕ → ℕ → Type 0
CostsNewFile p target piece before now =
    (after a z : ℕ) → IsHeight p.chunk p.width target.size after
    → IsEditWithin p.chunk 0 target.size target.offset (length piece) a z
    → now ≤ before + 3 + 2 * (after + 1) * (z - a)
