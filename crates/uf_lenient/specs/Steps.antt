-- What single steps of a reading do to what is still to be visited.
use Rattle.std.specs.Prelude.{◌≡◌, ℕ, ◌+◌, List, [], ◌∷◌, ◌++◌, drop, IsTrue, ⊤, Some, None}
use Rattle.std.specs.declared.option.Option.{Option}
use Rattle.std.specs.declared.result.Result.{Result}
use Rattle.std.specs.declared.result.Result.TheVariants.{Ok, Err}
use Rattle.std.specs.FinMap.Entries.{is_sorted}
use Rattle.uf_varint.specs.Fields.{◌>>=◌}
use Rattle.uf_cid.specs.declared.cid.Cid.{Cid}
use Rattle.uf_cid.specs.Blocks.{Lookup}
use Rattle.uf_tree.specs.declared.meta.Meta.{Meta}
use Rattle.uf_tree.specs.Names.{names_cmp}
use Rattle.uf_tree.specs.Tree.{Tree}
use Rattle.uf_lenient.specs.declared.due.Due.{Due}
use Rattle.uf_lenient.specs.declared.due.Frame.{Frame}
use Rattle.uf_lenient.specs.declared.due.Visited.TheVariants.{File}
use Rattle.uf_lenient.specs.declared.fault.DagFault.{DagFault}
use Rattle.uf_lenient.specs.declared.gathered.Gathered.{Gathered}
use Rattle.uf_lenient.specs.declared.gathered.Gathered.TheVariants.{Folder as IsFolder}
use Rattle.uf_lenient.specs.declared.shapes.Limits.{Limits}
use Rattle.uf_lenient.specs.declared.shapes.Shape.{Shape}
use Rattle.uf_lenient.specs.declared.shapes.Shape.TheVariants.{File as FileShape, Folder as FolderShape}
use Rattle.uf_lenient.specs.Answers.{IsFault}
use Rattle.uf_lenient.specs.Pending.{all_bytes}
use Rattle.uf_lenient.specs.Reading.{◌>>◌, Visits, Ways, answered, denotes, shallow_of, shard_ways}

-- a directory of this metadata and these ways
abbrev pub gathered_folder : Meta → Result Ways DagFault → Result Gathered DagFault
gathered_folder meta ways = ways >>= λ all. Ok (IsFolder meta all)

abbrev pub gathered_folder_behind : Meta → Visits Ways → Visits Gathered
gathered_folder_behind meta ways = ways >> λ all n. Ok (IsFolder meta all, n)

-- the ways of a directory are in byte order of their names, which are all different
abbrev pub IsInOrder : Shape → Type 0
IsInOrder (FileShape meta) = ⊤
IsInOrder (FolderShape meta ways) = IsTrue (is_sorted names_cmp ways)

-- the entries of a shard from a place on were added, up to the end or to a link to a shard
abbrev pub AddsEntries : Frame → Ways → Ways → (Cid → Ways → ℕ → Visits Ways) → ℕ
    → Result (Option (ℕ × Cid)) DagFault → Type 0
AddsEntries f met more deeper n (Ok None) = shard_ways deeper f.by f.left (drop f.at f.links) met n ≡ Ok (more, n)
AddsEntries f met more deeper n (Ok (Some next)) = shard_ways deeper f.by f.left (drop f.at f.links) met n
    ≡ (deeper next.1 more n >> λ all m. shard_ways deeper f.by f.left (drop next.0 f.links) all m)
AddsEntries f met more deeper n (Err fault) = IsFault (shard_ways deeper f.by f.left (drop f.at f.links) met n) fault

-- a step: what is to be read is the same before and after it, or it has a fault
abbrev pub StepsTo : {A B : Type 0} → Result A DagFault → Result A DagFault → Result B DagFault → Type 0
StepsTo before now (Ok b) = before ≡ now
StepsTo before now (Err fault) = IsFault before fault

-- everything below a CID was read
pub record IsRead (held : Lookup) (limits : Limits) (cid : Cid) (shape : Shape) : Type 0 where
  pub tree : Tree
  pub denoted : denotes held limits cid ≡ Ok tree
  pub shaped : shallow_of held limits cid ≡ Ok shape

abbrev pub Surveys : Lookup → Limits → Cid → Result Shape DagFault → Type 0
Surveys held limits cid (Ok shape) = IsRead held limits cid shape
Surveys held limits cid (Err fault) = IsFault (denotes held limits cid) fault

-- what is still to come of a file: its own start, and what is left of it
abbrev pub Rest : Type 0
Rest = List Due × ℕ

abbrev pub start_of : Limits → Cid → Rest
start_of limits cid = (record { cid = cid; left = limits.depth + 1; visited = File } ∷ [], limits.visits)

abbrev pub to_come : Lookup → Rest → Result (List ℕ) DagFault
to_come held rest = answered (λ bytes. bytes) (all_bytes held rest.0 rest.1)

-- bytes before others
abbrev pub prefixed : List ℕ → Result (List ℕ) DagFault → Result (List ℕ) DagFault
prefixed bytes later = later >>= λ more. Ok (bytes ++ more)

-- a piece of a file was read: what was to come is the piece and what is to come now; or the fault of that
abbrev pub IsPiece : Lookup → Rest → Rest → Result (List ℕ) DagFault → Type 0
IsPiece held before now (Ok piece) = to_come held before ≡ prefixed piece (to_come held now)
IsPiece held before now (Err fault) = IsFault (to_come held before) fault

-- the same, or nothing is to come
abbrev pub IsNextPiece : Lookup → Rest → Rest → Result (Option (List ℕ)) DagFault → Type 0
IsNextPiece held before now (Ok None) = to_come held before ≡ Ok []
IsNextPiece held before now (Ok (Some piece)) = to_come held before ≡ prefixed piece (to_come held now)
IsNextPiece held before now (Err fault) = IsFault (to_come held before) fault
