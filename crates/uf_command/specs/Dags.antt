-- Paths in DAGs of others (`/ipfs/CID/name`, as Kubo writes them), and the rules by which such DAGs are refused.
use Rattle.std.specs.Prelude.{◌≡◌, ◌⊎◌, ◌+◌, ℕ, List, ◌∷◌, ◌++◌, codes, take, ⊤}
use Rattle.std.specs.Fmt.{decimal}
use Rattle.std.specs.List.{flat_map}
use Rattle.std.specs.declared.option.Option.TheVariants.{None, Some}
use Rattle.std.specs.declared.result.Result.{Result}
use Rattle.std.specs.declared.result.Result.TheVariants.{Ok, Err}
use Rattle.uf_cid.specs.Blocks.{Lookup}
use Rattle.uf_cid.specs.Cid.{cid_text}
use Rattle.uf_lenient.specs.Reading.{denotes, resolve_from}
use Rattle.uf_lenient.specs.declared.fault.DagFault.{DagFault}
use Rattle.uf_lenient.specs.declared.fault.DagFault.TheVariants as fault
use Rattle.uf_lenient.specs.declared.shapes.Limits.{Limits}
use Rattle.uf_path.specs.declared.path.DagPath.{DagPath}
use Rattle.uf_plain.specs.Moves.{name_of}
use Rattle.uf_tree.specs.Tree.{Tree, File, Dir}
use Rattle.uf_varint.specs.Fields.{◌>>=◌}
use Rattle.uf_words.specs.Shown.{shown_bytes}
use Rattle.uf_command.specs.Statuses.{no_memory}
use Rattle.uf_command.specs.declared.types.DagRule.{DagRule}
use Rattle.uf_command.specs.declared.types.DagRule.TheVariants as rule
use Rattle.uf_command.specs.declared.types.Refusal.{Refusal}
use Rattle.uf_command.specs.declared.types.Refusal.TheVariants as refusal

-- DAGs of others are read at most 256 links deep, and with at most 1048576 visits
abbrev pub usual_limits : Limits
usual_limits = record { depth = 256; visits = 1048576 }

-- a path in a DAG as it is shown: `/ipfs/`, its CID, and its names
abbrev pub shown_path : DagPath → List ℕ
shown_path path = codes "/ipfs/" ++ cid_text path.cid ++ flat_map (λ name. 47 ∷ shown_bytes name) path.names

-- the name under which what is at a path is put in a directory: the last one of the path, or else the text of its CID
abbrev pub adopted_name : DagPath → List ℕ
adopted_name path = elim (name_of path.names) [ None ↦ cid_text path.cid | Some name ↦ name ]

-- the first n names of a path
abbrev pub front_of : ℕ → DagPath → DagPath
front_of count path = record { cid = path.cid; names = take count path.names }

-- the name of a rule and its details
abbrev pub dag_words : DagRule → List ℕ
dag_words (rule.NotFound path) = codes "NotFound " ++ shown_path path
dag_words (rule.NotADirectory path) = codes "NotADirectory " ++ shown_path path
dag_words (rule.IsADirectory path) = codes "IsADirectory " ++ shown_path path
dag_words (rule.NotUnixfs cid why) = codes "NotUnixfs " ++ cid_text cid ++ 32 ∷ decimal why
dag_words (rule.DuplicateName cid name) = codes "DuplicateName " ++ cid_text cid ++ 32 ∷ shown_bytes name
dag_words (rule.BadName cid) = codes "BadName " ++ cid_text cid
dag_words (rule.Unsupported cid) = codes "Unsupported " ++ cid_text cid
dag_words (rule.TooDeep cid) = codes "TooDeep " ++ cid_text cid
dag_words rule.TooMany = codes "TooMany"
dag_words rule.TooManyPins = codes "TooManyPins"
dag_words (rule.NotPinned cid) = codes "NotPinned " ++ cid_text cid
dag_words (rule.OtherRoot cid) = codes "OtherRoot " ++ cid_text cid

-- a fault of a reading along a path, as a refusal
abbrev pub dag_refusal : DagPath → DagFault → Refusal
dag_refusal path (fault.NotUnixfs cid why) = refusal.Dag (rule.NotUnixfs cid why)
dag_refusal path (fault.DuplicateName cid name) = refusal.Dag (rule.DuplicateName cid name)
dag_refusal path (fault.BadName cid) = refusal.Dag (rule.BadName cid)
dag_refusal path (fault.Unsupported cid) = refusal.Dag (rule.Unsupported cid)
dag_refusal path (fault.TooDeep cid) = refusal.Dag (rule.TooDeep cid)
dag_refusal path fault.TooMany = refusal.Dag rule.TooMany
dag_refusal path (fault.NotFound place) = refusal.Dag (rule.NotFound (front_of (place + 1) path))
dag_refusal path (fault.NotADirectory place) = refusal.Dag (rule.NotADirectory (front_of place path))
dag_refusal path (fault.Store f) = refusal.Store f

-- the refusal isn't a fault of the store
abbrev pub IsApart : Refusal → Type 0
IsApart (refusal.Store f) = ⊥
IsApart other = ⊤

-- the call answers this refusal, or out of memory, which hides no fault of the store
abbrev pub IsToldAs : Refusal → Refusal → Type 0
IsToldAs why given = ((given ≡ no_memory) × IsApart why) ⊎ (given ≡ why)

-- the tree to which a path leads, or the first fault of the reading
abbrev pub tree_at : Lookup → DagPath → Result Tree DagFault
tree_at held path = resolve_from held usual_limits 0 path.names path.cid >>= λ cid. denotes held usual_limits cid

-- what `cat` prints of what is at a path, or why it is refused
abbrev pub file_at : DagPath → Result Tree DagFault → Result (List ℕ) Refusal
file_at path (Ok (File m bytes)) = Ok bytes
file_at path (Ok (Dir es)) = Err (refusal.Dag (rule.IsADirectory path))
file_at path (Err why) = Err (dag_refusal path why)

-- what is said of a reading along a path
abbrev pub by_dag : {A : Type 0} → DagPath → Result A DagFault → Result A Refusal
by_dag path (Ok a) = Ok a
by_dag path (Err why) = Err (dag_refusal path why)
