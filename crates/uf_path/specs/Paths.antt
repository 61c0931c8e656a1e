-- What texts are as paths (in the manner of Kubo's paths: `/a/b` in the tree of mutable files, `/ipfs/CID/a/b` in a
-- DAG).
use Rattle.std.specs.Prelude.{◌≡◌, ◌⊎◌, ℕ, ◌+◌, ◌-◌, ◌==◌, Bool, List, [], ◌∷◌, ◌++◌, length, drop, nat_lt, slice_index, codes, if◌then◌else◌}
use Rattle.std.specs.List.{starts_with, slice_split, before_first, after_first}
use Rattle.std.specs.declared.result.Result.{Result}
use Rattle.std.specs.declared.result.Result.TheVariants.{Ok, Err}
use Rattle.uf_cid.specs.Read.{cid_of_text}
use Rattle.uf_cid.specs.declared.cid.Cid.{Cid}
use Rattle.uf_cid.specs.declared.cid.CidFault.{CidFault}
use Rattle.uf_tree.specs.Names.{is_name}
use Rattle.uf_path.specs.declared.faults.PathFault.{PathFault}
use Rattle.uf_path.specs.declared.faults.PathFault.TheVariants as fault
use Rattle.uf_path.specs.declared.path.Path.{Path}
use Rattle.uf_path.specs.declared.path.DagPath.{DagPath}
use Rattle.uf_path.specs.declared.path.Target.{Target}
use Rattle.uf_path.specs.declared.path.Target.TheVariants as target

-- a call answers as the text reads, or out of memory
abbrev pub ReadsAs : {A : Type 0} → Result A PathFault → Result A PathFault → Type 0
ReadsAs (Ok value) told = told ≡ Ok value
ReadsAs (Err why) told = (why ≡ fault.Memory) ⊎ (told ≡ Err why)

-- the byte is a slash
abbrev pub is_slash : ℕ → Bool
is_slash b = b == 47

-- the parts of a text between its slashes
abbrev pub parts : List ℕ → List (List ℕ)
parts text = slice_split is_slash text

-- the name that one part is: none where it is empty, and where it is no good name, the fault with its place
abbrev pub part_read : ℕ → List ℕ → Result (List (List ℕ)) PathFault
part_read at part =
    if length part == 0 then Ok []
    else if is_name part then Ok (part ∷ [])
    else Err (fault.BadName at)

-- the first fault of two readings from left to right, or the names of both
abbrev pub both_read : Result (List (List ℕ)) PathFault → Result (List (List ℕ)) PathFault
    → Result (List (List ℕ)) PathFault
both_read (Err why) later = Err why
both_read (Ok names) (Err why) = Err why
both_read (Ok names) (Ok more) = Ok (names ++ more)

-- the names of parts whose first one starts at the byte `at` of the whole text, or the fault of the first that is bad
abbrev pub names_in : ℕ → List (List ℕ) → Result (List (List ℕ)) PathFault
names_in at [] = Ok []
names_in at (part ∷ rest) = both_read (part_read at part) (names_in (at + (length part + 1)) rest)

-- the path with these names
abbrev pub path_of : Bool → Result (List (List ℕ)) PathFault → Result Path PathFault
path_of into (Ok names) = Ok (record { names = names; into = into })
path_of into (Err why) = Err why

-- the path in the tree that a text is
unfoldable pub path_reads : List ℕ → Result Path PathFault
path_reads text =
    if nat_lt 4096 (length text) then Err fault.TooLong
    else if is_slash (slice_index text 0) then path_of (is_slash (slice_index text (length text - 1)))
    (names_in 0 (parts text))
    else Err fault.NotAbsolute

-- the path from this CID by these names
abbrev pub dag_path_of : Result Cid CidFault → Result (List (List ℕ)) PathFault → Result DagPath PathFault
dag_path_of (Err why) names = Err (fault.BadCid why)
dag_path_of (Ok cid) (Err why) = Err why
dag_path_of (Ok cid) (Ok names) = Ok (record { cid = cid; names = names })

-- the path whose CID starts at the byte `at` of the whole text: the CID ends at the first slash
abbrev pub dag_at : ℕ → List ℕ → Result DagPath PathFault
dag_at at text =
    let front = before_first is_slash text in
    dag_path_of (cid_of_text front) (names_in (at + length front + 1) (parts (after_first is_slash text)))

-- the text starts with `/ipfs/`
abbrev pub names_a_dag : List ℕ → Bool
names_a_dag text = starts_with (λ a b. a == b) text (codes "/ipfs/")

-- the path in a DAG that a text is
unfoldable pub dag_path_reads : List ℕ → Result DagPath PathFault
dag_path_reads text =
    if nat_lt 4096 (length text) then Err fault.TooLong
    else if names_a_dag text then dag_at 6 (drop 6 text)
    else dag_at 0 text

-- the target in a DAG by this path
abbrev pub dag_target : Result DagPath PathFault → Result Target PathFault
dag_target (Ok path) = Ok (target.Dag path)
dag_target (Err why) = Err why

-- the target in the tree by this path
abbrev pub tree_target : Result Path PathFault → Result Target PathFault
tree_target (Ok path) = Ok (target.Tree path)
tree_target (Err why) = Err why

-- what a text names: something in a DAG exactly where it starts with `/ipfs/`
unfoldable pub target_reads : List ℕ → Result Target PathFault
target_reads text = if names_a_dag text then dag_target (dag_path_reads text) else tree_target (path_reads text)
