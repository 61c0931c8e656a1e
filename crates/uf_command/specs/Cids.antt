-- Texts that are CIDs: paths in a DAG without names (`CID`, `/ipfs/CID`).
use Rattle.std.specs.Prelude.{ℕ, ◌+◌, ◌-◌, List, [], ◌∷◌, length, drop, not, if◌then◌else◌}
use Rattle.std.specs.List.{after_first, position_or_len}
use Rattle.std.specs.declared.result.Result.{Result}
use Rattle.std.specs.declared.result.Result.TheVariants.{Ok, Err}
use Rattle.uf_cid.specs.declared.cid.Cid.{Cid}
use Rattle.uf_path.specs.Paths.{dag_path_reads, is_slash, names_a_dag}
use Rattle.uf_path.specs.declared.faults.PathFault.{PathFault}
use Rattle.uf_path.specs.declared.faults.PathFault.TheVariants as path
use Rattle.uf_varint.specs.Fields.{◌>>=◌}

-- how many slashes stand before a text
abbrev pub slashes_before : List ℕ → ℕ
slashes_before text = position_or_len (λ b. not (is_slash b)) text

-- what stands after the CID of a path in a DAG and the slash that ends it
abbrev pub behind_cid : List ℕ → List ℕ
behind_cid text = after_first is_slash (if names_a_dag text then drop 6 text else text)

-- the byte of the whole text at which the first name after the CID starts
abbrev pub first_name_at : List ℕ → ℕ
first_name_at text = length text - length (behind_cid text) + slashes_before (behind_cid text)

-- a CID after which no names stand; the first of them is at this place
abbrev pub alone : ℕ → Cid → List (List ℕ) → Result Cid PathFault
alone place cid [] = Ok cid
alone place cid (name ∷ names) = Err (path.BadName place)

-- the CID that a text is: it is a path in a DAG, and names are refused where the first of them starts
abbrev pub cid_reads : List ℕ → Result Cid PathFault
cid_reads text = dag_path_reads text >>= λ p. alone (first_name_at text) p.cid p.names
