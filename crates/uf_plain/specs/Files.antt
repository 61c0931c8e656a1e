-- Files of the plain tree: read, written into and cut.
use Rattle.std.specs.Prelude.{ℕ, List, [], ◌∷◌, length, take, drop, Bool, true, if◌then◌else◌}
use Rattle.std.specs.declared.option.Option.{Option}
use Rattle.std.specs.declared.option.Option.TheVariants.{None, Some}
use Rattle.std.specs.declared.result.Result.{Result}
use Rattle.std.specs.declared.result.Result.TheVariants.{Ok, Err}
use Rattle.uf_tree.specs.Laying.{cut_to, laid}
use Rattle.uf_tree.specs.declared.meta.Meta.{Meta}
use Rattle.uf_tree.specs.declared.profile.Profile.{Profile}
use Rattle.uf_tree.specs.Metas.{none}
use Rattle.uf_tree.specs.Tree.{Tree, File, Dir, Entries, meta_of}
use Rattle.uf_tree.specs.TreePlan.{too_long}
use Rattle.uf_plain.specs.declared.file.FileEdit.{FileEdit}
use Rattle.uf_plain.specs.declared.file.FileEdit.TheVariants.{Write, Truncate}
use Rattle.uf_plain.specs.declared.file.WriteHow.{WriteHow}
use Rattle.uf_plain.specs.declared.rule.Refused.{Refused}
use Rattle.uf_plain.specs.declared.rule.Refused.TheVariants.{NotFound, IsADirectory}
use Rattle.uf_plain.specs.Edits.{and_then, at, child, edited, with_child}
use Rattle.uf_plain.specs.Rules.{unless}

-- the bytes of what has to be a file
abbrev pub as_plain_file : ℕ → Tree → Result (List ℕ) Refused
as_plain_file led (File m bytes) = Ok bytes
as_plain_file led (Dir es) = Err (IsADirectory led)

-- what has to be a file
abbrev pub as_file : ℕ → Tree → Result Tree Refused
as_file led (File m bytes) = Ok (File m bytes)
as_file led (Dir es) = Err (IsADirectory led)

-- the file at these names
abbrev pub file_at : List (List ℕ) → Entries → Result Tree Refused
file_at names es = and_then (at 0 names (Dir es)) (as_file (length names))

-- the bytes of the file at these names
abbrev pub plain_bytes_at : List (List ℕ) → Entries → Result (List ℕ) Refused
plain_bytes_at names es = and_then (at 0 names (Dir es)) (as_plain_file (length names))

-- what `read` gives: the bytes from the offset on, at most n
abbrev pub read : ℕ → ℕ → List (List ℕ) → Entries → Result (List ℕ) Refused
read offset count names es = and_then (plain_bytes_at names es) (λ bytes. Ok (take count (drop offset bytes)))

-- the bytes of a member that has to be a file that is there
abbrev pub as_file_there : ℕ → Option Tree → Result (List ℕ) Refused
as_file_there led None = Err (NotFound led)
as_file_there led (Some t) = as_plain_file led t

-- the bytes of a member that has to be a file, and is an empty one where it may be created and isn't there
abbrev pub as_file_or_new : Bool → ℕ → Option Tree → Result (List ℕ) Refused
as_file_or_new true led None = Ok []
as_file_or_new create led o = as_file_there led o

-- the bytes that an edit of a file begins with: those of a member, or none where the file is emptied first
abbrev pub begun : FileEdit → ℕ → Option Tree → Result (List ℕ) Refused
begun (Write how) led o = and_then (as_file_or_new how.create led o) (λ bytes. Ok (if how.cut then [] else bytes))
begun (Truncate size) led o = as_file_there led o

-- the bytes that it then makes of them
abbrev pub rewritten : FileEdit → List ℕ → List ℕ → List ℕ
rewritten (Write how) piece bytes = laid bytes how.offset piece
rewritten (Truncate size) piece bytes = cut_to bytes size

-- the bytes of a file after an edit, by what is under its name before
abbrev pub new_bytes : FileEdit → List ℕ → ℕ → Option Tree → Result (List ℕ) Refused
new_bytes what piece led o = and_then (begun what led o) (λ bytes. Ok (rewritten what piece bytes))

-- the metadata that a file has after an edit: that of the file that is there, or none where it is created
abbrev pub kept_meta : Option Tree → Meta
kept_meta None = none
kept_meta (Some t) = meta_of t

-- what an edit of a file does in its folder
abbrev pub with_bytes : FileEdit → List ℕ → ℕ → List ℕ → Entries → Result Entries Refused
with_bytes what piece led name es =
    let o = child name es in
    and_then (new_bytes what piece led o) (λ bytes. Ok (with_child name (File (kept_meta o) bytes) es))

-- the folder after an edit of the file at these names below it, to which n names led, before its plan is looked at
abbrev pub file_edited : FileEdit → List ℕ → ℕ → List (List ℕ) → Entries → Result Entries Refused
file_edited what piece led [] es = Err (IsADirectory led)
file_edited what piece led (name ∷ names) es = edited (with_bytes what piece) led name names es

-- the tree after `write`
abbrev pub written : WriteHow → List ℕ → List (List ℕ) → Entries → Result Entries Refused
written how piece names es = file_edited (Write how) piece 0 names es

-- the tree after `truncate`
abbrev pub truncated : ℕ → List (List ℕ) → Entries → Result Entries Refused
truncated size names es = file_edited (Truncate size) [] 0 names es

-- bytes that a file may have, or that are too many
abbrev pub fitting : Profile → List ℕ → Result (List ℕ) Refused
fitting p bytes = unless bytes (too_long p bytes)
