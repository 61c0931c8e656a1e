-- Changes of the metadata of a file or a directory: of its mode (POSIX, "File Permission Bits"), of its mtime, or both
-- taken away.
use Rattle.std.specs.Prelude.{ℕ, ◌+◌, ◌*◌, ◌/◌, List, [], ◌∷◌, Bool, true, nat_lt}
use Rattle.std.specs.declared.option.Option.{Option}
use Rattle.std.specs.declared.option.Option.TheVariants.{None, Some}
use Rattle.std.specs.declared.result.Result.{Result}
use Rattle.std.specs.declared.result.Result.TheVariants.{Ok, Err}
use Rattle.uf_tree.specs.declared.meta.Meta.{Meta}
use Rattle.uf_tree.specs.Metas.{is_mtime, none}
use Rattle.uf_tree.specs.Tree.{Tree, File, Dir, Entries, entries, meta_of, own_meta, pairs}
use Rattle.uf_plain.specs.declared.meta_edit.MetaEdit.{MetaEdit}
use Rattle.uf_plain.specs.declared.meta_edit.MetaEdit.TheVariants.{Mode, Modified, Strip}
use Rattle.uf_plain.specs.declared.rule.Refused.{Refused}
use Rattle.uf_plain.specs.declared.rule.Refused.TheVariants.{NotFound}
use Rattle.uf_plain.specs.Edits.{and_then, child, edited, with_child}

-- permissions have twelve bits, and an mtime is in its ranges
abbrev pub is_meta_edit : MetaEdit → Bool
is_meta_edit (Mode permissions) = nat_lt permissions 4096
is_meta_edit (Modified mtime) = is_mtime (Some mtime)
is_meta_edit Strip = true

-- a mode with these permissions in the place of its low twelve bits; where there was none it counts as 0
abbrev pub mode_with : ℕ → Option ℕ → ℕ
mode_with permissions None = permissions
mode_with permissions (Some mode) = mode / 4096 * 4096 + permissions

-- the metadata after a change
abbrev pub meta_after : MetaEdit → Meta → Meta
meta_after (Mode permissions) m = record { mode = Some (mode_with permissions m.mode); mtime = m.mtime }
meta_after (Modified mtime) m = record { mode = m.mode; mtime = Some mtime }
meta_after Strip m = none

-- a file or a directory with this metadata
abbrev pub with_meta : Meta → Tree → Tree
with_meta m (File old bytes) = File m bytes
with_meta m (Dir es) = Dir (entries m (pairs es))

-- a file or a directory after a change of its metadata
abbrev pub remade : MetaEdit → Tree → Tree
remade what t = with_meta (meta_after what (meta_of t)) t

-- a member that has to be there
abbrev pub as_there : ℕ → Option Tree → Result Tree Refused
as_there led None = Err (NotFound led)
as_there led (Some t) = Ok t

-- what a change of metadata does in the folder of what it changes
abbrev pub with_remade : MetaEdit → ℕ → List ℕ → Entries → Result Entries Refused
with_remade what led name es =
    and_then (as_there led (child name es)) (λ t. Ok (with_child name (remade what t) es))

-- the tree after a change of the metadata of what is at these names, the root's own where there are none
abbrev pub meta_edited : MetaEdit → List (List ℕ) → Entries → Result Entries Refused
meta_edited what [] es = Ok (entries (meta_after what (own_meta es)) (pairs es))
meta_edited what (name ∷ names) es = edited (with_remade what) 0 name names es
