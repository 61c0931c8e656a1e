-- The text of a path taken apart.
use Rattle.std.specs.Prelude.{ℕ, zero, suc, List, [], ◌∷◌, length, take, Some, None, slice_index}
use Rattle.std.specs.Prelude.{Bool, true, false, not, ◌&&◌, ◌==◌, nat_lt, if◌then◌else◌}
use Rattle.std.specs.declared.option.Option.{Option}
use Rattle.std.specs.Path.{rsplit_once}
use Rattle.std.specs.FinMap.{get}
use Rattle.std.specs.Str.{bytes_eq}
use Rattle.uf_edge.specs.Host.{HostTree, is_member_name, root}
use Rattle.uf_edge.specs.declared.host.Place.{Place}
use Rattle.uf_edge.specs.declared.host.Place.TheVariants.{Folder}

-- how many of the first bytes of a path are left where slashes are taken off their end, but not its first byte
abbrev pub kept_length : List ℕ → ℕ → ℕ
kept_length path zero = 0
kept_length path (suc n) = if nat_lt 0 n && (slice_index path n == 47) then kept_length path n else suc n

-- a path without slashes at its end: of slashes alone one is left
unfoldable pub trimmed : List ℕ → List ℕ
trimmed path = take (kept_length path (length path)) path

-- what stands after the last slash
abbrev pub behind_slash : List ℕ → Option (List ℕ × List ℕ) → List ℕ
behind_slash path None = path
behind_slash path (Some split) = split.1

-- the path of the first row: the last name, or `/` where there is none
unfoldable pub first_row : List ℕ → List ℕ
first_row path = let last = behind_slash path (rsplit_once 47 path) in if length last == 0 then root else last

-- a folder is there
abbrev pub is_folder_there : Option Place → Bool
is_folder_there (Some Folder) = true
is_folder_there other = false

-- the folder that a path names before its last slash
abbrev pub folder_named : List ℕ → List ℕ
folder_named [] = root
folder_named (b ∷ bs) = b ∷ bs

-- a folder is there that may have a path as a member, by the path's last slash; the working folder always is, and it is
-- the one of the empty path too
abbrev pub has_folder_by : HostTree → List ℕ → Option (List ℕ × List ℕ) → Bool
has_folder_by tree path None = true
has_folder_by tree path (Some split) =
    is_member_name split.1 && not (bytes_eq split.0 root) && is_folder_there (get tree (folder_named split.0))

abbrev pub has_folder : HostTree → List ℕ → Bool
has_folder tree path = has_folder_by tree path (rsplit_once 47 path)
