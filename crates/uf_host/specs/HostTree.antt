-- The tree that a host has at a path, by a profile and without metadata, or the first fault of a walk over it.
use Rattle.std.specs.Prelude.{ℕ, zero, suc, List, [], ◌∷◌, ◌++◌, map, Bool, true, false, Some, None, if◌then◌else◌}
use Rattle.std.specs.declared.option.Option.{Option}
use Rattle.std.specs.declared.result.Result.{Result}
use Rattle.std.specs.declared.result.Result.TheVariants.{Ok, Err}
use Rattle.std.specs.FinMap.{get}
use Rattle.uf_varint.specs.Fields.{◌>>=◌}
use Rattle.uf_edge.specs.Host as edge
use Rattle.uf_edge.specs.declared.host.Place.{Place}
use Rattle.uf_edge.specs.declared.host.Place.TheVariants as place
use Rattle.uf_tree.specs.Metas.{none}
use Rattle.uf_tree.specs.declared.profile.Profile.{Profile}
use Rattle.uf_tree.specs.Names.{is_name}
use Rattle.uf_tree.specs.Nodes.{Named}
use Rattle.uf_tree.specs.Tree.{Tree, File, Dir, Entries, Nothing, With, entries}
use Rattle.uf_tree.specs.TreePlan as plan
use Rattle.uf_host.specs.Paths.{is_folder_there, trimmed}
use Rattle.uf_host.specs.declared.import.AddedRow.{AddedRow}
use Rattle.uf_host.specs.declared.fault.HostFault.{HostFault}
use Rattle.uf_host.specs.declared.fault.HostFault.TheVariants.{Absent, NeedsRecursive, Name, TooDeep}
use Rattle.uf_host.specs.declared.fault.HostFault.TheVariants.{FileTooLong, Collision, TooBig}

-- what a walk gives at each path: the tree there, or the first fault
abbrev pub Walk : Type 0
Walk = List ℕ → Result Tree HostFault

-- names with their trees
abbrev pub Members : Type 0
Members = List (List ℕ × Tree)

-- a member of a folder: its name first, and then what is there
abbrev pub member_at : Walk → List ℕ → List ℕ → Result Tree HostFault
member_at walk folder name = let path = edge.front folder ++ name in if is_name name then walk path else Err (Name path)

-- the members of a folder, in the order of these names
abbrev pub each_member : Walk → List ℕ → List (List ℕ) → Result Members HostFault
each_member walk folder [] = Ok []
each_member walk folder (name ∷ names) =
    member_at walk folder name >>= λ tree. each_member walk folder names >>= λ rest. Ok ((name, tree) ∷ rest)

-- the tree at a path, unless it has no plan for this reason
abbrev pub unless_refused : List ℕ → Tree → Option plan.Refusal → Result Tree HostFault
unless_refused path tree None = Ok tree
unless_refused path tree (Some plan.FileTooLong) = Err (FileTooLong path)
unless_refused path tree (Some (plan.Collision first second)) = Err (Collision first second)
unless_refused path tree (Some plan.TooBig) = Err TooBig

module _ (X : List ℕ → List ℕ) (N : List ℕ → ℕ) (p : Profile) where
  -- names with their entries
  abbrev pub with_entries : Members → List Named
  with_entries ms = map (λ (m : List ℕ × Tree). (m.0, plan.entry X N p m.1)) ms

  -- the directory of these members, unless it has no plan
  abbrev pub directory_of : List ℕ → Members → Result Tree HostFault
  directory_of path ms = unless_refused path (Dir (entries none ms)) (plan.dir_refusal X N p none (with_entries ms))

  -- what is at a path, where this is what a folder gives
  abbrev pub tree_there : Result Tree HostFault → List ℕ → Option Place → Result Tree HostFault
  tree_there folder path None = Err Absent
  tree_there folder path (Some (place.File bytes)) = unless_refused path (File none bytes) (plan.too_long p bytes)
  tree_there folder path (Some place.Folder) = folder

  module _ (host : edge.HostTree) where
    -- a walk over n levels of folders
    unfoldable pub walk_down : ℕ → Walk
    walk_down zero path = tree_there (Err (TooDeep path)) path (get host path)
    walk_down (suc levels) path =
        tree_there (each_member (walk_down levels) path (edge.names_in host path) >>= directory_of path) path
        (get host path)

    -- a walk where folders are asked for, and one where they aren't
    abbrev pub walk_of : Bool → Walk
    walk_of true path = walk_down 257 path
    walk_of false path = if is_folder_there (get host path) then Err NeedsRecursive else walk_down 257 path

    -- the tree at a path that is given: a file, or a folder with those that are up to 256 folders below it
    abbrev pub tree_on_host : Bool → List ℕ → Result Tree HostFault
    tree_on_host recursive path = walk_of recursive (trimmed path)

  -- a row with a tree's entry
  abbrev pub row_with : List ℕ → Tree → AddedRow
  row_with path t = record { path = path; entry = plan.entry X N p t }

  -- the rows of a tree and of everything in it: what is in a directory before it, in the order of the names
  unfoldable mutual
    pub rows_of : List ℕ → Tree → List AddedRow
    rows_of path (File m bytes) = row_with path (File m bytes) ∷ []
    rows_of path (Dir es) = rows_in path es ++ row_with path (Dir es) ∷ []

    pub rows_in : List ℕ → Entries → List AddedRow
    rows_in path (Nothing m) = []
    rows_in path (With name t es) = rows_of (path ++ 47 ∷ name) t ++ rows_in path es

  -- the rows of everything in a tree
  abbrev pub rows_below : List ℕ → Tree → List AddedRow
  rows_below path (File m bytes) = []
  rows_below path (Dir es) = rows_in path es
