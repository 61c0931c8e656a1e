-- The plain tree that a host has at a path.
use Rattle.std.specs.Prelude.{ℕ, zero, suc, List, [], ◌++◌, map}
use Rattle.std.specs.declared.option.Option.{Option}
use Rattle.std.specs.declared.option.Option.TheVariants.{Some}
use Rattle.std.specs.FinMap.{get}
use Rattle.uf_edge.specs.Host.{HostTree, front, names_in}
use Rattle.uf_edge.specs.declared.host.Place.{Place}
use Rattle.uf_edge.specs.declared.host.Place.TheVariants as place
use Rattle.uf_host.specs.Paths.{trimmed}
use Rattle.uf_tree.specs.Metas.{none}
use Rattle.uf_tree.specs.Tree.{Tree, File, Dir, entries}

-- a file with its bytes, or a folder with these members: without metadata
abbrev pub tree_of : Option Place → List (List ℕ × Tree) → Tree
tree_of (Some (place.File bytes)) members = File none bytes
tree_of other members = Dir (entries none members)

-- what a host has at a path, with what is up to n folders below it
unfoldable pub tree_below : HostTree → ℕ → List ℕ → Tree
tree_below host zero path = tree_of (get host path) []
tree_below host (suc levels) path =
    tree_of (get host path) (map (λ name. (name, tree_below host levels (front path ++ name))) (names_in host path))

-- what a host has at a path: commands that are done look at no more than 257 levels of folders
abbrev pub tree_on : HostTree → List ℕ → Tree
tree_on host path = tree_below host 257 (trimmed path)
