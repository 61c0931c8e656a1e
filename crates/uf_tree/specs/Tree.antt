-- The plain tree of files and directories: what a store of blocks stands for.
use Rattle.std.specs.Prelude.{ℕ, List, [], ◌∷◌, Bool, ◌&&◌, nat_lt}
use Rattle.std.specs.List.{list_all}
use Rattle.std.specs.FinMap.Entries.{is_sorted}
use Rattle.uf_tree.specs.declared.meta.Meta.{Meta}
use Rattle.uf_tree.specs.Metas.{is_meta}
use Rattle.uf_tree.specs.Names.{names_cmp, is_name}

mutual
  -- a file is its metadata and its bytes, a directory its entries
  pub data Tree : Type 0 where
    File : Meta → List ℕ → Tree
    Dir : Entries → Tree

  -- what a directory has: its metadata where it has no names, and names with the trees that they name, in the order of
  -- the names
  pub data Entries : Type 0 where
    Nothing : Meta → Entries
    With : List ℕ → Tree → Entries → Entries

-- the entries as a list of pairs
abbrev pub pairs : Entries → List (List ℕ × Tree)
pairs (Nothing m) = []
pairs (With name t es) = (name, t) ∷ pairs es

-- the metadata of a directory with these entries
abbrev pub own_meta : Entries → Meta
own_meta (Nothing m) = m
own_meta (With name t es) = own_meta es

-- the metadata of a file or a directory
abbrev pub meta_of : Tree → Meta
meta_of (File m bytes) = m
meta_of (Dir es) = own_meta es

-- the entries of metadata and a list of pairs
abbrev pub entries : Meta → List (List ℕ × Tree) → Entries
entries m [] = Nothing m
entries m (e ∷ es) = With e.0 e.1 (entries m es)

-- a file has bytes; in a directory the names are good and strictly rise in byte order, and so at each level; and
-- metadata is in its ranges
unfoldable mutual
  pub is_tree : Tree → Bool
  is_tree (File m bytes) = is_meta m && list_all (λ b. nat_lt b 256) bytes
  is_tree (Dir es) = is_sorted names_cmp (pairs es) && are_trees es

  pub are_trees : Entries → Bool
  are_trees (Nothing m) = is_meta m
  are_trees (With name t es) = is_name name && is_tree t && are_trees es

-- a value of a tree, from the leaves up: of a file by its metadata and its bytes, of a directory by its metadata and
-- its members' names and values
unfoldable mutual
  pub fold : {R : Type 0} → (Meta → List ℕ → R) → (Meta → List (List ℕ × R) → R) → Tree → R
  fold file dir (File m bytes) = file m bytes
  fold file dir (Dir es) = dir (own_meta es) (fold_each file dir es)

  pub fold_each : {R : Type 0} → (Meta → List ℕ → R) → (Meta → List (List ℕ × R) → R) → Entries → List (List ℕ × R)
  fold_each file dir (Nothing m) = []
  fold_each file dir (With name t es) = (name, fold file dir t) ∷ fold_each file dir es
