-- The metadata of a tree is good, and stays where a member changes.
use Rattle.std.proofs.Common.{◌≡◌, ℕ, List, true}
use Rattle.std.specs.Prelude.{IsTrue}
use Rattle.uf_tree.specs.Changes.{with_name, without}
use Rattle.uf_tree.specs.Metas.{is_meta}
use Rattle.uf_tree.specs.Tree.{Tree, File, Dir, Entries, Nothing, With, meta_of, own_meta, pairs, is_tree, are_trees}
use Rattle.uf_tree.proofs.TreeLaws.{meta-entries, pairs-entries}
use Rattle.uf_tree.proofs.Twins.{both_true}
use Rattle.uf_plain.specs.Edits.{with_child, without_child}

trees-meta : (es : Entries) → are_trees es ≡ true → is_meta (own_meta es) ≡ true
unfolding is_tree
trees-meta (Nothing m) h = h
trees-meta (With name t es) h = trees-meta es (both_true _ _ h).1

pub tree-meta : (t : Tree) → IsTrue (is_tree t) → IsTrue (is_meta (meta_of t))
unfolding is_tree
tree-meta (File m bytes) h = (both_true _ _ h).0
tree-meta (Dir es) h = trees-meta es (both_true _ _ h).1

pub meta-with : (name : List ℕ) (t : Tree) (es : Entries) → own_meta (with_child name t es) ≡ own_meta es
meta-with name t es = meta-entries (own_meta es) (with_name name t (pairs es))

pub meta-without : (name : List ℕ) (es : Entries) → own_meta (without_child name es) ≡ own_meta es
meta-without name es = meta-entries (own_meta es) (without name (pairs es))

pub pairs-with : (name : List ℕ) (t : Tree) (es : Entries) → pairs (with_child name t es) ≡ with_name name t (pairs es)
pairs-with name t es = pairs-entries (own_meta es) (with_name name t (pairs es))

pub pairs-without : (name : List ℕ) (es : Entries) → pairs (without_child name es) ≡ without name (pairs es)
pairs-without name es = pairs-entries (own_meta es) (without name (pairs es))
