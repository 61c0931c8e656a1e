-- A tree that is read directory by directory, with depth and visits counted anew for each.
use Rattle.std.specs.Prelude.{◌≡◌, ℕ, ◌+◌, List, [], ◌∷◌, ⊤}
use Rattle.std.specs.declared.result.Result.{Result}
use Rattle.std.specs.declared.result.Result.TheVariants.{Ok}
use Rattle.uf_cid.specs.Blocks.{Lookup}
use Rattle.uf_cid.specs.declared.cid.Cid.{Cid}
use Rattle.uf_tree.specs.Tree.{Dir, Entries, File, Nothing, Tree, With, own_meta}
use Rattle.uf_lenient.specs.Reading.{answered, file_of, shallow_of, tree_within}
use Rattle.uf_lenient.specs.declared.fault.DagFault.{DagFault}
use Rattle.uf_lenient.specs.declared.shapes.Limits.{Limits}
use Rattle.uf_lenient.specs.declared.shapes.Shape.{Shape}
use Rattle.uf_lenient.specs.declared.shapes.Shape.TheVariants.{File as FileShape, Folder as FolderShape}

module _ (held : Lookup) (limits : Limits) where
  -- the tree that a CID denotes, where directories nest less deep than `room`
  abbrev pub denotes_within : ℕ → Cid → Result Tree DagFault
  denotes_within room c = answered (λ t. t) (tree_within held room (limits.depth + 1) c limits.visits)

  -- each of these ways leads to what denotes one of these members, in their order
  abbrev pub AreDenoted : ℕ → List (List ℕ × Cid) → Entries → Type 0
  AreDenoted room [] (Nothing meta) = ⊤
  AreDenoted room (w ∷ ways) (Nothing meta) = ⊥
  AreDenoted room [] (With name t es) = ⊥
  AreDenoted room (w ∷ ways) (With name t es) =
      (name ≡ w.0) × (denotes_within room w.1 ≡ Ok t) × AreDenoted room ways es

  -- what a CID denotes is this tree, of the shape's metadata: a file, or a directory whose ways lead to its members
  abbrev pub DenotesBy : ℕ → Cid → Tree → Shape → Type 0
  DenotesBy room c (File m bytes) (FileShape meta) = (m ≡ meta) × (file_of held limits c ≡ Ok bytes)
  DenotesBy room c (File m bytes) (FolderShape meta ways) = ⊥
  DenotesBy room c (Dir es) (FileShape meta) = ⊥
  DenotesBy room c (Dir es) (FolderShape meta ways) = (own_meta es ≡ meta) × AreDenoted room ways es

  -- what a CID denotes, by the shape that it has
  pub record IsStep (room : ℕ) (c : Cid) (t : Tree) : Type 0 where
    pub shape : Shape
    pub shaped : shallow_of held limits c ≡ Ok shape
    pub by : DenotesBy room c t shape
