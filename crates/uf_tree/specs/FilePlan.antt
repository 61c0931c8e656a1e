-- The balanced layout of a file (UnixFS v1, "File"; Kubo's `add` with raw leaves and the balanced layout).
use Rattle.std.specs.Prelude.{ℕ, zero, suc, pred, List, [], ◌∷◌, ◌++◌, length, map, if◌then◌else◌}
use Rattle.std.specs.List.{sum_by}
use Rattle.uf_cid.specs.Blocks.{Held}
use Rattle.uf_cid.specs.Cid.{cid_of}
use Rattle.uf_cid.specs.declared.cid.Codec.TheVariants.{Raw, DagPb}
use Rattle.uf_tree.specs.declared.meta.Meta.{Meta}
use Rattle.uf_tree.specs.declared.nodes.Entry.{Entry}
use Rattle.uf_tree.specs.declared.nodes.FileNode.{FileNode}
use Rattle.uf_tree.specs.declared.nodes.Part.{Part}
use Rattle.uf_tree.specs.declared.profile.Profile.{Profile}
use Rattle.uf_tree.specs.Metas.{is_bare, none}
use Rattle.uf_tree.specs.Nodes.{node_entry, link_of, file_block}

-- what stands for a file or a directory: its entry, and the blocks that have to be held
pub record Plan : Type 0 where
  pub entry : Entry
  pub blocks : List Held

-- the first group of a list, which has room for n more, and the groups of width after it
abbrev pub split_from : {A : Type 0} → ℕ → ℕ → List A → List A × List (List A)
split_from width room [] = ([], [])
split_from width zero (x ∷ xs) = let rest = split_from width (pred width) xs in ([], (x ∷ rest.0) ∷ rest.1)
split_from width (suc room) (x ∷ xs) = let rest = split_from width room xs in (x ∷ rest.0, rest.1)

-- consecutive groups of width, the last one shorter; of nothing one empty group
abbrev pub groups : {A : Type 0} → ℕ → List A → List (List A)
groups width xs = (split_from width width xs).0 ∷ (split_from width width xs).1

-- the pieces of a file: consecutive ones of the profile's size, the last one shorter; of an empty file one empty piece
abbrev pub chunks : Profile → List ℕ → List (List ℕ)
chunks p bytes = groups p.chunk bytes

-- the node at a file's root over these parts: links without names, the sizes, and the file's metadata
abbrev pub root_node : Meta → List Part → FileNode
root_node meta parts = record {
  parts = map (λ m. link_of [] m.entry) parts;
  sizes = map (λ m. m.size) parts;
  meta = meta;
}

-- a node below the root, which carries no metadata
abbrev pub node_over : List Part → FileNode
node_over parts = root_node none parts

-- the blocks of a row before those of the rows above it
abbrev pub with_row : List Held → List Held × List Part → List Held × List Part
with_row held above = (held ++ above.0, above.1)

module _ (X : List ℕ → List ℕ) where
  -- a piece as a part of a file: a raw block, whose Tsize is its length
  abbrev pub leaf_part : List ℕ → Part
  leaf_part bytes = record { entry = record { cid = cid_of X Raw bytes; tsize = length bytes }; size = length bytes }

  -- the block of a piece
  abbrev pub leaf_held : List ℕ → Held
  leaf_held bytes = (cid_of X Raw bytes, bytes)

  -- the parts of a file as one part, under the file's root
  abbrev pub root_part : Meta → List Part → Part
  root_part meta parts = record {
    entry = node_entry X (file_block (root_node meta parts)) (map (λ m. m.entry) parts);
    size = sum_by (λ m. m.size) parts;
  }

  -- the block of the root over these parts
  abbrev pub root_held : Meta → List Part → Held
  root_held meta parts = (cid_of X DagPb (file_block (root_node meta parts)), file_block (root_node meta parts))

  -- a group of parts as one part of the row above
  abbrev pub node_part : List Part → Part
  node_part parts = root_part none parts

  -- the block of the node over a group
  abbrev pub node_held : List Part → Held
  node_held parts = root_held none parts

  -- row 0 has a part for each piece, and each row above one for each group of `width` of the row below
  unfoldable pub row : Profile → List ℕ → ℕ → List Part
  row p bytes zero = map leaf_part (chunks p bytes)
  row p bytes (suc k) = map node_part (groups p.width (row p bytes k))

  -- the blocks of a row
  unfoldable pub row_held : Profile → List ℕ → ℕ → List Held
  unfolding row
  row_held p bytes zero = map leaf_held (chunks p bytes)
  row_held p bytes (suc k) = map node_held (groups p.width (row p bytes k))

  -- the blocks of all rows up to one
  unfoldable pub rows_held : Profile → List ℕ → ℕ → List Held
  unfolding row_held
  rows_held p bytes zero = row_held p bytes zero
  rows_held p bytes (suc k) = rows_held p bytes k ++ row_held p bytes (suc k)

  -- the blocks of the rows above this row up to the first that is one group, and that row; rows end before the fuel
  unfoldable pub climb : ℕ → ℕ → List Part → List Held × List Part
  climb width zero parts = ([], parts)
  climb width (suc fuel) parts = elim (split_from width width parts).1 [
    | [] ↦ ([], parts)
    | g ∷ gs ↦ with_row (map node_held (groups width parts)) (climb width fuel (map node_part (groups width parts)))
  ]

  -- what stands over a row of one group: a single piece without metadata alone, and else the root
  abbrev pub top_part : Meta → List Part → Part
  top_part meta [] = root_part meta []
  top_part meta (m ∷ []) = if is_bare meta then m else root_part meta (m ∷ [])
  top_part meta (m ∷ n ∷ ms) = root_part meta (m ∷ n ∷ ms)

  -- the root's own block, where there is one
  abbrev pub top_held : Meta → List Part → List Held
  top_held meta [] = []
  top_held meta (m ∷ []) = if is_bare meta then [] else root_held meta (m ∷ []) ∷ []
  top_held meta (m ∷ n ∷ ms) = root_held meta (m ∷ n ∷ ms) ∷ []

  -- the plan of a file: the entry of what stands over all its rows, and the blocks of the rows and of the root
  unfoldable pub file_plan : Profile → Meta → List ℕ → Plan
  unfolding climb
  file_plan p meta bytes =
      let under = climb p.width (length (chunks p bytes)) (map leaf_part (chunks p bytes)) in
      record {
        entry = (top_part meta under.1).entry;
        blocks = map leaf_held (chunks p bytes) ++ (under.0 ++ top_held meta under.1);
      }
