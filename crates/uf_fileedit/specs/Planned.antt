-- The parts of a node in the balanced layout.
use Rattle.std.specs.Prelude.{◌≡◌, ℕ, zero, suc, ◌+◌, ◌-◌, ◌==◌, ◌&&◌, ◌<◌, ◌≤◌, nat_lt, min, max, Bool, true, false, if◌then◌else◌, List, [], ◌∷◌, sum, length, map, IsTrue}
use Rattle.uf_cid.specs.declared.cid.Codec.{Codec}
use Rattle.uf_cid.specs.declared.cid.Codec.TheVariants.{Raw, DagPb}
use Rattle.uf_store.specs.declared.store.Role.{Role}
use Rattle.uf_store.specs.declared.store.Role.TheVariants.{FileNode, Leaf}
use Rattle.uf_tree.specs.declared.nodes.Part.{Part}
use Rattle.uf_tree.specs.declared.profile.Profile.{Profile}
use Rattle.uf_tree.specs.FileSub.{IsHeight, span}
use Rattle.uf_tree.specs.Metas.{is_bare, none}
use Rattle.uf_tree.specs.declared.meta.Meta.{Meta}
use Rattle.uf_fileread.specs.Parts.{AreParts, parts_block}
use Rattle.uf_fileread.specs.declared.node_parts.NodeParts.{NodeParts}
use Rattle.uf_fileedit.specs.declared.layout.Heights.{Heights}

-- whether parts of this height have this codec: leaves are raw blocks
abbrev pub is_of_height : ℕ → Codec → Bool
is_of_height zero Raw = true
is_of_height zero DagPb = false
is_of_height (suc k) Raw = false
is_of_height (suc k) DagPb = true

-- whether parts are those of a node over n bytes: each has s of them, the last one what is left, and this height
abbrev pub are_planned : ℕ → ℕ → ℕ → List Part → Bool
are_planned s k size [] = size == 0
are_planned s k size (m ∷ ms) =
    nat_lt 0 m.size && (m.size == min size s) && is_of_height k m.entry.cid.codec
    && are_planned s k (size - m.size) ms

-- how many bytes parts have together
abbrev pub bytes_over : List Part → ℕ
bytes_over parts = sum (map (λ m. m.size) parts)

-- there is one part, a leaf
abbrev pub leaf_alone : List Part → Bool
leaf_alone [] = false
leaf_alone (m ∷ []) = is_of_height 0 m.entry.cid.codec
leaf_alone (m ∷ n ∷ ms) = false

-- a piece stands alone: as the raw block that is the root, or as the only leaf under a node with metadata
abbrev pub single_root : Codec → Meta → List Part → Bool
single_root Raw meta parts = leaf_alone parts
single_root DagPb meta parts = if is_bare meta then false else leaf_alone parts

-- parts and metadata are those of a file's root as the layout has them: of no more bytes than a piece a leaf alone, and
-- of more the parts of a node, of the height that the bytes need
pub record IsLaidOut (p : Profile) (codec : Codec) (root : NodeParts) : Type 0 where
  pub single : bytes_over root.parts ≤ p.chunk → IsTrue (single_root codec root.meta root.parts)
  pub many : p.chunk < bytes_over root.parts → (below : ℕ)
      → IsHeight p.chunk p.width (bytes_over root.parts) (suc below)
      → IsTrue (is_of_height 1 codec
      && are_planned (span p.chunk p.width below) below (bytes_over root.parts) root.parts)

-- where the bytes of a file stand that has `old` bytes and gets `size` ones: its rows of nodes, the greatest height of
-- an old part, and the height of the parts below the new root. Also how many of the old bytes a part of that root's
-- height has room for
pub record AreHeights (p : Profile) (old size : ℕ) (at : Heights) : Type 0 where
  pub before : IsHeight p.chunk p.width old at.rows
  pub top_is : at.top ≡ max at.rows 1
  pub after : ℕ
  pub high : IsHeight p.chunk p.width size after
  pub height_is : at.height ≡ after - 1
  pub first_is : at.first ≡ min old (span p.chunk p.width (at.height + 1))

-- the parts, of this height, of a node of n bytes below the root of a file of this many rows: at most 22 nodes are
-- above the parts, and the node carries no metadata
pub record IsPlannedNode (p : Profile) (rows k size : ℕ) (parts : NodeParts) : Type 0 where
  pub valid : AreParts parts
  pub few : rows - k ≤ 22
  pub carries : parts.meta ≡ none
  pub planned : IsTrue (are_planned (span p.chunk p.width k) k size parts.parts)

-- the block of a node over more than one piece, or with metadata
pub record IsNodeOver (p : Profile) (bytes : List ℕ) (size : ℕ) : Type 0 where
  pub parts : NodeParts
  pub valid : AreParts parts
  pub is : bytes ≡ parts_block parts
  pub total : size ≡ bytes_over parts.parts
  pub many : is_bare parts.meta ≡ true → p.chunk < size

-- a raw block of no more than one piece, or a node over more than one or with metadata
abbrev pub IsSize : Profile → Codec → List ℕ → ℕ → Type 0
IsSize p Raw bytes size = (size ≡ length bytes) × (length bytes ≤ p.chunk)
IsSize p DagPb bytes size = IsNodeOver p bytes size

-- what a block of this codec is in a file
abbrev pub role_at : Codec → Role
role_at Raw = Leaf
role_at DagPb = FileNode
