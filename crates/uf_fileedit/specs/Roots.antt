-- The root of a file, and what stands below it.
use Rattle.std.specs.Prelude.{◌≡◌, ℕ, ◌-◌, ◌<◌, ◌≤◌, ◌^◌, List, [], ◌∷◌, ◌++◌, length, map, ⊤}
use Rattle.std.specs.List.{sum_by}
use Rattle.std.specs.declared.result.Result.{Result}
use Rattle.std.specs.declared.result.Result.TheVariants.{Ok, Err}
use Rattle.uf_cid.specs.Blocks.{Held}
use Rattle.uf_cid.specs.declared.cid.Cid.{Cid}
use Rattle.uf_cid.specs.declared.cid.Codec.{Codec}
use Rattle.uf_cid.specs.declared.cid.Codec.TheVariants.{Raw, DagPb}
use Rattle.uf_fileread.specs.Parts.{AreParts, parts_block}
use Rattle.uf_fileread.specs.Sizes.{IsNoNode}
use Rattle.uf_fileread.specs.declared.node_parts.NodeParts.{NodeParts}
use Rattle.uf_store.specs.declared.store.StoreFault.{StoreFault}
use Rattle.uf_store.specs.declared.store.StoreFault.TheVariants.{Failed, Damaged, Missing, BadBlock, Clash, Memory}
use Rattle.uf_tree.specs.declared.meta.Meta.{Meta}
use Rattle.uf_tree.specs.declared.nodes.Part.{Part}
use Rattle.uf_tree.specs.declared.profile.Profile.{Profile}
use Rattle.uf_tree.specs.FilePlan.{file_plan, groups, top_held, top_part}
use Rattle.uf_tree.specs.FileSub.{IsHeight, part_over, span}
use Rattle.uf_tree.specs.Metas.{none}

-- parts over which a root can stand
pub record IsBase (root : NodeParts) : Type 0 where
  pub some : 1 ≤ length root.parts
  pub few : length root.parts ≤ 1024
  pub small : sum_by (λ (m : Part). m.size) root.parts < 2 ^ 63

-- a raw block as the only part of its file, without metadata
abbrev pub whole_leaf : Cid → List ℕ → NodeParts
whole_leaf cid bytes = record {
  parts = record { entry = record { cid = cid; tsize = length bytes }; size = length bytes } ∷ [];
  meta = none;
}

-- what a root block of this codec has below it, and its metadata
abbrev pub IsRootIn : Codec → Cid → List ℕ → NodeParts → Type 0
IsRootIn Raw cid bytes root = root ≡ whole_leaf cid bytes
IsRootIn DagPb cid bytes root = AreParts root × (bytes ≡ parts_block root)

-- the same, or that the block isn't one
abbrev pub SaysRoot : Cid → List ℕ → Result NodeParts StoreFault → Type 0
SaysRoot cid bytes (Ok root) = IsRootIn cid.codec cid bytes root
SaysRoot cid bytes (Err Failed) = ⊥
SaysRoot cid bytes (Err (Damaged c)) = ⊥
SaysRoot cid bytes (Err (Missing c)) = ⊥
SaysRoot cid bytes (Err (BadBlock c role)) = IsNoNode cid c role bytes
SaysRoot cid bytes (Err (Clash c held other)) = ⊥
SaysRoot cid bytes (Err Memory) = ⊤

-- the parts stand below the root of the plan of these bytes, whatever metadata it has
pub record StandUnder (X : List ℕ → List ℕ) (p : Profile) (bytes : List ℕ) (parts : List Part) : Type 0 where
  pub under : List Held
  pub entry : (m : Meta) → (file_plan X p m bytes).entry ≡ (top_part X m parts).entry
  pub blocks : (m : Meta) → (file_plan X p m bytes).blocks ≡ under ++ top_held X m parts

-- the parts below the root of the file of these bytes, and its metadata
pub record IsRootOf (X : List ℕ → List ℕ) (p : Profile) (m : Meta) (bytes : List ℕ) (root : NodeParts) : Type 0 where
  pub meta_is : root.meta ≡ m
  pub stands : StandUnder X p bytes root.parts

-- the parts below the root of the file of these bytes are those of the height that the bytes need, cut from left to
-- right
pub record IsRootOver (X : List ℕ → List ℕ) (p : Profile) (m : Meta) (bytes : List ℕ) (root : NodeParts) : Type 0 where
  pub meta_is : root.meta ≡ m
  pub row : (rows : ℕ) → IsHeight p.chunk p.width (length bytes) rows
      → root.parts ≡ map (part_over X p.chunk p.width (rows - 1)) (groups (span p.chunk p.width (rows - 1)) bytes)
