-- A file from the root down: the same parts as the rows give, read by height.
use Rattle.std.specs.Prelude.{◌≡◌, ◌↔◌, ℕ, zero, suc, ◌*◌, ◌<◌, ◌≤◌, List, [], ◌∷◌, ◌++◌, map, length, if◌then◌else◌}
use Rattle.std.specs.List.{flat_map}
use Rattle.uf_cid.specs.Blocks.{Held, Lookup, Holds, Agrees}
use Rattle.uf_tree.specs.declared.meta.Meta.{Meta}
use Rattle.uf_tree.specs.declared.nodes.Part.{Part}
use Rattle.uf_tree.specs.declared.profile.Profile.{Profile}
use Rattle.uf_tree.specs.FilePlan.{Plan, groups, row, rows_held, leaf_part, leaf_held, node_part, node_held, root_part, root_held, top_part, top_held}
use Rattle.uf_tree.specs.Metas.{is_bare}

-- how many bytes a part of this height has at most, in pieces of c and nodes of w links
unfoldable pub span : ℕ → ℕ → ℕ → ℕ
span c w zero = c
span c w (suc k) = w * span c w k

-- the height of n bytes: the least at which they fit
pub record IsHeight (c w n height : ℕ) : Type 0 where
  pub fits : n ≤ span c w height
  pub least : (k : ℕ) → k < height → span c w k < n

-- the part of this height over these bytes
unfoldable pub part_over : (List ℕ → List ℕ) → ℕ → ℕ → ℕ → List ℕ → Part
part_over X c w zero bytes = leaf_part X bytes
part_over X c w (suc k) bytes = node_part X (map (part_over X c w k) (groups (span c w k) bytes))

-- its own block, and then those below it from left to right
unfoldable pub blocks_over : (List ℕ → List ℕ) → ℕ → ℕ → ℕ → List ℕ → List Held
unfolding part_over
blocks_over X c w zero bytes = leaf_held X bytes ∷ []
blocks_over X c w (suc k) bytes =
    node_held X (map (part_over X c w k) (groups (span c w k) bytes))
    ∷ flat_map (blocks_over X c w k) (groups (span c w k) bytes)

-- the lowest height that a file may have: metadata stands in a node, also over a single piece
abbrev pub lowest : Meta → ℕ
lowest meta = if is_bare meta then 0 else 1

-- the height of a file of n bytes: the least from the lowest on at which they fit
pub record IsFileHeight (c w : ℕ) (meta : Meta) (n height : ℕ) : Type 0 where
  pub fits : n ≤ span c w height
  pub enough : lowest meta ≤ height
  pub least : (k : ℕ) → lowest meta ≤ k → k < height → span c w k < n

-- the whole file of this height: the part over its bytes, whose node at the root carries the metadata
unfoldable pub whole_part : (List ℕ → List ℕ) → ℕ → ℕ → Meta → ℕ → List ℕ → Part
unfolding part_over
whole_part X c w meta zero bytes = leaf_part X bytes
whole_part X c w meta (suc k) bytes = root_part X meta (map (part_over X c w k) (groups (span c w k) bytes))

-- its root block, and then those below it from left to right
unfoldable pub whole_blocks : (List ℕ → List ℕ) → ℕ → ℕ → Meta → ℕ → List ℕ → List Held
unfolding blocks_over
whole_blocks X c w meta zero bytes = leaf_held X bytes ∷ []
whole_blocks X c w meta (suc k) bytes =
    root_held X meta (map (part_over X c w k) (groups (span c w k) bytes))
    ∷ flat_map (blocks_over X c w k) (groups (span c w k) bytes)

-- a row of the file is the first that is one group, and what stands over it is the plan
pub record IsTop (X : List ℕ → List ℕ) (p : Profile) (meta : Meta) (bytes : List ℕ) (plan : Plan)
    (last : ℕ) : Type 0 where
  pub one : length (row X p bytes last) ≤ p.width
  pub first : (k : ℕ) → k < last → p.width < length (row X p bytes k)
  pub entry : plan.entry ≡ (top_part X meta (row X p bytes last)).entry
  pub blocks : plan.blocks ≡ rows_held X p bytes last ++ top_held X meta (row X p bytes last)

-- the plan is that of the whole file of this height
pub record IsRooted (X : List ℕ → List ℕ) (p : Profile) (meta : Meta) (bytes : List ℕ) (plan : Plan)
    (height : ℕ) : Type 0 where
  pub least : IsFileHeight p.chunk p.width meta (length bytes) height
  pub entry : plan.entry ≡ (whole_part X p.chunk p.width meta height bytes).entry
  pub holds : (held : Lookup) → Holds held plan.blocks ↔ Holds held (whole_blocks X p.chunk p.width meta height bytes)
  pub agrees : (held : Lookup) → Agrees held plan.blocks
      ↔ Agrees held (whole_blocks X p.chunk p.width meta height bytes)
