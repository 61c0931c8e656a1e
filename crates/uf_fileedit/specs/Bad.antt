-- Blocks that aren't canonical where a file is changed.
use Rattle.std.specs.Prelude.{◌≡◌, ◌⊎◌, ℕ, List, [], ◌∷◌, length, Some, None, ⊤}
use Rattle.std.specs.List.{Contains}
use Rattle.std.specs.declared.option.Option.{Option}
use Rattle.uf_cid.specs.declared.cid.Cid.{Cid}
use Rattle.uf_fileread.specs.Parts.{AreParts, parts_block}
use Rattle.uf_fileread.specs.declared.node_parts.NodeParts.{NodeParts}
use Rattle.uf_store.specs.Contents.{Told}
use Rattle.uf_store.specs.Keeping.{HoldsOne}
use Rattle.uf_store.specs.declared.store.Role.{Role}
use Rattle.uf_store.specs.declared.store.Role.TheVariants.{Directory, Shard, FileNode, Leaf}
use Rattle.uf_tree.specs.declared.nodes.Part.{Part}
use Rattle.uf_tree.specs.declared.profile.Profile.{Profile}
use Rattle.uf_tree.specs.Roles.{Below, FilePlace, IsCanonicalFileNode, IsCanonicalLeaf, Root}
use Rattle.uf_fileedit.specs.Planned.{IsSize, role_at}

-- the block has the CID's digest, and where the store tells, it is held under the CID
pub record IsUnder (hash : List ℕ → List ℕ) (told : Told) (cid : Cid) (bytes : List ℕ) : Type 0 where
  pub digest : hash bytes ≡ cid.digest
  pub is_held : HoldsOne told cid bytes

-- the root block of a file says that it has n bytes
pub record SaysWhole (hash : List ℕ → List ℕ) (p : Profile) (told : Told) (root : Cid) (whole : ℕ) : Type 0 where
  pub block : List ℕ
  pub is_under : IsUnder hash told root block
  pub says : IsSize p root.codec block whole

-- the CID where a way down from a root ends; the way's last part comes first
abbrev pub way_end : Cid → List Part → Cid
way_end root [] = root
way_end root (m ∷ way) = m.entry.cid

-- the size that the node above declares there, or at the root that of the whole file
abbrev pub way_size : ℕ → List Part → ℕ
way_size whole [] = whole
way_size whole (m ∷ way) = m.size

-- the place there: as many nodes are above it as the way has parts
abbrev pub place_at : ℕ → List Part → FilePlace
place_at whole [] = Root
place_at whole (m ∷ way) = Below (length (m ∷ way)) m.size whole

-- the node where a way ends is canonical at its place, and links this part
pub record IsLinked (hash : List ℕ → List ℕ) (p : Profile) (told : Told) (root : Cid) (whole : ℕ) (way : List Part)
    (part : Part) : Type 0 where
  pub parts : NodeParts
  pub valid : AreParts parts
  pub canonical : IsCanonicalFileNode (Some p) (place_at whole way) (parts_block parts)
  pub is_under : IsUnder hash told (way_end root way) (parts_block parts)
  pub among : Contains parts.parts part

-- each part of the way is linked by the node where the way to it ends
abbrev pub IsWay : (List ℕ → List ℕ) → Profile → Told → Cid → ℕ → List Part → Type 0
IsWay hash p told root whole [] = ⊤
IsWay hash p told root whole (m ∷ way) = IsLinked hash p told root whole way m × IsWay hash p told root whole way

-- a block that isn't canonical as the node at this place of a file of this profile, or as a leaf of the declared size
abbrev pub IsBadPlaced : Profile → FilePlace → Option ℕ → Role → List ℕ → Type 0
IsBadPlaced p place declared Directory bytes = ⊥
IsBadPlaced p place declared (Shard level) bytes = ⊥
IsBadPlaced p place declared FileNode bytes = IsCanonicalFileNode (Some p) place bytes → ⊥
IsBadPlaced p place declared Leaf bytes = IsCanonicalLeaf (Some p) declared bytes → ⊥

-- the block at the root isn't canonical there
pub record IsBadFirst (hash : List ℕ → List ℕ) (p : Profile) (told : Told) (root : Cid) (role : Role) (bytes : List ℕ)
    : Type 0 where
  pub role_is : role ≡ role_at root.codec
  pub is_under : IsUnder hash told root bytes
  pub bad : IsBadPlaced p Root None role bytes

-- the block where a way of canonical nodes ends isn't canonical there, in a file of as many bytes as its root says
pub record IsBadFurther (hash : List ℕ → List ℕ) (p : Profile) (told : Told) (root : Cid) (role : Role) (bytes : List ℕ)
    : Type 0 where
  pub whole : ℕ
  pub says : SaysWhole hash p told root whole
  pub way : List Part
  pub is_way : IsWay hash p told root whole way
  pub role_is : role ≡ role_at (way_end root way).codec
  pub is_under : IsUnder hash told (way_end root way) bytes
  pub bad : IsBadPlaced p (place_at whole way) (Some (way_size whole way)) role bytes

-- a block of the file with this root isn't canonical at the place that it has in the file
abbrev pub IsBadEdited : (List ℕ → List ℕ) → Profile → Told → Cid → Role → List ℕ → Type 0
IsBadEdited hash p told root role bytes =
    IsBadFirst hash p told root role bytes ⊎ IsBadFurther hash p told root role bytes
