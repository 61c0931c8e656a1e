-- When a block is canonical in the role in which it is read.
use Rattle.std.specs.Prelude.{◌≡◌, ◌≢◌, ℕ, zero, suc, ◌+◌, ◌-◌, ◌*◌, ◌<◌, ◌≤◌, min, List, [], ◌∷◌, ◌++◌, length, map, sum, replicate, Bool, false, IsTrue}
use Rattle.std.specs.declared.option.Option.{Option}
use Rattle.std.specs.declared.option.Option.TheVariants.{None, Some}
use Rattle.std.specs.List.{AllByRecursion, range_with_len}
use Rattle.uf_cid.specs.declared.cid.Codec.{Codec}
use Rattle.uf_cid.specs.declared.cid.Codec.TheVariants.{Raw, DagPb}
use Rattle.uf_dagpb.specs.declared.node.Link.{Link}
use Rattle.uf_murmur.specs.Slots.{slot}
use Rattle.uf_tree.specs.declared.meta.Meta.{Meta}
use Rattle.uf_tree.specs.declared.nodes.FileNode.{FileNode}
use Rattle.uf_tree.specs.declared.nodes.Item.TheVariants.{Leaf, Sub}
use Rattle.uf_tree.specs.declared.profile.Profile.{Profile}
use Rattle.uf_tree.specs.DirPlan.{weight}
use Rattle.uf_tree.specs.FilePlan.{groups}
use Rattle.uf_tree.specs.FileSub.{span, IsFileHeight, IsHeight}
use Rattle.uf_tree.specs.Metas.{is_meta, none}
use Rattle.uf_tree.specs.Nodes.{Named, InSlot, file_block, dir_block, shard_block}
use Rattle.uf_tree.specs.Validity.{IsDirectory, IsShard, IsFileNode}

-- the fact, where there is a value
abbrev pub WithSome : {A : Type 0} → Option A → (A → Type 0) → Type 0
WithSome None P = Unit {0}
WithSome (Some a) P = P a

-- the block of a basic directory; where a profile is known, one that isn't to be sharded
pub record IsBasicBlock (profile : Option Profile) (bytes : List ℕ) : Type 0 where
  pub meta : Meta
  pub pairs : List Named
  pub good : IsTrue (is_meta meta)
  pub valid : IsDirectory pairs
  pub light : WithSome profile (λ p. weight pairs ≤ p.threshold)
  pub is : bytes ≡ dir_block meta pairs

-- the block of a shard
pub record IsShardBlock (bytes : List ℕ) : Type 0 where
  pub meta : Meta
  pub items : List InSlot
  pub good : IsTrue (is_meta meta)
  pub valid : IsShard items
  pub is : bytes ≡ shard_block meta items

-- the block of a file's node
pub record IsNodeBlock (bytes : List ℕ) : Type 0 where
  pub node : FileNode
  pub valid : IsFileNode node
  pub is : bytes ≡ file_block node

-- a block where a directory is looked for: a basic directory's, a shard's, or, where it needn't be a directory, a
-- file's node
pub data IsCanonicalDirectory (profile : Option Profile) (required : Bool) (bytes : List ℕ) : Type 0 where
  Basic : IsBasicBlock profile bytes → IsCanonicalDirectory profile required bytes
  Sharded : IsShardBlock bytes → IsCanonicalDirectory profile required bytes
  FileRoot : required ≡ false → IsNodeBlock bytes → IsCanonicalDirectory profile required bytes

-- a name's slots from level 0 on are the slots on the way to it, and an item below level 7 may be a shard
abbrev pub IsOnWay : (List ℕ → ℕ) → List ℕ → InSlot → Type 0
IsOnWay N way p = elim p.1 [
  | Leaf name e ↦ map (slot (N name)) (range_with_len 0 (length way + 1)) ≡ way ++ p.0 ∷ []
  | Sub e ↦ length way ≢ 7
]

-- a shard after these slots may carry metadata: one of level 0 any, and one below it none
abbrev pub MayCarry : List ℕ → Meta → Type 0
MayCarry [] meta = Unit {0}
MayCarry (s ∷ way) meta = meta ≡ none

-- a block where a shard is looked for, after a slot for each level above it
pub record IsCanonicalShard (N : List ℕ → ℕ) (way : List ℕ) (bytes : List ℕ) : Type 0 where
  pub meta : Meta
  pub items : List InSlot
  pub good : IsTrue (is_meta meta)
  pub carries : MayCarry way meta
  pub valid : IsShard items
  pub on_way : AllByRecursion (IsOnWay N way) items
  pub is : bytes ≡ shard_block meta items

-- where a node of a file is: at the root, or below this many nodes, with the size that the node above declares, in a
-- file of n bytes
pub data FilePlace : Type 0 where
  Root : FilePlace
  Below : (above declared whole : ℕ) → FilePlace

-- how many nodes of the file are above a place
abbrev pub nodes_above : FilePlace → ℕ
nodes_above Root = 0
nodes_above (Below above declared whole) = above

-- only the node that has no node of its file above it carries metadata
abbrev pub CarriesAt : FilePlace → Meta → Type 0
CarriesAt Root meta = Unit {0}
CarriesAt (Below zero declared whole) meta = Unit {0}
CarriesAt (Below (suc above) declared whole) meta = meta ≡ none

-- a file has this height, where the node at this place has this metadata and n bytes below it
abbrev pub IsHeightAt : Profile → FilePlace → Meta → ℕ → ℕ → Type 0
IsHeightAt p Root meta total height = IsFileHeight p.chunk p.width meta total height
IsHeightAt p (Below zero declared whole) meta total height = IsFileHeight p.chunk p.width meta whole height
IsHeightAt p (Below (suc above) declared whole) meta total height = IsHeight p.chunk p.width whole height

-- the node at a place has the size that the node above declares
abbrev pub IsDeclared : FilePlace → ℕ → Type 0
IsDeclared Root total = Unit {0}
IsDeclared (Below above declared whole) total = total ≡ declared

-- the sizes of the parts of a node over n bytes, whose parts have this height
abbrev pub part_sizes : Profile → ℕ → ℕ → List ℕ
part_sizes p height total = map (λ (g : List ℕ). length g) (groups (span p.chunk p.width height) (replicate total 0))

-- what parts of this height are: leaves are raw blocks
abbrev pub part_codec : ℕ → Codec
part_codec zero = Raw
part_codec (suc height) = DagPb

-- what the balanced layout gives to a part of this height in a file of n bytes: after whole parts, as much as
-- fits, or at the end of the file what is left
pub record IsSpanned (p : Profile) (height whole size : ℕ) : Type 0 where
  pub before : ℕ
  pub inside : before * span p.chunk p.width height < whole
  pub is : size ≡ min (span p.chunk p.width height) (whole - before * span p.chunk p.width height)

-- a node over parts of this height has its place among the nodes of its row
abbrev pub HasPlace : Profile → ℕ → FilePlace → Type 0
HasPlace p below Root = Unit {0}
HasPlace p below (Below above declared whole) = IsSpanned p (suc below) whole declared

-- the node has the size, the parts' sizes and the codecs that the balanced layout gives at its place
pub record IsPlanned (place : FilePlace) (node : FileNode) (p : Profile) : Type 0 where
  pub below : ℕ
  pub height : IsHeightAt p place node.meta (sum node.sizes) (nodes_above place + suc below)
  pub has_place : HasPlace p below place
  pub sizes : node.sizes ≡ part_sizes p below (sum node.sizes)
  pub codecs : AllByRecursion (λ (l : Link). l.cid.codec ≡ part_codec below) node.parts

-- a block where a node of a file is looked for: at most 22 on a path, with metadata at the root alone, of the declared
-- size, and as the layout has it where a profile is known
pub record IsCanonicalFileNode (profile : Option Profile) (place : FilePlace) (bytes : List ℕ) : Type 0 where
  pub node : FileNode
  pub valid : IsFileNode node
  pub few : nodes_above place < 22
  pub carries : CarriesAt place node.meta
  pub declared : IsDeclared place (sum node.sizes)
  pub planned : WithSome profile (IsPlanned place node)
  pub is : bytes ≡ file_block node

-- a block where a leaf is looked for: of the size that the node above declares, and no longer than a piece where a
-- profile is known
pub record IsCanonicalLeaf (profile : Option Profile) (declared : Option ℕ) (bytes : List ℕ) : Type 0 where
  pub size : WithSome declared (λ n. length bytes ≡ n)
  pub short : WithSome profile (λ p. length bytes ≤ p.chunk)
