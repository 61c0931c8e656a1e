-- Values that blocks can spell: digests of 32 bytes, numbers of 64 bits, good names and slots below 256.
use Rattle.std.specs.Prelude.{◌≡◌, ℕ, ◌^◌, ◌<◌, ◌≤◌, List, [], length, sum, IsTrue}
use Rattle.std.specs.List.{AllByRecursion}
use Rattle.std.specs.Ordering.{nat_cmp}
use Rattle.std.specs.FinMap.Entries.{is_sorted}
use Rattle.uf_cid.specs.Bytes.{IsBytes}
use Rattle.uf_cid.specs.Read.{IsCid}
use Rattle.uf_dagpb.specs.declared.node.Link.{Link}
use Rattle.uf_tree.specs.declared.nodes.Entry.{Entry}
use Rattle.uf_tree.specs.declared.nodes.DirNode.{DirNode}
use Rattle.uf_tree.specs.declared.nodes.FileNode.{FileNode}
use Rattle.uf_tree.specs.declared.nodes.Item.{Item}
use Rattle.uf_tree.specs.declared.nodes.Item.TheVariants.{Leaf, Sub}
use Rattle.uf_tree.specs.declared.nodes.ShardNode.{ShardNode}
use Rattle.uf_tree.specs.Metas.{is_meta}
use Rattle.uf_tree.specs.Names.{names_cmp, is_name}
use Rattle.uf_tree.specs.Nodes.{Named, InSlot}

-- a block hash gives 32 bytes
pub record IsHash (X : List ℕ → List ℕ) : Type 0 where
  pub size : (block : List ℕ) → length (X block) ≡ 32
  pub are_bytes : (block : List ℕ) → IsBytes (X block)

-- a CID, and a Tsize of 64 bits
pub record IsEntry (e : Entry) : Type 0 where
  pub cid : IsCid e.cid
  pub tsize : e.tsize < 2 ^ 64

-- a good name and an entry
pub record IsNamed (e : Named) : Type 0 where
  pub name : IsTrue (is_name e.0)
  pub entry : IsEntry e.1

-- the pairs of a directory: good names, strictly rising in byte order, and entries
pub record IsDirectory (l : List Named) : Type 0 where
  pub sorted : IsTrue (is_sorted names_cmp l)
  pub each : AllByRecursion IsNamed l

-- a slot has a good name and its entry, or the entry of a shard
abbrev pub IsItem : Item → Type 0
IsItem (Leaf name e) = IsNamed (name, e)
IsItem (Sub e) = IsEntry e

-- a slot below 256, and what it has
pub record IsInSlot (p : InSlot) : Type 0 where
  pub slot : p.0 < 256
  pub item : IsItem p.1

-- the slots of a shard: at least one, strictly rising
pub record IsShard (items : List InSlot) : Type 0 where
  pub some : 1 ≤ length items
  pub sorted : IsTrue (is_sorted nat_cmp items)
  pub each : AllByRecursion IsInSlot items

-- a link of a file's node: no name, a CID, and a Tsize of 64 bits
pub record IsPartLink (l : Link) : Type 0 where
  pub name : l.name ≡ []
  pub cid : IsCid l.cid
  pub tsize : l.tsize < 2 ^ 64

-- a node of a file: 1 to 1024 links, a size for each, together less than 2 ^ 63 bytes, and its metadata
pub record IsFileNode (node : FileNode) : Type 0 where
  pub some : 1 ≤ length node.parts
  pub few : length node.parts ≤ 1024
  pub sizes : length node.sizes ≡ length node.parts
  pub total : sum node.sizes < 2 ^ 63
  pub each : AllByRecursion IsPartLink node.parts
  pub meta : IsTrue (is_meta node.meta)

-- a basic directory: its pairs, and its metadata
pub record IsDirNode (node : DirNode) : Type 0 where
  pub pairs : IsDirectory node.pairs
  pub meta : IsTrue (is_meta node.meta)

-- a shard: its slots, and its metadata
pub record IsShardNode (node : ShardNode) : Type 0 where
  pub items : IsShard node.items
  pub meta : IsTrue (is_meta node.meta)
