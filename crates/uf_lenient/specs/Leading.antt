-- Where the links of blocks lead a reading.
use Rattle.std.specs.Prelude.{◌≡◌, ℕ, List, [], Contains, map, ⊤}
use Rattle.std.specs.List.{AllByRecursion}
use Rattle.std.specs.declared.option.Option.TheVariants.{Some}
use Rattle.std.specs.declared.result.Result.TheVariants.{Ok}
use Rattle.uf_cid.specs.Blocks.{Held, Lookup}
use Rattle.uf_cid.specs.declared.cid.Cid.{Cid}
use Rattle.uf_dagpb.specs.declared.node.Link.{Link}
use Rattle.uf_lenient.specs.declared.unixfs.Unixfs.{Unixfs}
use Rattle.uf_lenient.specs.declared.unixfs.Unixfs.TheVariants.{Directory, File, Other, OtherShard, Shard}
use Rattle.uf_lenient.specs.Unixfs.{unixfs_of}

-- the links of a block that a reading may follow
abbrev pub links_to_read : Unixfs → List Link
links_to_read (File meta bytes links) = links
links_to_read (Directory meta links) = links
links_to_read (Shard meta links) = links
links_to_read OtherShard = []
links_to_read Other = []

-- two maps hold the same under these CIDs, and each link of a block that is held there leads to one of them again
pub record AgreeAmong (left right : Lookup) (cids : List Cid) : Type 0 where
  pub same : (c : Cid) → Contains cids c → left c ≡ right c
  pub closed : (c : Cid) (block : List ℕ) (u : Unixfs) → Contains cids c → left c ≡ Some block
      → unixfs_of c block ≡ Ok u → AllByRecursion (λ (l : Link). Contains cids l.cid) (links_to_read u)

-- a reading follows the links of this block
abbrev pub IsFollowed : Unixfs → Type 0
IsFollowed (File meta bytes links) = ⊤
IsFollowed (Directory meta links) = ⊤
IsFollowed (Shard meta links) = ⊤
IsFollowed OtherShard = ⊥
IsFollowed Other = ⊥

-- a reading follows the links of the block, and each leads to one of these CIDs
pub record LeadsInto (cids : List Cid) (b : Held) : Type 0 where
  pub node : Unixfs
  pub says : unixfs_of b.0 b.1 ≡ Ok node
  pub followed : IsFollowed node
  pub links : AllByRecursion (λ (l : Link). Contains cids l.cid) (links_to_read node)

-- the CIDs of blocks
abbrev pub block_cids : List Held → List Cid
block_cids blocks = map (λ (b : Held). b.0) blocks
