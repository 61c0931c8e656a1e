-- Shards on the way of a name.
use Rattle.std.specs.Prelude.{◌≡◌, ◌≤◌, ◌-◌, ℕ, List, length, ⊤, Some, None, IfSome, IsTrue}
use Rattle.std.specs.declared.result.Result.{Result}
use Rattle.std.specs.declared.result.Result.TheVariants.{Ok, Err}
use Rattle.std.specs.List.{AllByRecursion}
use Rattle.uf_cid.specs.declared.cid.Cid.{Cid}
use Rattle.uf_store.specs.Calls.{OnlyReads}
use Rattle.uf_store.specs.Contents.{held_at}
use Rattle.uf_store.specs.Seen.{Seen}
use Rattle.uf_store.specs.declared.store.StoreFault.{StoreFault}
use Rattle.uf_store.specs.declared.store.StoreFault.TheVariants.{Failed, Damaged, Missing, BadBlock, Clash, Memory}
use Rattle.uf_store.specs.declared.store.Role.{Role}
use Rattle.uf_store.specs.declared.store.Role.TheVariants.{Shard}
use Rattle.uf_tree.specs.declared.meta.Meta.{Meta}
use Rattle.uf_tree.specs.declared.nodes.ShardNode.{ShardNode}
use Rattle.uf_tree.specs.Codecs.{shard_node_block}
use Rattle.uf_tree.specs.Metas.{is_meta}
use Rattle.uf_tree.specs.Nodes.{Named}
use Rattle.uf_tree.specs.Roles.{IsCanonicalShard, MayCarry}
use Rattle.uf_tree.specs.ShardPlan.{shard}
use Rattle.uf_tree.specs.Shardable.{HasShard}
use Rattle.uf_tree.specs.Validity.{IsDirectory}
use Rattle.uf_shard.specs.Placed.{IsBadOnWay, IsPlacedNode, way}

-- the CID is that of the shard with this metadata and these pairs, which is reached on the way of a hash with n levels
-- left
pub record IsReached (X : List ℕ → List ℕ) (N : List ℕ → ℕ) (hash left : ℕ) (root : Cid) (m : Meta) (l : List Named)
    : Type 0 where
  pub good : IsTrue (is_meta m)
  pub carries : MayCarry (way hash (7 - left)) m
  pub valid : IsDirectory l
  pub some : 1 ≤ length l
  pub apart : HasShard N left l
  pub along : AllByRecursion (λ (e : Named). way (N e.0) (7 - left) ≡ way hash (7 - left)) l
  pub cid : root ≡ (shard X N left m l).entry.cid

-- the block was found, and it is this shard on the way of a hash
pub record HasPlaced (N : List ℕ → ℕ) (hash level : ℕ) (cid : Cid) (before : Seen) (node : ShardNode) : Type 0 where
  pub is : IsPlacedNode N (way hash level) node
  pub is_held : IfSome before.told (λ t. held_at t cid ≡ Some (shard_node_block node))

-- the block was found, it is this shard of level 0, and since then calls have read alone
pub record HasFirst (X : List ℕ → List ℕ) (N : List ℕ → ℕ) (hash : ℕ) (root : Cid) (node : ShardNode)
    (before now : Seen) : Type 0 where
  pub has : HasPlaced N hash 0 root before node
  pub reads : OnlyReads X (IsBadOnWay N hash) None before now

-- the block was found, and isn't canonical as the shard of this level
pub record IsBadThere (N : List ℕ → ℕ) (hash level : ℕ) (cid : Cid) (r : Role) (before now : Seen) : Type 0 where
  pub role : r ≡ Shard level
  pub held : IfSome before.told (λ t. held_at t cid ≡ Some now.lent)
  pub bad : IsCanonicalShard N (way hash level) now.lent → ⊥

-- a shard was loaded, or its block is lost or bad, or the store failed
abbrev pub LoadsPlaced : (List ℕ → ℕ) → ℕ → ℕ → Cid → Seen → Seen → Result ShardNode StoreFault → Type 0
LoadsPlaced N hash level cid before now (Ok node) = HasPlaced N hash level cid before node
LoadsPlaced N hash level cid before now (Err Failed) = ⊤
LoadsPlaced N hash level cid before now (Err (Damaged c)) = ⊤
LoadsPlaced N hash level cid before now (Err (Missing c)) = (c ≡ cid) × IfSome before.told (λ t. held_at t cid ≡ None)
LoadsPlaced N hash level cid before now (Err (BadBlock c role)) = IsBadThere N hash level cid role before now
LoadsPlaced N hash level cid before now (Err (Clash c held bytes)) = ⊥
LoadsPlaced N hash level cid before now (Err Memory) = ⊤
