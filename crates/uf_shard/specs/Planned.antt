-- The CID of a shard plan, and of a shard.
use Rattle.std.specs.Prelude.{◌≡◌, ℕ, List, Some, IsTrue}
use Rattle.uf_cid.specs.Cid.{cid_of}
use Rattle.uf_cid.specs.declared.cid.Cid.{Cid}
use Rattle.uf_cid.specs.declared.cid.Codec.TheVariants.{DagPb}
use Rattle.uf_tree.specs.declared.meta.Meta.{Meta}
use Rattle.uf_tree.specs.FilePlan.{Plan}
use Rattle.uf_tree.specs.Metas.{is_meta}
use Rattle.uf_tree.specs.Nodes.{Named}
use Rattle.uf_tree.specs.Roles.{IsShardBlock}
use Rattle.uf_tree.specs.ShardPlan.{shard_plan}
use Rattle.uf_tree.specs.Validity.{IsDirectory}

-- the CID is that of the shard plan at level 0 of a directory with this metadata and these pairs
pub record IsPlanned (X : List ℕ → List ℕ) (N : List ℕ → ℕ) (root : Cid) (m : Meta) (l : List Named) : Type 0 where
  pub good : IsTrue (is_meta m)
  pub valid : IsDirectory l
  pub plan : Plan
  pub is_plan : shard_plan X N 0 m l ≡ Some plan
  pub cid : root ≡ plan.entry.cid

-- the CID is that of a block that is a shard's
pub record IsShardCid (hash : List ℕ → List ℕ) (cid : Cid) : Type 0 where
  pub block : List ℕ
  pub canonical : IsShardBlock block
  pub same : cid ≡ cid_of hash DagPb block
