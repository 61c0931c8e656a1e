-- The root blocks of files and of directories.
use Rattle.std.specs.Prelude.{◌≡◌, ◌≤◌, ℕ, zero, suc, List, length, map, IsTrue, if◌then◌else◌}
use Rattle.uf_cid.specs.Blocks.{Held}
use Rattle.uf_cid.specs.Bytes.{IsBytes}
use Rattle.uf_cid.specs.Cid.{cid_of}
use Rattle.uf_cid.specs.declared.cid.Cid.{Cid}
use Rattle.uf_cid.specs.declared.cid.Codec.TheVariants.{DagPb}
use Rattle.uf_tree.specs.declared.meta.Meta.{Meta}
use Rattle.uf_tree.specs.declared.profile.Profile.{Profile}
use Rattle.uf_tree.specs.DirPlan.{is_sharded}
use Rattle.uf_tree.specs.FilePlan.{file_plan, groups, leaf_held, root_held}
use Rattle.uf_tree.specs.FileSub.{IsRooted, part_over, span}
use Rattle.uf_tree.specs.Metas.{is_meta, none}
use Rattle.uf_tree.specs.Nodes.{Named, dir_block}
use Rattle.uf_tree.specs.Profiles.{is_profile, most_bytes}
use Rattle.uf_tree.specs.ShardPlan.{shard, shard_held, shard_items}

-- the root block of the whole file of this height
abbrev pub root_over : (List ℕ → List ℕ) → ℕ → ℕ → Meta → ℕ → List ℕ → Held
root_over X c w meta zero bytes = leaf_held X bytes
root_over X c w meta (suc k) bytes = root_held X meta (map (part_over X c w k) (groups (span c w k) bytes))

-- the CID and the block are those at the root of the plan of this metadata and these bytes, which a file of this
-- profile may have
pub record IsFileRoot (X : List ℕ → List ℕ) (p : Profile) (meta : Meta) (bytes : List ℕ) (cid : Cid)
    (root : Held) : Type 0 where
  pub profile : IsTrue (is_profile p)
  pub good : IsTrue (is_meta meta)
  pub are_bytes : IsBytes bytes
  pub few : length bytes ≤ most_bytes p
  pub height : ℕ
  pub rooted : IsRooted X p meta bytes (file_plan X p meta bytes) height
  pub cid_is : cid ≡ (file_plan X p meta bytes).entry.cid
  pub block_is : root ≡ root_over X p.chunk p.width meta height bytes

-- the block at the root of a directory's plan: the shard of level 0, or the one block
abbrev pub dir_root : (List ℕ → List ℕ) → (List ℕ → ℕ) → Profile → Meta → List Named → Held
dir_root X N p m l = if is_sharded p l then shard_held X N m (shard_items N (shard X N 6 none) 0 l)
    else (cid_of X DagPb (dir_block m l), dir_block m l)
