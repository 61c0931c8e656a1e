-- Directories: one block, or a tree of shards (UnixFS v1, "Directory" and "HAMTDirectory").
use Rattle.std.specs.Prelude.{ℕ, ◌+◌, List, [], ◌∷◌, length, map, Bool, nat_lt, if◌then◌else◌}
use Rattle.std.specs.declared.option.Option.{Option}
use Rattle.std.specs.declared.option.Option.TheVariants.{Some}
use Rattle.std.specs.List.{sum_by}
use Rattle.uf_cid.specs.Blocks.{Held}
use Rattle.uf_cid.specs.Cid.{cid_of}
use Rattle.uf_cid.specs.declared.cid.Codec.TheVariants.{DagPb}
use Rattle.uf_tree.specs.declared.meta.Meta.{Meta}
use Rattle.uf_tree.specs.declared.profile.Profile.{Profile}
use Rattle.uf_tree.specs.FilePlan.{Plan}
use Rattle.uf_tree.specs.Nodes.{Named, node_entry, dir_block}
use Rattle.uf_tree.specs.ShardPlan.{shard, shard_plan, shard_trail}

-- the weight of a directory: for each name its length and 36
abbrev pub weight : List Named → ℕ
weight l = sum_by (λ (e : Named). length e.0 + 36) l

-- a directory is a shard tree exactly where its weight is greater than the threshold
abbrev pub is_sharded : Profile → List Named → Bool
is_sharded p l = nat_lt p.threshold (weight l)

module _ (X : List ℕ → List ℕ) (N : List ℕ → ℕ) where
  -- the plan of a directory in one block
  abbrev pub basic_dir : Meta → List Named → Plan
  basic_dir m l = record {
    entry = node_entry X (dir_block m l) (map (λ (e : Named). e.1) l);
    blocks = (cid_of X DagPb (dir_block m l), dir_block m l) ∷ [];
  }

  -- the entry and the own blocks of a directory; where two names share all slots it has no plan, and this stands in
  abbrev pub own_plan : Profile → Meta → List Named → Plan
  own_plan p m l = if is_sharded p l then shard X N 7 m l else basic_dir m l

  -- the plan of a directory: the shard at level 0 where it is sharded, else the one block
  abbrev pub dir_plan : Profile → Meta → List Named → Option Plan
  dir_plan p m l = if is_sharded p l then shard_plan X N 0 m l else Some (basic_dir m l)

  -- the blocks that decide a name: the one block, or those of the shards on the name's way
  abbrev pub trail : Profile → Meta → List Named → List ℕ → List Held
  trail p m l name = if is_sharded p l then shard_trail X N 7 m l name else (basic_dir m l).blocks
