use Rattle.std.proofs.Common.{◌≡◌, ℕ, List, drop}
use Rattle.std.specs.BTreeMap.{get}
use Rattle.std.specs.Option.{option_map}
use Rattle.std.specs.Ordering.{nat_cmp}
use Rattle.uf_tree.specs.ShardPlan.{same_hash, twins}
use Rattle.uf_shard.specs.Buckets.{AreHashed, pairs_of}
use Rattle.uf_shard.specs.Saving.{names_of}
use Rattle.uf_shard.proofs.Collisions.{first_of}
use Rattle.uf_shard.proofs.twins.first_twins.Given as goal

abbrev pub invariant-loop-at : goal.invariant-loop-at
invariant-loop-at l = record {
  first : (q : ℕ) → get nat_cmp l.first_behind q ≡ first_of q (drop l.at l.rows);
  found : (N : List ℕ → ℕ) → AreHashed N (drop l.at l.rows) → option_map names_of l.found ≡ twins (same_hash N) (pairs_of (drop l.at l.rows));
}
