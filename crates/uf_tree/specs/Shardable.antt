-- When a shard has a plan, level by level.
use Rattle.std.specs.Prelude.{ℕ, zero, suc, ◌-◌, ◌≤◌, List, length, ◌⊎◌}
use Rattle.uf_tree.specs.Nodes.{Named}
use Rattle.uf_tree.specs.ShardPlan.{bucket}

-- at level 7 a slot has one pair at most; at a level above it a slot has one pair at most, or pairs that have a plan
-- one level deeper
unfoldable pub HasShard : (List ℕ → ℕ) → ℕ → List Named → Type 0
HasShard N zero l = (s : ℕ) → length (bucket N 7 s l) ≤ 1
HasShard N (suc left) l = (s : ℕ) → (length (bucket N (6 - left) s l) ≤ 1) ⊎ HasShard N left (bucket N (6 - left) s l)
