use Rattle.std.proofs.Common.{ℕ, ◌<◌, ◌≤◌, slice_index}
use Rattle.uf_calls.proofs.nodes.lengths_from.Given as goal

abbrev pub invariant-loop-k : goal.invariant-loop-k
invariant-loop-k l = (l.next ≤ 184) × ((k : ℕ) → k < l.k → slice_index l.lengths k ≤ 184)
