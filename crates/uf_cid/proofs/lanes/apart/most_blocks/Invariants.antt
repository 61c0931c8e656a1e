use Rattle.std.proofs.Common.{ℕ, ◌+◌, ◌<◌, ◌≤◌, slice_index}
use Rattle.uf_cid.proofs.lanes.apart.most_blocks.Given as goal

abbrev pub invariant-loop-end : goal.invariant-loop-end
invariant-loop-end l = (l.longest + 72 ≤ l.size) × ((k : ℕ) → k < l.end-index → slice_index l.lengths k ≤ l.longest)
