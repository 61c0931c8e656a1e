use Rattle.std.proofs.Common.{◌≡◌, ◌≤◌, ℕ, length}
use Rattle.uf_gen.specs.Grown.{left_files}
use Rattle.uf_gen.proofs.sums.left_count.Given as goal

abbrev pub invariant-loop-i : goal.invariant-loop-i
invariant-loop-i l = ((seed : ℕ) → l.count ≡ length (left_files seed l.i)) × (l.count ≤ l.i)
