use Rattle.std.proofs.Common.{◌≡◌, ◌≤◌, ◌*◌}
use Rattle.uf_gen.specs.Grown.{left_size}
use Rattle.uf_gen.proofs.sums.left_size.Given as goal

abbrev pub invariant-loop-i : goal.invariant-loop-i
invariant-loop-i l = (l.size ≡ left_size l.fn.seed l.i) × (l.size ≤ 16384 * l.i)
