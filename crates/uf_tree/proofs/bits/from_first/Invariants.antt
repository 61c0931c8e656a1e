use Rattle.std.proofs.Common.{◌≡◌, drop}
use Rattle.uf_tree.specs.Nodes.{without_zeros}
use Rattle.uf_tree.proofs.bits.from_first.Given as goal

abbrev pub invariant-loop-i : goal.invariant-loop-i
invariant-loop-i l = without_zeros (drop l.i l.bytes) ≡ without_zeros l.bytes
