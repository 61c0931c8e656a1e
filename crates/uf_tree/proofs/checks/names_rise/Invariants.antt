use Rattle.std.proofs.Common.{◌≡◌, ◌-◌, drop}
use Rattle.uf_tree.specs.Names.{names_cmp}
use Rattle.uf_tree.specs.Rising.{rises}
use Rattle.uf_tree.proofs.checks.names_rise.Given as goal

abbrev pub invariant-loop-i : goal.invariant-loop-i
invariant-loop-i l = rises names_cmp (drop (l.i - 1) l.pairs) ≡ rises names_cmp l.pairs
