use Rattle.std.proofs.Common.{◌≡◌, ◌-◌, drop}
use Rattle.std.specs.Ordering.{nat_cmp}
use Rattle.uf_tree.specs.Rising.{rises}
use Rattle.uf_tree.proofs.checks.slots_rise.Given as goal

abbrev pub invariant-loop-i : goal.invariant-loop-i
invariant-loop-i l = rises nat_cmp (drop (l.i - 1) l.items) ≡ rises nat_cmp l.items
