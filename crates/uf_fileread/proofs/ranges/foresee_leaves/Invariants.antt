use Rattle.std.proofs.Common.{◌≤◌}
use Rattle.uf_fileread.proofs.ranges.foresee_leaves.Given as goal

abbrev pub invariant-loop-part : goal.invariant-loop-part
invariant-loop-part g l =
    (l.count ≤ 8) ×
    (goal.iterator-loop-part g).can_next l.part-iterator ×
    (goal.iterator-loop-part g).is_finite l.part-iterator
