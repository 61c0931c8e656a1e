use Rattle.std.proofs.Common.{◌≡◌, ◌++◌, drop, take}
use Rattle.std.specs.Option.{option_map}
use Rattle.uf_tree.specs.HeadReading.{line_at}
use Rattle.uf_tree.proofs.heads.line.Given as goal

abbrev pub invariant-loop-i : goal.invariant-loop-i
invariant-loop-i l = line_at l.bytes ≡ option_map (λ x. (take l.i l.bytes ++ x.0, x.1)) (line_at (drop l.i l.bytes))
