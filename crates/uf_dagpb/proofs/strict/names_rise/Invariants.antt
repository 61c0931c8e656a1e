use Rattle.std.proofs.Common.{◌≡◌, ◌-◌, drop}
use Rattle.uf_dagpb.specs.Spelling.{are_sorted}
use Rattle.uf_dagpb.proofs.strict.names_rise.Given as goal

abbrev pub invariant-loop-i : goal.invariant-loop-i
invariant-loop-i l = are_sorted (drop (l.i - 1) l.links) ≡ are_sorted l.links
