use Rattle.std.proofs.Common.{take}
use Rattle.std.specs.List.{AllByRecursion}
use Rattle.uf_tree.specs.Validity.{IsNamed}
use Rattle.uf_tree.proofs.checks.pairs_are_named.Given as goal

abbrev pub invariant-loop-pair : goal.invariant-loop-pair
invariant-loop-pair l = AllByRecursion IsNamed (take l.pair-index l.pairs)
