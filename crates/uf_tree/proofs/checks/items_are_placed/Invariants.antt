use Rattle.std.proofs.Common.{take}
use Rattle.std.specs.List.{AllByRecursion}
use Rattle.uf_tree.specs.Validity.{IsInSlot}
use Rattle.uf_tree.proofs.checks.items_are_placed.Given as goal

abbrev pub invariant-loop-item : goal.invariant-loop-item
invariant-loop-item l = AllByRecursion IsInSlot (take l.item-index l.items)
