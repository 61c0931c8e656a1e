use Rattle.std.proofs.Common.{take}
use Rattle.std.specs.List.{AllByRecursion}
use Rattle.uf_tree.specs.Validity.{IsPartLink}
use Rattle.uf_tree.proofs.checks.are_parts.Given as goal

abbrev pub invariant-loop-link : goal.invariant-loop-link
invariant-loop-link l = AllByRecursion IsPartLink (take l.link-index l.links)
