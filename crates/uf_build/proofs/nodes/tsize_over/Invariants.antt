use Rattle.std.proofs.Common.{◌≡◌, ◌+◌, length, take}
use Rattle.std.specs.List.{sum_by}
use Rattle.uf_tree.specs.Nodes.{capped}
use Rattle.uf_build.proofs.nodes.tsize_over.Given as goal

abbrev pub invariant-loop-part : goal.invariant-loop-part
invariant-loop-part l = l.total ≡ capped (length l.bytes + sum_by (λ m. m.entry.tsize) (take l.part-index l.parts))
