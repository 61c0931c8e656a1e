use Rattle.std.proofs.Common.{◌≡◌, ◌<◌, ◌^◌, sum, take}
use Rattle.uf_tree.proofs.checks.total.Given as goal

abbrev pub invariant-loop-size : goal.invariant-loop-size
invariant-loop-size l = (l.sum ≡ sum (take l.size-index l.sizes)) × (l.sum < 2 ^ 63)
