use Rattle.std.proofs.Common.{◌≡◌, ◌+◌, take}
use Rattle.std.specs.List.{sum_by}
use Rattle.uf_tree.specs.Nodes.{InSlot, capped, item_entry}
use Rattle.uf_shard.proofs.nodes.tsize_over_slots.Given as goal

abbrev pub invariant-loop-placed : goal.invariant-loop-placed
invariant-loop-placed l = l.total ≡ capped (l.bytes + sum_by (λ (i : InSlot). (item_entry i.1).tsize) (take l.placed-index l.items))
