use Rattle.std.proofs.Common.{◌≡◌, map, take}
use Rattle.std.specs.List.{AllByRecursion}
use Rattle.uf_tree.specs.Nodes.{slot_link}
use Rattle.uf_tree.specs.Validity.{IsInSlot}
use Rattle.uf_tree.proofs.shard_read.items_of_links.Given as goal

abbrev pub invariant-loop-link : goal.invariant-loop-link
invariant-loop-link l = record {
  each : AllByRecursion IsInSlot l.items;
  read : map slot_link l.items ≡ take l.link-index l.links;
}
