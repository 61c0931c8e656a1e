use Rattle.std.proofs.Common.{◌≡◌, ◌++◌, map, take}
use Rattle.uf_dagpb.specs.Spelling.{links_bytes}
use Rattle.uf_tree.specs.Nodes.{slot_link}
use Rattle.uf_tree.proofs.shard_codec.put_items.Given as goal

abbrev pub invariant-loop-placed : goal.invariant-loop-placed
invariant-loop-placed l = l.out ≡ l.initial.out ++ links_bytes (map slot_link (take l.placed-index l.items))
