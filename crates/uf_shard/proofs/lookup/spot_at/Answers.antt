use Rattle.std.proofs.Common.{ℕ, List, ap, ◌∙◌}
use Rattle.std.specs.FinMap.Entries.{find}
use Rattle.std.specs.Ordering.{nat_cmp}
use Rattle.uf_murmur.specs.Slots.{slot}
use Rattle.uf_tree.specs.Nodes.{InSlot}
use Rattle.uf_shard.specs.Spots.{spot_of}
use Rattle.uf_shard.proofs.Ways.{room_at}
use Rattle.uf_shard.proofs.lookup.spot_at.Goals as goal

pub returns-clause-says : goal.returns-clause-says
returns-clause-says g c = c.spot_in.ensures ∙ ap (λ (s : ℕ). spot_of c.args.name.now (find nat_cmp s c.as_slice.result.now)) c.slot_at-slot.ensures
    ∙ ap (λ (i : List InSlot). spot_of c.args.name.now (find nat_cmp (slot (g.N.NameHash.name64 c.args.name.now) c.args.level) i)) c.as_slice.ensures

pub returns-clause-room : goal.returns-clause-room
returns-clause-room g c = room_at g.N.NameHash.name64 (g.N.NameHash.name64 c.args.name.now) c.args.level c.slot_at-slot.result c.args.name.now _ _ _ c.requires.level c.as_slice.ensures c.requires.placed.placed.on_way c.spot_in.ensures
