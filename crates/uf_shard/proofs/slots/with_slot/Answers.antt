use Rattle.std.proofs.Common.{List, ◌++◌, ◌∙◌, ap}
use Rattle.std.specs.FinMap.Entries.{where_key}
use Rattle.std.specs.Ordering.{nat_cmp}
use Rattle.std.specs.Prelude.{nat_lt}
use Rattle.uf_tree.specs.Nodes.{InSlot}
use Rattle.uf_shard.proofs.Setting.{set-parts}
use Rattle.uf_shard.proofs.slots.with_slot.Goals as goal

pub returns : goal.returns
returns c = set-parts c.args.slot c.args.item c.args.items.now _ _ _ c.requires (c.in_ok-push_below.ensures ∙ ap (λ (l : List InSlot). l ++ where_key nat_cmp (λ k. nat_lt k c.args.slot) c.args.items.now) c.new-changed.ensures) c.in_ok-push_item.ensures c.in_ok-push_above.ensures
