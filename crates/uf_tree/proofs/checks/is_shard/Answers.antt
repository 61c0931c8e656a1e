use Rattle.std.proofs.Common.{◌≡◌, false, rules}
use Rattle.uf_tree.proofs.Checked.{shard_iff}
use Rattle.uf_tree.proofs.checks.is_shard.Goals as goal

pub returns-then-not-is_empty : goal.returns-then-not-is_empty
returns-then-not-is_empty c =
    let some : c.is_empty.result ≡ false = search rules in
    shard_iff c.args.items.now c.as_slice-slots.result.now c.is_empty.result c.slots_rise.result c.as_slice-slots.ensures c.items_are_placed.ensures c.is_empty.ensures some c.slots_rise.ensures
