use Rattle.std.proofs.Common.{◌+◌, ◌*◌}
use Rattle.uf_shard.proofs.removing.+takes.Given as goal

abbrev pub decreases-items_without : goal.decreases-items_without
decreases-items_without g l = 3 * l.left + 2

abbrev pub decreases-take_from : goal.decreases-take_from
decreases-take_from g l = 3 * l.left + 1

abbrev pub decreases-item_without : goal.decreases-item_without
decreases-item_without g l = 3 * l.left
