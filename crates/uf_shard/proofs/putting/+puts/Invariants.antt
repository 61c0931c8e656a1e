use Rattle.std.proofs.Common.{◌+◌, ◌*◌}
use Rattle.uf_shard.proofs.putting.+puts.Given as goal

abbrev pub decreases-items_with : goal.decreases-items_with
decreases-items_with g l = 4 * l.left + 3

abbrev pub decreases-put_into : goal.decreases-put_into
decreases-put_into g l = 4 * l.left + 2

abbrev pub decreases-item_with : goal.decreases-item_with
decreases-item_with g l = 4 * l.left + 1

abbrev pub decreases-item_beside : goal.decreases-item_beside
decreases-item_beside g l = 4 * l.left
