use Rattle.std.proofs.Common.{◌-◌, length}
use Rattle.uf_build.proofs.rows.+push.Given as goal

abbrev pub decreases-push : goal.decreases-push
decreases-push g l = length l.rows.now.items - l.level
