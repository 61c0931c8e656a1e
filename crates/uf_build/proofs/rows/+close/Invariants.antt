use Rattle.std.proofs.Common.{◌-◌, length}
use Rattle.uf_build.proofs.rows.+close.Given as goal

abbrev pub decreases-close : goal.decreases-close
decreases-close g l = length l.rows.now.items - l.level
