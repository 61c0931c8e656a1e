use Rattle.std.proofs.Common.{length}
use Rattle.uf_plain.proofs.lies.+lie_of.Given as goal

abbrev pub decreases-lie_of : goal.decreases-lie_of
decreases-lie_of l = length l.source.now
