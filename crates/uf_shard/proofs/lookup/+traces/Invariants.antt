use Rattle.std.proofs.Common.{◌+◌, ◌*◌}
use Rattle.uf_shard.proofs.lookup.+traces.Given as goal

abbrev pub decreases-trace_from : goal.decreases-trace_from
decreases-trace_from g l = 2 * l.left + 1

abbrev pub decreases-trace_in : goal.decreases-trace_in
decreases-trace_in g l = 2 * l.left
