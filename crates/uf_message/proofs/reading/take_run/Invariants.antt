use Rattle.std.proofs.Common.{◌≡◌, length}
use Rattle.uf_message.specs.Reading.{run}
use Rattle.uf_message.specs.Steps.{added}
use Rattle.uf_message.proofs.reading.take_run.Given as goal

abbrev pub invariant-loop-rest : goal.invariant-loop-rest
invariant-loop-rest l = added l.sizes (run l.rest) ≡ added l.initial.sizes (run l.bytes)

abbrev pub decreases-loop-rest : goal.decreases-loop-rest
decreases-loop-rest l = length l.rest
