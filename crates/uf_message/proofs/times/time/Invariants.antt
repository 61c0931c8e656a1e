use Rattle.std.proofs.Common.{◌≡◌, length}
use Rattle.uf_varint.specs.Fields.{fields}
use Rattle.uf_message.specs.Reading.{mtime_reads}
use Rattle.uf_message.proofs.TimeSteps.{time_on}
use Rattle.uf_message.proofs.times.time.Given as goal

abbrev pub invariant-loop-rest : goal.invariant-loop-rest
invariant-loop-rest l = time_on l.seen (fields l.rest) ≡ mtime_reads l.bytes

abbrev pub decreases-loop-rest : goal.decreases-loop-rest
decreases-loop-rest l = length l.rest
