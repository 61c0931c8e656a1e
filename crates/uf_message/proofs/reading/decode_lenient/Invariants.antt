use Rattle.std.proofs.Common.{◌≡◌, length}
use Rattle.uf_varint.specs.Fields.{fields}
use Rattle.uf_message.specs.Reading.{message_reads}
use Rattle.uf_message.specs.Steps.{selection}
use Rattle.uf_message.proofs.Selections.{reads_on}
use Rattle.uf_message.proofs.reading.decode_lenient.Given as goal

abbrev pub invariant-loop-rest : goal.invariant-loop-rest
invariant-loop-rest l = reads_on (selection l.seen) (fields l.rest) ≡ message_reads l.bytes

abbrev pub decreases-loop-rest : goal.decreases-loop-rest
decreases-loop-rest l = length l.rest
