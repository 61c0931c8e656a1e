use Rattle.std.proofs.Common.{◌≡◌, length}
use Rattle.uf_varint.specs.Fields.{fields}
use Rattle.uf_dagpb.specs.Reading.{node_reads}
use Rattle.uf_dagpb.specs.Steps.{node_from}
use Rattle.uf_dagpb.proofs.reading.decode_lenient.Given as goal

abbrev pub invariant-loop-rest : goal.invariant-loop-rest
invariant-loop-rest l = node_from l.node (fields l.rest) ≡ node_reads l.bytes

abbrev pub decreases-loop-rest : goal.decreases-loop-rest
decreases-loop-rest l = length l.rest
