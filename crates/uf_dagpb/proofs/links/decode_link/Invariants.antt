use Rattle.std.proofs.Common.{◌≡◌, length}
use Rattle.uf_varint.specs.Fields.{fields}
use Rattle.uf_dagpb.specs.Steps.{link_from, link_reads}
use Rattle.uf_dagpb.proofs.links.decode_link.Given as goal

abbrev pub invariant-loop-rest : goal.invariant-loop-rest
invariant-loop-rest l = link_from l.parts (fields l.rest) ≡ link_reads l.bytes

abbrev pub decreases-loop-rest : goal.decreases-loop-rest
decreases-loop-rest l = length l.rest
