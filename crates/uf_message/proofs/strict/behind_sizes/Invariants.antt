use Rattle.std.proofs.Common.{◌≡◌, drop}
use Rattle.std.specs.Prelude.{flat_map}
use Rattle.uf_varint.specs.Fields.{number_field}
use Rattle.uf_message.specs.Left.{left}
use Rattle.uf_message.proofs.strict.behind_sizes.Given as goal

abbrev pub invariant-loop-size : goal.invariant-loop-size
invariant-loop-size l = left (flat_map (number_field 0x20) (drop l.size-index l.sizes)) l.rest ≡ left (flat_map (number_field 0x20) l.sizes) l.bytes
