use Rattle.std.proofs.Common.{◌≡◌, ◌++◌, take}
use Rattle.std.specs.List.{flat_map}
use Rattle.uf_varint.specs.Fields.{number_field}
use Rattle.uf_message.proofs.writing.put_sizes.Given as goal

abbrev pub invariant-loop-size : goal.invariant-loop-size
invariant-loop-size l = l.out ≡ l.initial.out ++ flat_map (number_field 0x20) (take l.size-index l.sizes)
