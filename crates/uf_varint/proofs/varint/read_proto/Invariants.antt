use Rattle.std.proofs.Common.{◌≡◌, ◌<◌, ◌-◌, ◌^◌, drop}
use Rattle.uf_varint.specs.Varint.{proto_within, read_proto_of}
use Rattle.uf_varint.proofs.Loops.{behind}
use Rattle.uf_varint.proofs.varint.read_proto.Given as goal

abbrev pub invariant-loop-i : goal.invariant-loop-i
invariant-loop-i l = record {
  scale : l.scale ≡ 128 ^ l.i;
  below : l.value < l.scale;
  read : behind l.value l.scale l.i (proto_within (9 - l.i) (drop l.i l.bytes)) ≡ read_proto_of l.bytes;
}
