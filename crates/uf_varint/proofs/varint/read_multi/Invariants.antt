use Rattle.std.proofs.Common.{◌≡◌, ◌<◌, ◌^◌, drop}
use Rattle.uf_varint.specs.Varint.{read_multi_of}
use Rattle.uf_varint.proofs.Loops.{behind, multi_from}
use Rattle.uf_varint.proofs.varint.read_multi.Given as goal

abbrev pub invariant-loop-i : goal.invariant-loop-i
invariant-loop-i l = record {
  scale : l.scale ≡ 128 ^ l.i;
  below : l.value < l.scale;
  read : behind l.value l.scale l.i (multi_from l.i (drop l.i l.bytes)) ≡ read_multi_of l.bytes;
}
