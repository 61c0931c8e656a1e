use Rattle.std.proofs.Common.{◌≡◌, ◌<◌, ◌-◌, ◌*◌, ◌^◌, ◌++◌, drop, take}
use Rattle.uf_varint.specs.Varint.{varint, varint_within}
use Rattle.uf_varint.proofs.varint.put.Given as goal

abbrev pub invariant-loop-i : goal.invariant-loop-i
invariant-loop-i l = record {
  spelled : take l.i l.out ++ varint_within (9 - l.i) l.rest ≡ varint l.value;
  behind : drop l.i l.out ≡ drop l.i l.initial.out;
  below : l.rest < 2 * 128 ^ (9 - l.i);
}
