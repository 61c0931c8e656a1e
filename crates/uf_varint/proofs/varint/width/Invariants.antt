use Rattle.std.proofs.Common.{◌≡◌, ◌+◌, ◌-◌, length}
use Rattle.uf_varint.specs.Varint.{varint, varint_within}
use Rattle.uf_varint.proofs.varint.width.Given as goal

abbrev pub invariant-loop-i : goal.invariant-loop-i
invariant-loop-i l = l.i + length (varint_within (9 - l.i) l.left) ≡ length (varint l.value)
