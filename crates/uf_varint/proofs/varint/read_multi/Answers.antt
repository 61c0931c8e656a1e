use Rattle.std.proofs.Common.{refl, arith, inl, inr}
use Rattle.uf_varint.specs.Varint.{read_multi_of}
use Rattle.uf_varint.proofs.Loops.{behind_none, last_of, scale_more, below_more, ends, is_short, is_bad, multi_from, multi_goes_on, multi_ends, multi_padded, multi_past, multi_at_eight, multi_ninth_low, multi_ninth_zero, multi_ninth_high}
use Rattle.uf_varint.proofs.varint.read_multi.Goals as goal

pub loop-i-init : goal.loop-i-init
unfolding multi_from
loop-i-init c = record { scale = refl; below = omega arith; read = behind_none (read_multi_of c.args.bytes.now) }

pub loop-i-preserved : goal.loop-i-preserved
loop-i-preserved c = record {
  scale = scale_more c.loop-i.scale c.loop-i.i c.loop-i.invariant.scale;
  below = below_more c.loop-i.value c.loop-i.scale _ c.loop-i.invariant.below (omega (arith, c.type_inv.bytes c.loop-i.i));
  read = multi_goes_on c.args.bytes.now c.loop-i.value c.loop-i.scale c.loop-i.i _ c.loop-i-test.true c.if-i-bytes.false c.if-byte-lt128.false c.loop-i.invariant.read;
}

pub returns-then-i-bytes-clause-exact : goal.returns-then-i-bytes-clause-exact
returns-then-i-bytes-clause-exact c = is_short c.loop-i.value c.loop-i.scale c.loop-i.i _ _ (multi_past c.args.bytes.now c.loop-i.i c.if-i-bytes.true) c.loop-i.invariant.read

pub returns-then-i-gt0-clause-exact : goal.returns-then-i-gt0-clause-exact
returns-then-i-gt0-clause-exact c = is_bad c.loop-i.value c.loop-i.scale c.loop-i.i _ _ (multi_padded c.args.bytes.now c.loop-i.i c.loop-i-test.true c.if-i-bytes.false c.if-i-gt0.true c.if-byte-eq0.true) c.loop-i.invariant.read

pub returns-then-byte-lt128-clause-exact : goal.returns-then-byte-lt128-clause-exact
returns-then-byte-lt128-clause-exact c = ends c.loop-i.value c.loop-i.scale c.loop-i.i _ _ _ (multi_ends c.args.bytes.now c.loop-i.i c.loop-i-test.true c.if-i-bytes.false c.if-byte-lt128.true (last_of _ _ c.else-byte-eq0.either)) c.loop-i.invariant.read

pub returns-then-bytes-lt9-clause-exact : goal.returns-then-bytes-lt9-clause-exact
returns-then-bytes-lt9-clause-exact c = is_short c.loop-i.value c.loop-i.scale 8 _ _ (multi_past c.args.bytes.now 8 (omega arith)) (multi_at_eight c.args.bytes.now c.loop-i.value c.loop-i.scale c.loop-i.i _ (omega arith) c.loop-i-test.false c.loop-i.invariant.read)

pub returns-then-byte-eq0-2-clause-exact : goal.returns-then-byte-eq0-2-clause-exact
returns-then-byte-eq0-2-clause-exact c =
    is_bad c.loop-i.value c.loop-i.scale 8 _ _
    (elim c.then-byte-eq0-2.either [ inl e ↦ multi_ninth_zero c.args.bytes.now (omega arith) e | inr e ↦ multi_ninth_high c.args.bytes.now (omega arith) (omega arith) ])
    (multi_at_eight c.args.bytes.now c.loop-i.value c.loop-i.scale c.loop-i.i _ (omega arith) c.loop-i-test.false c.loop-i.invariant.read)

pub returns-clause-exact : goal.returns-clause-exact
returns-clause-exact c = ends c.loop-i.value c.loop-i.scale 8 _ _ _ (multi_ninth_low c.args.bytes.now (omega arith) (omega arith) c.if-byte-ge128.false) (multi_at_eight c.args.bytes.now c.loop-i.value c.loop-i.scale c.loop-i.i _ (omega arith) c.loop-i-test.false c.loop-i.invariant.read)
