use Rattle.std.proofs.Common.{refl, arith}
use Rattle.uf_varint.specs.Varint.{read_proto_of, proto_within}
use Rattle.uf_varint.proofs.Loops.{behind_none, scale_more, below_more, ends, is_short, is_bad, proto_goes_on, proto_ends, proto_past, proto_at_nine, proto_tenth_low, proto_tenth_high}
use Rattle.uf_varint.proofs.varint.read_proto.Goals as goal

pub loop-i-init : goal.loop-i-init
unfolding read_proto_of
loop-i-init c = record { scale = refl; below = omega arith; read = behind_none (proto_within 9 c.args.bytes.now) }

pub loop-i-preserved : goal.loop-i-preserved
loop-i-preserved c = record {
  scale = scale_more c.loop-i.scale c.loop-i.i c.loop-i.invariant.scale;
  below = below_more c.loop-i.value c.loop-i.scale _ c.loop-i.invariant.below (omega (arith, c.type_inv.bytes c.loop-i.i));
  read = proto_goes_on c.args.bytes.now c.loop-i.value c.loop-i.scale c.loop-i.i _ c.loop-i-test.true c.if-i-bytes.false c.if-byte-lt128.false c.loop-i.invariant.read;
}

pub returns-then-i-bytes-clause-exact : goal.returns-then-i-bytes-clause-exact
returns-then-i-bytes-clause-exact c = is_short c.loop-i.value c.loop-i.scale c.loop-i.i _ _ (proto_past c.args.bytes.now c.loop-i.i _ c.if-i-bytes.true) c.loop-i.invariant.read

pub returns-then-byte-lt128-clause-exact : goal.returns-then-byte-lt128-clause-exact
returns-then-byte-lt128-clause-exact c = ends c.loop-i.value c.loop-i.scale c.loop-i.i _ _ _ (proto_ends c.args.bytes.now c.loop-i.i c.loop-i-test.true c.if-i-bytes.false c.if-byte-lt128.true) c.loop-i.invariant.read

pub returns-then-bytes-lt10-clause-exact : goal.returns-then-bytes-lt10-clause-exact
returns-then-bytes-lt10-clause-exact c = is_short c.loop-i.value c.loop-i.scale 9 _ _ (proto_past c.args.bytes.now 9 0 (omega arith)) (proto_at_nine c.args.bytes.now c.loop-i.value c.loop-i.scale c.loop-i.i _ (omega arith) c.loop-i-test.false c.loop-i.invariant.read)

pub returns-then-byte-gt1-clause-exact : goal.returns-then-byte-gt1-clause-exact
returns-then-byte-gt1-clause-exact c = is_bad c.loop-i.value c.loop-i.scale 9 _ _ (proto_tenth_high c.args.bytes.now (omega arith) c.if-byte-gt1.true) (proto_at_nine c.args.bytes.now c.loop-i.value c.loop-i.scale c.loop-i.i _ (omega arith) c.loop-i-test.false c.loop-i.invariant.read)

pub returns-clause-exact : goal.returns-clause-exact
returns-clause-exact c = ends c.loop-i.value c.loop-i.scale 9 _ _ _ (proto_tenth_low c.args.bytes.now (omega arith) c.if-byte-gt1.false) (proto_at_nine c.args.bytes.now c.loop-i.value c.loop-i.scale c.loop-i.i _ (omega arith) c.loop-i-test.false c.loop-i.invariant.read)
