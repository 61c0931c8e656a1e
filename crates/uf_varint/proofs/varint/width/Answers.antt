use Rattle.std.proofs.Common.{arith}
use Rattle.uf_varint.specs.Varint.{varint}
use Rattle.uf_varint.proofs.Loops.{width_goes_on, width_ends, width_last}
use Rattle.uf_varint.proofs.varint.width.Goals as goal

pub loop-i-init : goal.loop-i-init
unfolding varint
loop-i-init c = omega arith

pub returns-then-left-lt128-clause-exact : goal.returns-then-left-lt128-clause-exact
returns-then-left-lt128-clause-exact c = width_ends c.loop-i.i c.loop-i.left _ c.loop-i-test.true c.if-left-lt128.true c.loop-i.invariant

pub loop-i-preserved : goal.loop-i-preserved
loop-i-preserved c = width_goes_on c.loop-i.i c.loop-i.left _ c.loop-i-test.true c.if-left-lt128.false c.loop-i.invariant

pub returns-clause-exact : goal.returns-clause-exact
returns-clause-exact c = width_last c.loop-i.i c.loop-i.left _ (omega arith) c.loop-i-test.false c.loop-i.invariant
