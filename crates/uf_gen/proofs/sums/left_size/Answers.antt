use Rattle.std.proofs.Common.{arith}
use Rattle.uf_gen.proofs.Counted.{size-gone, size-left}
use Rattle.uf_gen.proofs.sums.left_size.Goals as goal
use Rattle.uf_gen.proofs.sums.left_size.Goals.{then-i-ne0, else-i-ne0}

pub loop-i-preserved : goal.loop-i-preserved
loop-i-preserved c =
    elim c.if-i-ne0.branch [
      | then-i-ne0 w ↦ (omega (arith, w.size-is, w.last_length-size.ensures.is, c.loop-i.invariant.0, size-left c.args.seed c.loop-i.i w.if-i-ne0.true), omega (arith, w.size-is, w.last_length-size.ensures.few, c.loop-i.invariant.1))
      | else-i-ne0 w ↦ (omega (arith, w.size-is, c.loop-i.invariant.0, size-gone c.args.seed c.loop-i.i w.if-i-ne0.false), omega (arith, w.size-is, c.loop-i.invariant.1))
    ]
