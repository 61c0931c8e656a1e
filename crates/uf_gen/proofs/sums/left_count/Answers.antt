use Rattle.std.proofs.Common.{arith}
use Rattle.uf_gen.proofs.Counted.{count-gone, count-left}
use Rattle.uf_gen.proofs.sums.left_count.Goals as goal
use Rattle.uf_gen.proofs.sums.left_count.Goals.{then-i-ne0, else-i-ne0}

pub loop-i-preserved : goal.loop-i-preserved
loop-i-preserved c =
    elim c.if-i-ne0.branch [
      | then-i-ne0 w ↦ (λ seed. omega (arith, w.count-is, c.loop-i.invariant.0 seed, count-left seed c.loop-i.i w.if-i-ne0.true), omega (arith, w.count-is, c.loop-i.invariant.1))
      | else-i-ne0 w ↦ (λ seed. omega (arith, w.count-is, c.loop-i.invariant.0 seed, count-gone seed c.loop-i.i w.if-i-ne0.false), omega (arith, w.count-is, c.loop-i.invariant.1))
    ]
