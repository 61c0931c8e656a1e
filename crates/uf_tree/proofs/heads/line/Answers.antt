use Rattle.uf_tree.proofs.HeadLines.{line_hit, line_on, line_end}
use Rattle.uf_tree.proofs.heads.line.Goals as goal

pub returns-then-bytes-i-eq10 : goal.returns-then-bytes-i-eq10
returns-then-bytes-i-eq10 c =
    line_hit c.args.bytes.now c.split_at.result.0.now c.split_at-then-bytes-i-eq10.result.1.now c.loop-i.i c.loop-i-test.true c.if-bytes-i-eq10.true c.split_at.ensures.front c.split_at-then-bytes-i-eq10.ensures.back c.loop-i.invariant

pub loop-i-preserved : goal.loop-i-preserved
loop-i-preserved c = line_on c.args.bytes.now c.loop-i.i c.loop-i-test.true c.if-bytes-i-eq10.false c.loop-i.invariant

pub returns : goal.returns
returns c = line_end c.args.bytes.now c.loop-i.i c.loop-i-test.false c.loop-i.invariant
