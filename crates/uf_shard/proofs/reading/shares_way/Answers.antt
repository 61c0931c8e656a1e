use Rattle.uf_shard.proofs.Ways.{apart, further, same_slots}
use Rattle.uf_shard.proofs.reading.shares_way.Goals as goal

pub returns-then-slot : goal.returns-then-slot
returns-then-slot c = apart c.args.other c.args.hash c.args.level c.loop-above.above _ _ c.loop-above-test.true c.slot.ensures c.slot-in-loop-above.ensures c.if-slot.true

pub loop-above-preserved : goal.loop-above-preserved
loop-above-preserved c = further c.args.other c.args.hash c.loop-above.above c.loop-above.invariant (same_slots c.args.other c.args.hash c.loop-above.above _ _ c.slot.ensures c.slot-in-loop-above.ensures c.if-slot.false)
