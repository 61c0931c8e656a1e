use Rattle.uf_shard.proofs.RowWeights.{slot-below, slot-none, slot-room}
use Rattle.uf_shard.proofs.weighing.room_behind.Goals as goal

pub loop-placed-preserved : goal.loop-placed-preserved
loop-placed-preserved c = record {
  room = slot-room c.args.items.now c.loop-placed.placed-index c.placed-item.result c.loop-placed-test.true c.placed-item.is c.args.room c.loop-placed.rest c.in-Some.room c.in_ok-behind.behind c.in-Some.is c.in_ok-behind.ensures.room c.loop-placed.invariant.room;
  below = slot-below c.args.items.now c.loop-placed.placed-index c.placed-item.result c.loop-placed-test.true c.placed-item.is _ _ _ c.loop-placed.invariant.below c.in_ok-behind.ensures.below;
}

pub returns-in-None-clause-room : goal.returns-in-None-clause-room
returns-in-None-clause-room c = slot-none c.args.items.now c.loop-placed.placed-index c.placed-item.result c.loop-placed-test.true c.placed-item.is c.args.room c.loop-placed.rest c.in_ok-behind.behind c.in-None.is c.in_ok-behind.ensures.room c.loop-placed.invariant.room
