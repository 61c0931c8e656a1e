use Rattle.std.proofs.Common.{arith, ◌∙◌}
use Rattle.uf_store.proofs.Causes.{StaysCalm-trans}
use Rattle.std.proofs.lemmas.Result.{err_from_is_err_and}
use Rattle.uf_shard.proofs.Touches.{all-touches, last-touches, more-touches, one-touch}
use Rattle.uf_shard.proofs.Rows.{adds-more, adds-shard}
use Rattle.uf_shard.proofs.Walks.{all-lost, load-lost, slots-lost}
use Rattle.uf_shard.proofs.gathering.+gathering.Goals as goal

pub gather-returns-in_err-items-clause-lost : goal.gather-returns-in_err-items-clause-lost
gather-returns-in_err-items-clause-lost g t c = λ N m l is agrees stood.
    let out = err_from_is_err_and c.from_residual.result c.from_residual.ensures.1 in rw (out.1, out.2) (load-lost g.S.X.BlockHash.block32 N (record { size = g.met.S.X.BlockHash.size; are_bytes = g.met.S.X.BlockHash.are_bytes }) c.args.left c.args.cid.now m l is _ _ c.in_err-items.field-0.0 c.in_err-items.ensures.loads c.in_err-items.ensures.reads.cause agrees stood)

pub gather-returns-clause-adds : goal.gather-returns-clause-adds
gather-returns-clause-adds g t c = adds-shard c.gather_slots.result _ _ c.args.left c.args.cid.now c.in_ok-items.ensures.loads.node c.as_slice.result.now _ _ c.in_ok-items.ensures.reads.told (c.as_slice.ensures ∙ c.in_ok-items.ensures.loads.are) c.in_ok-items.ensures.loads.above.valid c.in_ok-items.ensures.loads.is_held c.gather_slots.ensures.adds

pub gather-returns-clause-lost : goal.gather-returns-clause-lost
gather-returns-clause-lost g t c = λ N m l is agrees stood. all-lost g.S.X.BlockHash.block32 N (record { size = g.met.S.X.BlockHash.size; are_bytes = g.met.S.X.BlockHash.are_bytes }) c.args.left c.args.cid.now m l is c.in_ok-items.items c.as_slice.result.now _ _ (g.S.Store.seen c.gather_slots.new.store) c.gather_slots.result c.in_ok-items.ensures.reads.told c.in_ok-items.ensures.reads.cause c.as_slice.ensures c.in_ok-items.ensures.loads (c.gather_slots.ensures.lost N) agrees stood

pub gather_slots-returns-in_err-gather_slot-clause-lost : goal.gather_slots-returns-in_err-gather_slot-clause-lost
gather_slots-returns-in_err-gather_slot-clause-lost g t c = λ N over are agrees stood.
    let out = err_from_is_err_and c.from_residual.result c.from_residual.ensures.1 in rw (out.1, out.2) (slots-lost g.S.X.BlockHash.block32 N c.args.left over c.args.items.now c.loop-placed.placed-index c.placed-item.result c.loop-placed-test.true c.placed-item.is _ _ (g.S.Store.seen c.gather_slot.new.store) c.in_err-gather_slot.field-0.0 c.loop-placed.invariant.told c.loop-placed.invariant.calm (c.in_err-gather_slot.ensures.lost N) are agrees stood)

pub gather_slots-loop-placed-preserved : goal.gather_slots-loop-placed-preserved
gather_slots-loop-placed-preserved g t c = record {
  adds = adds-more _ _ c.args.left c.args.items.now c.loop-placed.placed-index c.placed-item.result _ _ _ c.loop-placed-test.true c.placed-item.is c.loop-placed.invariant.told c.loop-placed.invariant.adds c.in_ok-gather_slot.ensures.adds;
  touches = λ N over are agrees. more-touches g.S.X.BlockHash.block32 N c.args.left over c.args.items.now c.loop-placed.placed-index c.placed-item.result c.loop-placed-test.true c.placed-item.is _ _ _ _ _ c.loop-placed.invariant.told (c.in_ok-gather_slot.ensures.touches N) are agrees (c.loop-placed.invariant.touches N over are agrees);
  touched = omega (arith, c.loop-placed.invariant.touched, c.in_ok-gather_slot.ensures.touched);
  calm = StaysCalm-trans _ _ _ c.loop-placed.invariant.calm c.in_ok-gather_slot.ensures.reads.cause;
  told = c.in_ok-gather_slot.ensures.reads.told ∙ c.loop-placed.invariant.told;
}

pub gather-returns-in_err-items-clause-touches : goal.gather-returns-in_err-items-clause-touches
gather-returns-in_err-items-clause-touches g t c = λ N m l is agrees. one-touch g.S.X.BlockHash.block32 N (record { size = g.met.S.X.BlockHash.size; are_bytes = g.met.S.X.BlockHash.are_bytes }) c.args.left c.args.cid.now m l is _ _ c.in_err-items.ensures.touches

pub gather-returns-clause-touches : goal.gather-returns-clause-touches
gather-returns-clause-touches g t c = λ N m l is agrees. all-touches g.S.X.BlockHash.block32 N (record { size = g.met.S.X.BlockHash.size; are_bytes = g.met.S.X.BlockHash.are_bytes }) c.args.left c.args.cid.now m l is c.in_ok-items.items c.as_slice.result.now _ (g.S.Store.seen c.load_items.new.store) _ _ _ c.in_ok-items.ensures.reads.told c.as_slice.ensures c.in_ok-items.ensures.loads c.in_ok-items.ensures.touches (c.gather_slots.ensures.touches N) agrees

pub gather_slots-returns-in_err-gather_slot-clause-touches : goal.gather_slots-returns-in_err-gather_slot-clause-touches
gather_slots-returns-in_err-gather_slot-clause-touches g t c = λ N over are agrees. last-touches g.S.X.BlockHash.block32 N c.args.left over c.args.items.now c.loop-placed.placed-index c.placed-item.result c.loop-placed-test.true c.placed-item.is _ _ _ _ _ c.loop-placed.invariant.told (c.in_err-gather_slot.ensures.touches N) are agrees (c.loop-placed.invariant.touches N over are agrees)
