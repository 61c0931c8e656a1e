use Rattle.std.proofs.Common.{Err, ap, ◌≡◌, inl, inr, arith, ◌∙◌, ℕ, ◌+◌, ◌-◌, refl, subst, sym, drop}
use Rattle.std.proofs.lemmas.List.{get_or_default}
use Rattle.std.proofs.lemmas.Result.{err_from_is_err_and}
use Rattle.uf_fileread.specs.Bad.{IsBadBelow}
use Rattle.uf_tree.specs.Metas.{none}
use Rattle.uf_fileread.specs.Ranges.{blocks_read}
use Rattle.uf_fileread.proofs.Bad.{loop-shows, node-shows}
use Rattle.uf_tree.specs.Validity.{IsHash}
use Rattle.uf_fileread.proofs.Sending.{Progress, begins, loop-on, loop-stops, met, part-leaf, part-lost, part-node, sends-last, sends-more, sends-nothing, sends-none, size-part, unmet}
use Rattle.uf_store.specs.Faults.{StaysCalm}
use Rattle.uf_store.proofs.Causes.{StaysCalm-refl, StaysCalm-trans}
use Rattle.uf_fileread.proofs.ranges.+sending.Goals as goal
use Rattle.uf_fileread.proofs.ranges.+sending.Goals.{send_met-then-reach-part-via-then-reach-part, send_met-then-reach-part-via-else-reach-part+then-reach-eq0}

pub send_met-returns-then-reach-part-clause-reads :
    goal.send_met-returns-then-reach-part-clause-reads
send_met-returns-then-reach-part-clause-reads g t c = λ p k b over agrees.
    let good : IsHash g.S.X.BlockHash.block32 = record { size = g.met.S.X.BlockHash.size; are_bytes = g.met.S.X.BlockHash.are_bytes } in
    let size = size-part g.S.X.BlockHash.block32 good p c.args.rows k c.args.part.now b over in
    unmet g.S.X.BlockHash.block32 good p (g.S.Store.seen c.args.store.now).told k c.args.reach.offset c.args.reach.count b (g.O.Sink.holds c.args.out.now) c.args.touches.now
    (elim c.then-reach-part.branch [
      | send_met-then-reach-part-via-then-reach-part w ↦ inl (let low = w.if-reach-part.true in omega arith)
      | send_met-then-reach-part-via-else-reach-part+then-reach-eq0 w ↦ inr w.if-reach-eq0.true
    ])

pub send_met-returns-clause-reads : goal.send_met-returns-clause-reads
send_met-returns-clause-reads g t c = λ p k b over agrees.
    met g.S.X.BlockHash.block32 (record { size = g.met.S.X.BlockHash.size; are_bytes = g.met.S.X.BlockHash.are_bytes }) p c.args.rows k c.args.part.now b (g.S.Store.seen c.args.store.now).told c.args.reach.offset c.args.reach.count _ _ _ _ _ _ c.send_part.result
    c.if-reach-part.false c.if-reach-eq0.false c.send_part.ensures.reads over agrees

pub send_part-returns-in-Raw-clause-reads : goal.send_part-returns-in-Raw-clause-reads
send_part-returns-in-Raw-clause-reads g t c = λ p m k bytes is agrees.
    part-leaf g.S.X.BlockHash.block32 (record { size = g.met.S.X.BlockHash.size; are_bytes = g.met.S.X.BlockHash.are_bytes }) p c.args.spot.rows c.args.spot.cid c.args.spot.declared m bytes k (g.S.Store.seen c.args.store.now).told c.args.reach.offset c.args.reach.count _ _ _ _ _ _ c.send_leaf.result
    c.in-Raw.is c.send_leaf.ensures.reads is agrees

pub send_part-returns-in-Raw-clause-cause : goal.send_part-returns-in-Raw-clause-cause
send_part-returns-in-Raw-clause-cause g t c = c.send_leaf.ensures.cause (22 - c.args.spot.rows)

pub send_part-returns-in_ok-node-in-DagPb-clause-cause : goal.send_part-returns-in_ok-node-in-DagPb-clause-cause
send_part-returns-in_ok-node-in-DagPb-clause-cause g t c =
    node-shows g.S.X.BlockHash.block32 c.args.spot.rows c.args.spot.declared c.args.spot.cid c.in_ok-node-in-DagPb.node c.as_slice.result.now c.send_parts.result (g.S.Store.seen c.args.store.now) (g.S.Store.seen c.load_parts.new.store) (g.S.Store.seen c.send_parts.new.store) _ _
    c.requires.few c.as_slice.ensures c.in_ok-node-in-DagPb.ensures.loads c.in_ok-node-in-DagPb.ensures.told c.in_ok-node-in-DagPb.ensures.cause c.send_parts.ensures.cause

pub send_parts-returns-in_err-sent-clause-cause : goal.send_parts-returns-in_err-sent-clause-cause
send_parts-returns-in_err-sent-clause-cause g t c =
    let told-then : (g.S.Store.seen c.foresee_leaves.new.store).told ≡ (g.S.Store.seen c.args.store.now).told = ap (λ s. s.told) c.foresee_leaves.ensures ∙ c.loop-part.invariant.told in
    let calm-then : StaysCalm (g.S.Store.seen c.args.store.now) (g.S.Store.seen c.foresee_leaves.new.store) = subst (λ s. StaysCalm (g.S.Store.seen c.args.store.now) s) (sym c.foresee_leaves.ensures) c.loop-part.invariant.calm in
    let out = err_from_is_err_and c.from_residual.result c.from_residual.ensures.1 in rw (out.1, out.2) (loop-shows g.S.X.BlockHash.block32 c.args.rows c.loop-part.part-index c.args.parts.now _ (Err c.in_err-sent.field-0.0) (g.S.Store.seen c.args.store.now) (g.S.Store.seen c.foresee_leaves.new.store) (g.S.Store.seen c.send_met.new.store) _ _ _
    c.loop-part-test.true (get_or_default c.args.parts.now c.loop-part.part-index _ _ c.loop-part-test.true) told-then calm-then c.loop-part.invariant.still c.in_err-sent.ensures.cause)

pub send_part-returns-in_err-node-in-DagPb-clause-reads : goal.send_part-returns-in_err-node-in-DagPb-clause-reads
send_part-returns-in_err-node-in-DagPb-clause-reads g t c = λ p m k bytes is agrees.
    let out = err_from_is_err_and c.from_residual.result c.from_residual.ensures.1 in rw (out.1, out.2) (part-lost g.S.X.BlockHash.block32 (record { size = g.met.S.X.BlockHash.size; are_bytes = g.met.S.X.BlockHash.are_bytes }) p c.args.spot.rows c.args.spot.cid c.args.spot.declared m bytes (IsBadBelow (g.S.Store.seen c.args.store.now).told (22 - c.args.spot.rows) c.args.spot.declared c.args.spot.cid) k (g.S.Store.seen c.args.store.now) (g.S.Store.seen c.load_parts.new.store) c.args.reach.offset c.args.reach.count _ _ _ c.in_err-node-in-DagPb.field-0.0
    c.in-DagPb.is c.in_err-node-in-DagPb.ensures.loads c.in_err-node-in-DagPb.ensures.cause c.in_err-node-in-DagPb.ensures.touches is agrees)

pub send_part-returns-in_err-node-in-DagPb-clause-sends : goal.send_part-returns-in_err-node-in-DagPb-clause-sends
send_part-returns-in_err-node-in-DagPb-clause-sends g t c =
    let out = err_from_is_err_and c.from_residual.result c.from_residual.ensures.1 in rw out.1 (sends-nothing c.args.reach.count (g.O.Sink.holds c.args.out.now))

pub send_part-returns-in_ok-node-in-DagPb-clause-reads : goal.send_part-returns-in_ok-node-in-DagPb-clause-reads
send_part-returns-in_ok-node-in-DagPb-clause-reads g t c = λ p m k bytes is agrees.
    part-node g.S.X.BlockHash.block32 (record { size = g.met.S.X.BlockHash.size; are_bytes = g.met.S.X.BlockHash.are_bytes }) p c.args.spot.rows c.args.spot.cid c.args.spot.declared m bytes k (g.S.Store.seen c.args.store.now) (g.S.Store.seen c.load_parts.new.store) (g.S.Store.seen c.send_parts.new.store)
    c.in_ok-node-in-DagPb.node c.as_slice.result.now c.args.reach.offset c.args.reach.count _ _ _ _ _ c.send_parts.result
    c.in-DagPb.is c.in_ok-node-in-DagPb.ensures.loads c.as_slice.ensures c.in_ok-node-in-DagPb.ensures.told c.in_ok-node-in-DagPb.ensures.cause.faults c.in_ok-node-in-DagPb.ensures.touches c.send_parts.ensures.reads is agrees

pub send_parts-loop-part-init : goal.send_parts-loop-part-init
send_parts-loop-part-init g t c = record {
  reads = λ p k gs over agrees. begins (g.S.Store.seen c.args.store.now).told _ c.args.reach.offset c.args.reach.count gs (g.O.Sink.holds c.args.out.now) c.args.touches.now;
  few = omega arith;
  appends = sends-none c.args.reach.count (g.O.Sink.holds c.args.out.now);
  steps = omega arith;
  calm = StaysCalm-refl (g.S.Store.seen c.args.store.now);
  still = refl;
  told = refl;
}

pub send_parts-returns-in_err-sent-clause-reads : goal.send_parts-returns-in_err-sent-clause-reads
send_parts-returns-in_err-sent-clause-reads g t c = λ p k gs over agrees.
    let told-then : (g.S.Store.seen c.foresee_leaves.new.store).told ≡ (g.S.Store.seen c.args.store.now).told = ap (λ s. s.told) c.foresee_leaves.ensures ∙ c.loop-part.invariant.told in
    let calm-then : StaysCalm (g.S.Store.seen c.args.store.now) (g.S.Store.seen c.foresee_leaves.new.store) = subst (λ s. StaysCalm (g.S.Store.seen c.args.store.now) s) (sym c.foresee_leaves.ensures) c.loop-part.invariant.calm in
    let good : IsHash g.S.X.BlockHash.block32 = record { size = g.met.S.X.BlockHash.size; are_bytes = g.met.S.X.BlockHash.are_bytes } in
    let out = err_from_is_err_and c.from_residual.result c.from_residual.ensures.1 in rw (out.1, out.2) (loop-stops g.S.X.BlockHash.block32 good p c.args.rows k c.loop-part.part-index c.args.parts.now _ gs c.loop-part-test.true (get_or_default c.args.parts.now c.loop-part.part-index _ _ c.loop-part-test.true) over
    (g.S.Store.seen c.args.store.now) (g.S.Store.seen c.foresee_leaves.new.store) (g.S.Store.seen c.send_met.new.store) c.args.reach.offset c.args.reach.count c.loop-part.place c.loop-part.rest _ _ _ _ _ _ told-then
    c.in_err-sent.field-0.0 calm-then.faults c.in_err-sent.ensures.reads agrees (c.loop-part.invariant.reads p k gs over agrees))

pub send_parts-returns-in_err-sent-clause-sends : goal.send_parts-returns-in_err-sent-clause-sends
send_parts-returns-in_err-sent-clause-sends g t c = let out = err_from_is_err_and c.from_residual.result c.from_residual.ensures.1 in rw out.1 (sends-last c.args.reach.count c.loop-part.rest _ _ _ c.loop-part.invariant.few c.loop-part.invariant.appends c.in_err-sent.ensures.sends)

pub send_parts-loop-part-preserved : goal.send_parts-loop-part-preserved
send_parts-loop-part-preserved g t c =
    let told-then : (g.S.Store.seen c.foresee_leaves.new.store).told ≡ (g.S.Store.seen c.args.store.now).told = ap (λ s. s.told) c.foresee_leaves.ensures ∙ c.loop-part.invariant.told in
    let calm-then : StaysCalm (g.S.Store.seen c.args.store.now) (g.S.Store.seen c.foresee_leaves.new.store) = subst (λ s. StaysCalm (g.S.Store.seen c.args.store.now) s) (sym c.foresee_leaves.ensures) c.loop-part.invariant.calm in
    record {
      reads = λ p k gs over agrees.
          let good : IsHash g.S.X.BlockHash.block32 = record { size = g.met.S.X.BlockHash.size; are_bytes = g.met.S.X.BlockHash.are_bytes } in
          subst (λ (n : ℕ). Progress (g.S.Store.seen c.args.store.now).told (λ o n b. blocks_read g.S.X.BlockHash.block32 p.chunk p.width none k o n b) c.args.reach.offset c.args.reach.count gs (drop (c.loop-part.part-index + 1) gs) n (c.loop-part.rest - c.in_ok-sent.sent) (g.O.Sink.holds c.args.out.now) (g.O.Sink.holds c.send_met.new.out) c.args.touches.now c.send_met.new.touches)
          (sym c.saturating_sub-place.ensures)
          (loop-on g.S.X.BlockHash.block32 good p c.args.rows k c.loop-part.part-index c.args.parts.now _ gs c.loop-part-test.true (get_or_default c.args.parts.now c.loop-part.part-index _ _ c.loop-part-test.true) over
          (g.S.Store.seen c.args.store.now) (g.S.Store.seen c.foresee_leaves.new.store) (g.S.Store.seen c.send_met.new.store) c.args.reach.offset c.args.reach.count c.loop-part.place c.loop-part.rest _ _ _ _ _ _ told-then
          c.in_ok-sent.sent c.in_ok-sent.ensures.reads agrees (c.loop-part.invariant.reads p k gs over agrees));
      few = omega (arith, c.loop-part.invariant.few);
      appends = sends-more c.args.reach.count c.loop-part.rest c.in_ok-sent.sent _ _ _ c.loop-part.invariant.few c.loop-part.invariant.appends c.in_ok-sent.ensures.sends;
      steps = omega (arith, c.loop-part.invariant.steps, c.in_ok-sent.ensures.touched);
      calm = StaysCalm-trans _ _ _ calm-then c.in_ok-sent.ensures.cause.0;
      still = c.in_ok-sent.ensures.cause.1 ∙ c.loop-part.invariant.still;
      told = c.in_ok-sent.ensures.told ∙ told-then;
    }
