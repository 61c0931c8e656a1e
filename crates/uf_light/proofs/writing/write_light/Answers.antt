use Rattle.std.proofs.Common.{subst, refl, sym, arith, take, ◌∙◌}
use Rattle.std.proofs.lemmas.Result.{err_from_is_err_and}
use Rattle.uf_store.specs.Contents.{held_at}
use Rattle.uf_store.proofs.Calls.{reads-reads}
use Rattle.uf_store.proofs.Causes.{StaysCalm-refl}
use Rattle.uf_car.specs.Exporting.{WritesAll}
use Rattle.uf_car.specs.Text.{car_text, section_bytes}
use Rattle.uf_car.proofs.Exports.{held_block}
use Rattle.uf_car.proofs.Somes.{some-then}
use Rattle.uf_car.proofs.Texts.{head_part, text_more, text_whole, written_head, written_more}
use Rattle.uf_light.proofs.Written.{err_text, text_last}
use Rattle.uf_light.proofs.writing.write_light.Goals as goal

pub loop-place-init : goal.loop-place-init
loop-place-init g c = record {
  text = λ t is. written_head c.args.root.now (held_at t) _ _ _ c.cids_are_whole.ensures refl c.in-Done.ensures.bytes;
  some = (_, c.in-Done.ensures.bytes);
  few = omega arith;
  reads = record { cause = StaysCalm-refl _; told = refl };
  counted = c.in-Done.ensures.counts.still refl;
  touched = omega arith;
}

pub returns-in-Failed-clause-text : goal.returns-in-Failed-clause-text
returns-in-Failed-clause-text g c t is there = head_part c.args.root.now (held_at t) c.args.order.now _ _ c.in-Failed.ensures.bytes

pub returns-in-None-clause-text : goal.returns-in-None-clause-text
returns-in-None-clause-text g c t is there =
    subst (λ x. WritesAll x c.loop-place.written (g.O.Sink.holds c.args.out.now) (g.O.Sink.holds c.loop-place.out))
    (text_whole (held_at t) c.args.root.now c.args.order.now c.loop-place.place (sym c.in-None.ensures)) (c.loop-place.invariant.text t is)

pub returns-clause-text : goal.returns-clause-text
returns-clause-text g c t is there =
    subst (λ x. WritesAll x c.loop-place.written (g.O.Sink.holds c.args.out.now) (g.O.Sink.holds c.loop-place.out))
    (text_last (held_at t) c.args.root.now c.args.order.now c.loop-place.place (let n = c.len-place-end.ensures in let past = c.loop-place-test.false in omega (arith, n, past))) (c.loop-place.invariant.text t is)

pub returns-in_err-count-in-Some-clause-text : goal.returns-in_err-count-in-Some-clause-text
returns-in_err-count-in-Some-clause-text g c t is there =
    let out = err_from_is_err_and c.from_residual.result c.from_residual.ensures.1 in
    let was = c.loop-place.invariant.reads.told ∙ is in
    rw (out.1, out.2) (err_text g.S.X.BlockHash.block32 t c.args.root.now c.in-Some.cid c.args.order.now c.loop-place.place c.loop-place.written (g.S.Store.seen c.loop-place.store) (g.S.Store.seen c.write_block.new.store) _ _ _
    c.in_err-count-in-Some.field-0.0 there (sym c.in-Some.ensures) was (c.in_err-count-in-Some.ensures.reads.told ∙ was) (c.loop-place.invariant.text t is) c.in_err-count-in-Some.ensures.block c.in_err-count-in-Some.ensures.reads.cause)

pub loop-place-preserved : goal.loop-place-preserved
loop-place-preserved g c =
    let count = c.in_ok-count-in-Some.ensures.few in
    let before = c.loop-place.invariant.few in
    record {
      text = λ t is.
          let held = held_block (g.S.Store.seen c.loop-place.store).told t c.in-Some.cid _ (c.loop-place.invariant.reads.told ∙ is) c.in_ok-count-in-Some.ensures.block.is_held in
          written_more _ (car_text (held_at t) c.args.root.now (take c.loop-place.place c.args.order.now)) c.loop-place.written _ _ _ (c.loop-place.invariant.text t is)
          (section_bytes (c.in-Some.cid, (g.S.Store.seen c.write_block.new.store).lent)) c.in_ok-count-in-Some.count
          (text_more (held_at t) c.args.root.now c.args.order.now c.loop-place.place c.in-Some.cid _ (sym c.in-Some.ensures) held)
          c.in_ok-count-in-Some.ensures.block.written c.in_ok-count-in-Some.ensures.block.count;
      some = some-then (g.O.Sink.holds c.args.out.now) (g.O.Sink.holds c.loop-place.out) (g.O.Sink.holds c.write_block.new.out) c.loop-place.invariant.some c.in_ok-count-in-Some.ensures.some;
      few = omega arith;
      reads = reads-reads c.loop-place.invariant.reads c.in_ok-count-in-Some.ensures.reads;
      counted = c.in_ok-count-in-Some.ensures.counts.still refl ∙ c.loop-place.invariant.counted;
      touched = let before = c.loop-place.invariant.touched in let more = c.in_ok-count-in-Some.ensures.touches in omega (arith, before, more);
    }

pub returns-in_err-count-in-Some-clause-some : goal.returns-in_err-count-in-Some-clause-some
returns-in_err-count-in-Some-clause-some g c =
    some-then (g.O.Sink.holds c.args.out.now) (g.O.Sink.holds c.loop-place.out) (g.O.Sink.holds c.write_block.new.out) c.loop-place.invariant.some c.in_err-count-in-Some.ensures.some
