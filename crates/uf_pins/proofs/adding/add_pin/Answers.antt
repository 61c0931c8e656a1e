use Rattle.std.proofs.Common.{Err, ap, ◌∙◌}
use Rattle.std.proofs.lemmas.Result.{err_from_is_err_and}
use Rattle.uf_store.specs.Contents.{changed, with_sync}
use Rattle.uf_pins.specs.Calls.{AddsPin}
use Rattle.uf_pins.proofs.Changed.{anew-by, more-written, note-stops-pinning, reach-stops-pinning, sync-stops-pinning, text-stops-pinning, was-pinned}
use Rattle.uf_pins.proofs.adding.add_pin.Goals as goal

pub returns-in_err-pins-clause-added : goal.returns-in_err-pins-clause-added
returns-in_err-pins-clause-added g c t is =
    let out = err_from_is_err_and c.from_residual.result c.from_residual.ensures.1 in
    let h : AddsPin t c.args.most c.args.cid.now (Err c.in_err-pins.field-0.0) (g.S.Store.seen c.list_pins.new.store).told =
    note-stops-pinning t c.args.cid.now c.args.most _ c.in_err-pins.field-0.0 (c.in_err-pins.ensures.pins t is) (c.in_err-pins.ensures.reads.told ∙ is) in
    rw (out.1, out.2) h

pub returns-in_err-reach_one-clause-added : goal.returns-in_err-reach_one-clause-added
returns-in_err-reach_one-clause-added g c t is =
    let a = c.in_ok-pins.ensures.reads.told ∙ is in
    let out = err_from_is_err_and c.from_residual-in_err-reach_one.result c.from_residual-in_err-reach_one.ensures.1 in
    let h : AddsPin t c.args.most c.args.cid.now (Err c.in_err-reach_one.field-0.0) (g.S.Store.seen c.reach_one.new.store).told =
    reach-stops-pinning t c.args.cid.now c.args.most c.in_ok-pins.pins (c.in_ok-pins.ensures.pins t is) _ c.in_err-reach_one.field-0.0 (c.in_err-reach_one.ensures.reached t a) (c.in_err-reach_one.ensures.reads.told ∙ a) in
    rw (out.1, out.2) h

pub returns-in_err-text-clause-added : goal.returns-in_err-text-clause-added
returns-in_err-text-clause-added g c t is =
    let b = c.in_ok-reach_one.ensures.reads.told ∙ c.in_ok-pins.ensures.reads.told ∙ is in
    let out = err_from_is_err_and c.from_residual-in_err-text.result c.from_residual-in_err-text.ensures.1 in
    let h : AddsPin t c.args.most c.args.cid.now (Err c.in_err-text.field-0.0) (g.S.Store.seen c.reach_one.new.store).told =
    text-stops-pinning t c.args.cid.now c.args.most c.in_ok-pins.pins (c.in_ok-pins.ensures.pins t is) _ (c.in_ok-reach_one.ensures.reached t (c.in_ok-pins.ensures.reads.told ∙ is)) _ c.in_err-text.field-0.0 c.in_err-text.ensures b in
    rw (out.1, out.2) h

pub returns-in_err-sync-clause-added : goal.returns-in_err-sync-clause-added
returns-in_err-sync-clause-added g c t is =
    let b = c.in_ok-reach_one.ensures.reads.told ∙ c.in_ok-pins.ensures.reads.told ∙ is in
    let out = err_from_is_err_and c.from_residual-in_err-sync.result c.from_residual-in_err-sync.ensures.1 in
    let h : AddsPin t c.args.most c.args.cid.now (Err c.in_err-sync.field-0.0) (g.S.Store.seen c.sync.new.store).told =
    sync-stops-pinning t c.args.cid.now c.args.most _ c.in_err-sync.field-0.0 c.in_err-sync.ensures.fault (c.in_err-sync.ensures.err ∙ b) in
    rw (out.1, out.2) h

pub returns-in-None-clause-added : goal.returns-in-None-clause-added
returns-in-None-clause-added g c t is =
    let a = c.in_ok-pins.ensures.reads.told ∙ is in
    let b = c.in_ok-reach_one.ensures.reads.told ∙ a in
    was-pinned t c.args.cid.now c.args.most c.in_ok-pins.pins (c.in_ok-pins.ensures.pins t is) _ (c.in_ok-reach_one.ensures.reached t a) _ (rw c.in-None.is at c.in_ok-text.ensures) (c.in_ok-sync.ensures.ok ∙ ap (changed with_sync) b)

pub returns-clause-added : goal.returns-clause-added
returns-clause-added g c t is =
    let a = c.in_ok-pins.ensures.reads.told ∙ is in
    let b = c.in_ok-reach_one.ensures.reads.told ∙ a in
    anew-by t c.args.cid.now c.args.most c.in_ok-pins.pins (c.in_ok-pins.ensures.pins t is) _ (c.in_ok-reach_one.ensures.reached t a) _ _ _ c.write_pins.result (rw c.in-Some.is at c.in_ok-text.ensures)
    (c.in_ok-sync.ensures.ok ∙ ap (changed with_sync) b) c.write_pins.ensures.ok c.write_pins.ensures.err c.write_pins.ensures.fault

pub returns-clause-writes : goal.returns-clause-writes
returns-clause-writes g c =
    more-written (g.S.Store.seen c.args.store.now).told (g.S.Store.seen c.reach_one.new.store).told (g.S.Store.seen c.sync.new.store).told (g.S.Store.seen c.write_pins.new.store).told _ c.write_pins.result
    (c.in_ok-reach_one.ensures.reads.told ∙ c.in_ok-pins.ensures.reads.told) c.in_ok-sync.ensures.ok c.write_pins.ensures.ok c.write_pins.ensures.err
