use Rattle.std.proofs.Common.{Err, ◌∙◌}
use Rattle.std.proofs.lemmas.Result.{err_from_is_err_and}
use Rattle.uf_pins.specs.Calls.{RemovesPin}
use Rattle.uf_pins.proofs.Changed.{is-unpinned, note-refuses, unpins-by}
use Rattle.uf_pins.proofs.Placed.{there-at}
use Rattle.uf_pins.proofs.removing.remove_pin.Goals as goal

pub returns-in_err-pins-clause-removed : goal.returns-in_err-pins-clause-removed
returns-in_err-pins-clause-removed g c t is =
    let out = err_from_is_err_and c.from_residual.result c.from_residual.ensures.1 in
    let h : RemovesPin t c.args.cid.now (Err c.in_err-pins.field-0.0) (g.S.Store.seen c.list_pins.new.store).told =
    note-refuses t c.args.cid.now _ c.in_err-pins.field-0.0 (c.in_err-pins.ensures.pins t is) (c.in_err-pins.ensures.reads.told ∙ is) in
    rw (out.1, out.2) h

pub returns-in_default-clause-removed : goal.returns-in_default-clause-removed
returns-in_default-clause-removed g c t is =
    is-unpinned t c.args.cid.now c.in_ok-pins.pins (c.in_ok-pins.ensures.pins t is) _ c.in_default.ensures (c.in_ok-pins.ensures.reads.told ∙ is)

pub returns-clause-removed : goal.returns-clause-removed
returns-clause-removed g c t is =
    unpins-by t c.args.cid.now c.in_ok-pins.pins (c.in_ok-pins.ensures.pins t is) _ _ c.in_ok-left.left _ c.write_pins.result
    (there-at c.in_ok-pins.pins c.in-Some.at c.args.cid.now c.in-Some.ensures) c.in_ok-left.ensures c.in_ok-text.ensures (c.in_ok-pins.ensures.reads.told ∙ is)
    c.write_pins.ensures.ok c.write_pins.ensures.err c.write_pins.ensures.fault
