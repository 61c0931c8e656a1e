use Rattle.std.proofs.Common.{◌∙◌, ap, refl, subst, Err, Ok}
use Rattle.std.proofs.lemmas.Result.{err_from_is_err_and}
use Rattle.uf_command.specs.Pins.{pin_refusal}
use Rattle.uf_command.specs.Statuses.{no_memory}
use Rattle.uf_command.specs.Telling.{Prints}
use Rattle.uf_command.specs.declared.types.PinAsk.TheVariants as pins
use Rattle.uf_command.specs.declared.types.Refusal.{Refusal}
use Rattle.uf_top.specs.Around.{around}
use Rattle.uf_top.proofs.Pins.{adds, as-asked, lists-done, no-text, removes, unlisted}
use Rattle.uf_top.proofs.commands.pin.pin.Goals as goal

pub returns-in_err-add_pin-in-Add-clause-does : goal.returns-in_err-add_pin-in-Add-clause-does
returns-in_err-add_pin-in-Add-clause-does g c = λ N left reads side er er2.
    let out = err_from_is_err_and c.from_residual.result c.from_residual.ensures.1 in
    let e = c.in_err-add_pin-in-Add.ensures in
    as-asked g.S.X.BlockHash.block32 N (around (g.S.Store.seen c.args.store.now) left reads (g.O.Sink.holds c.args.output.now) (g.O.Sink.faults c.args.output.now) c.args.touches.now side er)
    (around (g.S.Store.seen c.add_pin.new.store) left reads (g.O.Sink.holds c.args.output.now) (g.O.Sink.faults c.args.output.now) c.add_pin.new.touches side er2)
    c.args.ask.now (pins.Add c.in-Add.cid) c.in-Add.is c.from_residual.result (Err (pin_refusal c.in_err-add_pin-in-Add.field-0.0)) (out.1 ∙ ap (λ (w : Refusal). Err w) out.2)
    (adds g.S.X.BlockHash.block32 N (g.S.Store.seen c.args.store.now) (g.S.Store.seen c.add_pin.new.store) left reads (g.O.Sink.holds c.args.output.now) (g.O.Sink.faults c.args.output.now) c.args.touches.now c.add_pin.new.touches side er er2 c.in-Add.cid (Err c.in_err-add_pin-in-Add.field-0.0) e.added e.writes e.unread e.cause)

pub returns-in_ok-add_pin-in-Add-clause-does : goal.returns-in_ok-add_pin-in-Add-clause-does
returns-in_ok-add_pin-in-Add-clause-does g c = λ N left reads side er er2.
    let e = c.in_ok-add_pin-in-Add.ensures in
    as-asked g.S.X.BlockHash.block32 N (around (g.S.Store.seen c.args.store.now) left reads (g.O.Sink.holds c.args.output.now) (g.O.Sink.faults c.args.output.now) c.args.touches.now side er)
    (around (g.S.Store.seen c.add_pin.new.store) left reads (g.O.Sink.holds c.args.output.now) (g.O.Sink.faults c.args.output.now) c.add_pin.new.touches side er2)
    c.args.ask.now (pins.Add c.in-Add.cid) c.in-Add.is (Ok tt) (Ok tt) refl
    (adds g.S.X.BlockHash.block32 N (g.S.Store.seen c.args.store.now) (g.S.Store.seen c.add_pin.new.store) left reads (g.O.Sink.holds c.args.output.now) (g.O.Sink.faults c.args.output.now) c.args.touches.now c.add_pin.new.touches side er er2 c.in-Add.cid (Ok tt) e.added e.writes e.unread e.cause)

pub returns-in_err-remove_pin-in-Remove-clause-does : goal.returns-in_err-remove_pin-in-Remove-clause-does
returns-in_err-remove_pin-in-Remove-clause-does g c = λ N left reads side er er2.
    let out = err_from_is_err_and c.from_residual-in_err-remove_pin-in-Remove.result c.from_residual-in_err-remove_pin-in-Remove.ensures.1 in
    let e = c.in_err-remove_pin-in-Remove.ensures in
    as-asked g.S.X.BlockHash.block32 N (around (g.S.Store.seen c.args.store.now) left reads (g.O.Sink.holds c.args.output.now) (g.O.Sink.faults c.args.output.now) c.args.touches.now side er)
    (around (g.S.Store.seen c.remove_pin.new.store) left reads (g.O.Sink.holds c.args.output.now) (g.O.Sink.faults c.args.output.now) c.args.touches.now side er2)
    c.args.ask.now (pins.Remove c.in-Remove.cid) c.in-Remove.is c.from_residual-in_err-remove_pin-in-Remove.result (Err (pin_refusal c.in_err-remove_pin-in-Remove.field-0.0)) (out.1 ∙ ap (λ (w : Refusal). Err w) out.2)
    (removes g.S.X.BlockHash.block32 N (g.S.Store.seen c.args.store.now) (g.S.Store.seen c.remove_pin.new.store) left reads (g.O.Sink.holds c.args.output.now) (g.O.Sink.faults c.args.output.now) c.args.touches.now side er er2 c.in-Remove.cid (Err c.in_err-remove_pin-in-Remove.field-0.0) e.faults e.removed e.writes e.cause)

pub returns-in_ok-remove_pin-in-Remove-clause-does : goal.returns-in_ok-remove_pin-in-Remove-clause-does
returns-in_ok-remove_pin-in-Remove-clause-does g c = λ N left reads side er er2.
    let e = c.in_ok-remove_pin-in-Remove.ensures in
    as-asked g.S.X.BlockHash.block32 N (around (g.S.Store.seen c.args.store.now) left reads (g.O.Sink.holds c.args.output.now) (g.O.Sink.faults c.args.output.now) c.args.touches.now side er)
    (around (g.S.Store.seen c.remove_pin.new.store) left reads (g.O.Sink.holds c.args.output.now) (g.O.Sink.faults c.args.output.now) c.args.touches.now side er2)
    c.args.ask.now (pins.Remove c.in-Remove.cid) c.in-Remove.is (Ok tt) (Ok tt) refl
    (removes g.S.X.BlockHash.block32 N (g.S.Store.seen c.args.store.now) (g.S.Store.seen c.remove_pin.new.store) left reads (g.O.Sink.holds c.args.output.now) (g.O.Sink.faults c.args.output.now) c.args.touches.now side er er2 c.in-Remove.cid (Ok tt) tt e.removed e.writes e.cause)

pub returns-in_err-pins-in-List-clause-does : goal.returns-in_err-pins-in-List-clause-does
returns-in_err-pins-in-List-clause-does g c = λ N left reads side er er2.
    let out = err_from_is_err_and c.from_residual-in_err-pins-in-List.result c.from_residual-in_err-pins-in-List.ensures.1 in
    let e = c.in_err-pins-in-List.ensures in
    as-asked g.S.X.BlockHash.block32 N (around (g.S.Store.seen c.args.store.now) left reads (g.O.Sink.holds c.args.output.now) (g.O.Sink.faults c.args.output.now) c.args.touches.now side er)
    (around (g.S.Store.seen c.list_pins.new.store) left reads (g.O.Sink.holds c.args.output.now) (g.O.Sink.faults c.args.output.now) c.args.touches.now side er2)
    c.args.ask.now pins.List c.in-List.is c.from_residual-in_err-pins-in-List.result (Err (pin_refusal c.in_err-pins-in-List.field-0.0)) (out.1 ∙ ap (λ (w : Refusal). Err w) out.2)
    (unlisted g.S.X.BlockHash.block32 N (g.S.Store.seen c.args.store.now) (g.S.Store.seen c.list_pins.new.store) left reads (g.O.Sink.holds c.args.output.now) (g.O.Sink.faults c.args.output.now) c.args.touches.now side er er2 c.in_err-pins-in-List.field-0.0 e.faults e.pins e.reads.cause e.reads.told)

pub returns-in_err-text-in-List-clause-does : goal.returns-in_err-text-in-List-clause-does
returns-in_err-text-in-List-clause-does g c = λ N left reads side er er2.
    let out = err_from_is_err_and c.from_residual-in_err-text-in-List.result c.from_residual-in_err-text-in-List.ensures.1 in
    let e = c.in_ok-pins-in-List.ensures in
    as-asked g.S.X.BlockHash.block32 N (around (g.S.Store.seen c.args.store.now) left reads (g.O.Sink.holds c.args.output.now) (g.O.Sink.faults c.args.output.now) c.args.touches.now side er)
    (around (g.S.Store.seen c.list_pins.new.store) left reads (g.O.Sink.holds c.args.output.now) (g.O.Sink.faults c.args.output.now) c.args.touches.now side er2)
    c.args.ask.now pins.List c.in-List.is c.from_residual-in_err-text-in-List.result (Err no_memory) (out.1 ∙ ap (λ (w : Refusal). Err w) out.2)
    (no-text g.S.X.BlockHash.block32 N (g.S.Store.seen c.args.store.now) (g.S.Store.seen c.list_pins.new.store) left reads (g.O.Sink.holds c.args.output.now) (g.O.Sink.faults c.args.output.now) c.args.touches.now side er er2 c.in_ok-pins-in-List.pins e.pins e.reads.cause e.reads.told)

pub returns-in_ok-text-in-List-clause-does : goal.returns-in_ok-text-in-List-clause-does
returns-in_ok-text-in-List-clause-does g c = λ N left reads side er er2.
    let e = c.in_ok-pins-in-List.ensures in
    as-asked g.S.X.BlockHash.block32 N (around (g.S.Store.seen c.args.store.now) left reads (g.O.Sink.holds c.args.output.now) (g.O.Sink.faults c.args.output.now) c.args.touches.now side er)
    (around (g.S.Store.seen c.list_pins.new.store) left reads (g.O.Sink.holds c.print.new.output) (g.O.Sink.faults c.print.new.output) c.args.touches.now side er2)
    c.args.ask.now pins.List c.in-List.is c.print.result c.print.result refl
    (lists-done g.S.X.BlockHash.block32 N (g.S.Store.seen c.args.store.now) (g.S.Store.seen c.list_pins.new.store) left reads (g.O.Sink.holds c.args.output.now) (g.O.Sink.faults c.args.output.now) c.args.touches.now side er er2 c.in_ok-pins-in-List.pins e.pins e.reads.cause e.reads.told (g.O.Sink.holds c.print.new.output) (g.O.Sink.faults c.print.new.output) c.print.result
    (subst (λ text. Prints text c.print.result (g.O.Sink.holds c.args.output.now) (g.O.Sink.holds c.print.new.output) (g.O.Sink.faults c.args.output.now) (g.O.Sink.faults c.print.new.output)) c.in_ok-text-in-List.ensures c.print.ensures))
