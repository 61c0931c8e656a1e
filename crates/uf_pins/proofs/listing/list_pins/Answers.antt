use Rattle.std.proofs.Common.{Err, List, None, subst, sym, ℕ}
use Rattle.std.proofs.lemmas.Result.{err_from_is_err_and}
use Rattle.uf_pins.specs.Reading.{ReadsPins}
use Rattle.uf_pins.specs.Texts.{ArePins}
use Rattle.uf_pins.proofs.Noted.{lists-read, stops-read}
use Rattle.uf_pins.proofs.Written.{refused}
use Rattle.uf_pins.proofs.listing.list_pins.Goals as goal

pub returns-in_err-read_pins-in-Text-clause-pins : goal.returns-in_err-read_pins-in-Text-clause-pins
returns-in_err-read_pins-in-Text-clause-pins g c t is =
    let out = err_from_is_err_and c.from_residual.result c.from_residual.ensures.1 in
    let h = stops-read (g.S.Store.seen c.args.store.now).told t is c.in-Text.text c.in-Text.ensures.seen.note c.in_err-read_pins-in-Text.field-0.0
    (refused c.in-Text.text c.in_err-read_pins-in-Text.field-0.0 (subst (λ (x : List ℕ). ReadsPins x (Err c.in_err-read_pins-in-Text.field-0.0)) c.as_slice.ensures c.in_err-read_pins-in-Text.ensures)) in
    rw (out.1, out.2) h

pub returns-in-Absent-clause-pins : goal.returns-in-Absent-clause-pins
returns-in-Absent-clause-pins g c t is = lists-read (g.S.Store.seen c.args.store.now).told t is None c.in-Absent.ensures.seen.note _ c.new.ensures

pub returns-in-Absent-clause-are : goal.returns-in-Absent-clause-are
returns-in-Absent-clause-are g c = subst ArePins (sym c.new.ensures) (record { ascending = tt; whole = tt })
