use Rattle.std.proofs.Common.{sym, ap, ◌∙◌}
use Rattle.std.proofs.lemmas.Result.{err_from_is_err_and}
use Rattle.uf_varint.specs.Fields.{fields}
use Rattle.uf_message.specs.Reading.{Selected, message_reads}
use Rattle.uf_message.specs.Steps.{selection}
use Rattle.uf_message.proofs.Selections.{reads_on, starts, goes_on, key_fails, field_fails, is_done}
use Rattle.uf_message.proofs.reading.decode_lenient.Goals as goal

pub loop-rest-init : goal.loop-rest-init
loop-rest-init c = ap (λ (s : Selected). reads_on s (fields c.args.bytes.now)) c.new-seen.ensures ∙ starts c.args.bytes.now

pub returns-in_err-key : goal.returns-in_err-key
returns-in_err-key c =
    let out = err_from_is_err_and c.from_residual.result c.from_residual.ensures.1 in rw (out.1, out.2)
    (key_fails (selection c.loop-rest.seen) c.loop-rest.rest.now c.in_err-key.field-0.0 (message_reads c.args.bytes.now) (sym c.loop-rest-test.ensures) c.in_err-key.ensures.exact c.loop-rest.invariant)

pub returns-in_err-rest : goal.returns-in_err-rest
returns-in_err-rest c =
    let out = err_from_is_err_and c.from_residual-in_err-rest.result c.from_residual-in_err-rest.ensures.1 in rw (out.1, out.2)
    (field_fails (selection c.loop-rest.seen) c.loop-rest.rest.now c.in_ok-key.key c.in_ok-key.after.now c.in_err-rest.field-0.0 (message_reads c.args.bytes.now) (sym c.loop-rest-test.ensures) c.in_ok-key.ensures.exact c.in_err-rest.ensures.exact c.loop-rest.invariant)

pub loop-rest-preserved : goal.loop-rest-preserved
loop-rest-preserved c =
    goes_on (selection c.loop-rest.seen) (selection c.take.new.self) c.loop-rest.rest.now c.in_ok-key.key c.in_ok-key.after.now c.in_ok-rest.rest.now (message_reads c.args.bytes.now) (sym c.loop-rest-test.ensures) c.in_ok-key.ensures.exact c.in_ok-rest.ensures.exact c.loop-rest.invariant

pub returns : goal.returns
returns c = is_done (selection c.loop-rest.seen) c.loop-rest.rest.now (message_reads c.args.bytes.now) c.finish.result (sym c.loop-rest-test.ensures) c.loop-rest.invariant c.finish.ensures
