use Rattle.std.proofs.Common.{sym}
use Rattle.std.proofs.lemmas.Result.{err_from_is_err_and}
use Rattle.uf_message.specs.Steps.{added}
use Rattle.uf_message.specs.Reading.{run}
use Rattle.uf_message.proofs.Runs.{goes_on, stops, is_done}
use Rattle.uf_message.proofs.reading.take_run.Goals as goal

pub returns-in_err-size : goal.returns-in_err-size
returns-in_err-size c =
    let out = err_from_is_err_and c.from_residual.result c.from_residual.ensures.1 in rw (out.1, out.2)
    (stops c.loop-rest.sizes c.loop-rest.rest.now c.in_err-size.field-0.0 (added c.args.sizes.now (run c.args.bytes.now)) (sym c.loop-rest-test.ensures) c.in_err-size.ensures.exact c.loop-rest.invariant)

pub loop-rest-preserved : goal.loop-rest-preserved
loop-rest-preserved c =
    let more = goes_on c.loop-rest.sizes c.loop-rest.rest.now c.in_ok-size.size c.in_ok-size.after.now (added c.args.sizes.now (run c.args.bytes.now)) (sym c.loop-rest-test.ensures) c.in_ok-size.ensures.exact c.loop-rest.invariant in
    rw c.in_ok-push.ensures.ok more

pub returns : goal.returns
returns c = is_done c.loop-rest.sizes c.loop-rest.rest.now (added c.args.sizes.now (run c.args.bytes.now)) (sym c.loop-rest-test.ensures) c.loop-rest.invariant
