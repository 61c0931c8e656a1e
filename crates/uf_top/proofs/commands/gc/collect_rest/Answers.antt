use Rattle.std.proofs.Common.{◌∙◌, ap, refl, subst, inl, inr, Err, Ok}
use Rattle.std.proofs.lemmas.Result.{err_from_is_err_and}
use Rattle.uf_command.specs.Telling.{Prints}
use Rattle.uf_command.specs.declared.types.Refusal.{Refusal}
use Rattle.uf_top.proofs.Shows.{counts-still}
use Rattle.uf_top.proofs.commands.gc.collect_rest.Goals as goal

pub returns-in_err-count-clause-prints : goal.returns-in_err-count-clause-prints
returns-in_err-count-clause-prints g c =
    let out = err_from_is_err_and c.from_residual.result c.from_residual.ensures.1 in
    record {
      gone = Err c.in_err-count.field-0.0;
      lets_go = c.in_err-count.ensures.goes;
      prints = (out.1 ∙ ap (λ (w : Refusal). Err w) out.2, refl, counts-still (g.O.Sink.faults c.args.output.now));
    }

pub returns-in_err-row-clause-prints : goal.returns-in_err-row-clause-prints
returns-in_err-row-clause-prints g c =
    let out = err_from_is_err_and c.from_residual-in_err-row.result c.from_residual-in_err-row.ensures.1 in
    record {
      gone = Ok c.in_ok-count.count;
      lets_go = c.in_ok-count.ensures.goes;
      prints = inr (out.1 ∙ ap (λ (w : Refusal). Err w) out.2, refl, counts-still (g.O.Sink.faults c.args.output.now));
    }

pub returns-clause-prints : goal.returns-clause-prints
returns-clause-prints g c = record {
  gone = Ok c.in_ok-count.count;
  lets_go = c.in_ok-count.ensures.goes;
  prints = inl (subst (λ text. Prints text c.print.result (g.O.Sink.holds c.args.output.now) (g.O.Sink.holds c.print.new.output) (g.O.Sink.faults c.args.output.now) (g.O.Sink.faults c.print.new.output)) c.in_ok-row.ensures c.print.ensures);
}
