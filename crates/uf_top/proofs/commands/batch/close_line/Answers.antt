use Rattle.std.proofs.Common.{◌∙◌, inr, List, ℕ, refl, subst, sym}
use Rattle.uf_edge.specs.Streams.{AppendsPrefix}
use Rattle.uf_top.proofs.commands.batch.close_line.Goals as goal

pub returns-in-Failed : goal.returns-in-Failed
returns-in-Failed g c =
    let P : List ℕ → Type 0 = λ text. AppendsPrefix text (g.O.Sink.holds c.args.output.now) (g.O.Sink.holds c.write_all-sent.new.out) in
    inr (record {
      was = c.tell_end-status.result;
      between = record { held = g.E.Sink.holds c.tell_end-status.new.errors; faults = g.E.Sink.faults c.tell_end-status.new.errors };
      told = c.tell_end-status.ensures;
      goes_on = sym c.ends_batch.ensures ∙ c.if-ends_batch.false;
      cut = record { printed = subst P c.mark.ensures c.in-Failed.ensures.bytes; counted = c.in-Failed.ensures.counts.rose refl };
      tells = c.tell.ensures;
    })
