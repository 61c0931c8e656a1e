use Rattle.std.proofs.Common.{◌∙◌, ◌++◌, ◌∷◌, [], ap, refl, sym}
use Rattle.uf_lines.specs.Reading.{lines_ahead, with_line_told}
use Rattle.uf_top.specs.Batch.{AtLine, ByMemory}
use Rattle.uf_top.specs.Lent.{lent_line}
use Rattle.uf_top.proofs.Lined.{goes-line, goes-more, goes-some, lines-more}
use Rattle.uf_top.proofs.commands.batch.batch.Goals as goal

pub returns-in-Memory : goal.returns-in-Memory
returns-in-Memory g c =
    let gone = c.rest.invariant.gone in
    record {
      lines = gone.0;
      between = lent_line g.O.Sink g.W.Host g.E.Sink (g.S.Store.seen c.rest.store) c.rest.output c.rest.touches c.rest.host c.rest.errors;
      ending = ByMemory;
      done = gone.1;
      ends = record { same = refl; told = c.tell-in-Memory.ensures };
      told = goes-some _ _ gone.0 _ _ gone.2;
      nothing_left = λ is. absurd cc;
      fails = c.in-Memory.ensures.counts.still refl ∙ c.rest.invariant.counted;
    }

pub returns-in-Some : goal.returns-in-Some
returns-in-Some g c =
    let gone = c.rest.invariant.gone in
    record {
      lines = gone.0;
      between = lent_line g.O.Sink g.W.Host g.E.Sink (g.S.Store.seen c.rest.store) c.rest.output c.rest.touches c.rest.host c.rest.errors;
      ending = AtLine c.line-line.result.now;
      done = gone.1;
      ends = c.in-Some.ensures;
      told = goes-line _ _ gone.0 c.line-line.result.now _ _ _ gone.2 (c.in-Given.ensures.answer ∙ ap (λ l. with_line_told l (lines_ahead c.next.new.self (g.I.Source.left c.next.new.input))) (sym c.line-line.ensures));
      nothing_left = λ is. absurd cc;
      fails = c.in-Given.ensures.counts.still refl ∙ c.rest.invariant.counted;
    }

pub rest-preserved : goal.rest-preserved
rest-preserved g c =
    let gone = c.rest.invariant.gone in
    record {
      gone = (
        gone.0 ++ c.line-line.result.now ∷ [],
        lines-more g.S.X.BlockHash.block32 g.N.NameHash.name64 gone.0 c.line-line.result.now _ _ _ gone.1 c.in_default.ensures,
        goes-more gone.0 c.line-line.result.now _ _ _ gone.2 (c.in-Given.ensures.answer ∙ ap (λ l. with_line_told l (lines_ahead c.next.new.self (g.I.Source.left c.next.new.input))) (sym c.line-line.ensures)),
      );
      ended = c.in-Given.ensures.ended;
      counted = c.in-Given.ensures.counts.still refl ∙ c.rest.invariant.counted;
    }
