use Rattle.std.proofs.Common.{◌≡◌, List, ℕ}
use Rattle.uf_lines.specs.Reading.{HasEnded, line_room, lines_ahead, lines_told}
use Rattle.uf_top.specs.Batch.{LinesDone}
use Rattle.uf_top.specs.Lent.{lent_line}
use Rattle.uf_top.proofs.Lined.{goes}
use Rattle.uf_top.proofs.commands.batch.batch.Given as goal

abbrev pub invariant-rest : goal.invariant-rest
invariant-rest g l = record {
  gone : (lines : List (List ℕ))
      × LinesDone g.S.X.BlockHash.block32 g.N.NameHash.name64 lines
      (lent_line g.O.Sink g.W.Host g.E.Sink (g.S.Store.seen l.initial.store) l.initial.output l.initial.touches l.initial.host l.initial.errors)
      (lent_line g.O.Sink g.W.Host g.E.Sink (g.S.Store.seen l.store) l.output l.touches l.host l.errors)
      × (lines_told 1048576 l.limit (g.I.Source.left l.initial.input) ≡ goes lines (lines_ahead l.lines (g.I.Source.left l.input)));
  ended : HasEnded l.lines (g.I.Source.left l.input);
  counted : g.I.Source.faults l.input ≡ g.I.Source.faults l.initial.input;
}

abbrev pub decreases-rest : goal.decreases-rest
decreases-rest g l = line_room l.lines
