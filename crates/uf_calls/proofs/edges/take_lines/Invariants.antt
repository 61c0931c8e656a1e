use Rattle.std.proofs.Common.{Some}
use Rattle.uf_edge.specs.Memory.{source_left}
use Rattle.uf_lines.specs.Reading.{HasEnded}
use Rattle.uf_calls.proofs.edges.take_lines.Given as goal

abbrev pub invariant-loop : goal.invariant-loop
invariant-loop l = HasEnded l.lines (Some (source_left l.input))
