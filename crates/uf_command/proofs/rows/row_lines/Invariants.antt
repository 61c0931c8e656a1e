use Rattle.std.proofs.Common.{◌≡◌, take}
use Rattle.std.specs.List.{flat_map}
use Rattle.uf_command.specs.Lines.{row_line}
use Rattle.uf_command.proofs.rows.row_lines.Given as goal

abbrev pub invariant-loop-row : goal.invariant-loop-row
invariant-loop-row l = l.out ≡ flat_map row_line (take l.row-index l.rows)
