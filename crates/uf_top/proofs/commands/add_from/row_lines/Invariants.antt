use Rattle.std.proofs.Common.{◌≡◌, take}
use Rattle.std.specs.List.{flat_map}
use Rattle.uf_top.specs.HostTexts.{host_row}
use Rattle.uf_top.proofs.commands.add_from.row_lines.Given as goal

abbrev pub invariant-loop-row : goal.invariant-loop-row
invariant-loop-row l = l.out ≡ flat_map host_row (take l.row-index l.rows)
