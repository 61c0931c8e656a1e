use Rattle.std.proofs.Common.{◌≡◌, take}
use Rattle.std.specs.List.{flat_map}
use Rattle.uf_command.specs.Lines.{name_line}
use Rattle.uf_command.proofs.rows.name_lines.Given as goal

abbrev pub invariant-loop-name : goal.invariant-loop-name
invariant-loop-name l = l.out ≡ flat_map name_line (take l.name-index l.names)
