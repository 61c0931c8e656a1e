use Rattle.std.proofs.Common.{◌≡◌, take}
use Rattle.std.specs.List.{flat_map}
use Rattle.uf_command.specs.Cars.{root_line}
use Rattle.uf_command.proofs.cars.root_lines.Given as goal

abbrev pub invariant-loop-root : goal.invariant-loop-root
invariant-loop-root l = l.out ≡ flat_map root_line (take l.root-index l.roots)
