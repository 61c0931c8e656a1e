use Rattle.std.proofs.Common.{◌≡◌, take}
use Rattle.std.specs.List.{flat_map}
use Rattle.uf_command.specs.Pins.{cid_line}
use Rattle.uf_command.proofs.pins.cid_lines.Given as goal

abbrev pub invariant-loop-cid : goal.invariant-loop-cid
invariant-loop-cid l = l.out ≡ flat_map cid_line (take l.cid-index l.cids)
