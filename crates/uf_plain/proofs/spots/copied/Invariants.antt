use Rattle.std.proofs.Common.{◌≡◌, take}
use Rattle.uf_plain.proofs.spots.copied.Given as goal

abbrev pub invariant-loop-name : goal.invariant-loop-name
invariant-loop-name l = l.list ≡ take l.name-index l.names
