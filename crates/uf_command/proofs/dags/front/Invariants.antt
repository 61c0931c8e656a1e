use Rattle.std.proofs.Common.{◌≡◌, take}
use Rattle.uf_command.proofs.dags.front.Given as goal

abbrev pub invariant-loop-name : goal.invariant-loop-name
invariant-loop-name l = l.names ≡ take l.name-index l.name-items
