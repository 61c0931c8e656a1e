use Rattle.std.proofs.Common.{◌≡◌}
use Rattle.uf_gen.specs.Rules.{rising_bytes}
use Rattle.uf_gen.proofs.rules.first_bytes.Given as goal

abbrev pub invariant-loop-j : goal.invariant-loop-j
invariant-loop-j l = l.bytes ≡ rising_bytes l.from l.j
