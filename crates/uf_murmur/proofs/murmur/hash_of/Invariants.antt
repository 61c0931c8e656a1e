use Rattle.std.proofs.Common.{◌≡◌}
use Rattle.uf_murmur.specs.Murmur.{halves_after}
use Rattle.uf_murmur.proofs.murmur.hash_of.Given as goal

abbrev pub invariant-loop-block : goal.invariant-loop-block
invariant-loop-block l = halves_after l.name l.block ≡ (l.h1, l.h2)
