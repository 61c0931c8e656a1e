use Rattle.std.proofs.Common.{refl}
use Rattle.uf_murmur.specs.Murmur.{murmur3, halves_after}
use Rattle.uf_murmur.proofs.laws.the_hash_of_nothing.Goals as goal

pub returns : goal.returns
unfolding murmur3 halves_after
returns c = refl
