use Rattle.std.proofs.Common.{◌≡◌, take}
use Rattle.uf_shard.specs.Buckets.{AreHashed, pairs_of}
use Rattle.uf_shard.proofs.buckets.hash_all.Given as goal

abbrev pub invariant-loop-pair : goal.invariant-loop-pair
invariant-loop-pair g l = record {
  pairs : pairs_of l.rows ≡ take l.pair-index l.pairs;
  hashed : AreHashed g.N.NameHash.name64 l.rows;
}
