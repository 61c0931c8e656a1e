use Rattle.uf_tree.proofs.Sizes.{dir_length, shard_length, file_length}
use Rattle.uf_laws.proofs.laws.canonical_blocks_are_short.Goals as goal

pub returns : goal.returns
returns c = record {
  directory = λ p m l ok named basic. dir_length p m l ok named basic;
  shard = λ m items h. shard_length m items h;
  file = λ node h. file_length node h;
}
