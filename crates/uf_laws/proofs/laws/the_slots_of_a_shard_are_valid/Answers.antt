use Rattle.uf_tree.proofs.Valid.{shard_items-valid}
use Rattle.uf_laws.proofs.laws.the_slots_of_a_shard_are_valid.Goals as goal

pub returns : goal.returns
returns c = λ N deeper k l good named some. shard_items-valid N deeper good k l named some
