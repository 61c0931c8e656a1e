use Rattle.uf_tree.proofs.Canonical.{shard-canonical}
use Rattle.uf_laws.proofs.laws.a_shard_is_canonical.Goals as goal

pub returns : goal.returns
returns c = λ N deeper left way meta l good e carried may named some along has. shard-canonical N deeper good left way meta l e carried may named some along has
