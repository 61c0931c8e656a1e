use Rattle.uf_tree.proofs.Canonical.{sharded-canonical}
use Rattle.uf_laws.proofs.laws.a_root_shard_is_canonical.Goals as goal

pub returns : goal.returns
returns c = λ X N p m l good carried valid h. sharded-canonical X good N p m l carried valid h
