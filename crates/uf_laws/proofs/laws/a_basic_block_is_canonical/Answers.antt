use Rattle.uf_tree.proofs.Canonical.{basic-canonical}
use Rattle.uf_laws.proofs.laws.a_basic_block_is_canonical.Goals as goal

pub returns : goal.returns
returns c = λ p m l good valid h. basic-canonical p m l good valid h
