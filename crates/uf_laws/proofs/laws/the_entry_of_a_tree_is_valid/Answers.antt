use Rattle.uf_tree.proofs.Valid.{entry-valid}
use Rattle.uf_laws.proofs.laws.the_entry_of_a_tree_is_valid.Goals as goal

pub returns : goal.returns
returns c = λ X N p t good ok. entry-valid X good N p ok t
