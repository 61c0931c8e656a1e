use Rattle.uf_tree.proofs.Valid.{directory-valid}
use Rattle.uf_laws.proofs.laws.the_pairs_of_a_directory_are_valid.Goals as goal

pub returns : goal.returns
returns c = λ X N p es good ok tree. directory-valid X good N p ok es tree
