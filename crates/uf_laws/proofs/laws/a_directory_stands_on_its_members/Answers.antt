use Rattle.uf_tree.proofs.TreeLaws.{entry-dir}
use Rattle.uf_laws.proofs.laws.a_directory_stands_on_its_members.Goals as goal

pub returns : goal.returns
returns c = λ X N p es. entry-dir X N p es
