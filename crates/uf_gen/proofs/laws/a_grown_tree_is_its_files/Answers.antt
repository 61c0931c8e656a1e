use Rattle.uf_gen.proofs.Steps.{grown-left}
use Rattle.uf_gen.proofs.laws.a_grown_tree_is_its_files.Goals as goal

pub returns : goal.returns
returns c = λ X N p seed n es le e. grown-left X N p seed n es le e
