use Rattle.uf_laws.proofs.Clashing.{same_tree_or_clash}
use Rattle.uf_laws.proofs.unique.equal_roots_mean_equal_trees_or_a_clash.Goals as goal

pub returns : goal.returns
returns c = λ X N p q t u good small ok oq tree other planned also e. same_tree_or_clash X N p q t u good small ok oq tree other planned also e
