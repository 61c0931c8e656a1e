use Rattle.uf_command.specs.Dags.{tree_at}
use Rattle.uf_tree.specs.TreePlan.{entry}
use Rattle.uf_headline.proofs.Rooted.{by-plans}
use Rattle.uf_headline.proofs.roots.roots_are_of_trees_alone.Goals as goal

pub returns : goal.returns
returns c = λ X N. ((λ p t. (entry X N p t).cid), tree_at, by-plans X N)
