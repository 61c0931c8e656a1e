use Rattle.uf_laws.proofs.Trees.{same_tree}
use Rattle.uf_laws.proofs.unique.equal_roots_mean_equal_trees.Goals as goal

pub returns : goal.returns
returns c = λ X N p q held t u good small ok oq tree other planned also all each e.
    same_tree X N good small held p q t u (record { profile = ok; tree = tree; planned = planned; all = all }) (record { profile = oq; tree = other; planned = also; all = each }) e
