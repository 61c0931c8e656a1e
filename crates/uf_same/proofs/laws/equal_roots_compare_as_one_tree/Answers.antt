use Rattle.uf_same.proofs.OneTree.{finds-one-tree}
use Rattle.uf_same.proofs.laws.equal_roots_compare_as_one_tree.Goals as goal

pub returns : goal.returns
returns c = λ X N p q t u left right most good small ok oq tree other fits also all each roots few.
    finds-one-tree X N good small p q t u left right most (record { profile = ok; tree = tree; planned = fits; all = all }) (record { profile = oq; tree = other; planned = also; all = each }) roots few
