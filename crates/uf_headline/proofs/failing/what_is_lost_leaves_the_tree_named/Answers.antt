use Rattle.uf_tree.specs.Standing.{Stands}
use Rattle.uf_headline.proofs.Calling.{all-named}
use Rattle.uf_headline.proofs.failing.what_is_lost_leaves_the_tree_named.Goals as goal

pub returns : goal.returns
returns c = λ X N steps a b p es names calls. all-named X N steps (Stands p es) a b names calls
