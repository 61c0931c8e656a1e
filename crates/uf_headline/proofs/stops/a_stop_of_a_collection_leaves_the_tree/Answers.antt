use Rattle.uf_top.proofs.Collected.{stop-left}
use Rattle.uf_headline.proofs.stops.a_stop_of_a_collection_leaves_the_tree.Goals as goal

pub returns : goal.returns
returns c = λ X N t listed list p es hash fits safe is. stop-left X N hash fits t listed list p es safe is
