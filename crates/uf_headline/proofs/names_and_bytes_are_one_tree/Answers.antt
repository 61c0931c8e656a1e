use Rattle.uf_headline.proofs.Places.{places-decide}
use Rattle.uf_headline.proofs.names_and_bytes_are_one_tree.Goals as goal

pub returns : goal.returns
returns c = places-decide
