use Rattle.uf_tree.proofs.Groups.{joined-split}
use Rattle.uf_laws.proofs.laws.the_pieces_are_the_file.Goals as goal

pub returns : goal.returns
returns c = λ p bytes. joined-split p.chunk p.chunk bytes
