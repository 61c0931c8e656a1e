use Rattle.uf_dagpb.proofs.Strictly.{one_spelling}
use Rattle.uf_dagpb.proofs.laws.spellings_are_of_one_node.Goals as goal

pub returns : goal.returns
returns c = one_spelling
