use Rattle.uf_tree.proofs.TreeLaws.{named_entries-with}
use Rattle.uf_laws.proofs.laws.a_member_put_is_one_put.Goals as goal

pub returns : goal.returns
returns c = λ X N p m name t es. named_entries-with X N p m name t es
