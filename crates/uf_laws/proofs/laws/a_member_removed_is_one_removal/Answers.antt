use Rattle.uf_tree.proofs.TreeLaws.{named_entries-without}
use Rattle.uf_laws.proofs.laws.a_member_removed_is_one_removal.Goals as goal

pub returns : goal.returns
returns c = λ X N p m name es. named_entries-without X N p m name es
