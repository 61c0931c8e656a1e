use Rattle.uf_tree.proofs.Told.{as_T}
use Rattle.uf_tree.proofs.ShardLaws.{items-put}
use Rattle.uf_laws.proofs.laws.a_put_changes_one_slot.Goals as goal

pub returns : goal.returns
returns c = λ N deeper k name e l h. items-put N deeper k name l (as_T _ h) e
