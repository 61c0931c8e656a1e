use Rattle.uf_tree.proofs.HeadAgain.{head_again}
use Rattle.uf_tree.proofs.heads.heads_are_read_again.Goals as goal

pub returns : goal.returns
returns c = head_again
