use Rattle.uf_tree.proofs.HeadIs.{head_is, head_is_not}
use Rattle.uf_tree.proofs.heads.heads_are_their_texts.Goals as goal

pub returns-clause-read : goal.returns-clause-read
returns-clause-read c = head_is

pub returns-clause-refused : goal.returns-clause-refused
returns-clause-refused c = head_is_not
