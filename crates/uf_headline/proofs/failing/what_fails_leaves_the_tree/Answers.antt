use Rattle.uf_headline.proofs.Calling.{calls-stand}
use Rattle.uf_headline.proofs.failing.what_fails_leaves_the_tree.Goals as goal

pub returns : goal.returns
returns c = calls-stand
