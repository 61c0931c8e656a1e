use Rattle.uf_headline.proofs.Opened.{opened}
use Rattle.uf_headline.proofs.failing.what_a_stop_leaves_is_opened.Goals as goal

pub returns : goal.returns
returns c = opened
