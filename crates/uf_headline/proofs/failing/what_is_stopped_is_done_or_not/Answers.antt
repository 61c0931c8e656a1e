use Rattle.uf_headline.proofs.Calling.{all-stand}
use Rattle.uf_headline.proofs.failing.what_is_stopped_is_done_or_not.Goals as goal

pub returns : goal.returns
returns c = λ X N events a b p es hash small safe happen. all-stand X N hash small p events a b es safe happen
