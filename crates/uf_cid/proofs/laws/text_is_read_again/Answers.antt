use Rattle.uf_cid.proofs.Again.{text_again}
use Rattle.uf_cid.proofs.laws.text_is_read_again.Goals as goal

pub returns : goal.returns
returns c = text_again
