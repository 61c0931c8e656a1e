use Rattle.uf_cid.proofs.Again.{binary_again}
use Rattle.uf_cid.proofs.laws.binary_is_read_again.Goals as goal

pub returns : goal.returns
returns c = binary_again
