use Rattle.uf_pull.proofs.WholeLaws.{honest_ends}
use Rattle.uf_pull.proofs.laws.an_honest_peer_is_enough.Goals as goal

pub returns : goal.returns
returns c = λ hash most root held peer list rest honest. honest_ends hash most root held peer list rest honest
