use Rattle.uf_cid.proofs.Again.{upper_again}
use Rattle.uf_cid.proofs.laws.cases_are_one.Goals as goal

pub returns : goal.returns
returns c = upper_again
