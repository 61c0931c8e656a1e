use Rattle.uf_message.proofs.Again.{one_message}
use Rattle.uf_message.proofs.laws.spellings_are_one.Goals as goal

pub returns : goal.returns
returns c = one_message
