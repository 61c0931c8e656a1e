use Rattle.uf_headline.proofs.Rooted.{history-ran}
use Rattle.uf_headline.proofs.roots.a_history_ran_well.Goals as goal

pub returns : goal.returns
returns c = history-ran
