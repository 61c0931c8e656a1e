use Rattle.uf_headline.proofs.Histories.{history-replied}
use Rattle.uf_headline.proofs.replies.a_history_makes_what_its_replies_say.Goals as goal

pub returns : goal.returns
returns c = history-replied
