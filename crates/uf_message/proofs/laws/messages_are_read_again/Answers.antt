use Rattle.uf_message.proofs.Again.{message_again}
use Rattle.uf_message.proofs.laws.messages_are_read_again.Goals as goal

pub returns : goal.returns
returns c = message_again
