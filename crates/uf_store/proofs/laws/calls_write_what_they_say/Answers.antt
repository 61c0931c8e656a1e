use Rattle.uf_store.proofs.Plain.{calls_write}
use Rattle.uf_store.proofs.laws.calls_write_what_they_say.Goals as goal

pub returns : goal.returns
returns c = calls_write
