use Rattle.uf_store.specs.Writing.{IsAny}
use Rattle.uf_store.proofs.Plain.{stays_plain}
use Rattle.uf_store.proofs.laws.what_is_told_was_written.Goals as goal

pub returns-clause-kept : goal.returns-clause-kept
returns-clause-kept c = λ hash a b plain wrote. stays_plain hash IsAny a b plain wrote
