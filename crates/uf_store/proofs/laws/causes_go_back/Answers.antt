use Rattle.uf_store.specs.Faults.{NoneIsBad}
use Rattle.uf_store.proofs.Causes.{Answers-after}
use Rattle.uf_store.proofs.laws.causes_go_back.Goals as goal

pub returns : goal.returns
returns c = λ hash answer a b d calm answers. Answers-after hash NoneIsBad answer a b d calm answers
