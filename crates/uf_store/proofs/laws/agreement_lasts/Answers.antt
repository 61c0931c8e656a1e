use Rattle.uf_store.specs.Writing.{IsAny}
use Rattle.uf_store.proofs.Writing.{agrees-between}
use Rattle.uf_store.proofs.laws.agreement_lasts.Goals as goal

pub returns : goal.returns
returns c = λ hash a b d l p q h. agrees-between hash IsAny a b d l p q h
