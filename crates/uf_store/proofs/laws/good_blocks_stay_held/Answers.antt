use Rattle.uf_store.specs.Writing.{IsAny}
use Rattle.uf_store.proofs.Keeping.{Holds-kept, KeepsGood-trans}
use Rattle.uf_store.proofs.Writing.{Wrote-good}
use Rattle.uf_store.proofs.laws.good_blocks_stay_held.Goals as goal

pub returns-clause-kept : goal.returns-clause-kept
returns-clause-kept c = λ hash a b wrote. Wrote-good hash IsAny a b wrote

pub returns-clause-goes_on : goal.returns-clause-goes_on
returns-clause-goes_on c = KeepsGood-trans

pub returns-clause-held : goal.returns-clause-held
returns-clause-held c = Holds-kept
