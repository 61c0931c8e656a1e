use Rattle.uf_store.specs.Writing.{IsAny}
use Rattle.uf_store.proofs.Writing.{SavesOnly-refl, SavesOnly-trans, Wrote-trans, saves-write}
use Rattle.uf_store.proofs.laws.what_is_written_goes_on.Goals as goal

pub returns-clause-nothing : goal.returns-clause-nothing
returns-clause-nothing c = SavesOnly-refl

pub returns-clause-saves : goal.returns-clause-saves
returns-clause-saves c = SavesOnly-trans

pub returns-clause-writes : goal.returns-clause-writes
returns-clause-writes c = λ hash a b d. Wrote-trans hash IsAny a b d

pub returns-clause-wider : goal.returns-clause-wider
returns-clause-wider c = saves-write
