use Rattle.uf_store.proofs.Among.{SavesAmong-append, SavesAmong-kept, SavesAmong-more, SavesAmong-only, SavesAmong-refl}
use Rattle.uf_store.proofs.laws.saves_go_on_among_blocks.Goals as goal

pub returns-clause-nothing : goal.returns-clause-nothing
returns-clause-nothing c = SavesAmong-refl

pub returns-clause-one : goal.returns-clause-one
returns-clause-one c = SavesAmong-kept

pub returns-clause-in_a_row : goal.returns-clause-in_a_row
returns-clause-in_a_row c = SavesAmong-append

pub returns-clause-more : goal.returns-clause-more
returns-clause-more c = SavesAmong-more

pub returns-clause-only : goal.returns-clause-only
returns-clause-only c = SavesAmong-only
