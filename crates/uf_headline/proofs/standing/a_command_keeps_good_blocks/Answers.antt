use Rattle.uf_top.specs.Shapes.{is_done}
use Rattle.uf_top.proofs.Wrote.{told-same}
use Rattle.uf_headline.proofs.Ran.{ran}
use Rattle.uf_headline.proofs.standing.a_command_keeps_good_blocks.Goals as goal

pub returns-clause-good : goal.returns-clause-good
returns-clause-good c = λ X N asked given before now did. (ran X N asked given before now did).good

pub returns-clause-told : goal.returns-clause-told
returns-clause-told c = λ X N command given before now did reads. told-same X command (is_done given) before.store.told now.store.told reads did.left.writes
