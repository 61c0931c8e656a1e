use Rattle.uf_pull.proofs.FramesAgain.{reads_giving, reads_lacking}
use Rattle.uf_pull.proofs.Listing.{frames_are}
use Rattle.uf_pull.proofs.laws.frames_are_read_again.Goals as goal

pub returns-clause-lacking : goal.returns-clause-lacking
returns-clause-lacking c = λ cid rest whole. reads_lacking cid whole rest

pub returns-clause-giving : goal.returns-clause-giving
returns-clause-giving c = λ cid block rest whole few. reads_giving cid whole block rest few

pub returns-clause-next : goal.returns-clause-next
returns-clause-next c = frames_are
