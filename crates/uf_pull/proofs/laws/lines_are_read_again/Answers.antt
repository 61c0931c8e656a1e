use Rattle.uf_pull.proofs.LinesAgain.{reads_done, reads_want, reads_wants}
use Rattle.uf_pull.proofs.laws.lines_are_read_again.Goals as goal

pub returns-clause-want : goal.returns-clause-want
returns-clause-want c = reads_want

pub returns-clause-done : goal.returns-clause-done
returns-clause-done c = reads_done

pub returns-clause-all : goal.returns-clause-all
returns-clause-all c = reads_wants
