use Rattle.uf_pull.proofs.LinesAgain.{long_input, long_line}
use Rattle.uf_pull.proofs.laws.long_lines_are_told_from_long_inputs.Goals as goal

pub returns-clause-line : goal.returns-clause-line
returns-clause-line c = long_line

pub returns-clause-input : goal.returns-clause-input
returns-clause-input c = λ limit line rest none long room. long_input limit line rest none room long
