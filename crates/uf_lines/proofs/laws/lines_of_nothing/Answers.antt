use Rattle.uf_lines.proofs.Cuts.{of_nothing}
use Rattle.uf_lines.proofs.laws.lines_of_nothing.Goals as goal

pub returns : goal.returns
returns c = of_nothing
