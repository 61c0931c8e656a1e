use Rattle.uf_lines.proofs.Cuts.{written}
use Rattle.uf_lines.proofs.laws.what_was_written_is_read.Goals as goal

pub returns : goal.returns
returns c = written
