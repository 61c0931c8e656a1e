use Rattle.uf_headline.proofs.BatchHeads.{batch-moves}
use Rattle.uf_headline.proofs.batch_lines.a_batch_moves_the_head_by_its_lines.Goals as goal

pub returns : goal.returns
returns c = batch-moves
