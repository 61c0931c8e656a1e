use Rattle.uf_headline.proofs.BatchLaws.{batch-good}
use Rattle.uf_headline.proofs.batch_lines.a_batch_keeps_good_blocks.Goals as goal

pub returns : goal.returns
returns c = batch-good
