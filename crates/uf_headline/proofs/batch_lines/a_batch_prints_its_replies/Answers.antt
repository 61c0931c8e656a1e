use Rattle.uf_headline.proofs.BatchReplies.{batch-prints}
use Rattle.uf_headline.proofs.batch_lines.a_batch_prints_its_replies.Goals as goal

pub returns : goal.returns
returns c = batch-prints
