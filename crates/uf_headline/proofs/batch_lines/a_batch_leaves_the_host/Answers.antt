use Rattle.uf_headline.proofs.BatchLaws.{batch-host}
use Rattle.uf_headline.proofs.batch_lines.a_batch_leaves_the_host.Goals as goal

pub returns : goal.returns
returns c = batch-host
