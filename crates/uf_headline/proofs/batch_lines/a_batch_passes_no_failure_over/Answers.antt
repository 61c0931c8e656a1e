use Rattle.uf_headline.proofs.BatchFaults.{batch-told}
use Rattle.uf_headline.proofs.batch_lines.a_batch_passes_no_failure_over.Goals as goal

pub returns : goal.returns
returns c = batch-told
