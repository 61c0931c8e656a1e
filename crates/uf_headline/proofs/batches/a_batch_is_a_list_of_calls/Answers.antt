use Rattle.uf_headline.proofs.Lines.{batch-calls}
use Rattle.uf_headline.proofs.batches.a_batch_is_a_list_of_calls.Goals as goal

pub returns : goal.returns
returns c = batch-calls
