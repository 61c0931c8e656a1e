use Rattle.uf_headline.proofs.Batched.{batch-history}
use Rattle.uf_headline.proofs.batches.a_batch_is_a_history.Goals as goal

pub returns : goal.returns
returns c = λ X N host most limit given before now standing. batch-history X N host most limit given before now standing
