use Rattle.uf_headline.proofs.BatchReplies.{batch-touches}
use Rattle.uf_headline.proofs.batch_lines.a_batch_keeps_within_the_sum_of_its_bounds.Goals as goal

pub returns : goal.returns
returns c = λ X N host rows lines ending given standing before between now heights did.
    batch-touches X N host rows heights lines ending given standing before between now did
