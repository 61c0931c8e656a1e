use Rattle.uf_headline.proofs.BatchStops.{batch-safe, batch-stops}
use Rattle.uf_headline.proofs.batch_lines.a_stop_of_a_batch_leaves_the_tree_before_or_after_a_line.Goals as goal

pub returns-clause-stops : goal.returns-clause-stops
returns-clause-stops c = λ X N host most limit given before now a b p es hash small did begin told done rest cut.
    batch-stops X N host hash small most limit given before now did a b p es begin told done rest cut

pub returns-clause-safe : goal.returns-clause-safe
returns-clause-safe c = λ X N host most limit given before now a b p es hash small did begin told.
    batch-safe X N host hash small most limit given before now did a b p es begin told
