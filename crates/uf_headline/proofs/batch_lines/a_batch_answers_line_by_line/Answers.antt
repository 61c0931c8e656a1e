use Rattle.uf_headline.proofs.BatchReplies.{batch-replied}
use Rattle.uf_headline.proofs.batch_lines.a_batch_answers_line_by_line.Goals as goal

pub returns : goal.returns
returns c = λ X N host most limit given before now standing did tells stands fails stood.
    batch-replied X N host most limit given before now standing did tells stands fails stood
