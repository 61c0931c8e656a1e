use Rattle.uf_headline.proofs.BatchTexts.{batch-until, until-prints}
use Rattle.uf_headline.proofs.batch_lines.a_batch_prints_until_its_output_fails.Goals as goal

pub returns-clause-until : goal.returns-clause-until
returns-clause-until c = λ X N host most limit given before now s did. batch-until X N host most limit given before now s did

pub returns-clause-lines : goal.returns-clause-lines
returns-clause-lines c = λ X N host. until-prints X N host
