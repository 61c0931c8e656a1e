use Rattle.uf_headline.proofs.BatchTexts.{batch-says}
use Rattle.uf_headline.proofs.batch_lines.a_batch_reports_its_refusals.Goals as goal

pub returns : goal.returns
returns c = batch-says
