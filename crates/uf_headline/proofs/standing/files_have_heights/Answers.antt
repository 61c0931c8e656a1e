use Rattle.uf_headline.proofs.Heights.{all-heights}
use Rattle.uf_headline.proofs.standing.files_have_heights.Goals as goal

pub returns : goal.returns
returns c = all-heights
