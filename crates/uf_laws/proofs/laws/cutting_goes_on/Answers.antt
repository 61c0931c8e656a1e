use Rattle.uf_tree.proofs.Groups.{split-append}
use Rattle.uf_laws.proofs.laws.cutting_goes_on.Goals as goal

pub returns : goal.returns
returns c = λ w r front behind. split-append w r front behind
