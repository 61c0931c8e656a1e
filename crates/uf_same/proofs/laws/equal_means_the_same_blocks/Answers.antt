use Rattle.uf_same.proofs.Alike.{equal_alike}
use Rattle.uf_same.proofs.laws.equal_means_the_same_blocks.Goals as goal

pub returns : goal.returns
returns c = equal_alike
