use Rattle.uf_laws.proofs.Held.{tree-digested}
use Rattle.uf_laws.proofs.laws.blocks_are_under_their_digests.Goals as goal

pub returns : goal.returns
returns c = λ X N p t. tree-digested X N p t
