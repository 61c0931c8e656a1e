use Rattle.uf_tree.proofs.Laid.{length-cut}
use Rattle.uf_tree.proofs.laying.files_are_cut.Goals as goal

pub returns-clause-length : goal.returns-clause-length
returns-clause-length c = length-cut
