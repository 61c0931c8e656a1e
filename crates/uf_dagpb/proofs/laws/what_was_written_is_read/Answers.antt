use Rattle.uf_dagpb.proofs.Again.{node_again}
use Rattle.uf_dagpb.proofs.laws.what_was_written_is_read.Goals as goal

pub returns : goal.returns
returns c = node_again
