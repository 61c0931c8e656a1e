use Rattle.uf_store.proofs.Sweeping.{swept-plain}
use Rattle.uf_store.proofs.sweep.a_swept_store_tells_what_was_written.Goals as goal

pub returns : goal.returns
returns c = swept-plain
