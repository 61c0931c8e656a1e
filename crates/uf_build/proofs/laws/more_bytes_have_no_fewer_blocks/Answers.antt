use Rattle.uf_build.proofs.Counting.{more-blocks}
use Rattle.uf_build.proofs.laws.more_bytes_have_no_fewer_blocks.Goals as goal

pub returns : goal.returns
returns c = more-blocks
