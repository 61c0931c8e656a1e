use Rattle.uf_fileread.proofs.Few.{few_are_read}
use Rattle.uf_fileread.proofs.laws.a_range_needs_few_blocks.Goals as goal

pub returns : goal.returns
returns c = λ X c w m height offset count bytes some wide. few_are_read X c w some wide m height offset count bytes
