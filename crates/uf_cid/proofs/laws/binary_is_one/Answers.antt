use Rattle.uf_cid.proofs.Again.{one_spelling, read_whole}
use Rattle.uf_cid.proofs.laws.binary_is_one.Goals as goal

pub returns-clause-spelled : goal.returns-clause-spelled
returns-clause-spelled c = one_spelling

pub returns-clause-whole : goal.returns-clause-whole
returns-clause-whole c = read_whole
