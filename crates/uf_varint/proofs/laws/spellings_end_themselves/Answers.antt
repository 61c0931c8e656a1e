use Rattle.uf_varint.proofs.Varints.{read_proto_ends_itself, read_multi_ends_itself}
use Rattle.uf_varint.proofs.laws.spellings_end_themselves.Goals as goal

pub returns-clause-proto : goal.returns-clause-proto
returns-clause-proto c = read_proto_ends_itself

pub returns-clause-multi : goal.returns-clause-multi
returns-clause-multi c = read_multi_ends_itself
