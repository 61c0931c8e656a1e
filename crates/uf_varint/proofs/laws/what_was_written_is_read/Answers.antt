use Rattle.uf_varint.proofs.Varints.{read_proto_of-varint, read_multi_of-varint}
use Rattle.uf_varint.proofs.laws.what_was_written_is_read.Goals as goal

pub returns-clause-proto : goal.returns-clause-proto
returns-clause-proto c = read_proto_of-varint

pub returns-clause-multi : goal.returns-clause-multi
returns-clause-multi c = read_multi_of-varint
