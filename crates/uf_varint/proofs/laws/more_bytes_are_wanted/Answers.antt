use Rattle.uf_varint.proofs.Tables.{read_proto_is_short, read_multi_is_short}
use Rattle.uf_varint.proofs.laws.more_bytes_are_wanted.Goals as goal

pub returns-clause-proto : goal.returns-clause-proto
returns-clause-proto c = read_proto_is_short

pub returns-clause-multi : goal.returns-clause-multi
returns-clause-multi c = read_multi_is_short
