use Rattle.uf_varint.proofs.Tables.{read_proto_fits}
use Rattle.uf_varint.proofs.laws.proto_takes_64_bits.Goals as goal

pub returns : goal.returns
returns c = read_proto_fits
