use Rattle.uf_varint.proofs.Tables.{read_multi_is_shortest}
use Rattle.uf_varint.proofs.laws.multi_takes_the_shortest_alone.Goals as goal

pub returns : goal.returns
returns c = read_multi_is_shortest
