use Rattle.uf_tree.proofs.Bitfields.{bitfield_is}
use Rattle.uf_tree.proofs.bits.bitfield.Goals as goal

pub returns : goal.returns
returns c = bitfield_is c.slots_there.result c.args.items.now c.bytes_of-bytes.result c.from_first.result.now c.extend.new.self c.in_ok-field.field c.slots_there.ensures c.bytes_of-bytes.ensures c.from_first.ensures c.in_ok-field.ensures c.in_ok-extend.ensures.ok
