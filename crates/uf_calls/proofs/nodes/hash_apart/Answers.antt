use Rattle.std.proofs.Common.{arith, length-take-le, sym}
use Rattle.uf_calls.proofs.nodes.hash_apart.Goals as goal

pub copy_from_slice-requires : goal.copy_from_slice-requires
copy_from_slice-requires c = sym (length-take-le 4352 c.args.input.now (omega arith))
