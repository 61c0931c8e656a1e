use Rattle.std.proofs.Common.{arith}
use Rattle.uf_cid.proofs.Again.{each_byte}
use Rattle.uf_cid.proofs.laws.slices_hold_bytes.Goals as goal

pub returns : goal.returns
returns c = each_byte c.args.bytes.now (λ i. omega (arith, c.type_inv.bytes i))
