use Rattle.std.proofs.Common.{arith, inr}
use Rattle.uf_dagpb.proofs.Strictly.{refused, not_it}
use Rattle.uf_dagpb.proofs.strict.decode_strict.Goals as goal

pub returns-in-Err : goal.returns-in-Err
returns-in-Err c = refused c.args.bytes.now c.in-Err.fault c.strictly.result (omega arith) c.in-Err.ensures c.strictly.ensures

pub returns-else-is_canonical : goal.returns-else-is_canonical
returns-else-is_canonical c = inr (not_it c.args.bytes.now c.in-Ok.node c.is_canonical.result (omega arith) c.in-Ok.ensures c.is_canonical.ensures c.if-is_canonical.false)
