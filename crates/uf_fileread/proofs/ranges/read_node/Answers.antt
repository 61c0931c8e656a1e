use Rattle.std.proofs.Common.{arith, rules}
use Rattle.uf_fileread.proofs.Reading.{high, uncarried, undeclared}
use Rattle.uf_fileread.proofs.ranges.read_node.Goals as goal

pub returns-then-rows-eq0 : goal.returns-then-rows-eq0
returns-then-rows-eq0 c = high c.args.rows c.args.declared c.args.bytes.now (omega (arith, c.if-rows-eq0.true))

pub returns-then-not-may_carry : goal.returns-then-not-may_carry
returns-then-not-may_carry c = uncarried c.args.rows c.args.declared c.args.bytes.now c.in_ok-node.node c.may_carry.result c.in_ok-node.ensures c.may_carry.ensures (search rules)

pub returns-else-is_declared : goal.returns-else-is_declared
returns-else-is_declared c = undeclared c.args.rows c.args.declared c.args.bytes.now c.in_ok-node.node c.as_slice.result.now c.size_over.result c.is_declared.result c.in_ok-node.ensures c.as_slice.ensures c.size_over.ensures c.is_declared.ensures c.if-is_declared.false
