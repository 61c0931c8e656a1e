use Rattle.uf_host.proofs.Texts.{first-none, first-some}
use Rattle.uf_host.proofs.paths.row_of.Goals as goal

pub returns-then-is_empty : goal.returns-then-is_empty
returns-then-is_empty c = first-none c.args.path.now c.last_of-last.result.now c.is_empty.result c.last_of-last.ensures c.is_empty.ensures c.if-is_empty.true

pub returns-else-is_empty : goal.returns-else-is_empty
returns-else-is_empty c = first-some c.args.path.now c.last_of-last.result.now c.is_empty.result c.last_of-last.ensures c.is_empty.ensures c.if-is_empty.false
