use Rattle.uf_lines.proofs.Windows.{part_used, used_fits}
use Rattle.uf_lines.proofs.window.SourceBuffer.consume.Goals as goal

pub returns : goal.returns
returns c = part_used c.args.self.now.from c.args.self.now.to c.args.count c.args.self.now.buffer.items (used_fits c.args.self.now.from c.args.self.now.to c.args.count c.args.self.now.buffer.items c.args.self.now.in_order c.requires)
