use Rattle.std.proofs.Common.{Some}
use Rattle.uf_edge.specs.Memory.{source_left}
use Rattle.uf_calls.proofs.edges.take_lines.Goals as goal

pub loop-init : goal.loop-init
loop-init c = c.new-lines.ensures.ended (Some (source_left c.args.input.now))
