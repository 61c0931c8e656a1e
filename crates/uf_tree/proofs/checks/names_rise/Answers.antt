use Rattle.uf_tree.specs.Names.{names_cmp}
use Rattle.uf_tree.proofs.Rises.{rises_end}
use Rattle.uf_tree.proofs.checks.names_rise.Goals as goal

pub returns : goal.returns
returns c = rises_end names_cmp c.args.pairs.now c.loop-i.i _ c.loop-i-test.false c.loop-i.invariant
