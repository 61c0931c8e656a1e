use Rattle.uf_dagpb.proofs.Fronts.{sorted_end}
use Rattle.uf_dagpb.proofs.strict.names_rise.Goals as goal

pub returns : goal.returns
returns c = sorted_end c.args.links.now c.loop-i.i _ c.loop-i-test.false c.loop-i.invariant
