use Rattle.std.proofs.Common.{ap, rules}
use Rattle.uf_tree.specs.Nodes.{InSlot}
use Rattle.uf_tree.proofs.Bitfields.{none_there, one_more_there, all_there}
use Rattle.uf_tree.proofs.bits.slots_there.Goals as goal

pub loop-placed-init : goal.loop-placed-init
loop-placed-init c = record { long = search rules; there = none_there }

pub loop-placed-preserved : goal.loop-placed-preserved
loop-placed-preserved c = record {
  long = search rules;
  there = one_more_there c.loop-placed.there c.args.items.now c.loop-placed.placed-index c.placed.inside.slot c.placed-item.result c.loop-placed.invariant.long c.loop-placed-test.true c.placed-item.is (ap (λ (p : InSlot). p.0) c.placed.view_is) (search rules) c.loop-placed.invariant.there;
}

pub returns : goal.returns
returns c = all_there c.loop-placed.there c.args.items.now c.loop-placed.placed-index c.loop-placed-test.false c.loop-placed.invariant.there
