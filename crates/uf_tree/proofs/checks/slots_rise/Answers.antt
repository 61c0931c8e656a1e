use Rattle.std.proofs.Common.{◌≡◌, true, rules}
use Rattle.std.specs.Ordering.{nat_cmp}
use Rattle.uf_tree.proofs.Rises.{rises_end, rises_go_on}
use Rattle.uf_tree.proofs.checks.slots_rise.Goals as goal

pub loop-i-preserved : goal.loop-i-preserved
loop-i-preserved c =
    let holds : c.is_below.result ≡ true = search rules in
    rises_go_on nat_cmp c.args.items.now c.loop-i.i c.index-items-i.result c.index-items-i-in-loop-i.result c.is_below.result _ c.loop-i.auto.i c.loop-i-test.true c.index-items-i.is c.index-items-i-in-loop-i.is c.is_below.ensures holds c.loop-i.invariant

pub returns : goal.returns
returns c = rises_end nat_cmp c.args.items.now c.loop-i.i _ c.loop-i-test.false c.loop-i.invariant
