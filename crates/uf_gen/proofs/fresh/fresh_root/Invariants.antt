use Rattle.std.proofs.Common.{◌≡◌, None}
use Rattle.uf_store.specs.Among.{SavesAmong}
use Rattle.uf_store.specs.Calls.{OnlySaves}
use Rattle.uf_store.specs.Faults.{NoneIsBad}
use Rattle.uf_tree.specs.TreePlan.{blocks}
use Rattle.uf_gen.specs.Fresh.{left_entries, left_tree}
use Rattle.uf_gen.proofs.fresh.fresh_root.Given as goal

abbrev pub invariant-loop-i : goal.invariant-loop-i
invariant-loop-i g l = record {
  pairs : l.pairs ≡ left_entries g.S.X.BlockHash.block32 l.fn.p l.fn.seed l.i;
  saves : OnlySaves g.S.X.BlockHash.block32 NoneIsBad None (g.S.Store.seen l.initial.store) (g.S.Store.seen l.store);
  no_other : SavesAmong g.S.X.BlockHash.block32 (blocks g.S.X.BlockHash.block32 g.N.NameHash.name64 l.fn.p (left_tree l.fn.seed l.fn.n))
      (g.S.Store.seen l.initial.store).told (g.S.Store.seen l.store).told;
}
