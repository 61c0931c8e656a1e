use Rattle.std.proofs.Common.{◌≡◌, ◌≤◌, ◌+◌, ◌*◌, ◌++◌, drop, None}
use Rattle.std.specs.List.{AllByRecursion}
use Rattle.uf_cid.specs.Blocks.{Lookup}
use Rattle.uf_store.specs.Among.{SavesAmong}
use Rattle.uf_store.specs.Calls.{OnlySaves}
use Rattle.uf_store.specs.Faults.{NoneIsBad}
use Rattle.uf_tree.specs.Tree.{Entries}
use Rattle.uf_tree.specs.Validity.{IsNamed}
use Rattle.uf_lenient.specs.Denoted.{AreDenoted}
use Rattle.uf_adopt.specs.Adopting.{each_blocks}
use Rattle.uf_adopt.specs.Feeding.{HoldsGoodMap}
use Rattle.uf_adopt.proofs.Built.{Went, names_of}
use Rattle.uf_adopt.proofs.folders.+adopting.Given as goal

abbrev pub decreases-adopt_within : goal.decreases-adopt_within
decreases-adopt_within g l = 2 * l.room

abbrev pub decreases-adopt_each : goal.decreases-adopt_each
decreases-adopt_each g l = 2 * l.room + 1

abbrev pub invariant-adopt_each-loop-way : goal.invariant-adopt_each-loop-way
invariant-adopt_each-loop-way g l = record {
  went : (held : Lookup) (es : Entries) → HoldsGoodMap g.S.X.BlockHash.block32 held (g.S.Store.seen l.initial.store).told → AreDenoted held l.limits l.room l.ways es
      → Went g.S.X.BlockHash.block32 g.N.NameHash.name64 l.p held l.limits l.room (g.S.Store.seen l.store).told l.ways es (drop l.way-index l.ways) l.pairs;
  no_other : (held : Lookup) (es : Entries) → HoldsGoodMap g.S.X.BlockHash.block32 held (g.S.Store.seen l.initial.store).told → AreDenoted held l.limits l.room l.ways es
      → SavesAmong g.S.X.BlockHash.block32 (each_blocks g.S.X.BlockHash.block32 g.N.NameHash.name64 l.p es) (g.S.Store.seen l.initial.store).told (g.S.Store.seen l.store).told;
  names : names_of l.pairs ++ names_of (drop l.way-index l.ways) ≡ names_of l.ways;
  named : AllByRecursion IsNamed l.pairs;
  touched : l.initial.touches ≤ l.touches;
  saves : OnlySaves g.S.X.BlockHash.block32 NoneIsBad None (g.S.Store.seen l.initial.store) (g.S.Store.seen l.store);
}
