use Rattle.std.proofs.Common.{◌≡◌, ◌≤◌, ◌+◌, ℕ, List, [], false, Ok, None}
use Rattle.uf_build.specs.Building.{SavesForFront, saved_by}
use Rattle.uf_cid.specs.Blocks.{Lookup}
use Rattle.uf_store.specs.Calls.{OnlySaves}
use Rattle.uf_store.specs.Faults.{NoneIsBad}
use Rattle.uf_lenient.specs.Reading.{file_of}
use Rattle.uf_lenient.specs.Steps.{start_of}
use Rattle.uf_lenient.specs.declared.shapes.Limits.{Limits}
use Rattle.uf_adopt.specs.Feeding.{GaveFront, HasFront, HoldsGoodMap, WasFed}
use Rattle.uf_adopt.proofs.files.feed_all.Given as goal

abbrev pub invariant-loop-piece : goal.invariant-loop-piece
invariant-loop-piece g l = record {
  gave : (held : Lookup) (limits : Limits) (bytes : List ℕ) → HoldsGoodMap g.S.X.BlockHash.block32 held (g.S.Store.seen l.initial.store).told → l.initial.pieces ≡ start_of limits l.initial.cid → file_of held limits l.initial.cid ≡ Ok bytes
      → HasFront g.S.X.BlockHash.block32 (g.S.Store.seen l.initial.store).told [] l.initial.builder → GaveFront g.S.X.BlockHash.block32 held limits l.initial.cid (g.S.Store.seen l.store).told l.pieces l.builder;
  no_other : (held : Lookup) (limits : Limits) (bytes : List ℕ) → HoldsGoodMap g.S.X.BlockHash.block32 held (g.S.Store.seen l.initial.store).told → l.initial.pieces ≡ start_of limits l.initial.cid → file_of held limits l.initial.cid ≡ Ok bytes
      → HasFront g.S.X.BlockHash.block32 (g.S.Store.seen l.initial.store).told [] l.initial.builder → SavesForFront g.S.X.BlockHash.block32 l.initial.builder.profile bytes (g.S.Store.seen l.initial.store).told (g.S.Store.seen l.store).told;
  profile : l.builder.profile ≡ l.initial.builder.profile;
  not_spent : l.builder.is_spent ≡ false;
  fed : WasFed g.S.X.BlockHash.block32 l.initial.builder → WasFed g.S.X.BlockHash.block32 l.builder;
  touched : l.initial.touches + saved_by l.builder ≤ l.touches + saved_by l.initial.builder;
  saves : OnlySaves g.S.X.BlockHash.block32 NoneIsBad None (g.S.Store.seen l.initial.store) (g.S.Store.seen l.store);
}

abbrev pub decreases-loop-piece : goal.decreases-loop-piece
decreases-loop-piece g l = l.pieces.1
