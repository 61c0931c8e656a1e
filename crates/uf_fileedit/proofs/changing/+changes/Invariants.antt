use Rattle.std.proofs.Common.{◌≡◌, ◌≤◌, ◌+◌, ◌-◌, ◌*◌, ℕ, List, length, min}
use Rattle.std.specs.List.{sum_by}
use Rattle.uf_store.specs.Faults.{StaysCalm}
use Rattle.uf_store.specs.Keeping.{Agrees, KeepsGood}
use Rattle.uf_store.specs.Writing.{SavesOnly}
use Rattle.uf_tree.specs.declared.nodes.Part.{Part}
use Rattle.uf_tree.specs.FileSub.{span}
use Rattle.uf_fileedit.specs.Changes.{AreOld, IsBlank, LiesWithin, blocks_of_all}
use Rattle.uf_fileedit.specs.Saving.{SavesOfParts}
use Rattle.uf_fileedit.specs.Touches.{AreBelow, IsChangeWithin}
use Rattle.uf_fileedit.proofs.Numbers.{Room}
use Rattle.uf_fileedit.proofs.Touching.{chunks_in}
use Rattle.uf_fileedit.proofs.Steps.{Progress}
use Rattle.uf_fileedit.proofs.changing.+changes.Given as goal

abbrev pub decreases-change : goal.decreases-change
decreases-change g l = 4 * l.layer.height

abbrev pub decreases-change_node : goal.decreases-change_node
decreases-change_node g l = 4 * l.layer.height + 3

abbrev pub decreases-change_parts : goal.decreases-change_parts
decreases-change_parts g l = 4 * l.layer.height + 2

abbrev pub decreases-change_one : goal.decreases-change_one
decreases-change_one g l = 4 * l.layer.height + 1

abbrev pub decreases-change_parts-parts : goal.decreases-change_parts-parts
decreases-change_parts-parts g l = l.left

abbrev pub invariant-change_parts-parts : goal.invariant-change_parts-parts
invariant-change_parts-parts g l = record {
  gives : IsBlank g.S.X.BlockHash.block32 l.layer.p (g.S.Store.seen l.initial.store).told 0 l.layer.zeros → (gs : List (List ℕ)) → AreOld g.S.X.BlockHash.block32 l.layer.p (span l.layer.p.chunk l.layer.p.width l.layer.height) (min l.layer.top l.layer.height) l.olds gs
      → Agrees (g.S.Store.seen l.initial.store).told (blocks_of_all g.S.X.BlockHash.block32 l.layer.p (min l.layer.top l.layer.height) gs)
      → Agrees (g.S.Store.seen l.store).told (blocks_of_all g.S.X.BlockHash.block32 l.layer.p (min l.layer.top l.layer.height) gs)
      → Progress g.S.X.BlockHash.block32 l.layer.p (span l.layer.p.chunk l.layer.p.width l.layer.height) (min l.layer.top l.layer.height) l.layer.height gs l.fn.target.size l.fn.target.offset l.piece (g.S.Store.seen l.store).told l.news l.left l.at l.place l.rest
      × IsBlank g.S.X.BlockHash.block32 l.layer.p (g.S.Store.seen l.store).told l.layer.height l.blank;
  within : LiesWithin l.left l.place l.rest;
  left_is : l.left ≤ l.fn.target.size;
  total : sum_by (λ (m : Part). m.size) l.news + l.left ≡ l.fn.target.size;
  room : Room (span l.layer.p.chunk l.layer.p.width l.layer.height) l.fn.target.size l.left (length l.news);
  at_same : l.at ≡ length l.news;
  place_is : l.fn.target.offset ≤ l.place + l.at * span l.layer.p.chunk l.layer.p.width l.layer.height;
  rest_is : 1 ≤ length l.rest → l.at * span l.layer.p.chunk l.layer.p.width l.layer.height + l.place + length l.rest ≤ l.fn.target.offset + length l.piece;
  rises : l.initial.touches ≤ l.touches;
  touching : (a z : ℕ) → IsChangeWithin l.layer.p l.layer.top (l.layer.height + 1) l.fn.target.old l.fn.target.size l.fn.target.offset (length l.piece) a z
      → AreBelow (span l.layer.p.chunk l.layer.p.width l.layer.height) l.fn.target.old l.olds
      → l.touches + 2 * (l.layer.height + 1) * ((z - l.at * chunks_in l.layer.p.width l.layer.height) - (a - l.at * chunks_in l.layer.p.width l.layer.height)) ≤ l.initial.touches + 2 * (l.layer.height + 1) * (z - a);
  at_is : l.at + l.left ≤ l.fn.target.size;
  calm : StaysCalm (g.S.Store.seen l.initial.store) (g.S.Store.seen l.store);
  good : KeepsGood g.S.X.BlockHash.block32 (g.S.Store.seen l.initial.store).told (g.S.Store.seen l.store).told;
  saves : SavesOnly g.S.X.BlockHash.block32 (g.S.Store.seen l.initial.store).told (g.S.Store.seen l.store).told;
  no_other : SavesOfParts g.S.X.BlockHash.block32 l.layer l.olds l.fn.target l.piece (g.S.Store.seen l.initial.store) (g.S.Store.seen l.store);
}
