use Rattle.std.proofs.Common.{◌≤◌, ◌+◌, ◌-◌, List, refl, ap, arith, sym, ◌∙◌, subst, Option, Some}
use Rattle.std.specs.FinMap.Entries.{find}
use Rattle.std.specs.Ordering.{nat_cmp}
use Rattle.uf_murmur.specs.Slots.{slot}
use Rattle.uf_tree.specs.declared.nodes.Item.{Item}
use Rattle.uf_tree.specs.Changes.{set_at}
use Rattle.uf_tree.specs.Metas.{none}
use Rattle.uf_tree.specs.Nodes.{InSlot}
use Rattle.uf_tree.proofs.ShardLaws.{slot-bound}
use Rattle.uf_shard.specs.Placed.{IsPlaced, way}
use Rattle.uf_shard.specs.Changed.{IsSlot}
use Rattle.std.proofs.lemmas.Result.{err_from_is_err_and}
use Rattle.uf_store.proofs.Calls.{reads-saves}
use Rattle.uf_shard.proofs.Saves.{saves-new}
use Rattle.uf_shard.proofs.Placing.{below-in, items-read, load-lost}
use Rattle.uf_shard.proofs.Puts.{found-at, sub-room}
use Rattle.uf_store.specs.Among.{SavesAmong}
use Rattle.uf_store.specs.Contents.{Told}
use Rattle.uf_tree.specs.Changes.{without}
use Rattle.uf_shard.specs.Changed.{below}
use Rattle.uf_shard.proofs.Among.{slot-saves, sub-saves, take-saves}
use Rattle.uf_shard.proofs.Takes.{bucket_at, slotted_here}
use Rattle.uf_shard.proofs.Takes.{into-takes-err, into-takes-none, into-takes-some, not-same, sub-takes-err, sub-takes-none, sub-takes-some, takes-more, unsaved-below, unsaved-set, valid-set}
use Rattle.uf_shard.proofs.removing.+takes.Goals as goal

pub item_without-returns-in_err-rest-in-Some-Sub-clause-takes : goal.item_without-returns-in_err-rest-in-Some-Sub-clause-takes
item_without-returns-in_err-rest-in-Some-Sub-clause-takes g t c =
    let out = err_from_is_err_and c.from_residual.result c.from_residual.ensures.1 in rw (out.1, out.2) (let is = c.in-Some-Sub.is ∙ ap (λ (i : Item). Some i) c.in-Some-Sub.field-0-is in
    let some : 1 ≤ c.args.left = sub-room g.S.X.BlockHash.block32 g.N.NameHash.name64 (g.N.NameHash.name64 c.args.name.now) c.args.left (slot (g.N.NameHash.name64 c.args.name.now) (7 - c.args.left)) c.args.found c.in-Some-Sub.below c.requires.left is c.requires.found in
    λ l slotted.
    let at = subst (λ (o : Option Item). IsSlot g.S.X.BlockHash.block32 g.N.NameHash.name64 (g.N.NameHash.name64 c.args.name.now) c.args.left (g.S.Store.seen c.args.store.now).told o l) is slotted in
    sub-takes-err g.S.X.BlockHash.block32 g.N.NameHash.name64 (g.N.NameHash.name64 c.args.name.now) c.args.left (g.S.Store.seen c.args.store.now).told c.in-Some-Sub.below l c.requires.left some at
    (g.S.Store.seen c.items_without.new.store).told (g.S.Store.seen c.items_without.new.store).told c.args.name.now c.in_err-rest-in-Some-Sub.field-0.0 c.in_err-rest-in-Some-Sub.ensures.takes)

pub item_without-returns-in-None-rest-clause-takes : goal.item_without-returns-in-None-rest-clause-takes
item_without-returns-in-None-rest-clause-takes g t c =
    let is = c.in-Some-Sub.is ∙ ap (λ (i : Item). Some i) c.in-Some-Sub.field-0-is in
    let some : 1 ≤ c.args.left = sub-room g.S.X.BlockHash.block32 g.N.NameHash.name64 (g.N.NameHash.name64 c.args.name.now) c.args.left (slot (g.N.NameHash.name64 c.args.name.now) (7 - c.args.left)) c.args.found c.in-Some-Sub.below c.requires.left is c.requires.found in
    λ l slotted.
    let at = subst (λ (o : Option Item). IsSlot g.S.X.BlockHash.block32 g.N.NameHash.name64 (g.N.NameHash.name64 c.args.name.now) c.args.left (g.S.Store.seen c.args.store.now).told o l) is slotted in
    sub-takes-none g.S.X.BlockHash.block32 g.N.NameHash.name64 (g.N.NameHash.name64 c.args.name.now) c.args.left (g.S.Store.seen c.args.store.now).told c.in-Some-Sub.below l c.requires.left some at
    (g.S.Store.seen c.items_without.new.store).told (g.S.Store.seen c.items_without.new.store).told c.args.name.now (rw c.in-None-rest.is at c.in_ok-rest-in-Some-Sub.ensures.takes)

pub item_without-returns-in-Some-clause-takes : goal.item_without-returns-in-Some-clause-takes
item_without-returns-in-Some-clause-takes g t c =
    let is = c.in-Some-Sub.is ∙ ap (λ (i : Item). Some i) c.in-Some-Sub.field-0-is in
    let some : 1 ≤ c.args.left = sub-room g.S.X.BlockHash.block32 g.N.NameHash.name64 (g.N.NameHash.name64 c.args.name.now) c.args.left (slot (g.N.NameHash.name64 c.args.name.now) (7 - c.args.left)) c.args.found c.in-Some-Sub.below c.requires.left is c.requires.found in
    λ l slotted.
    let at = subst (λ (o : Option Item). IsSlot g.S.X.BlockHash.block32 g.N.NameHash.name64 (g.N.NameHash.name64 c.args.name.now) c.args.left (g.S.Store.seen c.args.store.now).told o l) is slotted in
    sub-takes-some g.S.X.BlockHash.block32 g.N.NameHash.name64 (g.N.NameHash.name64 c.args.name.now) c.args.left (g.S.Store.seen c.args.store.now).told c.in-Some-Sub.below l c.requires.left some at
    (g.S.Store.seen c.items_without.new.store).told (g.S.Store.seen c.rest_of.new.store).told c.args.name.now c.in-Some.items c.rest_of.result (rw c.in-Some.is at c.in_ok-rest-in-Some-Sub.ensures.takes) (c.rest_of.ensures.leaves g.N.NameHash.name64)

pub item_without-returns-in-Some-clause-unsaved : goal.item_without-returns-in-Some-clause-unsaved
item_without-returns-in-Some-clause-unsaved g t c = unsaved-below g.S.X.BlockHash.block32 g.N.NameHash.name64 (g.S.Store.seen c.args.store.now).told (g.S.Store.seen c.items_without.new.store).told (g.S.Store.seen c.rest_of.new.store).told c.in-Some.items c.rest_of.result
    (rw c.in-Some.is at c.in_ok-rest-in-Some-Sub.ensures.unsaved) (c.rest_of.ensures.leaves g.N.NameHash.name64) c.rest_of.ensures.unsaved

pub item_without-returns-in-Some-clause-saves : goal.item_without-returns-in-Some-clause-saves
item_without-returns-in-Some-clause-saves g t c = saves-new c.in_ok-rest-in-Some-Sub.ensures.saves c.rest_of.ensures.saves

pub items_without-returns-in_err-node-clause-takes : goal.items_without-returns-in_err-node-clause-takes
items_without-returns-in_err-node-clause-takes g t c = λ l is agrees.
    let out = err_from_is_err_and c.from_residual.result c.from_residual.ensures.1 in rw (out.1, out.2) (load-lost g.S.X.BlockHash.block32 g.N.NameHash.name64 (record { size = g.met.S.X.BlockHash.size; are_bytes = g.met.S.X.BlockHash.are_bytes }) (g.N.NameHash.name64 c.args.name.now) c.args.left c.args.cid.now none l c.requires is
    (g.S.Store.seen c.args.store.now) (g.S.Store.seen c.load_shard.new.store) c.in_err-node.field-0.0 c.in_err-node.ensures.loads agrees)

pub items_without-returns-clause-takes : goal.items_without-returns-clause-takes
items_without-returns-clause-takes g t c = λ l is agrees. takes-more g.S.X.BlockHash.block32 g.N.NameHash.name64 (g.S.Store.seen c.args.store.now).told (g.S.Store.seen c.load_shard.new.store).told (g.S.Store.seen c.take_from.new.store).told _ _ c.args.left c.args.name.now l c.take_from.result
    c.in_ok-node.ensures.reads.told (below-in g.S.X.BlockHash.block32 g.N.NameHash.name64 c.args.left none l)
    (c.take_from.ensures.takes l (items-read g.S.X.BlockHash.block32 g.N.NameHash.name64 (record { size = g.met.S.X.BlockHash.size; are_bytes = g.met.S.X.BlockHash.are_bytes }) (g.N.NameHash.name64 c.args.name.now) c.args.left c.args.cid.now none l c.requires is
    (g.S.Store.seen c.args.store.now) (g.S.Store.seen c.load_shard.new.store).told c.in_ok-node.node c.in_ok-node.ensures.reads.told agrees c.in_ok-node.ensures.loads))

pub take_from-item_without-requires : goal.take_from-item_without-requires
take_from-item_without-requires g t c κs within = (
  omega arith,
  (
    within.0,
    (
      within.1.0,
      (
        within.1.1.0,
        (
          within.1.1.1,
          (
            c.requires.left,
            found-at g.S.X.BlockHash.block32 g.N.NameHash.name64 (g.N.NameHash.name64 c.args.name.now) c.args.left c.slot_at-slot.result c.as_slice.result.now c.in_ok-found.found
                (subst (IsPlaced g.N.NameHash.name64 (way (g.N.NameHash.name64 c.args.name.now) (7 - c.args.left))) (sym c.as_slice.ensures) c.requires.placed) c.slot_at-slot.ensures c.in_ok-found.ensures,
          ),
        ),
      ),
    ),
  ),
)

pub take_from-returns-in_err-rest-clause-takes : goal.take_from-returns-in_err-rest-clause-takes
take_from-returns-in_err-rest-clause-takes g t c = λ l is.
    let out = err_from_is_err_and c.from_residual-in_err-rest.result c.from_residual-in_err-rest.ensures.1 in rw (out.1, out.2) (into-takes-err g.S.X.BlockHash.block32 g.N.NameHash.name64 (g.N.NameHash.name64 c.args.name.now) c.args.left c.requires.left (g.S.Store.seen c.args.store.now).told c.args.items.now c.args.name.now c.slot_at-slot.result c.in_ok-found.found refl
    c.slot_at-slot.ensures (c.in_ok-found.ensures ∙ ap (λ (i : List InSlot). find nat_cmp c.slot_at-slot.result i) c.as_slice.ensures) l is (g.S.Store.seen c.item_without.new.store).told (g.S.Store.seen c.item_without.new.store).told c.in_err-rest.field-0.0 c.in_err-rest.ensures.takes)

pub take_from-returns-in-Same-clause-takes : goal.take_from-returns-in-Same-clause-takes
take_from-returns-in-Same-clause-takes g t c = λ l is. into-takes-none g.S.X.BlockHash.block32 g.N.NameHash.name64 (g.N.NameHash.name64 c.args.name.now) c.args.left c.requires.left (g.S.Store.seen c.args.store.now).told c.args.items.now c.args.name.now c.slot_at-slot.result c.in_ok-found.found refl
    c.slot_at-slot.ensures (c.in_ok-found.ensures ∙ ap (λ (i : List InSlot). find nat_cmp c.slot_at-slot.result i) c.as_slice.ensures) l is (g.S.Store.seen c.item_without.new.store).told (g.S.Store.seen c.item_without.new.store).told (rw c.in-Same.is at c.in_ok-rest.ensures.takes)

pub take_from-returns-in_ok-changed-in-Of-clause-takes : goal.take_from-returns-in_ok-changed-in-Of-clause-takes
take_from-returns-in_ok-changed-in-Of-clause-takes g t c = λ l is. into-takes-some g.S.X.BlockHash.block32 g.N.NameHash.name64 (g.N.NameHash.name64 c.args.name.now) c.args.left c.requires.left (g.S.Store.seen c.args.store.now).told c.args.items.now c.args.name.now c.slot_at-slot.result c.in_ok-found.found refl
    c.slot_at-slot.ensures (c.in_ok-found.ensures ∙ ap (λ (i : List InSlot). find nat_cmp c.slot_at-slot.result i) c.as_slice.ensures) l is (g.S.Store.seen c.item_without.new.store).told c.in-Of.item c.in_ok-changed-in-Of.changed
    (c.in_ok-changed-in-Of.ensures ∙ ap (set_at c.slot_at-slot.result c.in-Of.item) c.as_slice-in-Of.ensures) (rw c.in-Of.is at c.in_ok-rest.ensures.takes)

pub take_from-returns-in_ok-changed-in-Of-clause-valid : goal.take_from-returns-in_ok-changed-in-Of-clause-valid
take_from-returns-in_ok-changed-in-Of-clause-valid g t c = valid-set g.S.X.BlockHash.block32 g.N.NameHash.name64 c.slot_at-slot.result c.in-Of.item c.args.items.now c.in_ok-changed-in-Of.changed
    (omega (arith, c.slot_at-slot.ensures, slot-bound (g.N.NameHash.name64 c.args.name.now) (7 - c.args.left))) (rw c.in-Of.is at c.in_ok-rest.ensures.valid) c.requires.placed.valid (c.in_ok-changed-in-Of.ensures ∙ ap (set_at c.slot_at-slot.result c.in-Of.item) c.as_slice-in-Of.ensures)

pub take_from-returns-in_ok-changed-in-Of-clause-unsaved : goal.take_from-returns-in_ok-changed-in-Of-clause-unsaved
take_from-returns-in_ok-changed-in-Of-clause-unsaved g t c = unsaved-set g.S.X.BlockHash.block32 g.N.NameHash.name64 c.slot_at-slot.result c.in-Of.item c.args.items.now c.in_ok-changed-in-Of.changed _ _
    (c.in_ok-changed-in-Of.ensures ∙ ap (set_at c.slot_at-slot.result c.in-Of.item) c.as_slice-in-Of.ensures) (rw c.in-Of.is at c.in_ok-rest.ensures.unsaved)

pub items_without-returns-in_err-node-clause-saves : goal.items_without-returns-in_err-node-clause-saves
items_without-returns-in_err-node-clause-saves g t c = let out = err_from_is_err_and c.from_residual.result c.from_residual.ensures.1 in rw (out.1, out.2) (reads-saves c.in_err-node.ensures.reads)

pub item_without-returns-in-Some-clause-absent : goal.item_without-returns-in-Some-clause-absent
item_without-returns-in-Some-clause-absent g t c = not-same g.S.X.BlockHash.block32 g.N.NameHash.name64 (g.S.Store.seen c.items_without.new.store).told (g.S.Store.seen c.rest_of.new.store).told c.in-Some.items c.rest_of.result (c.rest_of.new.touches ≤ c.args.touches.now + c.args.left) (c.rest_of.ensures.leaves g.N.NameHash.name64)

pub item_without-returns-in_err-rest-in-Some-Sub-clause-no_other : goal.item_without-returns-in_err-rest-in-Some-Sub-clause-no_other
item_without-returns-in_err-rest-in-Some-Sub-clause-no_other g t c =
    let is = c.in-Some-Sub.is ∙ ap (λ (i : Item). Some i) c.in-Some-Sub.field-0-is in
    let some : 1 ≤ c.args.left = sub-room g.S.X.BlockHash.block32 g.N.NameHash.name64 (g.N.NameHash.name64 c.args.name.now) c.args.left (slot (g.N.NameHash.name64 c.args.name.now) (7 - c.args.left)) c.args.found c.in-Some-Sub.below c.requires.left is c.requires.found in
    λ l slotted.
    let at = subst (λ (o : Option Item). IsSlot g.S.X.BlockHash.block32 g.N.NameHash.name64 (g.N.NameHash.name64 c.args.name.now) c.args.left (g.S.Store.seen c.args.store.now).told o l) is slotted in
    sub-saves g.S.X.BlockHash.block32 g.N.NameHash.name64 (g.N.NameHash.name64 c.args.name.now) c.args.left (g.S.Store.seen c.args.store.now).told c.in-Some-Sub.below l c.requires.left some at (g.S.Store.seen c.items_without.new.store).told (without c.args.name.now) c.items_without.ensures.no_other

pub item_without-returns-in-None-rest-clause-no_other : goal.item_without-returns-in-None-rest-clause-no_other
item_without-returns-in-None-rest-clause-no_other g t c =
    let is = c.in-Some-Sub.is ∙ ap (λ (i : Item). Some i) c.in-Some-Sub.field-0-is in
    let some : 1 ≤ c.args.left = sub-room g.S.X.BlockHash.block32 g.N.NameHash.name64 (g.N.NameHash.name64 c.args.name.now) c.args.left (slot (g.N.NameHash.name64 c.args.name.now) (7 - c.args.left)) c.args.found c.in-Some-Sub.below c.requires.left is c.requires.found in
    λ l slotted.
    let at = subst (λ (o : Option Item). IsSlot g.S.X.BlockHash.block32 g.N.NameHash.name64 (g.N.NameHash.name64 c.args.name.now) c.args.left (g.S.Store.seen c.args.store.now).told o l) is slotted in
    sub-saves g.S.X.BlockHash.block32 g.N.NameHash.name64 (g.N.NameHash.name64 c.args.name.now) c.args.left (g.S.Store.seen c.args.store.now).told c.in-Some-Sub.below l c.requires.left some at (g.S.Store.seen c.items_without.new.store).told (without c.args.name.now) c.items_without.ensures.no_other

pub item_without-returns-in-Some-clause-no_other : goal.item_without-returns-in-Some-clause-no_other
item_without-returns-in-Some-clause-no_other g t c =
    let is = c.in-Some-Sub.is ∙ ap (λ (i : Item). Some i) c.in-Some-Sub.field-0-is in
    let some : 1 ≤ c.args.left = sub-room g.S.X.BlockHash.block32 g.N.NameHash.name64 (g.N.NameHash.name64 c.args.name.now) c.args.left (slot (g.N.NameHash.name64 c.args.name.now) (7 - c.args.left)) c.args.found c.in-Some-Sub.below c.requires.left is c.requires.found in
    λ l slotted.
    let at = subst (λ (o : Option Item). IsSlot g.S.X.BlockHash.block32 g.N.NameHash.name64 (g.N.NameHash.name64 c.args.name.now) c.args.left (g.S.Store.seen c.args.store.now).told o l) is slotted in
    take-saves g.S.X.BlockHash.block32 g.N.NameHash.name64 (g.N.NameHash.name64 c.args.name.now) c.args.left (g.S.Store.seen c.args.store.now).told c.in-Some-Sub.below l c.requires.left some at (g.S.Store.seen c.items_without.new.store).told (g.S.Store.seen c.rest_of.new.store).told c.args.name.now c.in-Some.items (rw c.in-Some.is at c.in_ok-rest-in-Some-Sub.ensures.takes) c.items_without.ensures.no_other c.rest_of.ensures.no_other

pub items_without-returns-clause-no_other : goal.items_without-returns-clause-no_other
items_without-returns-clause-no_other g t c =
    λ l is agrees. subst (λ (t : Told). SavesAmong g.S.X.BlockHash.block32 (below g.S.X.BlockHash.block32 g.N.NameHash.name64 c.args.left (without c.args.name.now l)) t (g.S.Store.seen c.take_from.new.store).told) c.in_ok-node.ensures.reads.told
    (c.take_from.ensures.no_other l (items-read g.S.X.BlockHash.block32 g.N.NameHash.name64 (record { size = g.met.S.X.BlockHash.size; are_bytes = g.met.S.X.BlockHash.are_bytes }) (g.N.NameHash.name64 c.args.name.now) c.args.left c.args.cid.now none l c.requires is
    (g.S.Store.seen c.args.store.now) (g.S.Store.seen c.load_shard.new.store).told c.in_ok-node.node c.in_ok-node.ensures.reads.told agrees c.in_ok-node.ensures.loads))

pub take_from-returns-in_err-rest-clause-no_other : goal.take_from-returns-in_err-rest-clause-no_other
take_from-returns-in_err-rest-clause-no_other g t c =
    λ l is. slot-saves g.S.X.BlockHash.block32 g.N.NameHash.name64 c.args.left (g.N.NameHash.name64 c.args.name.now) _ (without c.args.name.now l) (g.S.Store.seen c.args.store.now).told (g.S.Store.seen c.item_without.new.store).told
    (bucket_at g.S.X.BlockHash.block32 g.N.NameHash.name64 (g.N.NameHash.name64 c.args.name.now) c.args.left c.requires.left (g.S.Store.seen c.args.store.now).told c.args.items.now c.args.name.now c.slot_at-slot.result c.in_ok-found.found refl
    c.slot_at-slot.ensures (c.in_ok-found.ensures ∙ ap (λ (i : List InSlot). find nat_cmp c.slot_at-slot.result i) c.as_slice.ensures) l is)
    (c.item_without.ensures.no_other _ (slotted_here g.S.X.BlockHash.block32 g.N.NameHash.name64 (g.N.NameHash.name64 c.args.name.now) c.args.left c.requires.left (g.S.Store.seen c.args.store.now).told c.args.items.now c.args.name.now c.slot_at-slot.result c.in_ok-found.found refl
    c.slot_at-slot.ensures (c.in_ok-found.ensures ∙ ap (λ (i : List InSlot). find nat_cmp c.slot_at-slot.result i) c.as_slice.ensures) l is))

pub take_from-returns-in-Same-clause-no_other : goal.take_from-returns-in-Same-clause-no_other
take_from-returns-in-Same-clause-no_other g t c =
    λ l is. slot-saves g.S.X.BlockHash.block32 g.N.NameHash.name64 c.args.left (g.N.NameHash.name64 c.args.name.now) _ (without c.args.name.now l) (g.S.Store.seen c.args.store.now).told (g.S.Store.seen c.item_without.new.store).told
    (bucket_at g.S.X.BlockHash.block32 g.N.NameHash.name64 (g.N.NameHash.name64 c.args.name.now) c.args.left c.requires.left (g.S.Store.seen c.args.store.now).told c.args.items.now c.args.name.now c.slot_at-slot.result c.in_ok-found.found refl
    c.slot_at-slot.ensures (c.in_ok-found.ensures ∙ ap (λ (i : List InSlot). find nat_cmp c.slot_at-slot.result i) c.as_slice.ensures) l is)
    (c.item_without.ensures.no_other _ (slotted_here g.S.X.BlockHash.block32 g.N.NameHash.name64 (g.N.NameHash.name64 c.args.name.now) c.args.left c.requires.left (g.S.Store.seen c.args.store.now).told c.args.items.now c.args.name.now c.slot_at-slot.result c.in_ok-found.found refl
    c.slot_at-slot.ensures (c.in_ok-found.ensures ∙ ap (λ (i : List InSlot). find nat_cmp c.slot_at-slot.result i) c.as_slice.ensures) l is))

pub take_from-returns-in_err-changed-in-Of-clause-no_other : goal.take_from-returns-in_err-changed-in-Of-clause-no_other
take_from-returns-in_err-changed-in-Of-clause-no_other g t c =
    λ l is. slot-saves g.S.X.BlockHash.block32 g.N.NameHash.name64 c.args.left (g.N.NameHash.name64 c.args.name.now) _ (without c.args.name.now l) (g.S.Store.seen c.args.store.now).told (g.S.Store.seen c.item_without.new.store).told
    (bucket_at g.S.X.BlockHash.block32 g.N.NameHash.name64 (g.N.NameHash.name64 c.args.name.now) c.args.left c.requires.left (g.S.Store.seen c.args.store.now).told c.args.items.now c.args.name.now c.slot_at-slot.result c.in_ok-found.found refl
    c.slot_at-slot.ensures (c.in_ok-found.ensures ∙ ap (λ (i : List InSlot). find nat_cmp c.slot_at-slot.result i) c.as_slice.ensures) l is)
    (c.item_without.ensures.no_other _ (slotted_here g.S.X.BlockHash.block32 g.N.NameHash.name64 (g.N.NameHash.name64 c.args.name.now) c.args.left c.requires.left (g.S.Store.seen c.args.store.now).told c.args.items.now c.args.name.now c.slot_at-slot.result c.in_ok-found.found refl
    c.slot_at-slot.ensures (c.in_ok-found.ensures ∙ ap (λ (i : List InSlot). find nat_cmp c.slot_at-slot.result i) c.as_slice.ensures) l is))

pub take_from-returns-in_ok-changed-in-Of-clause-no_other : goal.take_from-returns-in_ok-changed-in-Of-clause-no_other
take_from-returns-in_ok-changed-in-Of-clause-no_other g t c =
    λ l is. slot-saves g.S.X.BlockHash.block32 g.N.NameHash.name64 c.args.left (g.N.NameHash.name64 c.args.name.now) _ (without c.args.name.now l) (g.S.Store.seen c.args.store.now).told (g.S.Store.seen c.item_without.new.store).told
    (bucket_at g.S.X.BlockHash.block32 g.N.NameHash.name64 (g.N.NameHash.name64 c.args.name.now) c.args.left c.requires.left (g.S.Store.seen c.args.store.now).told c.args.items.now c.args.name.now c.slot_at-slot.result c.in_ok-found.found refl
    c.slot_at-slot.ensures (c.in_ok-found.ensures ∙ ap (λ (i : List InSlot). find nat_cmp c.slot_at-slot.result i) c.as_slice.ensures) l is)
    (c.item_without.ensures.no_other _ (slotted_here g.S.X.BlockHash.block32 g.N.NameHash.name64 (g.N.NameHash.name64 c.args.name.now) c.args.left c.requires.left (g.S.Store.seen c.args.store.now).told c.args.items.now c.args.name.now c.slot_at-slot.result c.in_ok-found.found refl
    c.slot_at-slot.ensures (c.in_ok-found.ensures ∙ ap (λ (i : List InSlot). find nat_cmp c.slot_at-slot.result i) c.as_slice.ensures) l is))
