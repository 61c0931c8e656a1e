use Rattle.std.proofs.Common.{◌≤◌, ◌-◌, List, refl, ap, arith, sym, ◌∙◌, subst}
use Rattle.uf_murmur.specs.Slots.{slot}
use Rattle.uf_tree.specs.Metas.{none}
use Rattle.uf_tree.specs.Nodes.{InSlot}
use Rattle.uf_tree.proofs.ShardLaws.{slot-bound}
use Rattle.uf_shard.specs.Placed.{IsPlaced, way}
use Rattle.std.proofs.Common.{Option, Some}
use Rattle.uf_tree.specs.declared.nodes.Item.{Item}
use Rattle.uf_shard.specs.Changed.{IsSlot}
use Rattle.std.specs.FinMap.Entries.{find}
use Rattle.std.specs.Ordering.{nat_cmp}
use Rattle.uf_tree.specs.Changes.{set_at}
use Rattle.std.proofs.lemmas.Result.{err_from_is_err_and}
use Rattle.uf_store.proofs.Calls.{reads-saves}
use Rattle.uf_shard.proofs.Saves.{saves-new}
use Rattle.uf_shard.proofs.Placing.{below-in, items-read, load-lost}
use Rattle.uf_store.specs.Among.{SavesAmong}
use Rattle.uf_store.specs.Contents.{Told}
use Rattle.uf_tree.specs.Changes.{with_name}
use Rattle.uf_shard.specs.Changed.{below}
use Rattle.uf_shard.proofs.Among.{beside-saves, pair-saves, put-saves, slot-saves, sub-saves}
use Rattle.uf_shard.proofs.Puts.{bucket_at, slotted}
use Rattle.uf_shard.proofs.Puts.{alone-placed, beside-err, beside-ok, early-below, found-at, into-err, into-ok, item-along, puts-more, room-left, same-done, sub-err, sub-ok, sub-room, twins-done, valid-put}
use Rattle.uf_shard.proofs.putting.+puts.Goals as goal

pub item_beside-returns-then-is_same-clause-puts : goal.item_beside-returns-then-is_same-clause-puts
item_beside-returns-then-is_same-clause-puts g t c = λ l slotted. same-done g.S.X.BlockHash.block32 g.N.NameHash.name64 (g.S.Store.seen c.args.store.now).told (g.S.Store.seen c.args.store.now).told (g.N.NameHash.name64 c.args.name.now) c.args.left c.args.name.now c.args.old.0 c.args.entry.now c.args.old.1 l c.leaf.result
    (sym c.is_same.ensures ∙ c.if-is_same.true) slotted c.leaf.ensures.item

pub item_beside-returns-then-hash_of-clause-puts : goal.item_beside-returns-then-hash_of-clause-puts
item_beside-returns-then-hash_of-clause-puts g t c = λ l slotted. twins-done g.S.X.BlockHash.block32 g.N.NameHash.name64 (g.S.Store.seen c.args.store.now).told (g.S.Store.seen c.args.store.now).told (g.N.NameHash.name64 c.args.name.now) c.args.left c.args.name.now c.args.old.0 c.args.entry.now c.args.old.1 l c.collision.result
    (sym c.is_same.ensures ∙ c.if-is_same.false) (sym c.hash_of.ensures ∙ c.if-hash_of.true ∙ c.hash_of-2.ensures) slotted c.collision.ensures

pub item_beside-put_into-requires : goal.item_beside-put_into-requires
item_beside-put_into-requires g t c κs within =
    let along = item-along g.S.X.BlockHash.block32 g.N.NameHash.name64 g.met.N.NameHash.fits c.args.left c.args.name.now c.args.old.0 c.args.old.1 c.requires.left c.requires.found in
    let some : 1 ≤ c.args.left = room-left g.S.X.BlockHash.block32 g.N.NameHash.name64 g.met.N.NameHash.fits c.args.left c.args.name.now c.args.old.0 c.requires.left along (λ one. c.if-hash_of.false (c.hash_of.ensures ∙ one ∙ sym c.hash_of-2.ensures)) in (
      omega (arith, some),
      (
        within.0,
        (
          within.1.0,
          (
            within.1.1.0,
            (
              within.1.1.1,
              (
                omega (arith, c.requires.left),
                alone-placed g.S.X.BlockHash.block32 g.N.NameHash.name64 g.met.N.NameHash.fits c.args.left c.args.name.now c.args.old.0 c.args.old.1 c.slot_at-slot.result c.in_ok-alone.alone c.requires.left some c.requires.found c.slot_at-slot.ensures c.in_ok-alone.ensures,
              ),
            ),
          ),
        ),
      ),
    )

pub item_beside-returns-in_err-items-clause-puts : goal.item_beside-returns-in_err-items-clause-puts
item_beside-returns-in_err-items-clause-puts g t c =
    let out = err_from_is_err_and c.from_residual-in_err-items.result c.from_residual-in_err-items.ensures.1 in rw (out.1, out.2) (let along = item-along g.S.X.BlockHash.block32 g.N.NameHash.name64 g.met.N.NameHash.fits c.args.left c.args.name.now c.args.old.0 c.args.old.1 c.requires.left c.requires.found in
    let some : 1 ≤ c.args.left = room-left g.S.X.BlockHash.block32 g.N.NameHash.name64 g.met.N.NameHash.fits c.args.left c.args.name.now c.args.old.0 c.requires.left along (λ one. c.if-hash_of.false (c.hash_of.ensures ∙ one ∙ sym c.hash_of-2.ensures)) in
    λ l slotted. beside-err g.S.X.BlockHash.block32 g.N.NameHash.name64 g.met.N.NameHash.fits (g.N.NameHash.name64 c.args.name.now) c.args.left c.args.name.now c.args.old.0 c.args.entry.now c.args.old.1 c.slot_at-slot.result c.in_ok-alone.alone
    c.requires.left some (g.S.Store.seen c.args.store.now).told refl (sym c.is_same.ensures ∙ c.if-is_same.false) c.slot_at-slot.ensures c.in_ok-alone.ensures l slotted
    (g.S.Store.seen c.put_into.new.store).told (g.S.Store.seen c.put_into.new.store).told c.in_err-items.field-0.0 c.in_err-items.ensures.puts)

pub item_beside-returns-clause-puts : goal.item_beside-returns-clause-puts
item_beside-returns-clause-puts g t c =
    let along = item-along g.S.X.BlockHash.block32 g.N.NameHash.name64 g.met.N.NameHash.fits c.args.left c.args.name.now c.args.old.0 c.args.old.1 c.requires.left c.requires.found in
    let some : 1 ≤ c.args.left = room-left g.S.X.BlockHash.block32 g.N.NameHash.name64 g.met.N.NameHash.fits c.args.left c.args.name.now c.args.old.0 c.requires.left along (λ one. c.if-hash_of.false (c.hash_of.ensures ∙ one ∙ sym c.hash_of-2.ensures)) in
    λ l slotted. beside-ok g.S.X.BlockHash.block32 g.N.NameHash.name64 g.met.N.NameHash.fits (g.N.NameHash.name64 c.args.name.now) c.args.left c.args.name.now c.args.old.0 c.args.entry.now c.args.old.1 c.slot_at-slot.result c.in_ok-alone.alone
    c.requires.left some (g.S.Store.seen c.args.store.now).told refl (sym c.is_same.ensures ∙ c.if-is_same.false) c.slot_at-slot.ensures c.in_ok-alone.ensures l slotted
    (g.S.Store.seen c.put_into.new.store).told (g.S.Store.seen c.save_below.new.store).told c.in_ok-items.items c.save_below.result c.in_ok-items.ensures.puts (c.save_below.ensures.gives g.N.NameHash.name64)

pub item_beside-returns-clause-early : goal.item_beside-returns-clause-early
item_beside-returns-clause-early g t c = early-below g.S.X.BlockHash.block32 g.N.NameHash.name64 _ _ _ _ c.in_ok-items.items c.save_below.result (c.save_below.ensures.gives g.N.NameHash.name64)

pub item_beside-returns-clause-saves : goal.item_beside-returns-clause-saves
item_beside-returns-clause-saves g t c = saves-new c.in_ok-items.ensures.saves c.save_below.ensures.saves

pub item_with-returns-in_err-items-in-Some-Sub-clause-puts : goal.item_with-returns-in_err-items-in-Some-Sub-clause-puts
item_with-returns-in_err-items-in-Some-Sub-clause-puts g t c =
    let out = err_from_is_err_and c.from_residual.result c.from_residual.ensures.1 in rw (out.1, out.2) (let is = c.in-Some-Sub.is ∙ ap (λ (i : Item). Some i) c.in-Some-Sub.field-0-is in
    let some : 1 ≤ c.args.left = sub-room g.S.X.BlockHash.block32 g.N.NameHash.name64 (g.N.NameHash.name64 c.args.name.now) c.args.left (slot (g.N.NameHash.name64 c.args.name.now) (7 - c.args.left)) c.args.found c.in-Some-Sub.below c.requires.left is c.requires.found in
    λ l slotted.
    let at = subst (λ (o : Option Item). IsSlot g.S.X.BlockHash.block32 g.N.NameHash.name64 (g.N.NameHash.name64 c.args.name.now) c.args.left (g.S.Store.seen c.args.store.now).told o l) is slotted in
    sub-err g.S.X.BlockHash.block32 g.N.NameHash.name64 (g.N.NameHash.name64 c.args.name.now) c.args.left (g.S.Store.seen c.args.store.now).told c.in-Some-Sub.below l c.requires.left some at
    (g.S.Store.seen c.items_with.new.store).told (g.S.Store.seen c.items_with.new.store).told c.args.name.now c.args.entry.now c.in_err-items-in-Some-Sub.field-0.0 c.in_err-items-in-Some-Sub.ensures.puts)

pub item_with-returns-in_ok-items-in-Some-Sub-clause-puts : goal.item_with-returns-in_ok-items-in-Some-Sub-clause-puts
item_with-returns-in_ok-items-in-Some-Sub-clause-puts g t c =
    let is = c.in-Some-Sub.is ∙ ap (λ (i : Item). Some i) c.in-Some-Sub.field-0-is in
    let some : 1 ≤ c.args.left = sub-room g.S.X.BlockHash.block32 g.N.NameHash.name64 (g.N.NameHash.name64 c.args.name.now) c.args.left (slot (g.N.NameHash.name64 c.args.name.now) (7 - c.args.left)) c.args.found c.in-Some-Sub.below c.requires.left is c.requires.found in
    λ l slotted.
    let at = subst (λ (o : Option Item). IsSlot g.S.X.BlockHash.block32 g.N.NameHash.name64 (g.N.NameHash.name64 c.args.name.now) c.args.left (g.S.Store.seen c.args.store.now).told o l) is slotted in
    sub-ok g.S.X.BlockHash.block32 g.N.NameHash.name64 (g.N.NameHash.name64 c.args.name.now) c.args.left (g.S.Store.seen c.args.store.now).told c.in-Some-Sub.below l c.requires.left some at
    (g.S.Store.seen c.items_with.new.store).told (g.S.Store.seen c.save_below.new.store).told c.args.name.now c.args.entry.now c.in_ok-items-in-Some-Sub.items c.save_below.result c.in_ok-items-in-Some-Sub.ensures.puts (c.save_below.ensures.gives g.N.NameHash.name64)

pub item_with-returns-in_ok-items-in-Some-Sub-clause-early : goal.item_with-returns-in_ok-items-in-Some-Sub-clause-early
item_with-returns-in_ok-items-in-Some-Sub-clause-early g t c = early-below g.S.X.BlockHash.block32 g.N.NameHash.name64 _ _ _ _ c.in_ok-items-in-Some-Sub.items c.save_below.result (c.save_below.ensures.gives g.N.NameHash.name64)

pub item_with-returns-in_ok-items-in-Some-Sub-clause-saves : goal.item_with-returns-in_ok-items-in-Some-Sub-clause-saves
item_with-returns-in_ok-items-in-Some-Sub-clause-saves g t c = saves-new c.in_ok-items-in-Some-Sub.ensures.saves c.save_below.ensures.saves

pub items_with-returns-in_err-node-clause-puts : goal.items_with-returns-in_err-node-clause-puts
items_with-returns-in_err-node-clause-puts g t c = λ l is agrees.
    let out = err_from_is_err_and c.from_residual.result c.from_residual.ensures.1 in rw (out.1, out.2) (load-lost g.S.X.BlockHash.block32 g.N.NameHash.name64 (record { size = g.met.S.X.BlockHash.size; are_bytes = g.met.S.X.BlockHash.are_bytes }) (g.N.NameHash.name64 c.args.name.now) c.args.left c.args.cid.now none l c.requires is
    (g.S.Store.seen c.args.store.now) (g.S.Store.seen c.load_shard.new.store) c.in_err-node.field-0.0 c.in_err-node.ensures.loads agrees)

pub items_with-returns-clause-puts : goal.items_with-returns-clause-puts
items_with-returns-clause-puts g t c = λ l is agrees. puts-more g.S.X.BlockHash.block32 g.N.NameHash.name64 (g.S.Store.seen c.args.store.now).told (g.S.Store.seen c.load_shard.new.store).told (g.S.Store.seen c.put_into.new.store).told _ _ c.args.left c.args.name.now c.args.entry.now l c.put_into.result
    c.in_ok-node.ensures.reads.told (below-in g.S.X.BlockHash.block32 g.N.NameHash.name64 c.args.left none l)
    (c.put_into.ensures.puts l (items-read g.S.X.BlockHash.block32 g.N.NameHash.name64 (record { size = g.met.S.X.BlockHash.size; are_bytes = g.met.S.X.BlockHash.are_bytes }) (g.N.NameHash.name64 c.args.name.now) c.args.left c.args.cid.now none l c.requires is
    (g.S.Store.seen c.args.store.now) (g.S.Store.seen c.load_shard.new.store).told c.in_ok-node.node c.in_ok-node.ensures.reads.told agrees c.in_ok-node.ensures.loads))

pub put_into-item_with-requires : goal.put_into-item_with-requires
put_into-item_with-requires g t c κs within = (
  omega arith,
  (
    within.0,
    (
      within.1.0,
      (
        within.1.1.0,
        (
          within.1.1.1,
          (
            c.requires.left,
            found-at g.S.X.BlockHash.block32 g.N.NameHash.name64 (g.N.NameHash.name64 c.args.name.now) c.args.left c.slot_at-slot.result c.as_slice.result.now c.in_ok-found.found
                (subst (IsPlaced g.N.NameHash.name64 (way (g.N.NameHash.name64 c.args.name.now) (7 - c.args.left))) (sym c.as_slice.ensures) c.requires.placed) c.slot_at-slot.ensures c.in_ok-found.ensures,
          ),
        ),
      ),
    ),
  ),
)

pub put_into-returns-in_err-item-clause-puts : goal.put_into-returns-in_err-item-clause-puts
put_into-returns-in_err-item-clause-puts g t c = λ l is.
    let out = err_from_is_err_and c.from_residual-in_err-item.result c.from_residual-in_err-item.ensures.1 in rw (out.1, out.2) (into-err g.S.X.BlockHash.block32 g.N.NameHash.name64 (g.N.NameHash.name64 c.args.name.now) c.args.left c.requires.left (g.S.Store.seen c.args.store.now).told c.args.items.now c.args.name.now c.slot_at-slot.result c.in_ok-found.found refl
    c.slot_at-slot.ensures (c.in_ok-found.ensures ∙ ap (λ (i : List InSlot). find nat_cmp c.slot_at-slot.result i) c.as_slice.ensures) l is (g.S.Store.seen c.item_with.new.store).told (g.S.Store.seen c.item_with.new.store).told c.args.entry.now c.in_err-item.field-0.0 c.in_err-item.ensures.puts)

pub put_into-returns-clause-puts :
    goal.put_into-returns-clause-puts
put_into-returns-clause-puts g t c = λ l is. into-ok g.S.X.BlockHash.block32 g.N.NameHash.name64 (g.N.NameHash.name64 c.args.name.now) c.args.left c.requires.left (g.S.Store.seen c.args.store.now).told c.args.items.now c.args.name.now c.slot_at-slot.result c.in_ok-found.found refl
    c.slot_at-slot.ensures (c.in_ok-found.ensures ∙ ap (λ (i : List InSlot). find nat_cmp c.slot_at-slot.result i) c.as_slice.ensures) l is (g.S.Store.seen c.item_with.new.store).told (g.S.Store.seen c.item_with.new.store).told c.args.entry.now c.in_ok-item.item c.in_ok-changed.changed refl
    (c.in_ok-changed.ensures ∙ ap (set_at c.slot_at-slot.result (Some c.in_ok-item.item)) c.as_slice-2.ensures) c.in_ok-item.ensures.puts

pub put_into-returns-clause-valid :
    goal.put_into-returns-clause-valid
put_into-returns-clause-valid g t c = valid-put g.S.X.BlockHash.block32 g.N.NameHash.name64 c.slot_at-slot.result c.in_ok-item.item c.args.items.now c.in_ok-changed.changed
    (omega (arith, c.slot_at-slot.ensures, slot-bound (g.N.NameHash.name64 c.args.name.now) (7 - c.args.left))) c.in_ok-item.ensures.valid c.requires.placed.valid (c.in_ok-changed.ensures ∙ ap (set_at c.slot_at-slot.result (Some c.in_ok-item.item)) c.as_slice-2.ensures)

pub items_with-returns-in_err-node-clause-saves : goal.items_with-returns-in_err-node-clause-saves
items_with-returns-in_err-node-clause-saves g t c = let out = err_from_is_err_and c.from_residual.result c.from_residual.ensures.1 in rw (out.1, out.2) (reads-saves c.in_err-node.ensures.reads)

pub item_beside-returns-in_err-items-clause-no_other : goal.item_beside-returns-in_err-items-clause-no_other
item_beside-returns-in_err-items-clause-no_other g t c =
    let along = item-along g.S.X.BlockHash.block32 g.N.NameHash.name64 g.met.N.NameHash.fits c.args.left c.args.name.now c.args.old.0 c.args.old.1 c.requires.left c.requires.found in
    let some : 1 ≤ c.args.left = room-left g.S.X.BlockHash.block32 g.N.NameHash.name64 g.met.N.NameHash.fits c.args.left c.args.name.now c.args.old.0 c.requires.left along (λ one. c.if-hash_of.false (c.hash_of.ensures ∙ one ∙ sym c.hash_of-2.ensures)) in
    λ l slotted. beside-saves g.S.X.BlockHash.block32 g.N.NameHash.name64 g.met.N.NameHash.fits (g.N.NameHash.name64 c.args.name.now) c.args.left c.args.name.now c.args.old.0 c.args.entry.now c.args.old.1 c.slot_at-slot.result c.in_ok-alone.alone c.requires.left some (g.S.Store.seen c.args.store.now).told refl (sym c.is_same.ensures ∙ c.if-is_same.false) c.slot_at-slot.ensures c.in_ok-alone.ensures l slotted (g.S.Store.seen c.put_into.new.store).told c.put_into.ensures.no_other

pub item_beside-returns-clause-no_other : goal.item_beside-returns-clause-no_other
item_beside-returns-clause-no_other g t c =
    let along = item-along g.S.X.BlockHash.block32 g.N.NameHash.name64 g.met.N.NameHash.fits c.args.left c.args.name.now c.args.old.0 c.args.old.1 c.requires.left c.requires.found in
    let some : 1 ≤ c.args.left = room-left g.S.X.BlockHash.block32 g.N.NameHash.name64 g.met.N.NameHash.fits c.args.left c.args.name.now c.args.old.0 c.requires.left along (λ one. c.if-hash_of.false (c.hash_of.ensures ∙ one ∙ sym c.hash_of-2.ensures)) in
    λ l slotted. pair-saves g.S.X.BlockHash.block32 g.N.NameHash.name64 g.met.N.NameHash.fits (g.N.NameHash.name64 c.args.name.now) c.args.left c.args.name.now c.args.old.0 c.args.entry.now c.args.old.1 c.slot_at-slot.result c.in_ok-alone.alone c.requires.left some (g.S.Store.seen c.args.store.now).told refl (sym c.is_same.ensures ∙ c.if-is_same.false) c.slot_at-slot.ensures c.in_ok-alone.ensures l slotted (g.S.Store.seen c.put_into.new.store).told (g.S.Store.seen c.save_below.new.store).told c.in_ok-items.items c.in_ok-items.ensures.puts c.put_into.ensures.no_other c.save_below.ensures.no_other

pub item_with-returns-in_err-items-in-Some-Sub-clause-no_other : goal.item_with-returns-in_err-items-in-Some-Sub-clause-no_other
item_with-returns-in_err-items-in-Some-Sub-clause-no_other g t c =
    let is = c.in-Some-Sub.is ∙ ap (λ (i : Item). Some i) c.in-Some-Sub.field-0-is in
    let some : 1 ≤ c.args.left = sub-room g.S.X.BlockHash.block32 g.N.NameHash.name64 (g.N.NameHash.name64 c.args.name.now) c.args.left (slot (g.N.NameHash.name64 c.args.name.now) (7 - c.args.left)) c.args.found c.in-Some-Sub.below c.requires.left is c.requires.found in
    λ l slotted.
    let at = subst (λ (o : Option Item). IsSlot g.S.X.BlockHash.block32 g.N.NameHash.name64 (g.N.NameHash.name64 c.args.name.now) c.args.left (g.S.Store.seen c.args.store.now).told o l) is slotted in
    sub-saves g.S.X.BlockHash.block32 g.N.NameHash.name64 (g.N.NameHash.name64 c.args.name.now) c.args.left (g.S.Store.seen c.args.store.now).told c.in-Some-Sub.below l c.requires.left some at (g.S.Store.seen c.items_with.new.store).told (with_name c.args.name.now c.args.entry.now) c.items_with.ensures.no_other

pub item_with-returns-in_ok-items-in-Some-Sub-clause-no_other : goal.item_with-returns-in_ok-items-in-Some-Sub-clause-no_other
item_with-returns-in_ok-items-in-Some-Sub-clause-no_other g t c =
    let is = c.in-Some-Sub.is ∙ ap (λ (i : Item). Some i) c.in-Some-Sub.field-0-is in
    let some : 1 ≤ c.args.left = sub-room g.S.X.BlockHash.block32 g.N.NameHash.name64 (g.N.NameHash.name64 c.args.name.now) c.args.left (slot (g.N.NameHash.name64 c.args.name.now) (7 - c.args.left)) c.args.found c.in-Some-Sub.below c.requires.left is c.requires.found in
    λ l slotted.
    let at = subst (λ (o : Option Item). IsSlot g.S.X.BlockHash.block32 g.N.NameHash.name64 (g.N.NameHash.name64 c.args.name.now) c.args.left (g.S.Store.seen c.args.store.now).told o l) is slotted in
    put-saves g.S.X.BlockHash.block32 g.N.NameHash.name64 (g.N.NameHash.name64 c.args.name.now) c.args.left (g.S.Store.seen c.args.store.now).told c.in-Some-Sub.below l c.requires.left some at (g.S.Store.seen c.items_with.new.store).told (g.S.Store.seen c.save_below.new.store).told c.args.name.now c.args.entry.now c.in_ok-items-in-Some-Sub.items c.in_ok-items-in-Some-Sub.ensures.puts c.items_with.ensures.no_other c.save_below.ensures.no_other

pub items_with-returns-clause-no_other : goal.items_with-returns-clause-no_other
items_with-returns-clause-no_other g t c =
    λ l is agrees. subst (λ (t : Told). SavesAmong g.S.X.BlockHash.block32 (below g.S.X.BlockHash.block32 g.N.NameHash.name64 c.args.left (with_name c.args.name.now c.args.entry.now l)) t (g.S.Store.seen c.put_into.new.store).told) c.in_ok-node.ensures.reads.told
    (c.put_into.ensures.no_other l (items-read g.S.X.BlockHash.block32 g.N.NameHash.name64 (record { size = g.met.S.X.BlockHash.size; are_bytes = g.met.S.X.BlockHash.are_bytes }) (g.N.NameHash.name64 c.args.name.now) c.args.left c.args.cid.now none l c.requires is
    (g.S.Store.seen c.args.store.now) (g.S.Store.seen c.load_shard.new.store).told c.in_ok-node.node c.in_ok-node.ensures.reads.told agrees c.in_ok-node.ensures.loads))

pub put_into-returns-in_err-item-clause-no_other : goal.put_into-returns-in_err-item-clause-no_other
put_into-returns-in_err-item-clause-no_other g t c =
    λ l is. slot-saves g.S.X.BlockHash.block32 g.N.NameHash.name64 c.args.left (g.N.NameHash.name64 c.args.name.now) _ (with_name c.args.name.now c.args.entry.now l) (g.S.Store.seen c.args.store.now).told (g.S.Store.seen c.item_with.new.store).told
    (bucket_at g.S.X.BlockHash.block32 g.N.NameHash.name64 (g.N.NameHash.name64 c.args.name.now) c.args.left c.requires.left (g.S.Store.seen c.args.store.now).told c.args.items.now c.args.name.now c.slot_at-slot.result c.in_ok-found.found refl
    c.slot_at-slot.ensures (c.in_ok-found.ensures ∙ ap (λ (i : List InSlot). find nat_cmp c.slot_at-slot.result i) c.as_slice.ensures) l is c.args.entry.now)
    (c.item_with.ensures.no_other _ (slotted g.S.X.BlockHash.block32 g.N.NameHash.name64 (g.N.NameHash.name64 c.args.name.now) c.args.left c.requires.left (g.S.Store.seen c.args.store.now).told c.args.items.now c.args.name.now c.slot_at-slot.result c.in_ok-found.found refl
    c.slot_at-slot.ensures (c.in_ok-found.ensures ∙ ap (λ (i : List InSlot). find nat_cmp c.slot_at-slot.result i) c.as_slice.ensures) l is))

pub put_into-returns-in_err-changed-clause-no_other : goal.put_into-returns-in_err-changed-clause-no_other
put_into-returns-in_err-changed-clause-no_other g t c =
    λ l is. slot-saves g.S.X.BlockHash.block32 g.N.NameHash.name64 c.args.left (g.N.NameHash.name64 c.args.name.now) _ (with_name c.args.name.now c.args.entry.now l) (g.S.Store.seen c.args.store.now).told (g.S.Store.seen c.item_with.new.store).told
    (bucket_at g.S.X.BlockHash.block32 g.N.NameHash.name64 (g.N.NameHash.name64 c.args.name.now) c.args.left c.requires.left (g.S.Store.seen c.args.store.now).told c.args.items.now c.args.name.now c.slot_at-slot.result c.in_ok-found.found refl
    c.slot_at-slot.ensures (c.in_ok-found.ensures ∙ ap (λ (i : List InSlot). find nat_cmp c.slot_at-slot.result i) c.as_slice.ensures) l is c.args.entry.now)
    (c.item_with.ensures.no_other _ (slotted g.S.X.BlockHash.block32 g.N.NameHash.name64 (g.N.NameHash.name64 c.args.name.now) c.args.left c.requires.left (g.S.Store.seen c.args.store.now).told c.args.items.now c.args.name.now c.slot_at-slot.result c.in_ok-found.found refl
    c.slot_at-slot.ensures (c.in_ok-found.ensures ∙ ap (λ (i : List InSlot). find nat_cmp c.slot_at-slot.result i) c.as_slice.ensures) l is))

pub put_into-returns-clause-no_other : goal.put_into-returns-clause-no_other
put_into-returns-clause-no_other g t c =
    λ l is. slot-saves g.S.X.BlockHash.block32 g.N.NameHash.name64 c.args.left (g.N.NameHash.name64 c.args.name.now) _ (with_name c.args.name.now c.args.entry.now l) (g.S.Store.seen c.args.store.now).told (g.S.Store.seen c.item_with.new.store).told
    (bucket_at g.S.X.BlockHash.block32 g.N.NameHash.name64 (g.N.NameHash.name64 c.args.name.now) c.args.left c.requires.left (g.S.Store.seen c.args.store.now).told c.args.items.now c.args.name.now c.slot_at-slot.result c.in_ok-found.found refl
    c.slot_at-slot.ensures (c.in_ok-found.ensures ∙ ap (λ (i : List InSlot). find nat_cmp c.slot_at-slot.result i) c.as_slice.ensures) l is c.args.entry.now)
    (c.item_with.ensures.no_other _ (slotted g.S.X.BlockHash.block32 g.N.NameHash.name64 (g.N.NameHash.name64 c.args.name.now) c.args.left c.requires.left (g.S.Store.seen c.args.store.now).told c.args.items.now c.args.name.now c.slot_at-slot.result c.in_ok-found.found refl
    c.slot_at-slot.ensures (c.in_ok-found.ensures ∙ ap (λ (i : List InSlot). find nat_cmp c.slot_at-slot.result i) c.as_slice.ensures) l is))
