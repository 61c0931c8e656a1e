use Rattle.std.proofs.Common.{◌≡◌, ℕ, ◌-◌, ◌<◌, List, [], length, map, get_or, refl, arith, rules, ap, sym, ◌∙◌, subst, length-append}
use Rattle.std.proofs.lemmas.List.{get_or_read}
use Rattle.std.proofs.lemmas.Result.{on_ok_weaker, IfOk-weaker}
use Rattle.uf_tree.specs.Nodes.{InSlot, item_entry}
use Rattle.uf_tree.specs.ShardPlan.{flat_tabulate, shard, slot_blocks, slot_item, tabulate}
use Rattle.uf_shard.specs.Buckets.{blocks_at, deeper, item_at, pairs_of}
use Rattle.uf_shard.specs.Saving.{PutsItem}
use Rattle.uf_shard.specs.declared.hashed.Hashed.{Hashed}
use Rattle.std.proofs.lemmas.Result.{err_from_is_err_and}
use Rattle.uf_store.proofs.Calls.{saves-saves}
use Rattle.uf_cid.specs.Blocks.{Held}
use Rattle.uf_store.specs.Among.{SavesAmong}
use Rattle.uf_store.proofs.Among.{SavesAmong-refl, SavesAmong-trans}
use Rattle.uf_tree.specs.declared.meta.Meta.{Meta}
use Rattle.uf_shard.proofs.Among.{one-slot, own-saves, under-saves}
use Rattle.uf_shard.proofs.Saves.{saves-none}
use Rattle.uf_shard.proofs.BucketRows.{AreSlots, held-own, Holds-nil, Holds-over, Holds-step, flat_tabulate-at, flat_tabulate-step, for-slot, has-room, sub-blocks, tabulate-step, whole-blocks, whole-entry, whole-valid}
use Rattle.uf_shard.proofs.building.+shards.Goals as goal

pub save_shard-save_slots-requires : goal.save_shard-save_slots-requires
save_shard-save_slots-requires g t c κs within =
    let hash : List ℕ → List ℕ = g.S.X.BlockHash.block32 in
    let name : List ℕ → ℕ = g.N.NameHash.name64 in
    let each = subst (AreSlots hash name (7 - c.args.left) c.args.rows.now) (sym c.as_slice.ensures.value) c.in_ok-slots.ensures.rows in (
      search rules,
      (
        within.0,
        (
          within.1.0,
          (
            within.1.1.0,
            (
              within.1.1.1,
              (
                c.requires.left,
                (
                  ap length c.as_slice.ensures.value ∙ c.in_ok-slots.ensures.count,
                  λ s low. for-slot name c.args.left (7 - c.args.left) s c.args.rows.now _ refl c.requires.rows (each s low),
                ),
              ),
            ),
          ),
        ),
      ),
    )

pub save_shard-returns-in_err-items-clause-touches : goal.save_shard-returns-in_err-items-clause-touches
save_shard-returns-in_err-items-clause-touches g t c =
    let hash : List ℕ → List ℕ = g.S.X.BlockHash.block32 in
    let name : List ℕ → ℕ = g.N.NameHash.name64 in
    let each = subst (AreSlots hash name (7 - c.args.left) c.args.rows.now) (sym c.as_slice.ensures.value) c.in_ok-slots.ensures.rows in
    let blocks = whole-blocks hash name c.args.left (7 - c.args.left) c.args.rows.now c.as_slice.result.now refl c.requires.rows each c.args.meta.now (tabulate 256 0 (item_at hash name c.args.left c.as_slice.result.now)) refl in
    omega (arith, ap length blocks, c.save_slots.ensures.touches)

pub save_shard-save_node-requires : goal.save_shard-save_node-requires
save_shard-save_node-requires g t c =
    let hash : List ℕ → List ℕ = g.S.X.BlockHash.block32 in
    let name : List ℕ → ℕ = g.N.NameHash.name64 in
    let each = subst (AreSlots hash name (7 - c.args.left) c.args.rows.now) (sym c.as_slice.ensures.value) c.in_ok-slots.ensures.rows in
    record {
      items = whole-valid hash name c.args.left (7 - c.args.left) c.args.rows.now c.as_slice.result.now refl c.requires.rows each
          (record { size = g.met.S.X.BlockHash.size; are_bytes = g.met.S.X.BlockHash.are_bytes }) c.in_ok-items.items c.in_ok-items.ensures.items;
      meta = c.requires.meta;
    }

pub save_shard-returns-clause-entry : goal.save_shard-returns-clause-entry
save_shard-returns-clause-entry g t c =
    let hash : List ℕ → List ℕ = g.S.X.BlockHash.block32 in
    let name : List ℕ → ℕ = g.N.NameHash.name64 in
    let each = subst (AreSlots hash name (7 - c.args.left) c.args.rows.now) (sym c.as_slice.ensures.value) c.in_ok-slots.ensures.rows in
    IfOk-weaker c.save_node.result _ _ (λ e is. is ∙ whole-entry hash name c.args.left (7 - c.args.left) c.args.rows.now c.as_slice.result.now refl c.requires.rows each c.args.meta.now c.in_ok-items.items c.in_ok-items.ensures.items) c.save_node.ensures.entry

pub save_shard-returns-clause-held : goal.save_shard-returns-clause-held
save_shard-returns-clause-held g t c =
    let hash : List ℕ → List ℕ = g.S.X.BlockHash.block32 in
    let name : List ℕ → ℕ = g.N.NameHash.name64 in
    let each = subst (AreSlots hash name (7 - c.args.left) c.args.rows.now) (sym c.as_slice.ensures.value) c.in_ok-slots.ensures.rows in
    let blocks = whole-blocks hash name c.args.left (7 - c.args.left) c.args.rows.now c.as_slice.result.now refl c.requires.rows each c.args.meta.now c.in_ok-items.items c.in_ok-items.ensures.items in
    on_ok_weaker c.save_node.result (λ held. Holds-over hash name c.args.left c.as_slice.result.now _ _ _ _ blocks c.save_node.ensures.saves.good c.in_ok-items.ensures.held held) (held-own hash _ (map (λ (p : InSlot). item_entry p.1) c.in_ok-items.items) _ c.save_node.result c.save_node.ensures.entry c.save_node.ensures.held)

pub save_shard-returns-clause-touches : goal.save_shard-returns-clause-touches
save_shard-returns-clause-touches g t c =
    let hash : List ℕ → List ℕ = g.S.X.BlockHash.block32 in
    let name : List ℕ → ℕ = g.N.NameHash.name64 in
    let each = subst (AreSlots hash name (7 - c.args.left) c.args.rows.now) (sym c.as_slice.ensures.value) c.in_ok-slots.ensures.rows in
    let blocks = whole-blocks hash name c.args.left (7 - c.args.left) c.args.rows.now c.as_slice.result.now refl c.requires.rows each c.args.meta.now c.in_ok-items.items c.in_ok-items.ensures.items in
    omega (arith, ap length blocks, c.save_slots.ensures.touches, c.save_node.ensures.touches)

pub save_slots-loop-at-init : goal.save_slots-loop-at-init
unfolding tabulate flat_tabulate
save_slots-loop-at-init g t c = record {
  items = c.new-items.ensures;
  held = Holds-nil (g.S.Store.seen c.args.store.now).told;
  saves = saves-none (g.S.Store.seen c.args.store.now);
  no_other = SavesAmong-refl g.S.X.BlockHash.block32 _ (g.S.Store.seen c.args.store.now).told;
  touches = omega arith;
  touched = omega arith;
}

pub save_shard-returns-clause-saves : goal.save_shard-returns-clause-saves
save_shard-returns-clause-saves g t c = saves-saves c.in_ok-items.ensures.saves c.save_node.ensures.saves

pub save_slots-returns-in_err-save_slot-clause-saves : goal.save_slots-returns-in_err-save_slot-clause-saves
save_slots-returns-in_err-save_slot-clause-saves g t c =
    let out = err_from_is_err_and c.from_residual.result c.from_residual.ensures.1 in rw (out.1, out.2) (saves-saves c.loop-at.invariant.saves c.in_err-save_slot.ensures.saves)

pub save_slots-returns-in_err-save_slot-clause-touches : goal.save_slots-returns-in_err-save_slot-clause-touches
save_slots-returns-in_err-save_slot-clause-touches g t c =
    let hash : List ℕ → List ℕ = g.S.X.BlockHash.block32 in
    let name : List ℕ → ℕ = g.N.NameHash.name64 in
    let low : c.loop-at.at < length c.args.slots.now = omega arith in
    let here : c.as_slice.result.now ≡ get_or c.args.slots.now c.loop-at.at [] = c.as_slice.ensures ∙ get_or_read c.args.slots.now c.loop-at.at c.index-slots-at.result low c.index-slots-at.is [] in
    let one = ap (λ (l : List Hashed). length (slot_blocks (deeper hash name c.args.left) (pairs_of l))) here in
    let most = flat_tabulate-at c.loop-at.at 256 (blocks_at hash name c.args.left c.args.slots.now) (omega (arith, c.requires.count)) in
    omega (arith, one, most, c.loop-at.invariant.touches, c.save_slot.ensures.touches)

pub save_slots-loop-at-preserved : goal.save_slots-loop-at-preserved
save_slots-loop-at-preserved g t c =
    let hash : List ℕ → List ℕ = g.S.X.BlockHash.block32 in
    let name : List ℕ → ℕ = g.N.NameHash.name64 in
    let low : c.loop-at.at < length c.args.slots.now = omega arith in
    let here : c.as_slice.result.now ≡ get_or c.args.slots.now c.loop-at.at [] = c.as_slice.ensures ∙ get_or_read c.args.slots.now c.loop-at.at c.index-slots-at.result low c.index-slots-at.is [] in
    let one = ap (λ (l : List Hashed). length (slot_blocks (deeper hash name c.args.left) (pairs_of l))) here in
    let step = ap length (flat_tabulate-step c.loop-at.at (blocks_at hash name c.args.left c.args.slots.now)) in
    let both = length-append (flat_tabulate c.loop-at.at 0 (blocks_at hash name c.args.left c.args.slots.now)) (blocks_at hash name c.args.left c.args.slots.now c.loop-at.at) in
    record {
      items = tabulate-step c.loop-at.at (item_at hash name c.args.left c.args.slots.now) c.loop-at.items c.save_slot.new.items c.loop-at.invariant.items
          (subst (λ (l : List Hashed). PutsItem c.loop-at.at (slot_item (deeper hash name c.args.left) (pairs_of l)) c.loop-at.items c.save_slot.new.items) here c.in_ok-save_slot.ensures.item);
      held = Holds-step hash name c.loop-at.at c.args.left c.args.slots.now c.as_slice.result.now (g.S.Store.seen c.loop-at.store).told (g.S.Store.seen c.save_slot.new.store).told here
          c.save_slot.ensures.saves.good c.loop-at.invariant.held c.in_ok-save_slot.ensures.held;
      saves = saves-saves c.loop-at.invariant.saves c.in_ok-save_slot.ensures.saves;
      no_other = SavesAmong-trans hash (flat_tabulate 256 0 (blocks_at hash name c.args.left c.args.slots.now)) _ _ _ c.loop-at.invariant.no_other
          (one-slot hash name c.args.left c.args.slots.now c.loop-at.at c.as_slice.result.now (g.S.Store.seen c.loop-at.store).told (g.S.Store.seen c.save_slot.new.store).told (omega (arith, c.requires.count)) here c.save_slot.ensures.no_other);
      touches = omega (arith, one, step, both, c.loop-at.invariant.touches, c.save_slot.ensures.touches);
      touched = omega (arith, c.loop-at.invariant.touched, c.save_slot.ensures.touched);
    }

pub save_slots-returns-in_err-save_slot-clause-no_other : goal.save_slots-returns-in_err-save_slot-clause-no_other
save_slots-returns-in_err-save_slot-clause-no_other g t c =
    let hash : List ℕ → List ℕ = g.S.X.BlockHash.block32 in
    let name : List ℕ → ℕ = g.N.NameHash.name64 in
    let low : c.loop-at.at < length c.args.slots.now = omega arith in
    let here : c.as_slice.result.now ≡ get_or c.args.slots.now c.loop-at.at [] = c.as_slice.ensures ∙ get_or_read c.args.slots.now c.loop-at.at c.index-slots-at.result low c.index-slots-at.is [] in
    SavesAmong-trans hash (flat_tabulate 256 0 (blocks_at hash name c.args.left c.args.slots.now)) _ _ _ c.loop-at.invariant.no_other
    (one-slot hash name c.args.left c.args.slots.now c.loop-at.at c.as_slice.result.now (g.S.Store.seen c.loop-at.store).told (g.S.Store.seen c.save_slot.new.store).told (omega (arith, c.requires.count)) here c.save_slot.ensures.no_other)

pub save_shard-returns-in_err-items-clause-no_other : goal.save_shard-returns-in_err-items-clause-no_other
save_shard-returns-in_err-items-clause-no_other g t c =
    let hash : List ℕ → List ℕ = g.S.X.BlockHash.block32 in
    let name : List ℕ → ℕ = g.N.NameHash.name64 in
    let each = subst (AreSlots hash name (7 - c.args.left) c.args.rows.now) (sym c.as_slice.ensures.value) c.in_ok-slots.ensures.rows in
    let blocks = whole-blocks hash name c.args.left (7 - c.args.left) c.args.rows.now c.as_slice.result.now refl c.requires.rows each c.args.meta.now (tabulate 256 0 (item_at hash name c.args.left c.as_slice.result.now)) refl in
    under-saves hash _ (flat_tabulate 256 0 (blocks_at hash name c.args.left c.as_slice.result.now)) _ (g.S.Store.seen c.args.store.now).told (g.S.Store.seen c.save_slots.new.store).told blocks c.save_slots.ensures.no_other

pub save_shard-returns-clause-no_other : goal.save_shard-returns-clause-no_other
save_shard-returns-clause-no_other g t c =
    let hash : List ℕ → List ℕ = g.S.X.BlockHash.block32 in
    let name : List ℕ → ℕ = g.N.NameHash.name64 in
    let each = subst (AreSlots hash name (7 - c.args.left) c.args.rows.now) (sym c.as_slice.ensures.value) c.in_ok-slots.ensures.rows in
    let blocks = whole-blocks hash name c.args.left (7 - c.args.left) c.args.rows.now c.as_slice.result.now refl c.requires.rows each c.args.meta.now c.in_ok-items.items c.in_ok-items.ensures.items in
    let mid = (g.S.Store.seen c.save_slots.new.store).told in
    SavesAmong-trans hash (shard hash name c.args.left c.args.meta.now (pairs_of c.args.rows.now)).blocks (g.S.Store.seen c.args.store.now).told mid (g.S.Store.seen c.save_node.new.store).told
    (under-saves hash _ (flat_tabulate 256 0 (blocks_at hash name c.args.left c.as_slice.result.now)) _ (g.S.Store.seen c.args.store.now).told mid blocks c.save_slots.ensures.no_other)
    (own-saves hash _ (flat_tabulate 256 0 (blocks_at hash name c.args.left c.as_slice.result.now)) _ mid (g.S.Store.seen c.save_node.new.store).told blocks c.save_node.ensures.no_other)

pub save_slot-returns-in_err-entry-in_default-clause-no_other : goal.save_slot-returns-in_err-entry-in_default-clause-no_other
save_slot-returns-in_err-entry-in_default-clause-no_other g t c =
    let hash : List ℕ → List ℕ = g.S.X.BlockHash.block32 in
    let name : List ℕ → ℕ = g.N.NameHash.name64 in
    let a = (g.S.Store.seen c.args.store.now).told in
    let b = (g.S.Store.seen c.save_shard.new.store).told in
    let some = has-room name c.args.left c.args.rows.now c.requires.rows c.in_default.len_at_least in
    subst (λ (l : List Held). SavesAmong hash l a b) (sym (sub-blocks hash name c.args.left (c.args.left - 1) c.args.rows.now some refl c.in_default.len_at_least))
    (subst (λ (m : Meta). SavesAmong hash (shard hash name (c.args.left - 1) m (pairs_of c.args.rows.now)).blocks a b) c.none-bare.ensures c.save_shard.ensures.no_other)

pub save_slot-returns-in_ok-entry-in_default-clause-no_other : goal.save_slot-returns-in_ok-entry-in_default-clause-no_other
save_slot-returns-in_ok-entry-in_default-clause-no_other g t c =
    let hash : List ℕ → List ℕ = g.S.X.BlockHash.block32 in
    let name : List ℕ → ℕ = g.N.NameHash.name64 in
    let a = (g.S.Store.seen c.args.store.now).told in
    let b = (g.S.Store.seen c.save_shard.new.store).told in
    let some = has-room name c.args.left c.args.rows.now c.requires.rows c.in_default.len_at_least in
    subst (λ (l : List Held). SavesAmong hash l a b) (sym (sub-blocks hash name c.args.left (c.args.left - 1) c.args.rows.now some refl c.in_default.len_at_least))
    (subst (λ (m : Meta). SavesAmong hash (shard hash name (c.args.left - 1) m (pairs_of c.args.rows.now)).blocks a b) c.none-bare.ensures c.save_shard.ensures.no_other)
