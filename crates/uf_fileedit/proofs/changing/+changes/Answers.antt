use Rattle.uf_fileedit.proofs.Saving.{below-saves, leaf-saves, node-saves}
use Rattle.uf_fileedit.specs.Saving.{SavesOfPart, blocks_changed}
use Rattle.uf_tree.specs.Cutting.{joined}
use Rattle.uf_tree.specs.FilePlan.{node_held}
use Rattle.uf_store.proofs.Among.{SavesAmong-either, SavesAmong-refl, SavesAmong-same}
use Rattle.std.proofs.Common.{◌≡◌, ◌≤◌, ◌<◌, ◌+◌, ◌-◌, ◌*◌, ◌^◌, ℕ, List, [], ◌∷◌, ◌++◌, length, take, drop, min, ap, arith, refl, rules, subst, sym, ◌∙◌}
use Rattle.std.specs.Prelude.{IfErr}
use Rattle.std.specs.List.{sum_by}
use Rattle.std.proofs.lemmas.List.{length_push}
use Rattle.uf_edge.specs.Counts.{Stood}
use Rattle.uf_store.specs.Keeping.{Agrees}
use Rattle.uf_store.specs.Lost.{IsLossOf}
use Rattle.uf_store.proofs.Causes.{StaysCalm-refl, StaysCalm-trans, calm-memory}
use Rattle.uf_store.proofs.Keeping.{KeepsGood-refl, KeepsGood-trans}
use Rattle.uf_store.specs.Contents.{Told}
use Rattle.uf_store.specs.Writing.{IsSave, SavesOnly}
use Rattle.std.proofs.lemmas.Result.{err_from_is_err_and}
use Rattle.uf_fileedit.proofs.Touching.{below-slice, blamed-after, chunks_in, climbs-save, leaf-touches, less-spent, node-spent, node-touches, place-next, rest-length, rest-next, spent-none, turn-costs}
use Rattle.uf_store.proofs.Writing.{SavesOnly-refl, SavesOnly-trans, Wrote-good, Wrote-same}
use Rattle.uf_tree.specs.declared.nodes.Part.{Part}
use Rattle.uf_tree.specs.FileSub.{span, blocks_over}
use Rattle.uf_tree.proofs.Told.{kept}
use Rattle.uf_fileedit.specs.Changes.{IsBlank, IsOld, LiesWithin, old_blocks, overlaid}
use Rattle.uf_fileedit.specs.Layers.{RemakesPart}
use Rattle.uf_fileedit.proofs.Blames.{below-shows, old-at, turn-shows}
use Rattle.uf_fileedit.proofs.Numbers.{Room, room-begins, room-more}
use Rattle.uf_fileedit.proofs.Old.{pos}
use Rattle.uf_fileedit.proofs.Steps.{Progress, begins, blank-again, blank-first, blank-later, count-size, count-some, counted, ends, leaf-here, leaf-small, left-alone, node-few, node-gives, node-lost, one-within, rest-within, total-more, turn, turn-agrees, turn-lost, turn-saves}
use Rattle.uf_fileedit.proofs.changing.+changes.Goals as goal

pub change-returns-in-Some-clause-gives : goal.change-returns-in-Some-clause-gives
change-returns-in-Some-clause-gives g t c = (
  (λ zeros b is before now. left-alone g.S.X.BlockHash.block32 (record { size = g.met.S.X.BlockHash.size; are_bytes = g.met.S.X.BlockHash.are_bytes }) c.args.layer.p c.requires.profile ((g.S.Store.seen c.args.store.now).told) c.args.layer.top c.args.layer.height c.args.target.size c.args.target.offset c.args.target.old c.in-Some.part b c.args.piece.now c.in-Some.ensures.old c.in-Some.ensures.left.0 c.in-Some.ensures.left.1 c.in-Some.ensures.left.2 is),
  search rules,
)

pub change-change_leaf-requires-clause-size : goal.change-change_leaf-requires-clause-size
change-change_leaf-requires-clause-size g t c = leaf-small c.args.layer.p c.args.layer.height c.args.target.size c.requires.profile c.requires.size c.if-layer-eq0.true

pub change-returns-then-layer-eq0-clause-gives : goal.change-returns-then-layer-eq0-clause-gives
change-returns-then-layer-eq0-clause-gives g t c = (
  (λ zeros b is before now. leaf-here g.S.X.BlockHash.block32 (record { size = g.met.S.X.BlockHash.size; are_bytes = g.met.S.X.BlockHash.are_bytes }) c.args.layer.p c.requires.profile ((g.S.Store.seen c.args.store.now).told) ((g.S.Store.seen c.change_leaf.new.store).told) c.args.layer.top c.args.layer.height c.args.target.size c.args.target.offset c.min-at.result c.args.target.old b c.args.piece.now c.change_leaf.result c.if-layer-eq0.true c.min-at.ensures c.requires.within c.change_leaf.ensures.gives.0 is before now),
  (λ few b is before now stood clash. let zero_is = c.if-layer-eq0.true in
      subst (λ j. IsOld g.S.X.BlockHash.block32 c.args.layer.p j c.args.target.old b → Agrees ((g.S.Store.seen c.args.store.now).told) (old_blocks g.S.X.BlockHash.block32 c.args.layer.p j c.args.target.old b) → Agrees ((g.S.Store.seen c.change_leaf.new.store).told) (old_blocks g.S.X.BlockHash.block32 c.args.layer.p j c.args.target.old b)
      → IfErr c.change_leaf.result (IsLossOf ((g.S.Store.seen c.change_leaf.new.store).told) (old_blocks g.S.X.BlockHash.block32 c.args.layer.p j c.args.target.old b))) (let low : 0 ≡ min c.args.layer.top c.args.layer.height = omega arith in low)
      (λ is before now. c.change_leaf.ensures.gives.1 c.args.layer.p b is before now stood clash) is before now),
)

pub change-returns-then-layer-eq0-clause-saves : goal.change-returns-then-layer-eq0-clause-saves
change-returns-then-layer-eq0-clause-saves g t c = (
  (let zero_is = c.if-layer-eq0.true in
      old-at g.S.X.BlockHash.block32 c.args.layer.p (g.S.Store.seen c.change_leaf.new.store).told c.args.layer.rows 0 (min c.args.layer.top c.args.layer.height) c.args.target.old c.args.target.old c.change_leaf.result (g.S.Store.seen c.args.store.now) (g.S.Store.seen c.change_leaf.new.store) (omega arith) refl (c.change_leaf.ensures.saves.0 c.args.layer.p c.args.layer.rows)),
  search rules,
)

pub change_node-returns-clause-gives : goal.change_node-returns-clause-gives
change_node-returns-clause-gives g t c = (
  (λ zeros b is before now.
      node-gives g.S.X.BlockHash.block32 (record { size = g.met.S.X.BlockHash.size; are_bytes = g.met.S.X.BlockHash.are_bytes }) c.args.layer.p c.requires.profile ((g.S.Store.seen c.args.store.now).told) ((g.S.Store.seen c.parts_below.new.store).told) ((g.S.Store.seen c.change_parts.new.store).told) ((g.S.Store.seen c.save_node.new.store).told) c.args.layer.top c.args.layer.height c.args.target.size c.args.target.offset c.args.target.old b c.args.piece.now c.in_ok-olds.olds c.as_slice.result.now c.in_ok-news.news c.as_slice-2.result.now c.save_node.result
      c.in_ok-olds.ensures.reads.1 c.in_ok-news.ensures.saves.1 c.save_node.ensures.saves (c.in_ok-olds.ensures.gives.0 b is before) c.as_slice.ensures (c.in_ok-news.ensures.gives.0 (subst (λ (x : Told). IsBlank g.S.X.BlockHash.block32 c.args.layer.p x 0 c.args.layer.zeros) (sym c.in_ok-olds.ensures.reads.1) zeros)) c.as_slice-2.ensures c.save_node.ensures.part c.save_node.ensures.held before now),
  search rules,
)

pub change_node-returns-clause-saves : goal.change_node-returns-clause-saves
change_node-returns-clause-saves g t c = (
  search rules,
  (SavesOnly-trans g.S.X.BlockHash.block32 ((g.S.Store.seen c.args.store.now).told) ((g.S.Store.seen c.change_parts.new.store).told) ((g.S.Store.seen c.save_node.new.store).told)
      (subst (λ (t : Told). SavesOnly g.S.X.BlockHash.block32 t ((g.S.Store.seen c.change_parts.new.store).told)) c.in_ok-olds.ensures.reads.1 c.in_ok-news.ensures.saves.1) c.save_node.ensures.saves),
)

pub change_node-returns-in_err-news-clause-gives : goal.change_node-returns-in_err-news-clause-gives
change_node-returns-in_err-news-clause-gives g t c = (
  search rules,
  (λ few b is before now stood clash.
      let out = err_from_is_err_and c.from_residual-in_err-news.result c.from_residual-in_err-news.ensures.1 in rw (out.1, out.2) (node-lost g.S.X.BlockHash.block32 (record { size = g.met.S.X.BlockHash.size; are_bytes = g.met.S.X.BlockHash.are_bytes }) c.args.layer.p c.requires.profile ((g.S.Store.seen c.args.store.now).told) ((g.S.Store.seen c.parts_below.new.store).told) ((g.S.Store.seen c.change_parts.new.store).told) c.args.layer.top c.args.layer.height c.args.target.size c.args.target.offset c.args.target.old b c.args.piece.now c.in_ok-olds.olds c.as_slice.result.now c.in_err-news.field-0.0
      c.in_ok-olds.ensures.reads.1 (c.in_ok-olds.ensures.gives.0 b is before) c.as_slice.ensures
      (λ gs are a d. c.in_err-news.ensures.gives.1 few gs are a d (subst (λ (n : ℕ). Stood n (g.S.Store.seen c.change_parts.new.store).faults) (sym c.in_ok-olds.ensures.reads.0.faults) stood) (subst (λ (n : ℕ). Stood n (g.S.Store.seen c.change_parts.new.store).clashes) (sym c.in_ok-olds.ensures.reads.0.clashes) clash)) before now)),
)

pub change_node-returns-in_err-olds-clause-saves : goal.change_node-returns-in_err-olds-clause-saves
change_node-returns-in_err-olds-clause-saves g t c = (
  search rules,
  (Wrote-same g.S.X.BlockHash.block32 IsSave ((g.S.Store.seen c.args.store.now).told) ((g.S.Store.seen c.parts_below.new.store).told) c.in_err-olds.ensures.reads.1),
)

pub change_node-returns-clause-rises : goal.change_node-returns-clause-rises
change_node-returns-clause-rises g t c = let a = c.in_ok-olds.ensures.rises in let b = c.in_ok-news.ensures.rises in climbs-save c.save_node.result c.args.touches.now c.change_parts.new.touches c.save_node.new.touches (omega arith) c.save_node.ensures.rises c.save_node.ensures.fault

pub change_node-returns-in_err-olds-clause-rises : goal.change_node-returns-in_err-olds-clause-rises
change_node-returns-in_err-olds-clause-rises g t c = let out = err_from_is_err_and c.from_residual.result c.from_residual.ensures.1 in rw (out.1, out.2) c.in_err-olds.ensures.rises

pub change_node-returns-in_err-news-clause-rises : goal.change_node-returns-in_err-news-clause-rises
change_node-returns-in_err-news-clause-rises g t c = let out = err_from_is_err_and c.from_residual-in_err-news.result c.from_residual-in_err-news.ensures.1 in rw (out.1, out.2) (blamed-after c.in_err-news.field-0.0 c.args.touches.now c.parts_below.new.touches c.change_parts.new.touches c.in_ok-olds.ensures.rises c.in_err-news.ensures.rises)

pub change_node-returns-clause-touches : goal.change_node-returns-clause-touches
change_node-returns-clause-touches g t c = λ a z is some. node-spent c.args.layer.height (z - a) c.args.touches.now c.parts_below.new.touches c.change_parts.new.touches c.save_node.new.touches (omega arith) c.in_ok-olds.ensures.touches
    (c.in_ok-news.ensures.touches a z is (below-slice _ _ _ _ c.as_slice.ensures (c.in_ok-olds.ensures.below is.fits))) c.save_node.ensures.touches

pub change_node-returns-in_err-olds-clause-touches : goal.change_node-returns-in_err-olds-clause-touches
change_node-returns-in_err-olds-clause-touches g t c = λ a z is some. node-spent c.args.layer.height (z - a) c.args.touches.now c.parts_below.new.touches c.parts_below.new.touches c.parts_below.new.touches (omega arith) c.in_err-olds.ensures.touches (omega arith) (omega arith)

pub change_node-returns-in_err-news-clause-touches : goal.change_node-returns-in_err-news-clause-touches
change_node-returns-in_err-news-clause-touches g t c = λ a z is some. node-spent c.args.layer.height (z - a) c.args.touches.now c.parts_below.new.touches c.change_parts.new.touches c.change_parts.new.touches (omega arith) c.in_ok-olds.ensures.touches
    (c.in_err-news.ensures.touches a z is (below-slice _ _ _ _ c.as_slice.ensures (c.in_ok-olds.ensures.below is.fits))) (omega arith)

pub change_one-returns-in-Some-clause-gives : goal.change_one-returns-in-Some-clause-gives
change_one-returns-in-Some-clause-gives g t c = (
  (λ zeros blank b is before now. blank-again g.S.X.BlockHash.block32 (record { size = g.met.S.X.BlockHash.size; are_bytes = g.met.S.X.BlockHash.are_bytes }) c.args.layer.p c.requires.profile ((g.S.Store.seen c.args.store.now).told) (min c.args.layer.top c.args.layer.height) c.args.layer.height c.args.target.size c.args.target.offset c.args.blank c.args.target.old c.in-Some.part b c.args.piece.now c.in-Some.is (c.is_nothing.ensures.old c.if-is_nothing.true) (c.is_nothing.ensures.piece c.if-is_nothing.true) c.if-part-target.true is blank),
  search rules,
)

pub change_parts-change_one-requires : goal.change_parts-change_one-requires
change_parts-change_one-requires g t c = λ κs within. (
  search rules,
  (
    within.0,
    (
      within.1.0,
      (
        within.1.1,
        (
          c.requires.profile,
          (
            count-size g.S.X.BlockHash.block32 (record { size = g.met.S.X.BlockHash.size; are_bytes = g.met.S.X.BlockHash.are_bytes }) c.args.layer.p c.requires.profile c.args.layer.top c.args.layer.height c.args.target.size c.args.target.offset c.parts.left c.parts.at c.parts.place c.min-count.result c.span_of-most.result c.min-cut.result c.args.olds.now c.parts.news c.args.piece.now c.parts.rest.now [] c.part_at-old.result
                c.span_of-most.ensures c.min-count.ensures (c.min-cut.ensures ∙ ap (min (length c.parts.rest.now)) c.saturating_sub.ensures) c.part_at-old.ensures c.requires.size c.parts.invariant.left_is (let more = c.parts-test.true in omega arith) c.parts.invariant.within,
            one-within g.S.X.BlockHash.block32 (record { size = g.met.S.X.BlockHash.size; are_bytes = g.met.S.X.BlockHash.are_bytes }) c.args.layer.p c.requires.profile c.args.layer.top c.args.layer.height c.args.target.size c.args.target.offset c.parts.left c.parts.at c.parts.place c.min-count.result c.span_of-most.result c.min-cut.result c.args.olds.now c.parts.news c.args.piece.now c.parts.rest.now [] c.part_at-old.result
                c.span_of-most.ensures c.min-count.ensures (c.min-cut.ensures ∙ ap (min (length c.parts.rest.now)) c.saturating_sub.ensures) c.part_at-old.ensures c.requires.size c.parts.invariant.left_is (let more = c.parts-test.true in omega arith) c.parts.invariant.within,
          ),
        ),
      ),
    ),
  ),
)

pub change_parts-parts-init : goal.change_parts-parts-init
change_parts-parts-init g t c =
    let none = c.new-news.ensures in
    let some : 1 ≤ c.args.target.size = c.requires.size.some (omega arith) in
    let pos_s = pos g.S.X.BlockHash.block32 (record { size = g.met.S.X.BlockHash.size; are_bytes = g.met.S.X.BlockHash.are_bytes }) c.args.layer.p c.requires.profile c.args.layer.height in
    record {
      gives = λ zeros gs are before now. (
        subst (λ (l : List Part). Progress g.S.X.BlockHash.block32 c.args.layer.p (span c.args.layer.p.chunk c.args.layer.p.width c.args.layer.height) (min c.args.layer.top c.args.layer.height) c.args.layer.height gs c.args.target.size c.args.target.offset c.args.piece.now ((g.S.Store.seen c.args.store.now).told) l c.args.target.size 0 c.args.target.offset c.args.piece.now) (sym none)
            (begins g.S.X.BlockHash.block32 c.args.layer.p (span c.args.layer.p.chunk c.args.layer.p.width c.args.layer.height) (min c.args.layer.top c.args.layer.height) c.args.layer.height gs c.args.target.size c.args.target.offset c.args.piece.now ((g.S.Store.seen c.args.store.now).told) some),
        blank-first g.S.X.BlockHash.block32 c.args.layer.p ((g.S.Store.seen c.args.store.now).told) c.args.layer.height c.first_blank-blank.result c.args.layer.zeros c.first_blank-blank.ensures zeros,
      );
      within = c.requires.within;
      left_is = omega arith;
      total = subst (λ (l : List Part). sum_by (λ (m : Part). m.size) l + c.args.target.size ≡ c.args.target.size) (sym none) (let e : 0 + c.args.target.size ≡ c.args.target.size = omega arith in e);
      room = subst (λ (l : List Part). Room (span c.args.layer.p.chunk c.args.layer.p.width c.args.layer.height) c.args.target.size c.args.target.size (length l)) (sym none) (room-begins (span c.args.layer.p.chunk c.args.layer.p.width c.args.layer.height) c.args.target.size pos_s);
      at_same = ap (λ (l : List Part). length l) (sym none);
      place_is = omega arith;
      rest_is = λ h. omega arith;
      rises = omega arith;
      touching = λ a z is below. spent-none (2 * (c.args.layer.height + 1)) (chunks_in c.args.layer.p.width c.args.layer.height) a z c.args.touches.now;
      at_is = omega arith;
      calm = StaysCalm-refl (g.S.Store.seen c.args.store.now);
      good = KeepsGood-refl g.S.X.BlockHash.block32 ((g.S.Store.seen c.args.store.now).told);
      saves = SavesOnly-refl g.S.X.BlockHash.block32 ((g.S.Store.seen c.args.store.now).told);
      no_other = λ zeros gs are before now. SavesAmong-refl g.S.X.BlockHash.block32 (blocks_changed g.S.X.BlockHash.block32 c.args.layer c.args.target (joined gs) c.args.piece.now) (g.S.Store.seen c.args.store.now).told;
    }

pub change_parts-returns-in_err-part-clause-gives : goal.change_parts-returns-in_err-part-clause-gives
change_parts-returns-in_err-part-clause-gives g t c = (
  search rules,
  (λ few gs are before now stood clash.
      let out = err_from_is_err_and c.from_residual.result c.from_residual.ensures.1 in rw (out.1, out.2) (turn-lost g.S.X.BlockHash.block32 (record { size = g.met.S.X.BlockHash.size; are_bytes = g.met.S.X.BlockHash.are_bytes }) c.args.layer.p c.requires.profile c.args.layer.top c.args.layer.height c.args.target.size c.args.target.offset c.parts.left c.parts.at c.parts.place c.min-count.result c.span_of-most.result c.min-cut.result c.args.olds.now c.parts.news c.args.piece.now c.parts.rest.now gs c.part_at-old.result
      c.span_of-most.ensures c.min-count.ensures (c.min-cut.ensures ∙ ap (min (length c.parts.rest.now)) c.saturating_sub.ensures) c.part_at-old.ensures c.requires.size c.parts.invariant.left_is (let more = c.parts-test.true in omega arith) c.parts.invariant.within ((g.S.Store.seen c.args.store.now).told) ((g.S.Store.seen c.parts.store).told) ((g.S.Store.seen c.change_one.new.store).told) are c.parts.invariant.saves c.in_err-part.ensures.saves.1 c.in_err-part.field-0.0 before now
      (λ b is a d. c.in_err-part.ensures.gives.1 few b is a d (subst (λ (n : ℕ). Stood n (g.S.Store.seen c.change_one.new.store).faults) (sym c.parts.invariant.calm.faults) stood) (subst (λ (n : ℕ). Stood n (g.S.Store.seen c.change_one.new.store).clashes) (sym c.parts.invariant.calm.clashes) clash)))),
)

pub change_parts-returns-in_err-part-clause-saves : goal.change_parts-returns-in_err-part-clause-saves
change_parts-returns-in_err-part-clause-saves g t c = (
  (let out = err_from_is_err_and c.from_residual.result c.from_residual.ensures.1 in rw (out.1, out.2) (turn-shows g.S.X.BlockHash.block32 c.args.layer.p c.args.layer.rows (min c.args.layer.top c.args.layer.height) c.parts.at c.args.olds.now c.part_at-old.result c.in_err-part.field-0.0 (g.S.Store.seen c.args.store.now) (g.S.Store.seen c.parts.store) (g.S.Store.seen c.change_one.new.store)
      c.part_at-old.ensures c.parts.invariant.calm c.in_err-part.ensures.saves.0)),
  (SavesOnly-trans g.S.X.BlockHash.block32 ((g.S.Store.seen c.args.store.now).told) ((g.S.Store.seen c.parts.store).told) ((g.S.Store.seen c.change_one.new.store).told) c.parts.invariant.saves c.in_err-part.ensures.saves.1),
)

pub change_node-returns-in_err-news-clause-saves : goal.change_node-returns-in_err-news-clause-saves
change_node-returns-in_err-news-clause-saves g t c = (
  (let out = err_from_is_err_and c.from_residual-in_err-news.result c.from_residual-in_err-news.ensures.1 in rw (out.1, out.2) (below-shows g.S.X.BlockHash.block32 c.args.layer.p c.args.layer.rows (min c.args.layer.top (c.args.layer.height + 1)) (min c.args.layer.top c.args.layer.height) c.args.target.old c.in_ok-olds.olds c.as_slice.result.now c.in_err-news.field-0.0
      (g.S.Store.seen c.args.store.now) (g.S.Store.seen c.parts_below.new.store) (g.S.Store.seen c.change_parts.new.store) c.as_slice.ensures c.in_ok-olds.ensures.stand c.in_ok-olds.ensures.reads.1 (Wrote-good g.S.X.BlockHash.block32 IsSave ((g.S.Store.seen c.parts_below.new.store).told) ((g.S.Store.seen c.change_parts.new.store).told) c.in_err-news.ensures.saves.1) c.in_ok-olds.ensures.reads.0 c.in_err-news.ensures.saves.0)),
  search rules,
)

pub change_parts-returns-in_err-push-clause-saves : goal.change_parts-returns-in_err-push-clause-saves
change_parts-returns-in_err-push-clause-saves g t c = (
  (let out = err_from_is_err_and c.from_residual-in_err-push.result c.from_residual-in_err-push.ensures.1 in rw (out.1, out.2) (calm-memory (g.S.Store.seen c.args.store.now) (g.S.Store.seen c.change_one.new.store) (StaysCalm-trans (g.S.Store.seen c.args.store.now) (g.S.Store.seen c.parts.store) (g.S.Store.seen c.change_one.new.store) c.parts.invariant.calm c.in_ok-part.ensures.saves.0))),
  (SavesOnly-trans g.S.X.BlockHash.block32 ((g.S.Store.seen c.args.store.now).told) ((g.S.Store.seen c.parts.store).told) ((g.S.Store.seen c.change_one.new.store).told) c.parts.invariant.saves c.in_ok-part.ensures.saves.1),
)

pub change_parts-overflow_add-at : goal.change_parts-overflow_add-at
change_parts-overflow_add-at g t c = let a = c.parts.invariant.at_is in let s = c.parts-test.true in let m : c.args.target.size < 2 ^ 63 = c.requires.size.small in omega arith

pub change_parts-parts-smaller : goal.change_parts-parts-smaller
change_parts-parts-smaller g t c = let q = count-some g.S.X.BlockHash.block32 (record { size = g.met.S.X.BlockHash.size; are_bytes = g.met.S.X.BlockHash.are_bytes }) c.args.layer.p c.requires.profile c.args.layer.top c.args.layer.height c.args.target.size c.args.target.offset c.parts.left c.parts.at c.parts.place c.min-count.result c.span_of-most.result c.min-cut.result c.args.olds.now c.parts.news c.args.piece.now c.parts.rest.now [] c.part_at-old.result
    c.span_of-most.ensures c.min-count.ensures (c.min-cut.ensures ∙ ap (min (length c.parts.rest.now)) c.saturating_sub.ensures) c.part_at-old.ensures c.requires.size c.parts.invariant.left_is (let more = c.parts-test.true in omega arith) c.parts.invariant.within in let s = c.parts-test.true in omega arith

pub change_parts-returns-clause-some : goal.change_parts-returns-clause-some
change_parts-returns-clause-some g t c = let low = c.parts-test.false in let some : 1 ≤ c.args.target.size = c.requires.size.some (omega arith) in c.parts.invariant.room.some (omega arith)

pub change_parts-returns-clause-few : goal.change_parts-returns-clause-few
change_parts-returns-clause-few g t c = let few : length c.parts.news ≤ c.args.layer.p.width = node-few g.S.X.BlockHash.block32 (record { size = g.met.S.X.BlockHash.size; are_bytes = g.met.S.X.BlockHash.are_bytes }) c.args.layer.p c.requires.profile c.args.layer.height c.args.target.size (length c.parts.news) c.requires.size c.parts.invariant.room.within in let w : c.args.layer.p.width ≤ 1024 = (kept c.args.layer.p c.requires.profile).few in omega arith

pub change_parts-returns-clause-room : goal.change_parts-returns-clause-room
change_parts-returns-clause-room g t c = c.parts.invariant.room.within

pub change_parts-returns-clause-size : goal.change_parts-returns-clause-size
change_parts-returns-clause-size g t c = let low = c.parts-test.false in let total = c.parts.invariant.total in omega arith

pub change_parts-returns-clause-gives : goal.change_parts-returns-clause-gives
change_parts-returns-clause-gives g t c = (
  (λ zeros gs are before now. ends g.S.X.BlockHash.block32 c.args.layer.p (span c.args.layer.p.chunk c.args.layer.p.width c.args.layer.height) (min c.args.layer.top c.args.layer.height) c.args.layer.height gs c.args.target.size c.args.target.offset c.args.piece.now ((g.S.Store.seen c.parts.store).told) c.parts.news c.parts.left c.parts.at c.parts.place c.parts.rest.now c.parts-test.false (c.parts.invariant.gives zeros gs are before now).0),
  search rules,
)

pub change_parts-parts-preserved : goal.change_parts-parts-preserved
change_parts-parts-preserved g t c =
    let news_are = c.in_ok-push.ensures.ok in
    let q = count-some g.S.X.BlockHash.block32 (record { size = g.met.S.X.BlockHash.size; are_bytes = g.met.S.X.BlockHash.are_bytes }) c.args.layer.p c.requires.profile c.args.layer.top c.args.layer.height c.args.target.size c.args.target.offset c.parts.left c.parts.at c.parts.place c.min-count.result c.span_of-most.result c.min-cut.result c.args.olds.now c.parts.news c.args.piece.now c.parts.rest.now [] c.part_at-old.result
    c.span_of-most.ensures c.min-count.ensures (c.min-cut.ensures ∙ ap (min (length c.parts.rest.now)) c.saturating_sub.ensures) c.part_at-old.ensures c.requires.size c.parts.invariant.left_is (let more = c.parts-test.true in omega arith) c.parts.invariant.within in
    let counted_is = counted g.S.X.BlockHash.block32 (record { size = g.met.S.X.BlockHash.size; are_bytes = g.met.S.X.BlockHash.are_bytes }) c.args.layer.p c.requires.profile c.args.layer.top c.args.layer.height c.args.target.size c.args.target.offset c.parts.left c.parts.at c.parts.place c.min-count.result c.span_of-most.result c.min-cut.result c.args.olds.now c.parts.news c.args.piece.now c.parts.rest.now [] c.part_at-old.result
    c.span_of-most.ensures c.min-count.ensures (c.min-cut.ensures ∙ ap (min (length c.parts.rest.now)) c.saturating_sub.ensures) c.part_at-old.ensures c.requires.size c.parts.invariant.left_is (let more = c.parts-test.true in omega arith) c.parts.invariant.within in
    let total : sum_by (λ (m : Part). m.size) (c.parts.news ++ c.in_ok-part.part ∷ []) + (c.parts.left - c.min-count.result) ≡ c.args.target.size = total-more c.parts.news c.in_ok-part.part c.parts.left c.min-count.result c.args.target.size (omega arith) c.in_ok-part.ensures.size c.parts.invariant.total in
    let room = room-more (span c.args.layer.p.chunk c.args.layer.p.width c.args.layer.height) c.args.target.size c.parts.left (length c.parts.news) c.min-count.result (pos g.S.X.BlockHash.block32 (record { size = g.met.S.X.BlockHash.size; are_bytes = g.met.S.X.BlockHash.are_bytes }) c.args.layer.p c.requires.profile c.args.layer.height) (let more = c.parts-test.true in omega arith) counted_is c.parts.invariant.room in
    record {
      gives = λ zeros gs are before now.
          subst (λ (l : List Part). Progress g.S.X.BlockHash.block32 c.args.layer.p (span c.args.layer.p.chunk c.args.layer.p.width c.args.layer.height) (min c.args.layer.top c.args.layer.height) c.args.layer.height gs c.args.target.size c.args.target.offset c.args.piece.now ((g.S.Store.seen c.change_one.new.store).told) l (c.parts.left - c.min-count.result) (c.parts.at + 1) c.saturating_sub-place.result (take (length c.parts.rest.now - c.min-cut.result) (drop c.min-cut.result c.parts.rest.now)) × IsBlank g.S.X.BlockHash.block32 c.args.layer.p ((g.S.Store.seen c.change_one.new.store).told) c.args.layer.height c.blank_of-blank.result) (sym news_are)
          (subst (λ (n : ℕ). Progress g.S.X.BlockHash.block32 c.args.layer.p (span c.args.layer.p.chunk c.args.layer.p.width c.args.layer.height) (min c.args.layer.top c.args.layer.height) c.args.layer.height gs c.args.target.size c.args.target.offset c.args.piece.now ((g.S.Store.seen c.change_one.new.store).told) (c.parts.news ++ c.in_ok-part.part ∷ []) (c.parts.left - c.min-count.result) (c.parts.at + 1) n (take (length c.parts.rest.now - c.min-cut.result) (drop c.min-cut.result c.parts.rest.now)) × IsBlank g.S.X.BlockHash.block32 c.args.layer.p ((g.S.Store.seen c.change_one.new.store).told) c.args.layer.height c.blank_of-blank.result) (sym c.saturating_sub-place.ensures)
          (turn g.S.X.BlockHash.block32 (record { size = g.met.S.X.BlockHash.size; are_bytes = g.met.S.X.BlockHash.are_bytes }) c.args.layer.p c.requires.profile c.args.layer.top c.args.layer.height c.args.target.size c.args.target.offset c.parts.left c.parts.at c.parts.place c.min-count.result c.span_of-most.result c.min-cut.result c.args.olds.now c.parts.news c.args.piece.now c.parts.rest.now gs c.part_at-old.result
          c.span_of-most.ensures c.min-count.ensures (c.min-cut.ensures ∙ ap (min (length c.parts.rest.now)) c.saturating_sub.ensures) c.part_at-old.ensures c.requires.size c.parts.invariant.left_is (let more = c.parts-test.true in omega arith) c.parts.invariant.within ((g.S.Store.seen c.args.store.now).told) ((g.S.Store.seen c.parts.store).told) ((g.S.Store.seen c.change_one.new.store).told) are c.parts.invariant.saves c.in_ok-part.ensures.saves.1 c.parts.blank c.blank_of-blank.result c.in_ok-part.part c.blank_of-blank.ensures c.in_ok-part.ensures.size (λ l old_is blank_is a d. c.in_ok-part.ensures.gives.0 (blank-later g.S.X.BlockHash.block32 c.args.layer.p ((g.S.Store.seen c.args.store.now).told) ((g.S.Store.seen c.parts.store).told) 0 c.args.layer.zeros c.parts.invariant.good zeros) blank_is l old_is a d) before now
          (c.parts.invariant.gives zeros gs are before (turn-agrees g.S.X.BlockHash.block32 (record { size = g.met.S.X.BlockHash.size; are_bytes = g.met.S.X.BlockHash.are_bytes }) c.args.layer.p c.requires.profile c.args.layer.top c.args.layer.height c.args.target.size c.args.target.offset c.parts.left c.parts.at c.parts.place c.min-count.result c.span_of-most.result c.min-cut.result c.args.olds.now c.parts.news c.args.piece.now c.parts.rest.now gs c.part_at-old.result
          c.span_of-most.ensures c.min-count.ensures (c.min-cut.ensures ∙ ap (min (length c.parts.rest.now)) c.saturating_sub.ensures) c.part_at-old.ensures c.requires.size c.parts.invariant.left_is (let more = c.parts-test.true in omega arith) c.parts.invariant.within ((g.S.Store.seen c.args.store.now).told) ((g.S.Store.seen c.parts.store).told) ((g.S.Store.seen c.change_one.new.store).told) are c.parts.invariant.saves c.in_ok-part.ensures.saves.1 before now))));
      within = subst (λ (n : ℕ). LiesWithin (c.parts.left - c.min-count.result) n (take (length c.parts.rest.now - c.min-cut.result) (drop c.min-cut.result c.parts.rest.now))) (sym c.saturating_sub-place.ensures) (rest-within g.S.X.BlockHash.block32 (record { size = g.met.S.X.BlockHash.size; are_bytes = g.met.S.X.BlockHash.are_bytes }) c.args.layer.p c.requires.profile c.args.layer.top c.args.layer.height c.args.target.size c.args.target.offset c.parts.left c.parts.at c.parts.place c.min-count.result c.span_of-most.result c.min-cut.result c.args.olds.now c.parts.news c.args.piece.now c.parts.rest.now [] c.part_at-old.result
          c.span_of-most.ensures c.min-count.ensures (c.min-cut.ensures ∙ ap (min (length c.parts.rest.now)) c.saturating_sub.ensures) c.part_at-old.ensures c.requires.size c.parts.invariant.left_is (let more = c.parts-test.true in omega arith) c.parts.invariant.within);
      left_is = (let l = c.parts.invariant.left_is in omega arith);
      total = subst (λ (l : List Part). sum_by (λ (m : Part). m.size) l + (c.parts.left - c.min-count.result) ≡ c.args.target.size) (sym news_are) total;
      room = subst (λ (n : ℕ). Room (span c.args.layer.p.chunk c.args.layer.p.width c.args.layer.height) c.args.target.size (c.parts.left - c.min-count.result) n) (sym (ap (λ (l : List Part). length l) news_are ∙ length_push c.parts.news c.in_ok-part.part)) room;
      at_same = ap (λ (n : ℕ). n + 1) c.parts.invariant.at_same ∙ sym (ap (λ (l : List Part). length l) news_are ∙ length_push c.parts.news c.in_ok-part.part);
      place_is = place-next c.parts.at (span c.args.layer.p.chunk c.args.layer.p.width c.args.layer.height) c.parts.place c.saturating_sub-place.result c.parts.left c.min-count.result c.args.target.offset counted_is c.saturating_sub-place.ensures c.parts.invariant.place_is;
      rest_is = λ some. rest-next c.parts.at (span c.args.layer.p.chunk c.args.layer.p.width c.args.layer.height) c.parts.place c.saturating_sub-place.result (length c.parts.rest.now) c.parts.left c.min-count.result c.min-cut.result _ _ counted_is (c.min-cut.ensures ∙ ap (min (length c.parts.rest.now)) c.saturating_sub.ensures) c.saturating_sub-place.ensures c.parts.invariant.within c.parts.invariant.rest_is (rest-length c.parts.rest.now c.min-cut.result) some;
      rises = omega (arith, c.parts.invariant.rises, c.in_ok-part.ensures.rises);
      touching = λ a z is below. turn-costs c.args.layer.p c.requires.profile c.args.layer.top c.args.layer.height c.args.target.old c.part_at-old.result c.args.olds.now c.args.target.size c.args.target.offset (length c.args.piece.now) a z c.parts.at c.parts.left (length c.parts.news) c.span_of-most.result c.min-count.result c.parts.place c.min-cut.result c.parts.rest.now is below c.part_at-old.ensures c.requires.size.small c.span_of-most.ensures c.min-count.ensures (c.min-cut.ensures ∙ ap (min (length c.parts.rest.now)) c.saturating_sub.ensures) c.parts.invariant.at_same c.parts.invariant.room (let more = c.parts-test.true in omega arith) c.parts.invariant.left_is c.parts.invariant.place_is c.parts.invariant.rest_is c.args.touches.now c.parts.touches c.change_one.new.touches (c.parts.invariant.touching a z is below) c.in_ok-part.ensures.touches;
      at_is = (let l = c.parts.invariant.at_is in omega arith);
      calm = StaysCalm-trans (g.S.Store.seen c.args.store.now) (g.S.Store.seen c.parts.store) (g.S.Store.seen c.change_one.new.store) c.parts.invariant.calm c.in_ok-part.ensures.saves.0;
      good = KeepsGood-trans g.S.X.BlockHash.block32 ((g.S.Store.seen c.args.store.now).told) ((g.S.Store.seen c.parts.store).told) ((g.S.Store.seen c.change_one.new.store).told) c.parts.invariant.good (Wrote-good g.S.X.BlockHash.block32 IsSave ((g.S.Store.seen c.parts.store).told) ((g.S.Store.seen c.change_one.new.store).told) c.in_ok-part.ensures.saves.1);
      saves = SavesOnly-trans g.S.X.BlockHash.block32 ((g.S.Store.seen c.args.store.now).told) ((g.S.Store.seen c.parts.store).told) ((g.S.Store.seen c.change_one.new.store).told) c.parts.invariant.saves c.in_ok-part.ensures.saves.1;
      no_other = λ zeros gs are before now.
          turn-saves g.S.X.BlockHash.block32 (record { size = g.met.S.X.BlockHash.size; are_bytes = g.met.S.X.BlockHash.are_bytes }) c.args.layer.p c.requires.profile c.args.layer.top c.args.layer.height c.args.target.size c.args.target.offset c.parts.left c.parts.at c.parts.place c.min-count.result c.span_of-most.result c.min-cut.result c.args.olds.now c.parts.news c.args.piece.now c.parts.rest.now gs c.part_at-old.result
          c.span_of-most.ensures c.min-count.ensures (c.min-cut.ensures ∙ ap (min (length c.parts.rest.now)) c.saturating_sub.ensures) c.part_at-old.ensures c.requires.size c.parts.invariant.left_is (let more = c.parts-test.true in omega arith) c.parts.invariant.within (g.S.Store.seen c.args.store.now).told (g.S.Store.seen c.parts.store).told (g.S.Store.seen c.change_one.new.store).told are c.parts.invariant.saves c.in_ok-part.ensures.saves.1 before now
          (λ a. (c.parts.invariant.gives zeros gs are before a).0) (λ a. c.parts.invariant.no_other zeros gs are before a)
          (λ b is a d. c.in_ok-part.ensures.no_other (blank-later g.S.X.BlockHash.block32 c.args.layer.p (g.S.Store.seen c.args.store.now).told (g.S.Store.seen c.parts.store).told 0 c.args.layer.zeros c.parts.invariant.good zeros) b is a d);
    }

pub change_parts-returns-in_err-part-clause-rises : goal.change_parts-returns-in_err-part-clause-rises
change_parts-returns-in_err-part-clause-rises g t c = let out = err_from_is_err_and c.from_residual.result c.from_residual.ensures.1 in rw (out.1, out.2) (blamed-after c.in_err-part.field-0.0 c.args.touches.now c.parts.touches c.change_one.new.touches c.parts.invariant.rises c.in_err-part.ensures.rises)

pub change_parts-returns-in_err-push-clause-rises : goal.change_parts-returns-in_err-push-clause-rises
change_parts-returns-in_err-push-clause-rises g t c = let out = err_from_is_err_and c.from_residual-in_err-push.result c.from_residual-in_err-push.ensures.1 in rw (out.1, out.2) (omega (arith, c.parts.invariant.rises, c.in_ok-part.ensures.rises))

pub change_parts-returns-in_err-part-clause-touches : goal.change_parts-returns-in_err-part-clause-touches
change_parts-returns-in_err-part-clause-touches g t c = λ a z is below. less-spent _ _ _ (turn-costs c.args.layer.p c.requires.profile c.args.layer.top c.args.layer.height c.args.target.old c.part_at-old.result c.args.olds.now c.args.target.size c.args.target.offset (length c.args.piece.now) a z c.parts.at c.parts.left (length c.parts.news) c.span_of-most.result c.min-count.result c.parts.place c.min-cut.result c.parts.rest.now is below c.part_at-old.ensures c.requires.size.small c.span_of-most.ensures c.min-count.ensures (c.min-cut.ensures ∙ ap (min (length c.parts.rest.now)) c.saturating_sub.ensures) c.parts.invariant.at_same c.parts.invariant.room (let more = c.parts-test.true in omega arith) c.parts.invariant.left_is c.parts.invariant.place_is c.parts.invariant.rest_is c.args.touches.now c.parts.touches c.change_one.new.touches (c.parts.invariant.touching a z is below) c.in_err-part.ensures.touches)

pub change_parts-returns-in_err-push-clause-touches : goal.change_parts-returns-in_err-push-clause-touches
change_parts-returns-in_err-push-clause-touches g t c = λ a z is below. less-spent _ _ _ (turn-costs c.args.layer.p c.requires.profile c.args.layer.top c.args.layer.height c.args.target.old c.part_at-old.result c.args.olds.now c.args.target.size c.args.target.offset (length c.args.piece.now) a z c.parts.at c.parts.left (length c.parts.news) c.span_of-most.result c.min-count.result c.parts.place c.min-cut.result c.parts.rest.now is below c.part_at-old.ensures c.requires.size.small c.span_of-most.ensures c.min-count.ensures (c.min-cut.ensures ∙ ap (min (length c.parts.rest.now)) c.saturating_sub.ensures) c.parts.invariant.at_same c.parts.invariant.room (let more = c.parts-test.true in omega arith) c.parts.invariant.left_is c.parts.invariant.place_is c.parts.invariant.rest_is c.args.touches.now c.parts.touches c.change_one.new.touches (c.parts.invariant.touching a z is below) c.in_ok-part.ensures.touches)

pub change_parts-returns-clause-touches : goal.change_parts-returns-clause-touches
change_parts-returns-clause-touches g t c = λ a z is below. less-spent _ _ _ (c.parts.invariant.touching a z is below)

pub change-returns-then-layer-eq0-clause-touches : goal.change-returns-then-layer-eq0-clause-touches
change-returns-then-layer-eq0-clause-touches g t c = λ a z is. leaf-touches c.args.layer.p c.args.layer.top c.args.layer.height c.args.target.old c.args.target.size c.args.target.offset (length c.args.piece.now) a z c.args.touches.now c.change_leaf.new.touches c.if-layer-eq0.true is c.in_default.ensures.changed c.change_leaf.ensures.touches

pub change-returns-clause-touches : goal.change-returns-clause-touches
change-returns-clause-touches g t c = λ a z is. node-touches c.args.layer.p c.args.layer.top c.args.layer.height (c.args.layer.height - 1) c.args.target.old c.args.target.size c.args.target.offset (length c.args.piece.now) a z c.args.touches.now c.change_node.new.touches (let some = c.if-layer-eq0.false in omega arith) is c.in_default.ensures.changed c.change_node.ensures.touches

pub change-returns-clause-gives : goal.change-returns-clause-gives
change-returns-clause-gives g t c =
    let some = c.if-layer-eq0.false in
    subst (λ (k : ℕ). RemakesPart g.S.X.BlockHash.block32 c.args.layer k c.args.target c.args.piece.now (g.S.Store.seen c.args.store.now) (g.S.Store.seen c.change_node.new.store) c.change_node.result) (let e : c.args.layer.height - 1 + 1 ≡ c.args.layer.height = omega arith in e) c.change_node.ensures.gives

-- ---- what is saved

pub change-returns-in-Some-clause-no_other : goal.change-returns-in-Some-clause-no_other
change-returns-in-Some-clause-no_other g t c = λ zeros b is before now.
    SavesAmong-refl g.S.X.BlockHash.block32 (blocks_over g.S.X.BlockHash.block32 c.args.layer.p.chunk c.args.layer.p.width c.args.layer.height (overlaid c.args.target.size b c.args.target.offset c.args.piece.now)) (g.S.Store.seen c.args.store.now).told

pub change-returns-then-layer-eq0-clause-no_other : goal.change-returns-then-layer-eq0-clause-no_other
change-returns-then-layer-eq0-clause-no_other g t c = λ zeros b is before now.
    leaf-saves g.S.X.BlockHash.block32 c.args.layer.p (g.S.Store.seen c.args.store.now).told (g.S.Store.seen c.change_leaf.new.store).told c.args.layer.top c.args.layer.height c.args.target.size c.args.target.offset c.min-at.result c.args.target.old b c.args.piece.now c.if-layer-eq0.true c.min-at.ensures c.requires.within c.change_leaf.ensures.no_other is before now

pub change-returns-clause-no_other : goal.change-returns-clause-no_other
change-returns-clause-no_other g t c =
    let some = c.if-layer-eq0.false in
    subst (λ (k : ℕ). SavesOfPart g.S.X.BlockHash.block32 c.args.layer k c.args.target c.args.piece.now (g.S.Store.seen c.args.store.now) (g.S.Store.seen c.change_node.new.store)) (let e : c.args.layer.height - 1 + 1 ≡ c.args.layer.height = omega arith in e) c.change_node.ensures.no_other

pub change_node-returns-in_err-olds-clause-no_other : goal.change_node-returns-in_err-olds-clause-no_other
change_node-returns-in_err-olds-clause-no_other g t c = λ zeros b is before now.
    SavesAmong-same g.S.X.BlockHash.block32 (blocks_over g.S.X.BlockHash.block32 c.args.layer.p.chunk c.args.layer.p.width (c.args.layer.height + 1) (overlaid c.args.target.size b c.args.target.offset c.args.piece.now)) (g.S.Store.seen c.args.store.now).told (g.S.Store.seen c.parts_below.new.store).told c.in_err-olds.ensures.reads.1

pub change_node-returns-in_err-news-clause-no_other : goal.change_node-returns-in_err-news-clause-no_other
change_node-returns-in_err-news-clause-no_other g t c = λ zeros b is before now.
    below-saves g.S.X.BlockHash.block32 c.args.layer.p (g.S.Store.seen c.args.store.now).told (g.S.Store.seen c.parts_below.new.store).told (g.S.Store.seen c.change_parts.new.store).told c.args.layer.top c.args.layer.height c.args.target.size c.args.target.offset c.args.target.old b c.args.piece.now c.in_ok-olds.olds c.as_slice.result.now
    c.in_ok-olds.ensures.reads.1 (c.in_ok-olds.ensures.gives.0 b is before) c.as_slice.ensures (c.in_err-news.ensures.no_other (subst (λ (x : Told). IsBlank g.S.X.BlockHash.block32 c.args.layer.p x 0 c.args.layer.zeros) (sym c.in_ok-olds.ensures.reads.1) zeros)) before now

pub change_node-returns-clause-no_other : goal.change_node-returns-clause-no_other
change_node-returns-clause-no_other g t c = λ zeros b is before now.
    node-saves g.S.X.BlockHash.block32 c.args.layer.p (g.S.Store.seen c.args.store.now).told (g.S.Store.seen c.parts_below.new.store).told (g.S.Store.seen c.change_parts.new.store).told c.args.layer.top c.args.layer.height c.args.target.size c.args.target.offset c.args.target.old b c.args.piece.now c.in_ok-olds.olds c.as_slice.result.now
    c.in_ok-olds.ensures.reads.1 (c.in_ok-olds.ensures.gives.0 b is before) c.as_slice.ensures (c.in_ok-news.ensures.no_other (subst (λ (x : Told). IsBlank g.S.X.BlockHash.block32 c.args.layer.p x 0 c.args.layer.zeros) (sym c.in_ok-olds.ensures.reads.1) zeros)) before
    (g.S.Store.seen c.save_node.new.store).told c.in_ok-news.news c.as_slice-2.result.now c.in_ok-news.ensures.saves.1 c.save_node.ensures.saves (c.in_ok-news.ensures.gives.0 (subst (λ (x : Told). IsBlank g.S.X.BlockHash.block32 c.args.layer.p x 0 c.args.layer.zeros) (sym c.in_ok-olds.ensures.reads.1) zeros)) c.as_slice-2.ensures
    (SavesAmong-either g.S.X.BlockHash.block32 c.save_node.result (node_held g.S.X.BlockHash.block32 c.as_slice-2.result.now) (g.S.Store.seen c.change_parts.new.store) (g.S.Store.seen c.save_node.new.store) refl c.save_node.ensures.kept c.save_node.ensures.err) now

pub change_one-returns-in-Some-clause-no_other : goal.change_one-returns-in-Some-clause-no_other
change_one-returns-in-Some-clause-no_other g t c = λ zeros b is before now.
    SavesAmong-refl g.S.X.BlockHash.block32 (blocks_over g.S.X.BlockHash.block32 c.args.layer.p.chunk c.args.layer.p.width c.args.layer.height (overlaid c.args.target.size b c.args.target.offset c.args.piece.now)) (g.S.Store.seen c.args.store.now).told

pub change_parts-returns-in_err-part-clause-no_other : goal.change_parts-returns-in_err-part-clause-no_other
change_parts-returns-in_err-part-clause-no_other g t c = λ zeros gs are before now.
    turn-saves g.S.X.BlockHash.block32 (record { size = g.met.S.X.BlockHash.size; are_bytes = g.met.S.X.BlockHash.are_bytes }) c.args.layer.p c.requires.profile c.args.layer.top c.args.layer.height c.args.target.size c.args.target.offset c.parts.left c.parts.at c.parts.place c.min-count.result c.span_of-most.result c.min-cut.result c.args.olds.now c.parts.news c.args.piece.now c.parts.rest.now gs c.part_at-old.result
    c.span_of-most.ensures c.min-count.ensures (c.min-cut.ensures ∙ ap (min (length c.parts.rest.now)) c.saturating_sub.ensures) c.part_at-old.ensures c.requires.size c.parts.invariant.left_is (let more = c.parts-test.true in omega arith) c.parts.invariant.within (g.S.Store.seen c.args.store.now).told (g.S.Store.seen c.parts.store).told (g.S.Store.seen c.change_one.new.store).told are c.parts.invariant.saves c.in_err-part.ensures.saves.1 before now
    (λ a. (c.parts.invariant.gives zeros gs are before a).0) (λ a. c.parts.invariant.no_other zeros gs are before a)
    (λ b is a d. c.in_err-part.ensures.no_other (blank-later g.S.X.BlockHash.block32 c.args.layer.p (g.S.Store.seen c.args.store.now).told (g.S.Store.seen c.parts.store).told 0 c.args.layer.zeros c.parts.invariant.good zeros) b is a d)

pub change_parts-returns-in_err-push-clause-no_other : goal.change_parts-returns-in_err-push-clause-no_other
change_parts-returns-in_err-push-clause-no_other g t c = λ zeros gs are before now.
    turn-saves g.S.X.BlockHash.block32 (record { size = g.met.S.X.BlockHash.size; are_bytes = g.met.S.X.BlockHash.are_bytes }) c.args.layer.p c.requires.profile c.args.layer.top c.args.layer.height c.args.target.size c.args.target.offset c.parts.left c.parts.at c.parts.place c.min-count.result c.span_of-most.result c.min-cut.result c.args.olds.now c.parts.news c.args.piece.now c.parts.rest.now gs c.part_at-old.result
    c.span_of-most.ensures c.min-count.ensures (c.min-cut.ensures ∙ ap (min (length c.parts.rest.now)) c.saturating_sub.ensures) c.part_at-old.ensures c.requires.size c.parts.invariant.left_is (let more = c.parts-test.true in omega arith) c.parts.invariant.within (g.S.Store.seen c.args.store.now).told (g.S.Store.seen c.parts.store).told (g.S.Store.seen c.change_one.new.store).told are c.parts.invariant.saves c.in_ok-part.ensures.saves.1 before now
    (λ a. (c.parts.invariant.gives zeros gs are before a).0) (λ a. c.parts.invariant.no_other zeros gs are before a)
    (λ b is a d. c.in_ok-part.ensures.no_other (blank-later g.S.X.BlockHash.block32 c.args.layer.p (g.S.Store.seen c.args.store.now).told (g.S.Store.seen c.parts.store).told 0 c.args.layer.zeros c.parts.invariant.good zeros) b is a d)

pub change_parts-returns-clause-no_other : goal.change_parts-returns-clause-no_other
change_parts-returns-clause-no_other g t c = c.parts.invariant.no_other
