use Rattle.uf_fileedit.proofs.Saving.{base-saves, first-saves, firsts-saves, rest-saves}
use Rattle.uf_tree.specs.FilePlan.{groups, node_held}
use Rattle.uf_store.proofs.Among.{SavesAmong-kept, SavesAmong-same}
use Rattle.std.proofs.Common.{◌≡◌, ◌≤◌, ◌<◌, ◌+◌, ◌-◌, ◌*◌, ℕ, suc, rules, List, [], length, take, drop, min, ap, arith, refl, subst, sym, ◌∙◌, None, Err, ◌∷◌}
use Rattle.std.specs.List.{sum_by}
use Rattle.std.proofs.lemmas.List.{length-take}
use Rattle.std.proofs.lemmas.Result.{err_from_is_err_and}
use Rattle.uf_edge.specs.Counts.{Stood}
use Rattle.uf_store.specs.Faults.{Shows}
use Rattle.uf_store.specs.Writing.{IsSave}
use Rattle.uf_store.proofs.Causes.{StaysCalm-trans}
use Rattle.uf_store.proofs.Keeping.{KeepsGood-trans}
use Rattle.uf_store.proofs.Writing.{SavesOnly-trans, Wrote-good, agrees-between}
use Rattle.uf_tree.specs.FileSub.{span}
use Rattle.uf_tree.specs.declared.nodes.Part.{Part}
use Rattle.uf_tree.proofs.Told.{kept}
use Rattle.uf_fileedit.specs.Changes.{HasSize, LiesWithin, LosesOfRoot, blocks_of_all, overlaid}
use Rattle.uf_fileedit.specs.Touches.{AreBelow}
use Rattle.uf_fileedit.specs.Ways.{IsBadAmongOld}
use Rattle.uf_fileedit.proofs.Blames.{none-among}
use Rattle.uf_fileedit.proofs.Remade.{agrees-none, base-gives, base-lost, base-shows, counted, first-size, first-within, grow-touches, grown-makes, lost-none, nothing-old, rest-size, rest-within, room-grown, span-less, total-grown}
use Rattle.uf_fileedit.proofs.Steps.{blank-later, node-few, saved-lost, saved-shows}
use Rattle.uf_fileedit.proofs.Touching.{climbs-low, none-below, rest-length}
use Rattle.uf_fileedit.proofs.growing.+grown.Goals as goal

-- ---- a row of the old file

pub returns-then-layer-clause-gives : goal.returns-then-layer-clause-gives
returns-then-layer-clause-gives g t c = (
  (λ zeros. base-gives g.S.X.BlockHash.block32 c.args.layer.p c.args.layer.top c.args.layer.height c.if-layer.true c.args.olds.now c.args.target c.args.piece.now ((g.S.Store.seen c.args.store.now).told) ((g.S.Store.seen c.change_parts.new.store).told) c.change_parts.result (c.change_parts.ensures.gives.0 zeros)),
  (λ few. base-lost g.S.X.BlockHash.block32 c.args.layer.p c.args.layer.top c.args.layer.height c.if-layer.true c.args.olds.now (g.S.Store.seen c.args.store.now) (g.S.Store.seen c.change_parts.new.store) c.change_parts.result (c.change_parts.ensures.gives.1 few)),
)

pub returns-then-layer-clause-saves : goal.returns-then-layer-clause-saves
returns-then-layer-clause-saves g t c = (
  (base-shows g.S.X.BlockHash.block32 c.args.layer.p c.args.layer.top c.args.layer.height c.if-layer.true c.args.layer.rows c.args.olds.now ((g.S.Store.seen c.change_parts.new.store).told) c.change_parts.result (g.S.Store.seen c.args.store.now) (g.S.Store.seen c.change_parts.new.store) c.change_parts.ensures.saves.0),
  search rules,
)

pub returns-then-layer-clause-touches : goal.returns-then-layer-clause-touches
returns-then-layer-clause-touches g t c = λ first a z some is below. c.change_parts.ensures.touches a z is (subst (λ n. AreBelow (span c.args.layer.p.chunk c.args.layer.p.width n) c.args.target.old c.args.olds.now) (let low = c.if-layer.true in let e : min (c.args.layer.top - 1) c.args.layer.height ≡ c.args.layer.height = omega arith in e) below)

-- ---- what is asked of the calls

pub grown-requires : goal.grown-requires
grown-requires g t c κs within =
    let low = c.if-layer.false in
    let some = c.requires.rows in
    let less : c.args.layer.height - 1 < c.args.layer.height = omega arith in (
      search rules,
      (
        within.0,
        (
          within.1.0,
          (
            within.1.1,
            (
              c.requires.profile,
              (
                c.requires.rows,
                (
                  subst (λ n. HasSize c.args.layer.p n c.span_of-count.result) (let low = c.if-layer.false in let s = c.requires.rows in let e : c.args.layer.height ≡ (c.args.layer.height - 1) + 1 = omega arith in e) (first-size g.S.X.BlockHash.block32 (record { size = g.met.S.X.BlockHash.size; are_bytes = g.met.S.X.BlockHash.are_bytes }) c.args.layer.p c.requires.profile c.args.layer.height c.args.target.size c.args.target.offset c.span_of-count.result c.span_of-count.result c.min-cut.result c.args.piece.now c.span_of-count.ensures refl (c.requires.more (let low = c.if-layer.false in let e : c.args.layer.top ≤ c.args.layer.height = omega arith in e)) c.requires.size.small (c.min-cut.ensures ∙ ap (min (length c.args.piece.now)) c.saturating_sub.ensures)),
                  (
                    λ more. span-less c.args.layer.p c.requires.profile (c.args.layer.height - 1) c.args.layer.height c.span_of-count.result (let low = c.if-layer.false in let s = c.requires.rows in let e : c.args.layer.height ≡ (c.args.layer.height - 1) + 1 = omega arith in e) (counted g.S.X.BlockHash.block32 (record { size = g.met.S.X.BlockHash.size; are_bytes = g.met.S.X.BlockHash.are_bytes }) c.args.layer.p c.requires.profile c.args.layer.height c.args.target.size c.args.target.offset c.span_of-count.result c.span_of-count.result c.min-cut.result c.args.piece.now c.span_of-count.ensures refl (c.requires.more (let low = c.if-layer.false in let e : c.args.layer.top ≤ c.args.layer.height = omega arith in e)) c.requires.size.small (c.min-cut.ensures ∙ ap (min (length c.args.piece.now)) c.saturating_sub.ensures)),
                    first-within g.S.X.BlockHash.block32 (record { size = g.met.S.X.BlockHash.size; are_bytes = g.met.S.X.BlockHash.are_bytes }) c.args.layer.p c.requires.profile c.args.layer.height c.args.target.size c.args.target.offset c.span_of-count.result c.span_of-count.result c.min-cut.result c.args.piece.now c.span_of-count.ensures refl (c.requires.more (let low = c.if-layer.false in let e : c.args.layer.top ≤ c.args.layer.height = omega arith in e)) c.requires.size.small (c.min-cut.ensures ∙ ap (min (length c.args.piece.now)) c.saturating_sub.ensures),
                  ),
                ),
              ),
            ),
          ),
        ),
      ),
    )

pub save_node-requires-clause-few : goal.save_node-requires-clause-few
save_node-requires-clause-few g t c =
    let few : length c.in_ok-firsts.firsts ≤ c.args.layer.p.width = node-few g.S.X.BlockHash.block32 (record { size = g.met.S.X.BlockHash.size; are_bytes = g.met.S.X.BlockHash.are_bytes }) c.args.layer.p c.requires.profile (c.args.layer.height - 1) c.span_of-count.result (length c.in_ok-firsts.firsts) (subst (λ n. HasSize c.args.layer.p n c.span_of-count.result) (let low = c.if-layer.false in let s = c.requires.rows in let e : c.args.layer.height ≡ (c.args.layer.height - 1) + 1 = omega arith in e) (first-size g.S.X.BlockHash.block32 (record { size = g.met.S.X.BlockHash.size; are_bytes = g.met.S.X.BlockHash.are_bytes }) c.args.layer.p c.requires.profile c.args.layer.height c.args.target.size c.args.target.offset c.span_of-count.result c.span_of-count.result c.min-cut.result c.args.piece.now c.span_of-count.ensures refl (c.requires.more (let low = c.if-layer.false in let e : c.args.layer.top ≤ c.args.layer.height = omega arith in e)) c.requires.size.small (c.min-cut.ensures ∙ ap (min (length c.args.piece.now)) c.saturating_sub.ensures))) c.in_ok-firsts.ensures.room in
    let w : c.args.layer.p.width ≤ 1024 = (kept c.args.layer.p c.requires.profile).few in
    let same : length c.as_slice.result.now ≡ length c.in_ok-firsts.firsts = ap (λ (l : List Part). length l) c.as_slice.ensures in
    omega arith

pub save_node-requires-clause-size : goal.save_node-requires-clause-size
save_node-requires-clause-size g t c =
    let total : sum_by (λ (m : Part). m.size) c.as_slice.result.now ≡ c.span_of-count.result = ap (sum_by (λ (m : Part). m.size)) c.as_slice.ensures ∙ c.in_ok-firsts.ensures.size in
    let e = counted g.S.X.BlockHash.block32 (record { size = g.met.S.X.BlockHash.size; are_bytes = g.met.S.X.BlockHash.are_bytes }) c.args.layer.p c.requires.profile c.args.layer.height c.args.target.size c.args.target.offset c.span_of-count.result c.span_of-count.result c.min-cut.result c.args.piece.now c.span_of-count.ensures refl (c.requires.more (let low = c.if-layer.false in let e : c.args.layer.top ≤ c.args.layer.height = omega arith in e)) c.requires.size.small (c.min-cut.ensures ∙ ap (min (length c.args.piece.now)) c.saturating_sub.ensures) in
    let i = (c.requires.more (let low = c.if-layer.false in let e : c.args.layer.top ≤ c.args.layer.height = omega arith in e)) in
    let s = c.requires.size.small in
    omega arith

pub change_parts-requires-2-clause-size : goal.change_parts-requires-2-clause-size
change_parts-requires-2-clause-size g t c = rest-size g.S.X.BlockHash.block32 (record { size = g.met.S.X.BlockHash.size; are_bytes = g.met.S.X.BlockHash.are_bytes }) c.args.layer.p c.requires.profile c.args.layer.height c.args.target.size c.args.target.offset c.span_of-count.result c.span_of-count.result c.min-cut.result c.args.piece.now c.span_of-count.ensures refl (c.requires.more (let low = c.if-layer.false in let e : c.args.layer.top ≤ c.args.layer.height = omega arith in e)) c.requires.size.small (c.min-cut.ensures ∙ ap (min (length c.args.piece.now)) c.saturating_sub.ensures) c.requires.size

pub change_parts-requires-2-clause-within : goal.change_parts-requires-2-clause-within
change_parts-requires-2-clause-within g t c = subst (λ n. LiesWithin (c.args.target.size - c.span_of-count.result) n (take (length c.args.piece.now - c.min-cut.result) (drop c.min-cut.result c.args.piece.now))) (sym c.saturating_sub-2.ensures) (rest-within g.S.X.BlockHash.block32 (record { size = g.met.S.X.BlockHash.size; are_bytes = g.met.S.X.BlockHash.are_bytes }) c.args.layer.p c.requires.profile c.args.layer.height c.args.target.size c.args.target.offset c.span_of-count.result c.span_of-count.result c.min-cut.result c.args.piece.now c.span_of-count.ensures refl (c.requires.more (let low = c.if-layer.false in let e : c.args.layer.top ≤ c.args.layer.height = omega arith in e)) c.requires.size.small (c.min-cut.ensures ∙ ap (min (length c.args.piece.now)) c.saturating_sub.ensures) c.requires.within)

-- ---- a row more

pub returns-clause-gives : goal.returns-clause-gives
returns-clause-gives g t c = (
  (λ zeros.
      grown-makes g.S.X.BlockHash.block32 (record { size = g.met.S.X.BlockHash.size; are_bytes = g.met.S.X.BlockHash.are_bytes }) c.args.layer.p c.requires.profile c.args.layer.top c.args.layer.height (c.args.layer.height - 1) c.args.target.size c.args.target.offset c.span_of-count.result c.min-cut.result c.args.piece.now (let low = c.if-layer.false in let s = c.requires.rows in let e : c.args.layer.height ≡ (c.args.layer.height - 1) + 1 = omega arith in e) (let low = c.if-layer.false in let e : c.args.layer.top ≤ c.args.layer.height = omega arith in e) c.requires.rows c.span_of-count.ensures (c.requires.more (let low = c.if-layer.false in let e : c.args.layer.top ≤ c.args.layer.height = omega arith in e)) c.requires.size.small (c.min-cut.ensures ∙ ap (min (length c.args.piece.now)) c.saturating_sub.ensures) ((g.S.Store.seen c.args.store.now).told) ((g.S.Store.seen c.grown.new.store).told) ((g.S.Store.seen c.save_node.new.store).told) ((g.S.Store.seen c.change_parts-2.new.store).told) c.in_ok-firsts.ensures.saves.1 c.in_ok-first.ensures.saves c.in_ok-news.ensures.saves.1
      c.args.olds.now c.in_ok-firsts.firsts c.as_slice.result.now [] c.in_ok-news.news c.as_slice-2.result.now c.in_ok-behind.field-0 c.in_ok-first.first c.saturating_sub-2.result c.saturating_sub-2.ensures (c.in_ok-firsts.ensures.gives.0 zeros) c.as_slice.ensures c.in_ok-first.ensures.part c.in_ok-first.ensures.held refl
      (c.in_ok-news.ensures.gives.0 (blank-later g.S.X.BlockHash.block32 c.args.layer.p ((g.S.Store.seen c.args.store.now).told) ((g.S.Store.seen c.save_node.new.store).told) 0 c.args.layer.zeros (KeepsGood-trans g.S.X.BlockHash.block32 ((g.S.Store.seen c.args.store.now).told) ((g.S.Store.seen c.grown.new.store).told) ((g.S.Store.seen c.save_node.new.store).told) (Wrote-good g.S.X.BlockHash.block32 IsSave ((g.S.Store.seen c.args.store.now).told) ((g.S.Store.seen c.grown.new.store).told) c.in_ok-firsts.ensures.saves.1) c.in_ok-first.ensures.good) zeros)) c.as_slice-2.ensures c.in_ok-behind.ensures),
  search rules,
)

pub returns-clause-some : goal.returns-clause-some
returns-clause-some g t c = let same : length c.in_ok-behind.field-0 ≡ suc (length c.as_slice-2.result.now) = ap (λ (l : List Part). length l) c.in_ok-behind.ensures in omega arith

pub returns-clause-room : goal.returns-clause-room
returns-clause-room g t c =
    let made : length c.in_ok-behind.field-0 ≡ suc (length c.as_slice-2.result.now) = ap (λ (l : List Part). length l) c.in_ok-behind.ensures in
    let same : length c.in_ok-behind.field-0 ≡ 1 + length c.as_slice-2.result.now = omega arith in
    let news : length c.as_slice-2.result.now ≡ length c.in_ok-news.news = ap (λ (l : List Part). length l) c.as_slice-2.ensures in
    room-grown (length c.in_ok-news.news) (length c.in_ok-behind.field-0) (span c.args.layer.p.chunk c.args.layer.p.width c.args.layer.height) c.args.target.size c.span_of-count.result (same ∙ ap (λ n. 1 + n) news) (counted g.S.X.BlockHash.block32 (record { size = g.met.S.X.BlockHash.size; are_bytes = g.met.S.X.BlockHash.are_bytes }) c.args.layer.p c.requires.profile c.args.layer.height c.args.target.size c.args.target.offset c.span_of-count.result c.span_of-count.result c.min-cut.result c.args.piece.now c.span_of-count.ensures refl (c.requires.more (let low = c.if-layer.false in let e : c.args.layer.top ≤ c.args.layer.height = omega arith in e)) c.requires.size.small (c.min-cut.ensures ∙ ap (min (length c.args.piece.now)) c.saturating_sub.ensures)) (c.requires.more (let low = c.if-layer.false in let e : c.args.layer.top ≤ c.args.layer.height = omega arith in e)) c.in_ok-news.ensures.room

pub returns-clause-size : goal.returns-clause-size
returns-clause-size g t c =
    let first : c.in_ok-first.first.size ≡ c.span_of-count.result = ap (λ (m : Part). m.size) c.in_ok-first.ensures.part ∙ ap (sum_by (λ (m : Part). m.size)) c.as_slice.ensures ∙ c.in_ok-firsts.ensures.size in
    total-grown c.in_ok-first.first c.in_ok-news.news c.as_slice-2.result.now c.in_ok-behind.field-0 c.args.target.size c.span_of-count.result c.in_ok-behind.ensures c.as_slice-2.ensures first (let e = counted g.S.X.BlockHash.block32 (record { size = g.met.S.X.BlockHash.size; are_bytes = g.met.S.X.BlockHash.are_bytes }) c.args.layer.p c.requires.profile c.args.layer.height c.args.target.size c.args.target.offset c.span_of-count.result c.span_of-count.result c.min-cut.result c.args.piece.now c.span_of-count.ensures refl (c.requires.more (let low = c.if-layer.false in let e : c.args.layer.top ≤ c.args.layer.height = omega arith in e)) c.requires.size.small (c.min-cut.ensures ∙ ap (min (length c.args.piece.now)) c.saturating_sub.ensures) in let i = (c.requires.more (let low = c.if-layer.false in let e : c.args.layer.top ≤ c.args.layer.height = omega arith in e)) in omega arith) c.in_ok-news.ensures.size

pub returns-in_err-firsts-clause-gives : goal.returns-in_err-firsts-clause-gives
returns-in_err-firsts-clause-gives g t c = (
  search rules,
  (λ few. let out = err_from_is_err_and c.from_residual.result c.from_residual.ensures.1 in rw (out.1, out.2) (subst (λ n. LosesOfRoot g.S.X.BlockHash.block32 c.args.layer.p c.args.layer.top n c.args.olds.now (g.S.Store.seen c.args.store.now) (g.S.Store.seen c.grown.new.store) (Err c.in_err-firsts.field-0.0)) (let low = c.if-layer.false in let s = c.requires.rows in let e : min (c.args.layer.top - 1) (c.args.layer.height - 1) ≡ min (c.args.layer.top - 1) c.args.layer.height = omega arith in e) (c.in_err-firsts.ensures.gives.1 few))),
)

pub returns-in_err-first-clause-gives : goal.returns-in_err-first-clause-gives
returns-in_err-first-clause-gives g t c = (
  search rules,
  (λ few gs are fits agrees agrees_now stood clash. let out = err_from_is_err_and c.from_residual-in_err-first.result c.from_residual-in_err-first.ensures.1 in rw (out.1, out.2) (saved-lost g.S.X.BlockHash.block32 (g.S.Store.seen c.args.store.now) (g.S.Store.seen c.grown.new.store) (g.S.Store.seen c.save_node.new.store) c.in_ok-firsts.ensures.saves.0 {A = Part} (blocks_of_all g.S.X.BlockHash.block32 c.args.layer.p (min (c.args.layer.top - 1) c.args.layer.height) gs) (Err c.in_err-first.field-0.0) c.in_err-first.ensures.cause c.in_err-first.ensures.fault stood clash)),
)

pub returns-in_err-news-clause-gives : goal.returns-in_err-news-clause-gives
returns-in_err-news-clause-gives g t c = (
  search rules,
  (λ few gs are fits agrees agrees_now stood clash. let out = err_from_is_err_and c.from_residual-in_err-news.result c.from_residual-in_err-news.ensures.1 in rw (out.1, out.2) (lost-none ((g.S.Store.seen c.change_parts-2.new.store).told) (blocks_of_all g.S.X.BlockHash.block32 c.args.layer.p (min (c.args.layer.top - 1) c.args.layer.height) gs) c.in_err-news.field-0.0
      (c.in_err-news.ensures.gives.1 few [] (nothing-old g.S.X.BlockHash.block32 c.args.layer.p (span c.args.layer.p.chunk c.args.layer.p.width c.args.layer.height) (min c.args.layer.top c.args.layer.height) [] refl)
      (agrees-none ((g.S.Store.seen c.save_node.new.store).told) (blocks_of_all g.S.X.BlockHash.block32 c.args.layer.p (min (c.args.layer.top - 1) c.args.layer.height) gs) (agrees-between g.S.X.BlockHash.block32 IsSave ((g.S.Store.seen c.args.store.now).told) ((g.S.Store.seen c.save_node.new.store).told) ((g.S.Store.seen c.change_parts-2.new.store).told) (blocks_of_all g.S.X.BlockHash.block32 c.args.layer.p (min (c.args.layer.top - 1) c.args.layer.height) gs) (SavesOnly-trans g.S.X.BlockHash.block32 ((g.S.Store.seen c.args.store.now).told) ((g.S.Store.seen c.grown.new.store).told) ((g.S.Store.seen c.save_node.new.store).told) c.in_ok-firsts.ensures.saves.1 c.in_ok-first.ensures.saves) c.in_err-news.ensures.saves.1 (record { first = agrees; last = agrees_now })))
      (agrees-none ((g.S.Store.seen c.change_parts-2.new.store).told) (blocks_of_all g.S.X.BlockHash.block32 c.args.layer.p (min (c.args.layer.top - 1) c.args.layer.height) gs) agrees_now)
      (subst (λ (n : ℕ). Stood n (g.S.Store.seen c.change_parts-2.new.store).faults) (sym (StaysCalm-trans (g.S.Store.seen c.args.store.now) (g.S.Store.seen c.grown.new.store) (g.S.Store.seen c.save_node.new.store) c.in_ok-firsts.ensures.saves.0 c.in_ok-first.ensures.cause).faults) stood) (subst (λ (n : ℕ). Stood n (g.S.Store.seen c.change_parts-2.new.store).clashes) (sym (StaysCalm-trans (g.S.Store.seen c.args.store.now) (g.S.Store.seen c.grown.new.store) (g.S.Store.seen c.save_node.new.store) c.in_ok-firsts.ensures.saves.0 c.in_ok-first.ensures.cause).clashes) clash)))),
)

pub returns-in_err-firsts-clause-saves : goal.returns-in_err-firsts-clause-saves
returns-in_err-firsts-clause-saves g t c = (
  (let out = err_from_is_err_and c.from_residual.result c.from_residual.ensures.1 in rw (out.1, out.2) (subst (λ n. Shows g.S.X.BlockHash.block32 (IsBadAmongOld g.S.X.BlockHash.block32 c.args.layer.p ((g.S.Store.seen c.grown.new.store).told) c.args.layer.rows n c.args.olds.now) c.in_err-firsts.field-0.0 (g.S.Store.seen c.args.store.now) (g.S.Store.seen c.grown.new.store)) (let low = c.if-layer.false in let s = c.requires.rows in let e : min (c.args.layer.top - 1) (c.args.layer.height - 1) ≡ min (c.args.layer.top - 1) c.args.layer.height = omega arith in e) c.in_err-firsts.ensures.saves.0)),
  search rules,
)

pub returns-in_err-first-clause-saves : goal.returns-in_err-first-clause-saves
returns-in_err-first-clause-saves g t c = (
  (let out = err_from_is_err_and c.from_residual-in_err-first.result c.from_residual-in_err-first.ensures.1 in rw (out.1, out.2) (saved-shows g.S.X.BlockHash.block32 (g.S.Store.seen c.args.store.now) (g.S.Store.seen c.grown.new.store) (g.S.Store.seen c.save_node.new.store) c.in_ok-firsts.ensures.saves.0 {A = Part} (IsBadAmongOld g.S.X.BlockHash.block32 c.args.layer.p ((g.S.Store.seen c.save_node.new.store).told) c.args.layer.rows (min (c.args.layer.top - 1) c.args.layer.height) c.args.olds.now) (Err c.in_err-first.field-0.0) c.in_err-first.ensures.cause)),
  search rules,
)

pub returns-in_err-news-clause-saves : goal.returns-in_err-news-clause-saves
returns-in_err-news-clause-saves g t c = (
  (let out = err_from_is_err_and c.from_residual-in_err-news.result c.from_residual-in_err-news.ensures.1 in rw (out.1, out.2) (none-among g.S.X.BlockHash.block32 c.args.layer.p c.args.layer.rows (min c.args.layer.top c.args.layer.height) (min (c.args.layer.top - 1) c.args.layer.height) [] c.args.olds.now c.in_err-news.field-0.0 (g.S.Store.seen c.args.store.now) (g.S.Store.seen c.save_node.new.store) (g.S.Store.seen c.change_parts-2.new.store) refl (StaysCalm-trans (g.S.Store.seen c.args.store.now) (g.S.Store.seen c.grown.new.store) (g.S.Store.seen c.save_node.new.store) c.in_ok-firsts.ensures.saves.0 c.in_ok-first.ensures.cause) c.in_err-news.ensures.saves.0)),
  (SavesOnly-trans g.S.X.BlockHash.block32 ((g.S.Store.seen c.args.store.now).told) ((g.S.Store.seen c.save_node.new.store).told) ((g.S.Store.seen c.change_parts-2.new.store).told) (SavesOnly-trans g.S.X.BlockHash.block32 ((g.S.Store.seen c.args.store.now).told) ((g.S.Store.seen c.grown.new.store).told) ((g.S.Store.seen c.save_node.new.store).told) c.in_ok-firsts.ensures.saves.1 c.in_ok-first.ensures.saves) c.in_err-news.ensures.saves.1),
)

pub returns-then-layer-clause-rises : goal.returns-then-layer-clause-rises
returns-then-layer-clause-rises g t c = climbs-low c.change_parts.result c.args.touches.now c.change_parts.new.touches c.change_parts.ensures.rises

pub returns-in_err-news-clause-rises : goal.returns-in_err-news-clause-rises
returns-in_err-news-clause-rises g t c =
    let a = c.in_ok-firsts.ensures.rises in
    let b = c.in_ok-first.ensures.rises in
    let d : c.save_node.new.touches ≤ c.change_parts-2.new.touches = climbs-low {A = Part} (Err c.in_err-news.field-0.0) c.save_node.new.touches c.change_parts-2.new.touches c.in_err-news.ensures.rises in
    omega arith

pub returns-clause-touches : goal.returns-clause-touches
returns-clause-touches g t c = λ first a z some is below.
    grow-touches c.args.layer.p c.requires.profile c.args.layer.top c.args.layer.height (let low = c.if-layer.false in let e : c.args.layer.top ≤ c.args.layer.height = omega arith in e) c.args.target.old first some c.args.target.size c.args.target.offset (length c.args.piece.now) a z is (c.requires.more (let low = c.if-layer.false in let e : c.args.layer.top ≤ c.args.layer.height = omega arith in e)) c.span_of-count.result c.min-cut.result (counted g.S.X.BlockHash.block32 (record { size = g.met.S.X.BlockHash.size; are_bytes = g.met.S.X.BlockHash.are_bytes }) c.args.layer.p c.requires.profile c.args.layer.height c.args.target.size c.args.target.offset c.span_of-count.result c.span_of-count.result c.min-cut.result c.args.piece.now c.span_of-count.ensures refl (c.requires.more (let low = c.if-layer.false in let e : c.args.layer.top ≤ c.args.layer.height = omega arith in e)) c.requires.size.small (c.min-cut.ensures ∙ ap (min (length c.args.piece.now)) c.saturating_sub.ensures)) (c.min-cut.ensures ∙ ap (min (length c.args.piece.now)) c.saturating_sub.ensures) (c.args.layer.height - 1) (length (take c.min-cut.result c.args.piece.now)) c.saturating_sub-2.result (length (take (length c.args.piece.now - c.min-cut.result) (drop c.min-cut.result c.args.piece.now))) c.args.touches.now c.grown.new.touches c.save_node.new.touches c.change_parts-2.new.touches (let low = c.if-layer.false in let s = c.requires.rows in let e : c.args.layer.height ≡ (c.args.layer.height - 1) + 1 = omega arith in e) (let m = (c.min-cut.ensures ∙ ap (min (length c.args.piece.now)) c.saturating_sub.ensures) in length-take c.min-cut.result c.args.piece.now ∙ (let e : min c.min-cut.result (length c.args.piece.now) ≡ c.min-cut.result = omega arith in e)) c.saturating_sub-2.ensures (rest-length c.args.piece.now c.min-cut.result)
    (λ a z within. c.in_ok-firsts.ensures.touches first a z some within (subst (λ n. AreBelow (span c.args.layer.p.chunk c.args.layer.p.width n) c.args.target.old c.args.olds.now) (sym (let low = c.if-layer.false in let s = c.requires.rows in let e : min (c.args.layer.top - 1) (c.args.layer.height - 1) ≡ min (c.args.layer.top - 1) c.args.layer.height = omega arith in e)) below)) c.in_ok-first.ensures.touches (λ a z within. c.in_ok-news.ensures.touches a z within (none-below (span c.args.layer.p.chunk c.args.layer.p.width c.args.layer.height) None [] refl refl))

pub returns-in_err-news-clause-touches : goal.returns-in_err-news-clause-touches
returns-in_err-news-clause-touches g t c = λ first a z some is below.
    grow-touches c.args.layer.p c.requires.profile c.args.layer.top c.args.layer.height (let low = c.if-layer.false in let e : c.args.layer.top ≤ c.args.layer.height = omega arith in e) c.args.target.old first some c.args.target.size c.args.target.offset (length c.args.piece.now) a z is (c.requires.more (let low = c.if-layer.false in let e : c.args.layer.top ≤ c.args.layer.height = omega arith in e)) c.span_of-count.result c.min-cut.result (counted g.S.X.BlockHash.block32 (record { size = g.met.S.X.BlockHash.size; are_bytes = g.met.S.X.BlockHash.are_bytes }) c.args.layer.p c.requires.profile c.args.layer.height c.args.target.size c.args.target.offset c.span_of-count.result c.span_of-count.result c.min-cut.result c.args.piece.now c.span_of-count.ensures refl (c.requires.more (let low = c.if-layer.false in let e : c.args.layer.top ≤ c.args.layer.height = omega arith in e)) c.requires.size.small (c.min-cut.ensures ∙ ap (min (length c.args.piece.now)) c.saturating_sub.ensures)) (c.min-cut.ensures ∙ ap (min (length c.args.piece.now)) c.saturating_sub.ensures) (c.args.layer.height - 1) (length (take c.min-cut.result c.args.piece.now)) c.saturating_sub-2.result (length (take (length c.args.piece.now - c.min-cut.result) (drop c.min-cut.result c.args.piece.now))) c.args.touches.now c.grown.new.touches c.save_node.new.touches c.change_parts-2.new.touches (let low = c.if-layer.false in let s = c.requires.rows in let e : c.args.layer.height ≡ (c.args.layer.height - 1) + 1 = omega arith in e) (let m = (c.min-cut.ensures ∙ ap (min (length c.args.piece.now)) c.saturating_sub.ensures) in length-take c.min-cut.result c.args.piece.now ∙ (let e : min c.min-cut.result (length c.args.piece.now) ≡ c.min-cut.result = omega arith in e)) c.saturating_sub-2.ensures (rest-length c.args.piece.now c.min-cut.result)
    (λ a z within. c.in_ok-firsts.ensures.touches first a z some within (subst (λ n. AreBelow (span c.args.layer.p.chunk c.args.layer.p.width n) c.args.target.old c.args.olds.now) (sym (let low = c.if-layer.false in let s = c.requires.rows in let e : min (c.args.layer.top - 1) (c.args.layer.height - 1) ≡ min (c.args.layer.top - 1) c.args.layer.height = omega arith in e)) below)) c.in_ok-first.ensures.touches (λ a z within. c.in_err-news.ensures.touches a z within (none-below (span c.args.layer.p.chunk c.args.layer.p.width c.args.layer.height) None [] refl refl))

pub returns-in_err-first-clause-touches : goal.returns-in_err-first-clause-touches
returns-in_err-first-clause-touches g t c = λ first a z some is below.
    grow-touches c.args.layer.p c.requires.profile c.args.layer.top c.args.layer.height (let low = c.if-layer.false in let e : c.args.layer.top ≤ c.args.layer.height = omega arith in e) c.args.target.old first some c.args.target.size c.args.target.offset (length c.args.piece.now) a z is (c.requires.more (let low = c.if-layer.false in let e : c.args.layer.top ≤ c.args.layer.height = omega arith in e)) c.span_of-count.result c.min-cut.result (counted g.S.X.BlockHash.block32 (record { size = g.met.S.X.BlockHash.size; are_bytes = g.met.S.X.BlockHash.are_bytes }) c.args.layer.p c.requires.profile c.args.layer.height c.args.target.size c.args.target.offset c.span_of-count.result c.span_of-count.result c.min-cut.result c.args.piece.now c.span_of-count.ensures refl (c.requires.more (let low = c.if-layer.false in let e : c.args.layer.top ≤ c.args.layer.height = omega arith in e)) c.requires.size.small (c.min-cut.ensures ∙ ap (min (length c.args.piece.now)) c.saturating_sub.ensures)) (c.min-cut.ensures ∙ ap (min (length c.args.piece.now)) c.saturating_sub.ensures) (c.args.layer.height - 1) (length (take c.min-cut.result c.args.piece.now)) (c.args.target.offset - c.span_of-count.result) (length c.args.piece.now - c.min-cut.result) c.args.touches.now c.grown.new.touches c.save_node.new.touches c.save_node.new.touches (let low = c.if-layer.false in let s = c.requires.rows in let e : c.args.layer.height ≡ (c.args.layer.height - 1) + 1 = omega arith in e) (let m = (c.min-cut.ensures ∙ ap (min (length c.args.piece.now)) c.saturating_sub.ensures) in length-take c.min-cut.result c.args.piece.now ∙ (let e : min c.min-cut.result (length c.args.piece.now) ≡ c.min-cut.result = omega arith in e)) refl refl
    (λ a z within. c.in_ok-firsts.ensures.touches first a z some within (subst (λ n. AreBelow (span c.args.layer.p.chunk c.args.layer.p.width n) c.args.target.old c.args.olds.now) (sym (let low = c.if-layer.false in let s = c.requires.rows in let e : min (c.args.layer.top - 1) (c.args.layer.height - 1) ≡ min (c.args.layer.top - 1) c.args.layer.height = omega arith in e)) below)) c.in_err-first.ensures.touches (λ a z within. let e : c.save_node.new.touches ≤ c.save_node.new.touches + 2 * (c.args.layer.height + 1) * (z - a) = omega arith in e)

pub returns-in_err-firsts-clause-touches : goal.returns-in_err-firsts-clause-touches
returns-in_err-firsts-clause-touches g t c = λ first a z some is below.
    grow-touches c.args.layer.p c.requires.profile c.args.layer.top c.args.layer.height (let low = c.if-layer.false in let e : c.args.layer.top ≤ c.args.layer.height = omega arith in e) c.args.target.old first some c.args.target.size c.args.target.offset (length c.args.piece.now) a z is (c.requires.more (let low = c.if-layer.false in let e : c.args.layer.top ≤ c.args.layer.height = omega arith in e)) c.span_of-count.result c.min-cut.result (counted g.S.X.BlockHash.block32 (record { size = g.met.S.X.BlockHash.size; are_bytes = g.met.S.X.BlockHash.are_bytes }) c.args.layer.p c.requires.profile c.args.layer.height c.args.target.size c.args.target.offset c.span_of-count.result c.span_of-count.result c.min-cut.result c.args.piece.now c.span_of-count.ensures refl (c.requires.more (let low = c.if-layer.false in let e : c.args.layer.top ≤ c.args.layer.height = omega arith in e)) c.requires.size.small (c.min-cut.ensures ∙ ap (min (length c.args.piece.now)) c.saturating_sub.ensures)) (c.min-cut.ensures ∙ ap (min (length c.args.piece.now)) c.saturating_sub.ensures) (c.args.layer.height - 1) (length (take c.min-cut.result c.args.piece.now)) (c.args.target.offset - c.span_of-count.result) (length c.args.piece.now - c.min-cut.result) c.args.touches.now c.grown.new.touches c.grown.new.touches c.grown.new.touches (let low = c.if-layer.false in let s = c.requires.rows in let e : c.args.layer.height ≡ (c.args.layer.height - 1) + 1 = omega arith in e) (let m = (c.min-cut.ensures ∙ ap (min (length c.args.piece.now)) c.saturating_sub.ensures) in length-take c.min-cut.result c.args.piece.now ∙ (let e : min c.min-cut.result (length c.args.piece.now) ≡ c.min-cut.result = omega arith in e)) refl refl
    (λ a z within. c.in_err-firsts.ensures.touches first a z some within (subst (λ n. AreBelow (span c.args.layer.p.chunk c.args.layer.p.width n) c.args.target.old c.args.olds.now) (sym (let low = c.if-layer.false in let s = c.requires.rows in let e : min (c.args.layer.top - 1) (c.args.layer.height - 1) ≡ min (c.args.layer.top - 1) c.args.layer.height = omega arith in e)) below)) (let e : c.grown.new.touches ≤ c.grown.new.touches + 1 = omega arith in e) (λ a z within. let e : c.grown.new.touches ≤ c.grown.new.touches + 2 * (c.args.layer.height + 1) * (z - a) = omega arith in e)

-- ---- what is kept

pub returns-clause-saves : goal.returns-clause-saves
returns-clause-saves g t c = (
  search rules,
  (SavesOnly-trans g.S.X.BlockHash.block32 ((g.S.Store.seen c.args.store.now).told) ((g.S.Store.seen c.save_node.new.store).told) ((g.S.Store.seen c.change_parts-2.new.store).told) (SavesOnly-trans g.S.X.BlockHash.block32 ((g.S.Store.seen c.args.store.now).told) ((g.S.Store.seen c.grown.new.store).told) ((g.S.Store.seen c.save_node.new.store).told) c.in_ok-firsts.ensures.saves.1 c.in_ok-first.ensures.saves) c.in_ok-news.ensures.saves.1),
)

pub returns-in_err-behind-clause-saves : goal.returns-in_err-behind-clause-saves
returns-in_err-behind-clause-saves g t c = (
  search rules,
  (SavesOnly-trans g.S.X.BlockHash.block32 ((g.S.Store.seen c.args.store.now).told) ((g.S.Store.seen c.save_node.new.store).told) ((g.S.Store.seen c.change_parts-2.new.store).told) (SavesOnly-trans g.S.X.BlockHash.block32 ((g.S.Store.seen c.args.store.now).told) ((g.S.Store.seen c.grown.new.store).told) ((g.S.Store.seen c.save_node.new.store).told) c.in_ok-firsts.ensures.saves.1 c.in_ok-first.ensures.saves) c.in_ok-news.ensures.saves.1),
)

pub returns-in_err-behind-clause-touches : goal.returns-in_err-behind-clause-touches
returns-in_err-behind-clause-touches g t c = λ first a z some is below.
    grow-touches c.args.layer.p c.requires.profile c.args.layer.top c.args.layer.height (let low = c.if-layer.false in let e : c.args.layer.top ≤ c.args.layer.height = omega arith in e) c.args.target.old first some c.args.target.size c.args.target.offset (length c.args.piece.now) a z is (c.requires.more (let low = c.if-layer.false in let e : c.args.layer.top ≤ c.args.layer.height = omega arith in e)) c.span_of-count.result c.min-cut.result (counted g.S.X.BlockHash.block32 (record { size = g.met.S.X.BlockHash.size; are_bytes = g.met.S.X.BlockHash.are_bytes }) c.args.layer.p c.requires.profile c.args.layer.height c.args.target.size c.args.target.offset c.span_of-count.result c.span_of-count.result c.min-cut.result c.args.piece.now c.span_of-count.ensures refl (c.requires.more (let low = c.if-layer.false in let e : c.args.layer.top ≤ c.args.layer.height = omega arith in e)) c.requires.size.small (c.min-cut.ensures ∙ ap (min (length c.args.piece.now)) c.saturating_sub.ensures)) (c.min-cut.ensures ∙ ap (min (length c.args.piece.now)) c.saturating_sub.ensures) (c.args.layer.height - 1) (length (take c.min-cut.result c.args.piece.now)) c.saturating_sub-2.result (length (take (length c.args.piece.now - c.min-cut.result) (drop c.min-cut.result c.args.piece.now))) c.args.touches.now c.grown.new.touches c.save_node.new.touches c.change_parts-2.new.touches (let low = c.if-layer.false in let s = c.requires.rows in let e : c.args.layer.height ≡ (c.args.layer.height - 1) + 1 = omega arith in e) (let m = (c.min-cut.ensures ∙ ap (min (length c.args.piece.now)) c.saturating_sub.ensures) in length-take c.min-cut.result c.args.piece.now ∙ (let e : min c.min-cut.result (length c.args.piece.now) ≡ c.min-cut.result = omega arith in e)) c.saturating_sub-2.ensures (rest-length c.args.piece.now c.min-cut.result)
    (λ a z within. c.in_ok-firsts.ensures.touches first a z some within (subst (λ n. AreBelow (span c.args.layer.p.chunk c.args.layer.p.width n) c.args.target.old c.args.olds.now) (sym (let low = c.if-layer.false in let s = c.requires.rows in let e : min (c.args.layer.top - 1) (c.args.layer.height - 1) ≡ min (c.args.layer.top - 1) c.args.layer.height = omega arith in e)) below)) c.in_ok-first.ensures.touches (λ a z within. c.in_ok-news.ensures.touches a z within (none-below (span c.args.layer.p.chunk c.args.layer.p.width c.args.layer.height) None [] refl refl))

-- ---- what is saved

pub returns-then-layer-clause-no_other : goal.returns-then-layer-clause-no_other
returns-then-layer-clause-no_other g t c = λ zeros.
    base-saves g.S.X.BlockHash.block32 c.args.layer.p c.args.layer.top c.args.layer.height c.if-layer.true c.args.olds.now (g.S.Store.seen c.args.store.now).told (g.S.Store.seen c.change_parts.new.store).told
    (λ l. blocks_of_all g.S.X.BlockHash.block32 c.args.layer.p c.args.layer.height (groups (span c.args.layer.p.chunk c.args.layer.p.width c.args.layer.height) (overlaid c.args.target.size l c.args.target.offset c.args.piece.now))) (c.change_parts.ensures.no_other zeros)

pub returns-in_err-firsts-clause-no_other : goal.returns-in_err-firsts-clause-no_other
returns-in_err-firsts-clause-no_other g t c = λ zeros gs are fits agrees agrees_now.
    firsts-saves g.S.X.BlockHash.block32 (record { size = g.met.S.X.BlockHash.size; are_bytes = g.met.S.X.BlockHash.are_bytes }) c.args.layer.p c.requires.profile c.args.layer.top c.args.layer.height (c.args.layer.height - 1) c.args.target.size c.args.target.offset c.span_of-count.result c.min-cut.result c.args.piece.now (let low = c.if-layer.false in let s = c.requires.rows in let e : c.args.layer.height ≡ (c.args.layer.height - 1) + 1 = omega arith in e) (let low = c.if-layer.false in let e : c.args.layer.top ≤ c.args.layer.height = omega arith in e) c.requires.rows c.span_of-count.ensures (c.requires.more (let low = c.if-layer.false in let e : c.args.layer.top ≤ c.args.layer.height = omega arith in e)) c.requires.size.small (c.min-cut.ensures ∙ ap (min (length c.args.piece.now)) c.saturating_sub.ensures) (g.S.Store.seen c.args.store.now).told (g.S.Store.seen c.grown.new.store).told c.args.olds.now c.in_err-firsts.ensures.saves.1 (c.in_err-firsts.ensures.no_other zeros) gs are fits agrees agrees_now

pub returns-in_err-first-clause-no_other : goal.returns-in_err-first-clause-no_other
returns-in_err-first-clause-no_other g t c = λ zeros gs are fits agrees agrees_now.
    first-saves g.S.X.BlockHash.block32 (record { size = g.met.S.X.BlockHash.size; are_bytes = g.met.S.X.BlockHash.are_bytes }) c.args.layer.p c.requires.profile c.args.layer.top c.args.layer.height (c.args.layer.height - 1) c.args.target.size c.args.target.offset c.span_of-count.result c.min-cut.result c.args.piece.now (let low = c.if-layer.false in let s = c.requires.rows in let e : c.args.layer.height ≡ (c.args.layer.height - 1) + 1 = omega arith in e) (let low = c.if-layer.false in let e : c.args.layer.top ≤ c.args.layer.height = omega arith in e) c.requires.rows c.span_of-count.ensures (c.requires.more (let low = c.if-layer.false in let e : c.args.layer.top ≤ c.args.layer.height = omega arith in e)) c.requires.size.small (c.min-cut.ensures ∙ ap (min (length c.args.piece.now)) c.saturating_sub.ensures) (g.S.Store.seen c.args.store.now).told (g.S.Store.seen c.grown.new.store).told c.args.olds.now c.in_ok-firsts.ensures.saves.1 (c.in_ok-firsts.ensures.no_other zeros) gs are fits agrees
    (g.S.Store.seen c.save_node.new.store).told c.in_ok-firsts.firsts c.as_slice.result.now c.in_err-first.ensures.saves (c.in_ok-firsts.ensures.gives.0 zeros) c.as_slice.ensures
    (SavesAmong-same g.S.X.BlockHash.block32 (node_held g.S.X.BlockHash.block32 c.as_slice.result.now ∷ []) (g.S.Store.seen c.grown.new.store).told (g.S.Store.seen c.save_node.new.store).told c.in_err-first.ensures.err) agrees_now

pub returns-in_err-news-clause-no_other : goal.returns-in_err-news-clause-no_other
returns-in_err-news-clause-no_other g t c = λ zeros gs are fits agrees agrees_now.
    rest-saves g.S.X.BlockHash.block32 (record { size = g.met.S.X.BlockHash.size; are_bytes = g.met.S.X.BlockHash.are_bytes }) c.args.layer.p c.requires.profile c.args.layer.top c.args.layer.height (c.args.layer.height - 1) c.args.target.size c.args.target.offset c.span_of-count.result c.min-cut.result c.args.piece.now (let low = c.if-layer.false in let s = c.requires.rows in let e : c.args.layer.height ≡ (c.args.layer.height - 1) + 1 = omega arith in e) (let low = c.if-layer.false in let e : c.args.layer.top ≤ c.args.layer.height = omega arith in e) c.requires.rows c.span_of-count.ensures (c.requires.more (let low = c.if-layer.false in let e : c.args.layer.top ≤ c.args.layer.height = omega arith in e)) c.requires.size.small (c.min-cut.ensures ∙ ap (min (length c.args.piece.now)) c.saturating_sub.ensures) (g.S.Store.seen c.args.store.now).told (g.S.Store.seen c.grown.new.store).told c.args.olds.now c.in_ok-firsts.ensures.saves.1 (c.in_ok-firsts.ensures.no_other zeros) gs are fits agrees
    (g.S.Store.seen c.save_node.new.store).told c.in_ok-firsts.firsts c.as_slice.result.now c.in_ok-first.ensures.saves (c.in_ok-firsts.ensures.gives.0 zeros) c.as_slice.ensures
    (SavesAmong-kept g.S.X.BlockHash.block32 (node_held g.S.X.BlockHash.block32 c.as_slice.result.now) (g.S.Store.seen c.grown.new.store) (g.S.Store.seen c.save_node.new.store) refl c.in_ok-first.ensures.kept)
    (g.S.Store.seen c.change_parts-2.new.store).told [] c.saturating_sub-2.result c.saturating_sub-2.ensures refl c.in_err-news.ensures.saves.1 (c.in_err-news.ensures.no_other (blank-later g.S.X.BlockHash.block32 c.args.layer.p (g.S.Store.seen c.args.store.now).told (g.S.Store.seen c.save_node.new.store).told 0 c.args.layer.zeros (KeepsGood-trans g.S.X.BlockHash.block32 (g.S.Store.seen c.args.store.now).told (g.S.Store.seen c.grown.new.store).told (g.S.Store.seen c.save_node.new.store).told (Wrote-good g.S.X.BlockHash.block32 IsSave (g.S.Store.seen c.args.store.now).told (g.S.Store.seen c.grown.new.store).told c.in_ok-firsts.ensures.saves.1) c.in_ok-first.ensures.good) zeros)) agrees_now

pub returns-in_err-behind-clause-no_other : goal.returns-in_err-behind-clause-no_other
returns-in_err-behind-clause-no_other g t c = λ zeros gs are fits agrees agrees_now.
    rest-saves g.S.X.BlockHash.block32 (record { size = g.met.S.X.BlockHash.size; are_bytes = g.met.S.X.BlockHash.are_bytes }) c.args.layer.p c.requires.profile c.args.layer.top c.args.layer.height (c.args.layer.height - 1) c.args.target.size c.args.target.offset c.span_of-count.result c.min-cut.result c.args.piece.now (let low = c.if-layer.false in let s = c.requires.rows in let e : c.args.layer.height ≡ (c.args.layer.height - 1) + 1 = omega arith in e) (let low = c.if-layer.false in let e : c.args.layer.top ≤ c.args.layer.height = omega arith in e) c.requires.rows c.span_of-count.ensures (c.requires.more (let low = c.if-layer.false in let e : c.args.layer.top ≤ c.args.layer.height = omega arith in e)) c.requires.size.small (c.min-cut.ensures ∙ ap (min (length c.args.piece.now)) c.saturating_sub.ensures) (g.S.Store.seen c.args.store.now).told (g.S.Store.seen c.grown.new.store).told c.args.olds.now c.in_ok-firsts.ensures.saves.1 (c.in_ok-firsts.ensures.no_other zeros) gs are fits agrees
    (g.S.Store.seen c.save_node.new.store).told c.in_ok-firsts.firsts c.as_slice.result.now c.in_ok-first.ensures.saves (c.in_ok-firsts.ensures.gives.0 zeros) c.as_slice.ensures
    (SavesAmong-kept g.S.X.BlockHash.block32 (node_held g.S.X.BlockHash.block32 c.as_slice.result.now) (g.S.Store.seen c.grown.new.store) (g.S.Store.seen c.save_node.new.store) refl c.in_ok-first.ensures.kept)
    (g.S.Store.seen c.change_parts-2.new.store).told [] c.saturating_sub-2.result c.saturating_sub-2.ensures refl c.in_ok-news.ensures.saves.1 (c.in_ok-news.ensures.no_other (blank-later g.S.X.BlockHash.block32 c.args.layer.p (g.S.Store.seen c.args.store.now).told (g.S.Store.seen c.save_node.new.store).told 0 c.args.layer.zeros (KeepsGood-trans g.S.X.BlockHash.block32 (g.S.Store.seen c.args.store.now).told (g.S.Store.seen c.grown.new.store).told (g.S.Store.seen c.save_node.new.store).told (Wrote-good g.S.X.BlockHash.block32 IsSave (g.S.Store.seen c.args.store.now).told (g.S.Store.seen c.grown.new.store).told c.in_ok-firsts.ensures.saves.1) c.in_ok-first.ensures.good) zeros)) agrees_now

pub returns-clause-no_other : goal.returns-clause-no_other
returns-clause-no_other g t c = λ zeros gs are fits agrees agrees_now.
    rest-saves g.S.X.BlockHash.block32 (record { size = g.met.S.X.BlockHash.size; are_bytes = g.met.S.X.BlockHash.are_bytes }) c.args.layer.p c.requires.profile c.args.layer.top c.args.layer.height (c.args.layer.height - 1) c.args.target.size c.args.target.offset c.span_of-count.result c.min-cut.result c.args.piece.now (let low = c.if-layer.false in let s = c.requires.rows in let e : c.args.layer.height ≡ (c.args.layer.height - 1) + 1 = omega arith in e) (let low = c.if-layer.false in let e : c.args.layer.top ≤ c.args.layer.height = omega arith in e) c.requires.rows c.span_of-count.ensures (c.requires.more (let low = c.if-layer.false in let e : c.args.layer.top ≤ c.args.layer.height = omega arith in e)) c.requires.size.small (c.min-cut.ensures ∙ ap (min (length c.args.piece.now)) c.saturating_sub.ensures) (g.S.Store.seen c.args.store.now).told (g.S.Store.seen c.grown.new.store).told c.args.olds.now c.in_ok-firsts.ensures.saves.1 (c.in_ok-firsts.ensures.no_other zeros) gs are fits agrees
    (g.S.Store.seen c.save_node.new.store).told c.in_ok-firsts.firsts c.as_slice.result.now c.in_ok-first.ensures.saves (c.in_ok-firsts.ensures.gives.0 zeros) c.as_slice.ensures
    (SavesAmong-kept g.S.X.BlockHash.block32 (node_held g.S.X.BlockHash.block32 c.as_slice.result.now) (g.S.Store.seen c.grown.new.store) (g.S.Store.seen c.save_node.new.store) refl c.in_ok-first.ensures.kept)
    (g.S.Store.seen c.change_parts-2.new.store).told [] c.saturating_sub-2.result c.saturating_sub-2.ensures refl c.in_ok-news.ensures.saves.1 (c.in_ok-news.ensures.no_other (blank-later g.S.X.BlockHash.block32 c.args.layer.p (g.S.Store.seen c.args.store.now).told (g.S.Store.seen c.save_node.new.store).told 0 c.args.layer.zeros (KeepsGood-trans g.S.X.BlockHash.block32 (g.S.Store.seen c.args.store.now).told (g.S.Store.seen c.grown.new.store).told (g.S.Store.seen c.save_node.new.store).told (Wrote-good g.S.X.BlockHash.block32 IsSave (g.S.Store.seen c.args.store.now).told (g.S.Store.seen c.grown.new.store).told c.in_ok-firsts.ensures.saves.1) c.in_ok-first.ensures.good) zeros)) agrees_now
