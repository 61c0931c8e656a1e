use Rattle.uf_fileedit.proofs.Saving.{empty-saves, gap-saves, remade-saves}
use Rattle.uf_fileedit.specs.Touches.{old_size}
use Rattle.uf_tree.specs.FilePlan.{groups}
use Rattle.uf_tree.specs.Cutting.{joined}
use Rattle.uf_store.proofs.Among.{SavesAmong-same}
use Rattle.std.proofs.Common.{◌-◌, ℕ, [], min, arith, refl, subst, sym, Err, rules}
use Rattle.std.proofs.lemmas.Result.{err_from_is_err_and}
use Rattle.uf_edge.specs.Counts.{Stood}
use Rattle.uf_store.specs.Contents.{Told}
use Rattle.uf_store.specs.Keeping.{KeepsGood}
use Rattle.uf_store.specs.Lost.{IsLossOf}
use Rattle.uf_store.specs.Writing.{IsSave, SavesOnly}
use Rattle.uf_store.proofs.Causes.{StaysCalm-trans, calm-memory}
use Rattle.uf_store.proofs.Keeping.{KeepsGood-trans}
use Rattle.uf_store.proofs.Writing.{SavesOnly-trans, Wrote-good}
use Rattle.uf_tree.specs.FileSub.{span}
use Rattle.uf_tree.specs.declared.nodes.Part.{Part}
use Rattle.uf_fileedit.specs.Changes.{blocks_of_all, overlaid}
use Rattle.uf_fileedit.specs.Ways.{IsBadAmongOld}
use Rattle.uf_fileedit.proofs.Remade.{agrees-none, among-answers, empty-gives, first-touches, lost-none, none-answers, remade-all, remade-few, remade-misses}
use Rattle.uf_fileedit.proofs.Steps.{saved-lost, saved-shows}
use Rattle.uf_fileedit.proofs.growing.remade.Goals as goal

-- ---- a file of no bytes

pub returns-then-target-eq0-clause-gives : goal.returns-then-target-eq0-clause-gives
returns-then-target-eq0-clause-gives g c = (
  (λ gs are fits agrees agrees_now.
      empty-gives g.S.X.BlockHash.block32 c.args.layer.p ((g.S.Store.seen c.change_leaf.new.store).told) (blocks_of_all g.S.X.BlockHash.block32 c.args.layer.p (c.args.layer.top - 1) gs) c.args.layer.height c.args.target.size c.args.target.offset _ c.args.piece.now c.in_ok-just.field-0 c.in_ok-leaf.leaf (c.requires.low c.if-target-eq0.true) c.if-target-eq0.true c.in_ok-just.ensures
      (c.in_ok-leaf.ensures.gives.0 c.args.layer.p [] refl (agrees-none ((g.S.Store.seen c.args.store.now).told) (blocks_of_all g.S.X.BlockHash.block32 c.args.layer.p (c.args.layer.top - 1) gs) agrees) (agrees-none ((g.S.Store.seen c.change_leaf.new.store).told) (blocks_of_all g.S.X.BlockHash.block32 c.args.layer.p (c.args.layer.top - 1) gs) agrees_now))),
  search rules,
)

-- ---- the others

pub grown-requires-clause-size : goal.grown-requires-clause-size
grown-requires-clause-size g c = (record { fits = c.requires.fits; small = c.requires.small; some = λ k. (let n = c.if-target-eq0.false in omega arith) })

pub returns-clause-few : goal.returns-clause-few
returns-clause-few g c = remade-few g.S.X.BlockHash.block32 (record { size = g.met.S.X.BlockHash.size; are_bytes = g.met.S.X.BlockHash.are_bytes }) c.args.layer.p c.requires.profile c.args.layer.height c.args.target.size c.grown.result (record { fits = c.requires.fits; small = c.requires.small; some = λ k. (let n = c.if-target-eq0.false in omega arith) }) c.grown.ensures.room

pub returns-clause-gives : goal.returns-clause-gives
returns-clause-gives g c = (
  (remade-all g.S.X.BlockHash.block32 (record { size = g.met.S.X.BlockHash.size; are_bytes = g.met.S.X.BlockHash.are_bytes }) c.args.layer.p c.requires.profile c.args.layer.top c.args.layer.height c.args.target.size c.args.target.offset c.args.piece.now ((g.S.Store.seen c.args.store.now).told) ((g.S.Store.seen c.save_zeros.new.store).told) ((g.S.Store.seen c.grown.new.store).told) (subst (λ (x : Told). SavesOnly g.S.X.BlockHash.block32 x ((g.S.Store.seen c.save_zeros.new.store).told)) c.in_ok-fronts.ensures.reads.1 c.in_ok-zeros.ensures.saves.2) c.grown.ensures.saves.1 c.requires.fits c.in_ok-fronts.fronts c.as_slice.result.now c.as_slice.ensures c.args.olds c.grown.result c.in_ok-fronts.ensures.gives.0 (c.grown.ensures.gives.0 (c.in_ok-zeros.ensures.blank c.args.layer.p))),
  (λ few gs are fits agrees agrees_now stood clash.
      remade-misses g.S.X.BlockHash.block32 (record { size = g.met.S.X.BlockHash.size; are_bytes = g.met.S.X.BlockHash.are_bytes }) c.args.layer.p c.requires.profile c.args.layer.top c.args.layer.height c.args.target.size c.args.target.offset c.args.piece.now ((g.S.Store.seen c.args.store.now).told) ((g.S.Store.seen c.save_zeros.new.store).told) ((g.S.Store.seen c.grown.new.store).told) (subst (λ (x : Told). SavesOnly g.S.X.BlockHash.block32 x ((g.S.Store.seen c.save_zeros.new.store).told)) c.in_ok-fronts.ensures.reads.1 c.in_ok-zeros.ensures.saves.2) c.grown.ensures.saves.1 c.requires.fits c.in_ok-fronts.fronts c.as_slice.result.now c.as_slice.ensures c.args.olds c.grown.result c.in_ok-fronts.ensures.gives.0
      (λ l old_is short x y. c.grown.ensures.gives.1 few l old_is short x y (subst (λ (n : ℕ). Stood n (g.S.Store.seen c.grown.new.store).faults) (sym (StaysCalm-trans (g.S.Store.seen c.args.store.now) (g.S.Store.seen c.front_parts.new.store) (g.S.Store.seen c.save_zeros.new.store) c.in_ok-fronts.ensures.reads.0 c.in_ok-zeros.ensures.saves.0).faults) stood) (subst (λ (n : ℕ). Stood n (g.S.Store.seen c.grown.new.store).clashes) (sym (StaysCalm-trans (g.S.Store.seen c.args.store.now) (g.S.Store.seen c.front_parts.new.store) (g.S.Store.seen c.save_zeros.new.store) c.in_ok-fronts.ensures.reads.0 c.in_ok-zeros.ensures.saves.0).clashes) clash)) gs are fits agrees agrees_now),
)

pub returns-clause-saves : goal.returns-clause-saves
returns-clause-saves g c = (
  (among-answers g.S.X.BlockHash.block32 c.args.layer.p c.args.layer.rows (c.args.layer.top - 1) (min (c.args.layer.top - 1) c.args.layer.height) c.args.olds c.in_ok-fronts.fronts c.as_slice.result.now c.grown.result (g.S.Store.seen c.args.store.now) (g.S.Store.seen c.save_zeros.new.store) (g.S.Store.seen c.grown.new.store) c.as_slice.ensures c.in_ok-fronts.ensures.stand (KeepsGood-trans g.S.X.BlockHash.block32 ((g.S.Store.seen c.args.store.now).told) ((g.S.Store.seen c.save_zeros.new.store).told) ((g.S.Store.seen c.grown.new.store).told) (subst (λ (x : Told). KeepsGood g.S.X.BlockHash.block32 x ((g.S.Store.seen c.save_zeros.new.store).told)) c.in_ok-fronts.ensures.reads.1 (Wrote-good g.S.X.BlockHash.block32 IsSave ((g.S.Store.seen c.front_parts.new.store).told) ((g.S.Store.seen c.save_zeros.new.store).told) c.in_ok-zeros.ensures.saves.2)) (Wrote-good g.S.X.BlockHash.block32 IsSave ((g.S.Store.seen c.save_zeros.new.store).told) ((g.S.Store.seen c.grown.new.store).told) c.grown.ensures.saves.1)) (StaysCalm-trans (g.S.Store.seen c.args.store.now) (g.S.Store.seen c.front_parts.new.store) (g.S.Store.seen c.save_zeros.new.store) c.in_ok-fronts.ensures.reads.0 c.in_ok-zeros.ensures.saves.0) c.grown.ensures.saves.0),
  (SavesOnly-trans g.S.X.BlockHash.block32 ((g.S.Store.seen c.args.store.now).told) ((g.S.Store.seen c.save_zeros.new.store).told) ((g.S.Store.seen c.grown.new.store).told) (subst (λ (x : Told). SavesOnly g.S.X.BlockHash.block32 x ((g.S.Store.seen c.save_zeros.new.store).told)) c.in_ok-fronts.ensures.reads.1 c.in_ok-zeros.ensures.saves.2) c.grown.ensures.saves.1),
)

pub returns-clause-touches : goal.returns-clause-touches
returns-clause-touches g c = λ whole first a z fits below some size is more.
    let one = c.in_ok-fronts.ensures.touches in
    let two = c.in_ok-zeros.ensures.touches in
    let three = c.grown.ensures.touches first a z some is (first-touches (span c.args.layer.p.chunk c.args.layer.p.width (min (c.args.layer.top - 1) c.args.layer.height)) c.args.target.old first c.as_slice.result.now c.in_ok-fronts.fronts some c.as_slice.ensures (c.in_ok-fronts.ensures.below whole first fits below size)) in
    omega arith

pub returns-in_err-fronts-clause-gives : goal.returns-in_err-fronts-clause-gives
returns-in_err-fronts-clause-gives g c = (
  search rules,
  (λ few gs are fits agrees agrees_now stood clash.
      let out = err_from_is_err_and c.from_residual-in_err-fronts.result c.from_residual-in_err-fronts.ensures.1 in rw (out.1, out.2) (subst (λ (x : Told). IsLossOf x (blocks_of_all g.S.X.BlockHash.block32 c.args.layer.p (c.args.layer.top - 1) gs) c.in_err-fronts.field-0.0) (sym c.in_err-fronts.ensures.reads.1) (c.in_err-fronts.ensures.gives.1 gs few are agrees stood))),
)

pub returns-in_err-zeros-clause-gives : goal.returns-in_err-zeros-clause-gives
returns-in_err-zeros-clause-gives g c = (
  search rules,
  (λ few gs are fits agrees agrees_now stood clash.
      let out = err_from_is_err_and c.from_residual-in_err-zeros.result c.from_residual-in_err-zeros.ensures.1 in rw (out.1, out.2) (saved-lost g.S.X.BlockHash.block32 (g.S.Store.seen c.args.store.now) (g.S.Store.seen c.front_parts.new.store) (g.S.Store.seen c.save_zeros.new.store) c.in_ok-fronts.ensures.reads.0 {A = Part} (blocks_of_all g.S.X.BlockHash.block32 c.args.layer.p (c.args.layer.top - 1) gs) (Err c.in_err-zeros.field-0.0) c.in_err-zeros.ensures.saves.0 c.in_err-zeros.ensures.saves.1 stood clash)),
)

pub returns-in_err-zeros-clause-saves : goal.returns-in_err-zeros-clause-saves
returns-in_err-zeros-clause-saves g c = (
  (let out = err_from_is_err_and c.from_residual-in_err-zeros.result c.from_residual-in_err-zeros.ensures.1 in rw (out.1, out.2) (saved-shows g.S.X.BlockHash.block32 (g.S.Store.seen c.args.store.now) (g.S.Store.seen c.front_parts.new.store) (g.S.Store.seen c.save_zeros.new.store) c.in_ok-fronts.ensures.reads.0 {A = Part} (IsBadAmongOld g.S.X.BlockHash.block32 c.args.layer.p ((g.S.Store.seen c.save_zeros.new.store).told) c.args.layer.rows (c.args.layer.top - 1) c.args.olds) (Err c.in_err-zeros.field-0.0) c.in_err-zeros.ensures.saves.0)),
  search rules,
)

pub returns-in_err-leaf-clause-gives : goal.returns-in_err-leaf-clause-gives
returns-in_err-leaf-clause-gives g c = (
  search rules,
  (λ few gs are fits agrees agrees_now stood clash.
      let out = err_from_is_err_and c.from_residual.result c.from_residual.ensures.1 in rw (out.1, out.2) (lost-none ((g.S.Store.seen c.change_leaf.new.store).told) (blocks_of_all g.S.X.BlockHash.block32 c.args.layer.p (c.args.layer.top - 1) gs) c.in_err-leaf.field-0.0 (c.in_err-leaf.ensures.gives.1 c.args.layer.p [] refl (agrees-none ((g.S.Store.seen c.args.store.now).told) (blocks_of_all g.S.X.BlockHash.block32 c.args.layer.p (c.args.layer.top - 1) gs) agrees) (agrees-none ((g.S.Store.seen c.change_leaf.new.store).told) (blocks_of_all g.S.X.BlockHash.block32 c.args.layer.p (c.args.layer.top - 1) gs) agrees_now) stood clash))),
)

pub returns-in_err-leaf-clause-saves : goal.returns-in_err-leaf-clause-saves
returns-in_err-leaf-clause-saves g c = (
  (let out = err_from_is_err_and c.from_residual.result c.from_residual.ensures.1 in rw (out.1, out.2) (none-answers {A = Part} g.S.X.BlockHash.block32 c.args.layer.p c.args.layer.rows (c.args.layer.top - 1) c.args.olds (Err c.in_err-leaf.field-0.0) (g.S.Store.seen c.args.store.now) (g.S.Store.seen c.change_leaf.new.store) (c.in_err-leaf.ensures.saves.0 c.args.layer.p c.args.layer.rows))),
  search rules,
)

pub returns-in_err-just-clause-saves : goal.returns-in_err-just-clause-saves
returns-in_err-just-clause-saves g c = (
  (let out = err_from_is_err_and c.from_residual-in_err-just.result c.from_residual-in_err-just.ensures.1 in rw (out.1, out.2) (calm-memory (g.S.Store.seen c.args.store.now) (g.S.Store.seen c.change_leaf.new.store) (c.in_ok-leaf.ensures.saves.0 c.args.layer.p c.args.layer.rows))),
  search rules,
)

pub returns-then-target-eq0-clause-saves : goal.returns-then-target-eq0-clause-saves
returns-then-target-eq0-clause-saves g c = (
  (c.in_ok-leaf.ensures.saves.0 c.args.layer.p c.args.layer.rows),
  search rules,
)

-- ---- what is saved

pub returns-in_err-leaf-clause-no_other : goal.returns-in_err-leaf-clause-no_other
returns-in_err-leaf-clause-no_other g c = λ gs held are fits agrees agrees_now.
    empty-saves g.S.X.BlockHash.block32 c.args.layer.p (g.S.Store.seen c.args.store.now).told (g.S.Store.seen c.change_leaf.new.store).told c.args.layer.height c.args.target.size c.args.target.offset (joined gs) c.args.piece.now (c.requires.low c.if-target-eq0.true) c.if-target-eq0.true
    (c.in_err-leaf.ensures.no_other c.args.layer.p [] refl (agrees-none (g.S.Store.seen c.args.store.now).told (blocks_of_all g.S.X.BlockHash.block32 c.args.layer.p (c.args.layer.top - 1) gs) agrees) (agrees-none (g.S.Store.seen c.change_leaf.new.store).told (blocks_of_all g.S.X.BlockHash.block32 c.args.layer.p (c.args.layer.top - 1) gs) agrees_now))

pub returns-in_err-just-clause-no_other : goal.returns-in_err-just-clause-no_other
returns-in_err-just-clause-no_other g c = λ gs held are fits agrees agrees_now.
    empty-saves g.S.X.BlockHash.block32 c.args.layer.p (g.S.Store.seen c.args.store.now).told (g.S.Store.seen c.change_leaf.new.store).told c.args.layer.height c.args.target.size c.args.target.offset (joined gs) c.args.piece.now (c.requires.low c.if-target-eq0.true) c.if-target-eq0.true
    (c.in_ok-leaf.ensures.no_other c.args.layer.p [] refl (agrees-none (g.S.Store.seen c.args.store.now).told (blocks_of_all g.S.X.BlockHash.block32 c.args.layer.p (c.args.layer.top - 1) gs) agrees) (agrees-none (g.S.Store.seen c.change_leaf.new.store).told (blocks_of_all g.S.X.BlockHash.block32 c.args.layer.p (c.args.layer.top - 1) gs) agrees_now))

pub returns-then-target-eq0-clause-no_other : goal.returns-then-target-eq0-clause-no_other
returns-then-target-eq0-clause-no_other g c = λ gs held are fits agrees agrees_now.
    empty-saves g.S.X.BlockHash.block32 c.args.layer.p (g.S.Store.seen c.args.store.now).told (g.S.Store.seen c.change_leaf.new.store).told c.args.layer.height c.args.target.size c.args.target.offset (joined gs) c.args.piece.now (c.requires.low c.if-target-eq0.true) c.if-target-eq0.true
    (c.in_ok-leaf.ensures.no_other c.args.layer.p [] refl (agrees-none (g.S.Store.seen c.args.store.now).told (blocks_of_all g.S.X.BlockHash.block32 c.args.layer.p (c.args.layer.top - 1) gs) agrees) (agrees-none (g.S.Store.seen c.change_leaf.new.store).told (blocks_of_all g.S.X.BlockHash.block32 c.args.layer.p (c.args.layer.top - 1) gs) agrees_now))

pub returns-in_err-fronts-clause-no_other : goal.returns-in_err-fronts-clause-no_other
returns-in_err-fronts-clause-no_other g c = λ gs held are fits agrees agrees_now.
    SavesAmong-same g.S.X.BlockHash.block32 (blocks_of_all g.S.X.BlockHash.block32 c.args.layer.p c.args.layer.height (groups (span c.args.layer.p.chunk c.args.layer.p.width c.args.layer.height) (overlaid c.args.target.size (joined gs) c.args.target.offset c.args.piece.now))) (g.S.Store.seen c.args.store.now).told (g.S.Store.seen c.front_parts.new.store).told c.in_err-fronts.ensures.reads.1

pub returns-in_err-zeros-clause-no_other : goal.returns-in_err-zeros-clause-no_other
returns-in_err-zeros-clause-no_other g c = λ gs held are fits agrees agrees_now.
    gap-saves g.S.X.BlockHash.block32 c.args.layer.p c.requires.profile c.args.layer.top c.args.layer.height c.args.target.size c.args.target.offset c.gap_start.result c.gap_end-end.result c.args.piece.now (g.S.Store.seen c.args.store.now).told (g.S.Store.seen c.front_parts.new.store).told (g.S.Store.seen c.save_zeros.new.store).told c.requires.fits c.requires.within c.in_ok-fronts.ensures.reads.1
    (old_size c.args.target.old) c.gap_start.ensures c.gap_end-end.ensures.filled c.gap_end-end.ensures.laid c.in_err-zeros.ensures.no_other c.in_err-zeros.ensures.none c.in_err-zeros.ensures.saves.2 c.args.olds gs held

pub returns-clause-no_other : goal.returns-clause-no_other
returns-clause-no_other g c = λ gs held are fits agrees agrees_now.
    remade-saves g.S.X.BlockHash.block32 c.args.layer.p c.requires.profile c.args.layer.top c.args.layer.height c.args.target.size c.args.target.offset c.gap_start.result c.gap_end-end.result c.args.piece.now (g.S.Store.seen c.args.store.now).told (g.S.Store.seen c.front_parts.new.store).told (g.S.Store.seen c.save_zeros.new.store).told c.requires.fits c.requires.within c.in_ok-fronts.ensures.reads.1
    (old_size c.args.target.old) c.gap_start.ensures c.gap_end-end.ensures.filled c.gap_end-end.ensures.laid c.in_ok-zeros.ensures.no_other c.in_ok-zeros.ensures.none c.in_ok-zeros.ensures.saves.2 c.args.olds gs held
    (g.S.Store.seen c.grown.new.store).told c.in_ok-fronts.fronts c.as_slice.result.now c.grown.ensures.saves.1 c.as_slice.ensures c.in_ok-fronts.ensures.gives.0 (c.grown.ensures.no_other (c.in_ok-zeros.ensures.blank c.args.layer.p)) are fits agrees agrees_now
