use Rattle.uf_fileedit.proofs.Saving.{empty-saves, told-saves, zeros-saves}
use Rattle.uf_fileedit.specs.Saving.{blocks_changed}
use Rattle.uf_store.proofs.Among.{SavesAmong-trans}
use Rattle.std.proofs.Common.{ℕ, [], ◌+◌, length, min, arith, refl, subst, sym, Err, Option, rules}
use Rattle.std.proofs.lemmas.Result.{err_from_is_err_and}
use Rattle.uf_edge.specs.Counts.{Stood}
use Rattle.uf_store.specs.Writing.{IsSave}
use Rattle.uf_store.proofs.Causes.{calm-memory}
use Rattle.uf_store.proofs.Writing.{SavesOnly-trans, agrees-between}
use Rattle.uf_tree.specs.FileSub.{span}
use Rattle.uf_tree.specs.declared.nodes.Part.{Part}
use Rattle.uf_fileedit.specs.Touches.{IsChangeWithin}
use Rattle.uf_fileedit.proofs.Remade.{empty-gives, none-answers, nothing-old, remade-few}
use Rattle.uf_fileedit.proofs.Touching.{new-within, none-below}
use Rattle.uf_fileedit.proofs.creating.new_parts.Goals as goal

-- ---- a file of no bytes

pub returns-then-target-eq0-clause-gives : goal.returns-then-target-eq0-clause-gives
returns-then-target-eq0-clause-gives g c = (
  (λ agrees agrees_now.
      empty-gives g.S.X.BlockHash.block32 c.args.layer.p ((g.S.Store.seen c.change_leaf.new.store).told) [] c.args.layer.height c.args.target.size c.args.target.offset [] c.args.piece.now c.in_ok-just.field-0 c.in_ok-leaf.leaf (c.requires.low c.if-target-eq0.true) c.if-target-eq0.true c.in_ok-just.ensures
      (c.in_ok-leaf.ensures.gives.0 c.args.layer.p [] refl agrees agrees_now)),
  search rules,
)

pub returns-in_err-leaf-clause-gives : goal.returns-in_err-leaf-clause-gives
returns-in_err-leaf-clause-gives g c = (
  search rules,
  (λ few agrees agrees_now stood clash.
      let out = err_from_is_err_and c.from_residual.result c.from_residual.ensures.1 in rw (out.1, out.2) (c.in_err-leaf.ensures.gives.1 c.args.layer.p [] refl agrees agrees_now stood clash)),
)

pub returns-in_err-leaf-clause-saves : goal.returns-in_err-leaf-clause-saves
returns-in_err-leaf-clause-saves g c = (
  (let out = err_from_is_err_and c.from_residual.result c.from_residual.ensures.1 in rw (out.1, out.2) (none-answers {A = Part} g.S.X.BlockHash.block32 c.args.layer.p c.args.layer.rows (min c.args.layer.top c.args.layer.height) [] (Err c.in_err-leaf.field-0.0) (g.S.Store.seen c.args.store.now) (g.S.Store.seen c.change_leaf.new.store) (c.in_err-leaf.ensures.saves.0 c.args.layer.p c.args.layer.rows))),
  search rules,
)

pub returns-in_err-just-clause-saves : goal.returns-in_err-just-clause-saves
returns-in_err-just-clause-saves g c = (
  (let out = err_from_is_err_and c.from_residual-in_err-just.result c.from_residual-in_err-just.ensures.1 in rw (out.1, out.2) (calm-memory (g.S.Store.seen c.args.store.now) (g.S.Store.seen c.change_leaf.new.store) (c.in_ok-leaf.ensures.saves.0 c.args.layer.p c.args.layer.rows))),
  search rules,
)

pub returns-then-target-eq0-clause-saves : goal.returns-then-target-eq0-clause-saves
returns-then-target-eq0-clause-saves g c = (
  (c.in_ok-leaf.ensures.saves.0 c.args.layer.p c.args.layer.rows),
  search rules,
)

-- ---- the others

pub change_parts-requires-clause-size : goal.change_parts-requires-clause-size
change_parts-requires-clause-size g c = (record { fits = c.requires.fits; small = c.requires.small; some = λ k. (let n = c.if-target-eq0.false in omega arith) })

pub returns-clause-few : goal.returns-clause-few
returns-clause-few g c = remade-few g.S.X.BlockHash.block32 (record { size = g.met.S.X.BlockHash.size; are_bytes = g.met.S.X.BlockHash.are_bytes }) c.args.layer.p c.requires.profile c.args.layer.height c.args.target.size c.change_parts.result (record { fits = c.requires.fits; small = c.requires.small; some = λ k. (let n = c.if-target-eq0.false in omega arith) }) c.change_parts.ensures.room

pub returns-clause-gives : goal.returns-clause-gives
returns-clause-gives g c = (
  (λ agrees agrees_now.
      c.change_parts.ensures.gives.0 (c.in_ok-zeros.ensures.blank c.args.layer.p) []
      (nothing-old g.S.X.BlockHash.block32 c.args.layer.p (span c.args.layer.p.chunk c.args.layer.p.width c.args.layer.height) (min c.args.layer.top c.args.layer.height) [] refl)
      (agrees-between g.S.X.BlockHash.block32 IsSave ((g.S.Store.seen c.args.store.now).told) ((g.S.Store.seen c.save_zeros.new.store).told) ((g.S.Store.seen c.change_parts.new.store).told) [] c.in_ok-zeros.ensures.saves.2 c.change_parts.ensures.saves.1 (record { first = agrees; last = agrees_now }))
      agrees_now),
  (λ few agrees agrees_now stood clash.
      c.change_parts.ensures.gives.1 few []
      (nothing-old g.S.X.BlockHash.block32 c.args.layer.p (span c.args.layer.p.chunk c.args.layer.p.width c.args.layer.height) (min c.args.layer.top c.args.layer.height) [] refl)
      (agrees-between g.S.X.BlockHash.block32 IsSave ((g.S.Store.seen c.args.store.now).told) ((g.S.Store.seen c.save_zeros.new.store).told) ((g.S.Store.seen c.change_parts.new.store).told) [] c.in_ok-zeros.ensures.saves.2 c.change_parts.ensures.saves.1 (record { first = agrees; last = agrees_now }))
      agrees_now
      (subst (λ (n : ℕ). Stood n (g.S.Store.seen c.change_parts.new.store).faults) (sym c.in_ok-zeros.ensures.saves.0.faults) stood)
      (subst (λ (n : ℕ). Stood n (g.S.Store.seen c.change_parts.new.store).clashes) (sym c.in_ok-zeros.ensures.saves.0.clashes) clash)),
)

pub returns-clause-touches : goal.returns-clause-touches
returns-clause-touches g c = λ a z within.
    let one = c.in_ok-zeros.ensures.touches in
    let two = c.change_parts.ensures.touches a z (subst (λ (old : Option Part). IsChangeWithin c.args.layer.p c.args.layer.top (c.args.layer.height + 1) old c.args.target.size c.args.target.offset (length c.args.piece.now) a z) (sym c.requires.old) (new-within c.args.layer.p c.args.layer.top c.args.layer.height c.args.target.size c.args.target.offset (length c.args.piece.now) a z c.if-target-eq0.false within)) (none-below (span c.args.layer.p.chunk c.args.layer.p.width c.args.layer.height) c.args.target.old [] c.requires.old refl) in
    omega arith

pub returns-clause-saves : goal.returns-clause-saves
returns-clause-saves g c = (
  search rules,
  (SavesOnly-trans g.S.X.BlockHash.block32 ((g.S.Store.seen c.args.store.now).told) ((g.S.Store.seen c.save_zeros.new.store).told) ((g.S.Store.seen c.change_parts.new.store).told) c.in_ok-zeros.ensures.saves.2 c.change_parts.ensures.saves.1),
)

-- ---- what is saved

pub returns-in_err-leaf-clause-no_other : goal.returns-in_err-leaf-clause-no_other
returns-in_err-leaf-clause-no_other g c =
    told-saves g.S.X.BlockHash.block32 (blocks_changed g.S.X.BlockHash.block32 c.args.layer c.args.target [] c.args.piece.now) (g.S.Store.seen c.args.store.now).told (g.S.Store.seen c.change_leaf.new.store).told c.in_err-leaf.ensures.saves.1 (λ agrees agrees_now.
    empty-saves g.S.X.BlockHash.block32 c.args.layer.p (g.S.Store.seen c.args.store.now).told (g.S.Store.seen c.change_leaf.new.store).told c.args.layer.height c.args.target.size c.args.target.offset [] c.args.piece.now (c.requires.low c.if-target-eq0.true) c.if-target-eq0.true
    (c.in_err-leaf.ensures.no_other c.args.layer.p [] refl agrees agrees_now))

pub returns-in_err-just-clause-no_other : goal.returns-in_err-just-clause-no_other
returns-in_err-just-clause-no_other g c =
    told-saves g.S.X.BlockHash.block32 (blocks_changed g.S.X.BlockHash.block32 c.args.layer c.args.target [] c.args.piece.now) (g.S.Store.seen c.args.store.now).told (g.S.Store.seen c.change_leaf.new.store).told c.in_ok-leaf.ensures.saves.1 (λ agrees agrees_now.
    empty-saves g.S.X.BlockHash.block32 c.args.layer.p (g.S.Store.seen c.args.store.now).told (g.S.Store.seen c.change_leaf.new.store).told c.args.layer.height c.args.target.size c.args.target.offset [] c.args.piece.now (c.requires.low c.if-target-eq0.true) c.if-target-eq0.true
    (c.in_ok-leaf.ensures.no_other c.args.layer.p [] refl agrees agrees_now))

pub returns-then-target-eq0-clause-no_other : goal.returns-then-target-eq0-clause-no_other
returns-then-target-eq0-clause-no_other g c =
    told-saves g.S.X.BlockHash.block32 (blocks_changed g.S.X.BlockHash.block32 c.args.layer c.args.target [] c.args.piece.now) (g.S.Store.seen c.args.store.now).told (g.S.Store.seen c.change_leaf.new.store).told c.in_ok-leaf.ensures.saves.1 (λ agrees agrees_now.
    empty-saves g.S.X.BlockHash.block32 c.args.layer.p (g.S.Store.seen c.args.store.now).told (g.S.Store.seen c.change_leaf.new.store).told c.args.layer.height c.args.target.size c.args.target.offset [] c.args.piece.now (c.requires.low c.if-target-eq0.true) c.if-target-eq0.true
    (c.in_ok-leaf.ensures.no_other c.args.layer.p [] refl agrees agrees_now))

pub returns-in_err-zeros-clause-no_other : goal.returns-in_err-zeros-clause-no_other
returns-in_err-zeros-clause-no_other g c =
    zeros-saves g.S.X.BlockHash.block32 c.args.layer.p c.requires.profile c.args.layer.height c.args.target.size c.args.target.offset 0 c.args.target.offset [] c.args.piece.now (g.S.Store.seen c.args.store.now).told (g.S.Store.seen c.save_zeros.new.store).told (omega arith)
    (c.requires.early (let n = c.if-target-eq0.false in omega arith)) (λ some. omega arith) c.in_err-zeros.ensures.no_other c.in_err-zeros.ensures.none

pub returns-clause-no_other : goal.returns-clause-no_other
returns-clause-no_other g c =
    told-saves g.S.X.BlockHash.block32 (blocks_changed g.S.X.BlockHash.block32 c.args.layer c.args.target [] c.args.piece.now) (g.S.Store.seen c.args.store.now).told (g.S.Store.seen c.change_parts.new.store).told (SavesOnly-trans g.S.X.BlockHash.block32 (g.S.Store.seen c.args.store.now).told (g.S.Store.seen c.save_zeros.new.store).told (g.S.Store.seen c.change_parts.new.store).told c.in_ok-zeros.ensures.saves.2 c.change_parts.ensures.saves.1) (λ agrees agrees_now.
    SavesAmong-trans g.S.X.BlockHash.block32 (blocks_changed g.S.X.BlockHash.block32 c.args.layer c.args.target [] c.args.piece.now) (g.S.Store.seen c.args.store.now).told (g.S.Store.seen c.save_zeros.new.store).told (g.S.Store.seen c.change_parts.new.store).told
    (zeros-saves g.S.X.BlockHash.block32 c.args.layer.p c.requires.profile c.args.layer.height c.args.target.size c.args.target.offset 0 c.args.target.offset [] c.args.piece.now (g.S.Store.seen c.args.store.now).told (g.S.Store.seen c.save_zeros.new.store).told (omega arith)
    (c.requires.early (let n = c.if-target-eq0.false in omega arith)) (λ some. omega arith) c.in_ok-zeros.ensures.no_other c.in_ok-zeros.ensures.none)
    (c.change_parts.ensures.no_other (c.in_ok-zeros.ensures.blank c.args.layer.p) []
    (nothing-old g.S.X.BlockHash.block32 c.args.layer.p (span c.args.layer.p.chunk c.args.layer.p.width c.args.layer.height) (min c.args.layer.top c.args.layer.height) [] refl)
    (agrees-between g.S.X.BlockHash.block32 IsSave (g.S.Store.seen c.args.store.now).told (g.S.Store.seen c.save_zeros.new.store).told (g.S.Store.seen c.change_parts.new.store).told [] c.in_ok-zeros.ensures.saves.2 c.change_parts.ensures.saves.1 (record { first = agrees; last = agrees_now })) agrees_now))
