use Rattle.uf_fileedit.proofs.Saving.{new-saves, new-saves-below, told-saves}
use Rattle.uf_fileedit.specs.Changes.{overlaid}
use Rattle.uf_tree.specs.FilePlan.{file_plan}
use Rattle.std.proofs.Common.{◌-◌, [], length, arith, Err, rules}
use Rattle.std.proofs.lemmas.Result.{err_from_is_err_and}
use Rattle.uf_store.specs.Writing.{IsSave}
use Rattle.uf_store.proofs.Writing.{SavesOnly-trans, Wrote-good, agrees-between}
use Rattle.uf_tree.specs.declared.nodes.Part.{Part}
use Rattle.uf_fileedit.specs.Bad.{IsBadEdited}
use Rattle.uf_fileedit.proofs.Made.{few-rows, new-costs, new-gives, none-bad}
use Rattle.uf_fileedit.proofs.Remade.{fits-new, no-bytes}
use Rattle.uf_fileedit.proofs.Steps.{saved-lost, saved-shows}
use Rattle.uf_fileedit.proofs.creating.save_new.Goals as goal

pub new_parts-requires-clause-fits : goal.new_parts-requires-clause-fits
new_parts-requires-clause-fits g c = fits-new c.args.p.now c.requires.profile 0 c.args.target.size c.args.target.offset (length c.args.piece.now) c.heights_of-at.result c.heights_of-at.ensures

pub new_parts-requires-clause-low : goal.new_parts-requires-clause-low
new_parts-requires-clause-low g c = no-bytes c.args.p.now c.requires.profile 0 c.args.target.size c.args.target.offset (length c.args.piece.now) c.heights_of-at.result c.heights_of-at.ensures

pub returns-clause-gives : goal.returns-clause-gives
returns-clause-gives g c = (
  (λ agrees agrees_now.
      new-gives c.args.p.now c.requires.profile c.args.target.size c.heights_of-at.result c.heights_of-at.ensures
      g.S.X.BlockHash.block32 (record { size = g.met.S.X.BlockHash.size; are_bytes = g.met.S.X.BlockHash.are_bytes }) c.args.meta.now c.args.target.offset c.args.piece.now ((g.S.Store.seen c.new_parts.new.store).told) ((g.S.Store.seen c.save_over.new.store).told)
      c.in_ok-parts.parts c.as_slice.result.now c.in_ok-part.part (Wrote-good g.S.X.BlockHash.block32 IsSave ((g.S.Store.seen c.new_parts.new.store).told) ((g.S.Store.seen c.save_over.new.store).told) c.in_ok-part.ensures.saves.2)
      (c.in_ok-parts.ensures.gives.0 agrees (agrees-between g.S.X.BlockHash.block32 IsSave ((g.S.Store.seen c.args.store.now).told) ((g.S.Store.seen c.new_parts.new.store).told) ((g.S.Store.seen c.save_over.new.store).told) [] c.in_ok-parts.ensures.saves.1 c.in_ok-part.ensures.saves.2 (record { first = agrees; last = agrees_now })))
      c.as_slice.ensures c.in_ok-part.ensures.part c.in_ok-part.ensures.held),
  search rules,
)

pub returns-clause-saves : goal.returns-clause-saves
returns-clause-saves g c = (
  search rules,
  (SavesOnly-trans g.S.X.BlockHash.block32 ((g.S.Store.seen c.args.store.now).told) ((g.S.Store.seen c.new_parts.new.store).told) ((g.S.Store.seen c.save_over.new.store).told) c.in_ok-parts.ensures.saves.1 c.in_ok-part.ensures.saves.2),
)

pub returns-clause-touches : goal.returns-clause-touches
returns-clause-touches g c = λ after a z high within.
    new-costs c.args.p.now c.requires.profile c.args.target.size c.heights_of-at.result c.heights_of-at.ensures after (z - a) c.args.touches.now c.new_parts.new.touches c.save_over.new.touches high
    (c.in_ok-parts.ensures.touches a z within) c.in_ok-part.ensures.touches

-- ---- the parts aren't made

pub returns-in_err-parts-clause-gives : goal.returns-in_err-parts-clause-gives
returns-in_err-parts-clause-gives g c = (
  search rules,
  (λ agrees agrees_now stood clash.
      let out = err_from_is_err_and c.from_residual.result c.from_residual.ensures.1 in
      rw (out.1, out.2) (c.in_err-parts.ensures.gives.1 (few-rows c.args.p.now c.requires.profile c.args.target.size c.heights_of-at.result c.heights_of-at.ensures) agrees agrees_now stood clash)),
)

pub returns-in_err-parts-clause-saves : goal.returns-in_err-parts-clause-saves
returns-in_err-parts-clause-saves g c = (
  (λ root.
      let out = err_from_is_err_and c.from_residual.result c.from_residual.ensures.1 in
      rw (out.1, out.2) (none-bad g.S.X.BlockHash.block32 c.args.p.now _ _ root c.in_err-parts.field-0.0 (g.S.Store.seen c.args.store.now) (g.S.Store.seen c.new_parts.new.store) c.in_err-parts.ensures.saves.0)),
  search rules,
)

pub returns-in_err-parts-clause-touches : goal.returns-in_err-parts-clause-touches
returns-in_err-parts-clause-touches g c = λ after a z high within.
    new-costs c.args.p.now c.requires.profile c.args.target.size c.heights_of-at.result c.heights_of-at.ensures after (z - a) c.args.touches.now c.new_parts.new.touches c.new_parts.new.touches high
    (c.in_err-parts.ensures.touches a z within) (omega arith)

-- ---- the root isn't saved

pub returns-in_err-part-clause-gives : goal.returns-in_err-part-clause-gives
returns-in_err-part-clause-gives g c = (
  search rules,
  (λ agrees agrees_now stood clash.
      let out = err_from_is_err_and c.from_residual-in_err-part.result c.from_residual-in_err-part.ensures.1 in
      rw (out.1, out.2) (saved-lost g.S.X.BlockHash.block32 (g.S.Store.seen c.args.store.now) (g.S.Store.seen c.new_parts.new.store) (g.S.Store.seen c.save_over.new.store) c.in_ok-parts.ensures.saves.0 {A = Part} [] (Err c.in_err-part.field-0.0) c.in_err-part.ensures.saves.0 c.in_err-part.ensures.saves.1 stood clash)),
)

pub returns-in_err-part-clause-saves : goal.returns-in_err-part-clause-saves
returns-in_err-part-clause-saves g c = (
  (λ root.
      let out = err_from_is_err_and c.from_residual-in_err-part.result c.from_residual-in_err-part.ensures.1 in
      rw (out.1, out.2) (saved-shows g.S.X.BlockHash.block32 (g.S.Store.seen c.args.store.now) (g.S.Store.seen c.new_parts.new.store) (g.S.Store.seen c.save_over.new.store) c.in_ok-parts.ensures.saves.0 {A = Part} (IsBadEdited g.S.X.BlockHash.block32 c.args.p.now ((g.S.Store.seen c.save_over.new.store).told) root) (Err c.in_err-part.field-0.0) c.in_err-part.ensures.saves.0)),
  (SavesOnly-trans g.S.X.BlockHash.block32 ((g.S.Store.seen c.args.store.now).told) ((g.S.Store.seen c.new_parts.new.store).told) ((g.S.Store.seen c.save_over.new.store).told) c.in_ok-parts.ensures.saves.1 c.in_err-part.ensures.saves.2),
)

pub returns-in_err-part-clause-touches : goal.returns-in_err-part-clause-touches
returns-in_err-part-clause-touches g c = λ after a z high within.
    new-costs c.args.p.now c.requires.profile c.args.target.size c.heights_of-at.result c.heights_of-at.ensures after (z - a) c.args.touches.now c.new_parts.new.touches c.save_over.new.touches high
    (c.in_ok-parts.ensures.touches a z within) c.in_err-part.ensures.touches

-- ---- what is saved

pub returns-in_err-parts-clause-no_other : goal.returns-in_err-parts-clause-no_other
returns-in_err-parts-clause-no_other g c = new-saves-below g.S.X.BlockHash.block32 (record { size = g.met.S.X.BlockHash.size; are_bytes = g.met.S.X.BlockHash.are_bytes }) c.args.p.now c.requires.profile c.args.target.size c.heights_of-at.result c.heights_of-at.ensures c.args.meta.now c.args.target.offset c.args.piece.now (g.S.Store.seen c.args.store.now).told (g.S.Store.seen c.new_parts.new.store).told c.in_err-parts.ensures.no_other

pub returns-in_err-part-clause-no_other : goal.returns-in_err-part-clause-no_other
returns-in_err-part-clause-no_other g c =
    told-saves g.S.X.BlockHash.block32 (file_plan g.S.X.BlockHash.block32 c.args.p.now c.args.meta.now (overlaid c.args.target.size [] c.args.target.offset c.args.piece.now)).blocks (g.S.Store.seen c.args.store.now).told (g.S.Store.seen c.save_over.new.store).told (SavesOnly-trans g.S.X.BlockHash.block32 (g.S.Store.seen c.args.store.now).told (g.S.Store.seen c.new_parts.new.store).told (g.S.Store.seen c.save_over.new.store).told c.in_ok-parts.ensures.saves.1 c.in_err-part.ensures.saves.2)
    (new-saves g.S.X.BlockHash.block32 (record { size = g.met.S.X.BlockHash.size; are_bytes = g.met.S.X.BlockHash.are_bytes }) c.args.p.now c.requires.profile c.args.target.size c.heights_of-at.result c.heights_of-at.ensures c.args.meta.now c.args.target.offset c.args.piece.now (g.S.Store.seen c.args.store.now).told (g.S.Store.seen c.new_parts.new.store).told c.in_ok-parts.ensures.no_other
    (g.S.Store.seen c.save_over.new.store).told c.in_ok-parts.parts c.as_slice.result.now c.in_ok-parts.ensures.saves.1 c.in_err-part.ensures.saves.2 c.in_ok-parts.ensures.gives.0 c.as_slice.ensures c.in_err-part.ensures.no_other)

pub returns-clause-no_other : goal.returns-clause-no_other
returns-clause-no_other g c =
    told-saves g.S.X.BlockHash.block32 (file_plan g.S.X.BlockHash.block32 c.args.p.now c.args.meta.now (overlaid c.args.target.size [] c.args.target.offset c.args.piece.now)).blocks (g.S.Store.seen c.args.store.now).told (g.S.Store.seen c.save_over.new.store).told (SavesOnly-trans g.S.X.BlockHash.block32 (g.S.Store.seen c.args.store.now).told (g.S.Store.seen c.new_parts.new.store).told (g.S.Store.seen c.save_over.new.store).told c.in_ok-parts.ensures.saves.1 c.in_ok-part.ensures.saves.2)
    (new-saves g.S.X.BlockHash.block32 (record { size = g.met.S.X.BlockHash.size; are_bytes = g.met.S.X.BlockHash.are_bytes }) c.args.p.now c.requires.profile c.args.target.size c.heights_of-at.result c.heights_of-at.ensures c.args.meta.now c.args.target.offset c.args.piece.now (g.S.Store.seen c.args.store.now).told (g.S.Store.seen c.new_parts.new.store).told c.in_ok-parts.ensures.no_other
    (g.S.Store.seen c.save_over.new.store).told c.in_ok-parts.parts c.as_slice.result.now c.in_ok-parts.ensures.saves.1 c.in_ok-part.ensures.saves.2 c.in_ok-parts.ensures.gives.0 c.as_slice.ensures c.in_ok-part.ensures.no_other)
