use Rattle.uf_fileedit.proofs.Saving.{edit-saves, edit-saves-below}
use Rattle.uf_fileedit.specs.Files.{bytes_edited}
use Rattle.uf_store.proofs.Among.{SavesAmong-same}
use Rattle.std.proofs.Common.{◌≡◌, ◌≤◌, ◌<◌, ◌+◌, ◌-◌, ◌^◌, ℕ, [], ◌∷◌, length, ap, arith, refl, subst, sym, ◌∙◌, Err, rules}
use Rattle.std.proofs.lemmas.Bool.{false≢true}
use Rattle.std.proofs.lemmas.Result.{err_from_is_err_and}
use Rattle.uf_edge.specs.Counts.{Stood}
use Rattle.uf_store.specs.Contents.{Told}
use Rattle.uf_store.specs.Lost.{IsLossOf}
use Rattle.uf_store.specs.Writing.{IsSave, SavesOnly}
use Rattle.uf_store.proofs.Causes.{StaysCalm-trans}
use Rattle.uf_store.proofs.Writing.{SavesOnly-trans, Wrote-good}
use Rattle.uf_tree.specs.FilePlan.{file_plan}
use Rattle.uf_tree.specs.FileSub.{IsHeight}
use Rattle.uf_tree.specs.Roots.{root_over}
use Rattle.uf_tree.specs.declared.nodes.Part.{Part}
use Rattle.uf_fileedit.specs.Bad.{IsBadEdited}
use Rattle.uf_fileedit.specs.Changes.{LiesWithin, size_after}
use Rattle.uf_fileedit.specs.Planned.{bytes_over}
use Rattle.uf_fileedit.proofs.Blames.{edit-blamed}
use Rattle.uf_fileedit.proofs.Edited.{after-small, after-within, bytes-small, differs, edit-gives, edit-loses, new-length, old-length, root-lost, same-gives}
use Rattle.uf_fileedit.proofs.Remade.{edit-costs, fits-new, more-bytes, no-bytes}
use Rattle.uf_fileedit.proofs.Roots.{root-alone}
use Rattle.uf_fileedit.proofs.Steps.{saved-lost, saved-shows}
use Rattle.uf_fileedit.proofs.Touching.{blamed-then}
use Rattle.uf_fileedit.proofs.editing.edit.Goals as goal

-- ---- the root

pub returns-in_err-root-clause-gives : goal.returns-in_err-root-clause-gives
returns-in_err-root-clause-gives g c = (
  search rules,
  (λ m b height is entry before now stood clash.
      let out = err_from_is_err_and c.from_residual.result c.from_residual.ensures.1 in rw (out.1, out.2) (root-lost g.S.X.BlockHash.block32 (record { size = g.met.S.X.BlockHash.size; are_bytes = g.met.S.X.BlockHash.are_bytes }) c.args.p.now m b c.args.entry.now.cid height is ((g.S.Store.seen c.root_of.new.store).told) c.in_err-root.field-0.0
      (subst (λ (t : Told). IsLossOf t (root_over g.S.X.BlockHash.block32 c.args.p.now.chunk c.args.p.now.width m height b ∷ []) c.in_err-root.field-0.0) (sym c.in_err-root.ensures.reads.1) (c.in_err-root.ensures.gives.1 m b height is (root-alone g.S.X.BlockHash.block32 (record { size = g.met.S.X.BlockHash.size; are_bytes = g.met.S.X.BlockHash.are_bytes }) c.args.p.now m b c.args.entry.now.cid height is ((g.S.Store.seen c.args.store.now).told) before) stood)))),
)

pub returns-in_err-root-clause-touched : goal.returns-in_err-root-clause-touched
returns-in_err-root-clause-touched g c = let out = err_from_is_err_and c.from_residual.result c.from_residual.ensures.1 in rw (out.1, out.2) (blamed-then c.in_err-root.field-0.0 c.args.touches.now c.root_of.new.touches (let t = c.in_err-root.ensures.touches in omega arith))

-- ---- nothing changes

pub returns-then-is_same-clause-gives : goal.returns-then-is_same-clause-gives
returns-then-is_same-clause-gives g c = (
  (λ m b height is entry before now.
      let same = c.is_same.ensures.0 c.if-is_same.true in
      same-gives g.S.X.BlockHash.block32 (record { size = g.met.S.X.BlockHash.size; are_bytes = g.met.S.X.BlockHash.are_bytes }) c.args.p.now m b c.args.entry.now.cid height is ((g.S.Store.seen c.args.store.now).told) before c.in_ok-root.root c.in_ok-root.ensures.gives.0 c.size_over-old.result (c.size_over-old.ensures ∙ ap bytes_over c.as_slice.ensures)
      ((g.S.Store.seen c.root_of.new.store).told) c.args.entry.now c.size_after-size.result c.args.extent.wanted c.args.extent.offset c.args.piece.now entry c.size_after-size.ensures same.0 same.1),
  search rules,
)

-- ---- where the bytes stand

pub heights_of-at-requires-clause-small : goal.heights_of-at-requires-clause-small
heights_of-at-requires-clause-small g c = bytes-small c.in_ok-root.root.parts c.size_over-old.result (c.size_over-old.ensures ∙ ap bytes_over c.as_slice.ensures) c.in_ok-root.ensures.base.small

-- ---- what is made of the parts below the root

pub returns-clause-gives : goal.returns-clause-gives
returns-clause-gives g c = (
  (λ m b height is entry before now.
      edit-gives g.S.X.BlockHash.block32 (record { size = g.met.S.X.BlockHash.size; are_bytes = g.met.S.X.BlockHash.are_bytes }) c.args.p.now m b c.args.entry.now.cid height is ((g.S.Store.seen c.args.store.now).told) before c.in_ok-root.root c.in_ok-root.ensures.gives.0 c.size_over-old.result (c.size_over-old.ensures ∙ ap bytes_over c.as_slice.ensures)
      c.size_after-size.result c.heights_of-at.result c.heights_of-at.ensures ((g.S.Store.seen c.root_of.new.store).told) ((g.S.Store.seen c.remade.new.store).told) ((g.S.Store.seen c.save_over.new.store).told) c.in_ok-root.ensures.reads.1 c.in_ok-news.ensures.saves.1
      c.args.extent.wanted c.args.extent.offset c.args.piece.now c.in_ok-news.news c.as_slice-2.result.now c.in_ok-part.part c.size_after-size.ensures c.in_ok-part.ensures.saves.2 (Wrote-good g.S.X.BlockHash.block32 IsSave ((g.S.Store.seen c.remade.new.store).told) ((g.S.Store.seen c.save_over.new.store).told) c.in_ok-part.ensures.saves.2) now c.in_ok-news.ensures.gives.0 c.as_slice-2.ensures c.in_ok-part.ensures.part c.in_ok-part.ensures.held),
  search rules,
)

pub returns-in_err-news-clause-gives : goal.returns-in_err-news-clause-gives
returns-in_err-news-clause-gives g c = (
  search rules,
  (λ m b height is entry before now stood clash.
      let out = err_from_is_err_and c.from_residual-in_err-news.result c.from_residual-in_err-news.ensures.1 in rw (out.1, out.2) (edit-loses g.S.X.BlockHash.block32 (record { size = g.met.S.X.BlockHash.size; are_bytes = g.met.S.X.BlockHash.are_bytes }) c.args.p.now m b c.args.entry.now.cid height is ((g.S.Store.seen c.args.store.now).told) before c.in_ok-root.root c.in_ok-root.ensures.gives.0 c.size_over-old.result (c.size_over-old.ensures ∙ ap bytes_over c.as_slice.ensures)
      c.size_after-size.result c.heights_of-at.result c.heights_of-at.ensures ((g.S.Store.seen c.root_of.new.store).told) ((g.S.Store.seen c.remade.new.store).told) ((g.S.Store.seen c.remade.new.store).told) c.in_ok-root.ensures.reads.1 c.in_err-news.ensures.saves.1 c.in_err-news.field-0.0 now
      (λ few gs are fits x y. c.in_err-news.ensures.gives.1 few gs are fits x y (subst (λ (n : ℕ). Stood n (g.S.Store.seen c.remade.new.store).faults) (sym c.in_ok-root.ensures.reads.0.faults) stood) (subst (λ (n : ℕ). Stood n (g.S.Store.seen c.remade.new.store).clashes) (sym c.in_ok-root.ensures.reads.0.clashes) clash)))),
)

pub returns-in_err-part-clause-gives : goal.returns-in_err-part-clause-gives
returns-in_err-part-clause-gives g c = (
  search rules,
  (λ m b height is entry before now stood clash.
      let out = err_from_is_err_and c.from_residual-in_err-part.result c.from_residual-in_err-part.ensures.1 in rw (out.1, out.2) (saved-lost g.S.X.BlockHash.block32 (g.S.Store.seen c.args.store.now) (g.S.Store.seen c.remade.new.store) (g.S.Store.seen c.save_over.new.store) (StaysCalm-trans (g.S.Store.seen c.args.store.now) (g.S.Store.seen c.root_of.new.store) (g.S.Store.seen c.remade.new.store) c.in_ok-root.ensures.reads.0 c.in_ok-news.ensures.saves.0) {A = Part}
      (file_plan g.S.X.BlockHash.block32 c.args.p.now m b).blocks (Err c.in_err-part.field-0.0) c.in_err-part.ensures.saves.0 c.in_err-part.ensures.saves.1 stood clash)),
)

pub returns-in_err-news-clause-saves : goal.returns-in_err-news-clause-saves
returns-in_err-news-clause-saves g c = (
  (let out = err_from_is_err_and c.from_residual-in_err-news.result c.from_residual-in_err-news.ensures.1 in rw (out.1, out.2) (edit-blamed g.S.X.BlockHash.block32 c.args.p.now c.args.entry.now.cid c.in_ok-root.root c.in_ok-root.root.parts c.heights_of-at.result.rows (c.heights_of-at.result.top - 1) c.in_err-news.field-0.0 (g.S.Store.seen c.args.store.now) (g.S.Store.seen c.root_of.new.store) (g.S.Store.seen c.remade.new.store)
      c.in_ok-root.ensures.stand c.in_ok-root.ensures.reads.1 c.in_ok-root.ensures.reads.0 (Wrote-good g.S.X.BlockHash.block32 IsSave ((g.S.Store.seen c.root_of.new.store).told) ((g.S.Store.seen c.remade.new.store).told) c.in_err-news.ensures.saves.1) (subst (λ n. IsHeight c.args.p.now.chunk c.args.p.now.width n c.heights_of-at.result.rows) (c.size_over-old.ensures ∙ ap bytes_over c.as_slice.ensures) c.heights_of-at.ensures.before)
      (let t = c.heights_of-at.ensures.top_is in let e : c.heights_of-at.result.top - 1 ≡ c.heights_of-at.result.rows - 1 = omega arith in e) refl c.in_err-news.ensures.saves.0)),
  search rules,
)

pub returns-in_err-part-clause-saves : goal.returns-in_err-part-clause-saves
returns-in_err-part-clause-saves g c = (
  (let out = err_from_is_err_and c.from_residual-in_err-part.result c.from_residual-in_err-part.ensures.1 in rw (out.1, out.2) (saved-shows g.S.X.BlockHash.block32 (g.S.Store.seen c.args.store.now) (g.S.Store.seen c.remade.new.store) (g.S.Store.seen c.save_over.new.store) (StaysCalm-trans (g.S.Store.seen c.args.store.now) (g.S.Store.seen c.root_of.new.store) (g.S.Store.seen c.remade.new.store) c.in_ok-root.ensures.reads.0 c.in_ok-news.ensures.saves.0) {A = Part}
      (IsBadEdited g.S.X.BlockHash.block32 c.args.p.now ((g.S.Store.seen c.save_over.new.store).told) c.args.entry.now.cid) (Err c.in_err-part.field-0.0) c.in_err-part.ensures.saves.0)),
  (subst (λ (x : Told). SavesOnly g.S.X.BlockHash.block32 x ((g.S.Store.seen c.save_over.new.store).told)) c.in_ok-root.ensures.reads.1 (SavesOnly-trans g.S.X.BlockHash.block32 ((g.S.Store.seen c.root_of.new.store).told) ((g.S.Store.seen c.remade.new.store).told) ((g.S.Store.seen c.save_over.new.store).told) c.in_ok-news.ensures.saves.1 c.in_err-part.ensures.saves.2)),
)

-- ---- what is asked of the calls

-- ---- how often the store is touched

pub remade-requires-clause-fits : goal.remade-requires-clause-fits
remade-requires-clause-fits g c = fits-new c.args.p.now c.requires.profile c.size_over-old.result c.size_after-size.result c.args.extent.offset (length c.args.piece.now) c.heights_of-at.result c.heights_of-at.ensures

pub remade-requires-clause-low : goal.remade-requires-clause-low
remade-requires-clause-low g c = no-bytes c.args.p.now c.requires.profile c.size_over-old.result c.size_after-size.result c.args.extent.offset (length c.args.piece.now) c.heights_of-at.result c.heights_of-at.ensures

pub remade-requires-clause-more : goal.remade-requires-clause-more
remade-requires-clause-more g c = more-bytes c.args.p.now c.requires.profile c.size_over-old.result c.size_after-size.result c.args.extent.offset (length c.args.piece.now) c.heights_of-at.result c.heights_of-at.ensures

pub remade-requires-clause-small : goal.remade-requires-clause-small
remade-requires-clause-small g c = subst (λ n. n < 2 ^ 63) (sym c.size_after-size.ensures)
    (after-small c.size_over-old.result c.args.extent.wanted c.args.extent.offset (length c.args.piece.now) (bytes-small c.in_ok-root.root.parts c.size_over-old.result (c.size_over-old.ensures ∙ ap bytes_over c.as_slice.ensures) c.in_ok-root.ensures.base.small) c.requires.small c.requires.end)

pub remade-requires-clause-within : goal.remade-requires-clause-within
remade-requires-clause-within g c = subst (λ n. LiesWithin n c.args.extent.offset c.args.piece.now) (sym c.size_after-size.ensures) (after-within c.size_over-old.result c.args.extent.wanted c.args.extent.offset c.args.piece.now c.requires.within)

-- ---- what is kept

pub returns-clause-saves : goal.returns-clause-saves
returns-clause-saves g c = (
  search rules,
  (subst (λ (x : Told). SavesOnly g.S.X.BlockHash.block32 x ((g.S.Store.seen c.save_over.new.store).told)) c.in_ok-root.ensures.reads.1 (SavesOnly-trans g.S.X.BlockHash.block32 ((g.S.Store.seen c.root_of.new.store).told) ((g.S.Store.seen c.remade.new.store).told) ((g.S.Store.seen c.save_over.new.store).told) c.in_ok-news.ensures.saves.1 c.in_ok-part.ensures.saves.2)),
)

pub returns-in_err-news-clause-touched : goal.returns-in_err-news-clause-touched
returns-in_err-news-clause-touched g c = let out = err_from_is_err_and c.from_residual-in_err-news.result c.from_residual-in_err-news.ensures.1 in rw (out.1, out.2) (blamed-then c.in_err-news.field-0.0 c.args.touches.now c.remade.new.touches (let t = c.in_ok-root.ensures.touches in let r = c.in_err-news.ensures.rises in omega arith))

pub returns-in_err-part-clause-touched : goal.returns-in_err-part-clause-touched
returns-in_err-part-clause-touched g c = let out = err_from_is_err_and c.from_residual-in_err-part.result c.from_residual-in_err-part.ensures.1 in rw (out.1, out.2) (blamed-then c.in_err-part.field-0.0 c.args.touches.now c.save_over.new.touches (let t = c.in_ok-root.ensures.touches in let r = c.in_ok-news.ensures.rises in let s = c.in_err-part.ensures.rises in omega arith))

pub returns-clause-touches : goal.returns-clause-touches
returns-clause-touches g c = λ m b height rows after a z is agrees rows_is after_is within.
    edit-costs c.args.p.now c.requires.profile c.size_over-old.result c.size_after-size.result c.args.extent.offset (length c.args.piece.now) c.heights_of-at.result c.heights_of-at.ensures c.args.entry.now.cid.codec c.in_ok-root.root c.args.entry.now c.in_ok-root.ensures.laid (c.size_over-old.ensures ∙ ap bytes_over c.as_slice.ensures) (λ same. false≢true (sym c.if-is_same.false ∙ c.is_same.ensures.1 same))
    (length b) (size_after (length b) c.args.extent.wanted c.args.extent.offset (length c.args.piece.now)) rows after a z c.args.touches.now c.root_of.new.touches c.remade.new.touches c.save_over.new.touches
    (old-length g.S.X.BlockHash.block32 (record { size = g.met.S.X.BlockHash.size; are_bytes = g.met.S.X.BlockHash.are_bytes }) c.args.p.now m b c.args.entry.now.cid height is ((g.S.Store.seen c.args.store.now).told) agrees c.in_ok-root.root c.in_ok-root.ensures.gives.0 c.size_over-old.result (c.size_over-old.ensures ∙ ap bytes_over c.as_slice.ensures))
    (new-length g.S.X.BlockHash.block32 (record { size = g.met.S.X.BlockHash.size; are_bytes = g.met.S.X.BlockHash.are_bytes }) c.args.p.now m b c.args.entry.now.cid height is ((g.S.Store.seen c.args.store.now).told) agrees c.in_ok-root.root c.in_ok-root.ensures.gives.0 c.size_over-old.result (c.size_over-old.ensures ∙ ap bytes_over c.as_slice.ensures) c.size_after-size.result c.args.extent.wanted c.args.extent.offset (length c.args.piece.now) c.size_after-size.ensures)
    rows_is after_is within c.in_ok-root.ensures.touches c.in_ok-news.ensures.touches c.in_ok-part.ensures.touches

pub returns-in_err-part-clause-touches : goal.returns-in_err-part-clause-touches
returns-in_err-part-clause-touches g c = λ m b height rows after a z is agrees rows_is after_is within.
    edit-costs c.args.p.now c.requires.profile c.size_over-old.result c.size_after-size.result c.args.extent.offset (length c.args.piece.now) c.heights_of-at.result c.heights_of-at.ensures c.args.entry.now.cid.codec c.in_ok-root.root c.args.entry.now c.in_ok-root.ensures.laid (c.size_over-old.ensures ∙ ap bytes_over c.as_slice.ensures) (λ same. false≢true (sym c.if-is_same.false ∙ c.is_same.ensures.1 same))
    (length b) (size_after (length b) c.args.extent.wanted c.args.extent.offset (length c.args.piece.now)) rows after a z c.args.touches.now c.root_of.new.touches c.remade.new.touches c.save_over.new.touches
    (old-length g.S.X.BlockHash.block32 (record { size = g.met.S.X.BlockHash.size; are_bytes = g.met.S.X.BlockHash.are_bytes }) c.args.p.now m b c.args.entry.now.cid height is ((g.S.Store.seen c.args.store.now).told) agrees c.in_ok-root.root c.in_ok-root.ensures.gives.0 c.size_over-old.result (c.size_over-old.ensures ∙ ap bytes_over c.as_slice.ensures))
    (new-length g.S.X.BlockHash.block32 (record { size = g.met.S.X.BlockHash.size; are_bytes = g.met.S.X.BlockHash.are_bytes }) c.args.p.now m b c.args.entry.now.cid height is ((g.S.Store.seen c.args.store.now).told) agrees c.in_ok-root.root c.in_ok-root.ensures.gives.0 c.size_over-old.result (c.size_over-old.ensures ∙ ap bytes_over c.as_slice.ensures) c.size_after-size.result c.args.extent.wanted c.args.extent.offset (length c.args.piece.now) c.size_after-size.ensures)
    rows_is after_is within c.in_ok-root.ensures.touches c.in_ok-news.ensures.touches c.in_err-part.ensures.touches

pub returns-in_err-news-clause-touches : goal.returns-in_err-news-clause-touches
returns-in_err-news-clause-touches g c = λ m b height rows after a z is agrees rows_is after_is within.
    edit-costs c.args.p.now c.requires.profile c.size_over-old.result c.size_after-size.result c.args.extent.offset (length c.args.piece.now) c.heights_of-at.result c.heights_of-at.ensures c.args.entry.now.cid.codec c.in_ok-root.root c.args.entry.now c.in_ok-root.ensures.laid (c.size_over-old.ensures ∙ ap bytes_over c.as_slice.ensures) (λ same. false≢true (sym c.if-is_same.false ∙ c.is_same.ensures.1 same))
    (length b) (size_after (length b) c.args.extent.wanted c.args.extent.offset (length c.args.piece.now)) rows after a z c.args.touches.now c.root_of.new.touches c.remade.new.touches c.remade.new.touches
    (old-length g.S.X.BlockHash.block32 (record { size = g.met.S.X.BlockHash.size; are_bytes = g.met.S.X.BlockHash.are_bytes }) c.args.p.now m b c.args.entry.now.cid height is ((g.S.Store.seen c.args.store.now).told) agrees c.in_ok-root.root c.in_ok-root.ensures.gives.0 c.size_over-old.result (c.size_over-old.ensures ∙ ap bytes_over c.as_slice.ensures))
    (new-length g.S.X.BlockHash.block32 (record { size = g.met.S.X.BlockHash.size; are_bytes = g.met.S.X.BlockHash.are_bytes }) c.args.p.now m b c.args.entry.now.cid height is ((g.S.Store.seen c.args.store.now).told) agrees c.in_ok-root.root c.in_ok-root.ensures.gives.0 c.size_over-old.result (c.size_over-old.ensures ∙ ap bytes_over c.as_slice.ensures) c.size_after-size.result c.args.extent.wanted c.args.extent.offset (length c.args.piece.now) c.size_after-size.ensures)
    rows_is after_is within c.in_ok-root.ensures.touches c.in_err-news.ensures.touches (let e : c.remade.new.touches ≤ c.remade.new.touches + 1 = omega arith in e)

-- ---- nothing is saved where nothing changes

pub returns-clause-same : goal.returns-clause-same
returns-clause-same g c = λ m b height is agrees alike none. absurd (differs g.S.X.BlockHash.block32 (record { size = g.met.S.X.BlockHash.size; are_bytes = g.met.S.X.BlockHash.are_bytes }) c.args.p.now m b c.args.entry.now.cid height is ((g.S.Store.seen c.args.store.now).told) agrees c.in_ok-root.root c.in_ok-root.ensures.gives.0 c.size_over-old.result (c.size_over-old.ensures ∙ ap bytes_over c.as_slice.ensures)
    c.size_after-size.result c.args.extent.wanted c.args.extent.offset (length c.args.piece.now) c.size_after-size.ensures (λ same. false≢true (sym c.if-is_same.false ∙ c.is_same.ensures.1 same)) alike none)

pub returns-in_err-part-clause-same : goal.returns-in_err-part-clause-same
returns-in_err-part-clause-same g c = λ m b height is agrees alike none. absurd (differs g.S.X.BlockHash.block32 (record { size = g.met.S.X.BlockHash.size; are_bytes = g.met.S.X.BlockHash.are_bytes }) c.args.p.now m b c.args.entry.now.cid height is ((g.S.Store.seen c.args.store.now).told) agrees c.in_ok-root.root c.in_ok-root.ensures.gives.0 c.size_over-old.result (c.size_over-old.ensures ∙ ap bytes_over c.as_slice.ensures)
    c.size_after-size.result c.args.extent.wanted c.args.extent.offset (length c.args.piece.now) c.size_after-size.ensures (λ same. false≢true (sym c.if-is_same.false ∙ c.is_same.ensures.1 same)) alike none)

pub returns-in_err-news-clause-same : goal.returns-in_err-news-clause-same
returns-in_err-news-clause-same g c = λ m b height is agrees alike none. absurd (differs g.S.X.BlockHash.block32 (record { size = g.met.S.X.BlockHash.size; are_bytes = g.met.S.X.BlockHash.are_bytes }) c.args.p.now m b c.args.entry.now.cid height is ((g.S.Store.seen c.args.store.now).told) agrees c.in_ok-root.root c.in_ok-root.ensures.gives.0 c.size_over-old.result (c.size_over-old.ensures ∙ ap bytes_over c.as_slice.ensures)
    c.size_after-size.result c.args.extent.wanted c.args.extent.offset (length c.args.piece.now) c.size_after-size.ensures (λ same. false≢true (sym c.if-is_same.false ∙ c.is_same.ensures.1 same)) alike none)

-- ---- what is saved

pub returns-in_err-root-clause-no_other : goal.returns-in_err-root-clause-no_other
returns-in_err-root-clause-no_other g c = λ m b height is stays. SavesAmong-same g.S.X.BlockHash.block32 (file_plan g.S.X.BlockHash.block32 c.args.p.now m (bytes_edited c.args.extent.wanted c.args.extent.offset c.args.piece.now b)).blocks (g.S.Store.seen c.args.store.now).told (g.S.Store.seen c.root_of.new.store).told c.in_err-root.ensures.reads.1

pub returns-then-is_same-clause-no_other : goal.returns-then-is_same-clause-no_other
returns-then-is_same-clause-no_other g c = λ m b height is stays. SavesAmong-same g.S.X.BlockHash.block32 (file_plan g.S.X.BlockHash.block32 c.args.p.now m (bytes_edited c.args.extent.wanted c.args.extent.offset c.args.piece.now b)).blocks (g.S.Store.seen c.args.store.now).told (g.S.Store.seen c.root_of.new.store).told c.in_ok-root.ensures.reads.1

pub returns-in_err-news-clause-no_other : goal.returns-in_err-news-clause-no_other
returns-in_err-news-clause-no_other g c = λ m b height is stays.
    edit-saves-below g.S.X.BlockHash.block32 (record { size = g.met.S.X.BlockHash.size; are_bytes = g.met.S.X.BlockHash.are_bytes }) c.args.p.now m b c.args.entry.now.cid height is (g.S.Store.seen c.args.store.now).told stays.first c.in_ok-root.root c.in_ok-root.ensures.gives.0 c.size_over-old.result (c.size_over-old.ensures ∙ ap bytes_over c.as_slice.ensures)
    c.size_after-size.result c.heights_of-at.result c.heights_of-at.ensures c.args.extent.wanted c.args.extent.offset c.args.piece.now c.size_after-size.ensures (g.S.Store.seen c.root_of.new.store).told (g.S.Store.seen c.remade.new.store).told c.in_ok-root.ensures.reads.1 c.in_err-news.ensures.no_other stays.last

pub returns-in_err-part-clause-no_other : goal.returns-in_err-part-clause-no_other
returns-in_err-part-clause-no_other g c = λ m b height is stays.
    edit-saves g.S.X.BlockHash.block32 (record { size = g.met.S.X.BlockHash.size; are_bytes = g.met.S.X.BlockHash.are_bytes }) c.args.p.now m b c.args.entry.now.cid height is (g.S.Store.seen c.args.store.now).told stays.first c.in_ok-root.root c.in_ok-root.ensures.gives.0 c.size_over-old.result (c.size_over-old.ensures ∙ ap bytes_over c.as_slice.ensures)
    c.size_after-size.result c.heights_of-at.result c.heights_of-at.ensures c.args.extent.wanted c.args.extent.offset c.args.piece.now c.size_after-size.ensures (g.S.Store.seen c.root_of.new.store).told (g.S.Store.seen c.remade.new.store).told c.in_ok-root.ensures.reads.1 c.in_ok-news.ensures.no_other
    (g.S.Store.seen c.save_over.new.store).told c.in_ok-news.news c.as_slice-2.result.now c.in_ok-news.ensures.saves.1 c.in_err-part.ensures.saves.2 c.in_ok-news.ensures.gives.0 c.as_slice-2.ensures c.in_err-part.ensures.no_other stays.last

pub returns-clause-no_other : goal.returns-clause-no_other
returns-clause-no_other g c = λ m b height is stays.
    edit-saves g.S.X.BlockHash.block32 (record { size = g.met.S.X.BlockHash.size; are_bytes = g.met.S.X.BlockHash.are_bytes }) c.args.p.now m b c.args.entry.now.cid height is (g.S.Store.seen c.args.store.now).told stays.first c.in_ok-root.root c.in_ok-root.ensures.gives.0 c.size_over-old.result (c.size_over-old.ensures ∙ ap bytes_over c.as_slice.ensures)
    c.size_after-size.result c.heights_of-at.result c.heights_of-at.ensures c.args.extent.wanted c.args.extent.offset c.args.piece.now c.size_after-size.ensures (g.S.Store.seen c.root_of.new.store).told (g.S.Store.seen c.remade.new.store).told c.in_ok-root.ensures.reads.1 c.in_ok-news.ensures.no_other
    (g.S.Store.seen c.save_over.new.store).told c.in_ok-news.news c.as_slice-2.result.now c.in_ok-news.ensures.saves.1 c.in_ok-part.ensures.saves.2 c.in_ok-news.ensures.gives.0 c.as_slice-2.ensures c.in_ok-part.ensures.no_other stays.last
