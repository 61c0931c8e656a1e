use Rattle.uf_tree.specs.FilePlan.{file_plan}
use Rattle.uf_store.specs.Among.{SavesAmong}
use Rattle.uf_store.specs.Writing.{IsSave}
use Rattle.uf_store.proofs.Writing.{Wrote-good}
use Rattle.std.proofs.Common.{◌+◌, length, refl, List, ℕ, [], subst, sym}
use Rattle.uf_fileedit.proofs.Edited.{some_bytes, laid_empty}
use Rattle.uf_fileedit.proofs.Made.{empty-costs, empty-file, made-costs, made-file, laid-new}
use Rattle.uf_fileedit.proofs.creating.create.Goals as goal

pub returns-clause-value : goal.returns-clause-value
returns-clause-value g c = λ stays stood clash.
    (made-file g.S.X.BlockHash.block32 c.args.p.now c.args.meta.now ((g.S.Store.seen c.save_new-2.new.store).told) c.in_ok-save_new-2.field-0 _ c.args.offset c.args.piece.now
    (c.in_ok-save_new-2.ensures.gives.0 stays.first stays.last) refl (some_bytes (length c.args.piece.now) c.is_empty.result c.is_empty.ensures c.if-is_empty.false)).0

pub returns-clause-held : goal.returns-clause-held
returns-clause-held g c = λ stays.
    (made-file g.S.X.BlockHash.block32 c.args.p.now c.args.meta.now ((g.S.Store.seen c.save_new-2.new.store).told) c.in_ok-save_new-2.field-0 _ c.args.offset c.args.piece.now
    (c.in_ok-save_new-2.ensures.gives.0 stays.first stays.last) refl (some_bytes (length c.args.piece.now) c.is_empty.result c.is_empty.ensures c.if-is_empty.false)).1

pub returns-clause-touches : goal.returns-clause-touches
returns-clause-touches g c = λ rows rows_is.
    made-costs c.args.p.now c.requires.profile c.args.meta.now (c.args.offset + length c.args.piece.now) c.args.offset c.args.piece.now rows c.args.touches.now c.save_new-2.new.touches refl (some_bytes (length c.args.piece.now) c.is_empty.result c.is_empty.ensures c.if-is_empty.false) rows_is
    c.in_ok-save_new-2.ensures.touches

pub returns-in_err-save_new-2-clause-touches : goal.returns-in_err-save_new-2-clause-touches
returns-in_err-save_new-2-clause-touches g c = λ rows rows_is.
    made-costs c.args.p.now c.requires.profile c.args.meta.now (c.args.offset + length c.args.piece.now) c.args.offset c.args.piece.now rows c.args.touches.now c.save_new-2.new.touches refl (some_bytes (length c.args.piece.now) c.is_empty.result c.is_empty.ensures c.if-is_empty.false) rows_is
    c.in_err-save_new-2.ensures.touches

pub returns-in_err-save_new-clause-good : goal.returns-in_err-save_new-clause-good
returns-in_err-save_new-clause-good g c = Wrote-good g.S.X.BlockHash.block32 IsSave ((g.S.Store.seen c.args.store.now).told) ((g.S.Store.seen c.save_new.new.store).told) c.in_err-save_new.ensures.saves.1

pub returns-in_err-save_new-clause-touches : goal.returns-in_err-save_new-clause-touches
returns-in_err-save_new-clause-touches g c = λ rows rows_is.
    empty-costs c.args.p.now c.args.meta.now c.args.offset c.args.piece.now rows c.args.touches.now c.save_new.new.touches c.is_empty.result c.is_empty.ensures c.if-is_empty.true c.in_err-save_new.ensures.touches

pub returns-then-is_empty-clause-held : goal.returns-then-is_empty-clause-held
returns-then-is_empty-clause-held g c = λ stays.
    empty-file g.S.X.BlockHash.block32 c.args.p.now c.args.meta.now ((g.S.Store.seen c.save_new.new.store).told) c.in_ok-save_new.field-0 c.args.offset c.args.piece.now c.is_empty.result c.is_empty.ensures c.if-is_empty.true
    (c.in_ok-save_new.ensures.gives.0 stays.first stays.last)

pub returns-then-is_empty-clause-good : goal.returns-then-is_empty-clause-good
returns-then-is_empty-clause-good g c = Wrote-good g.S.X.BlockHash.block32 IsSave ((g.S.Store.seen c.args.store.now).told) ((g.S.Store.seen c.save_new.new.store).told) c.in_ok-save_new.ensures.saves.1

pub returns-then-is_empty-clause-touches : goal.returns-then-is_empty-clause-touches
returns-then-is_empty-clause-touches g c = λ rows rows_is.
    empty-costs c.args.p.now c.args.meta.now c.args.offset c.args.piece.now rows c.args.touches.now c.save_new.new.touches c.is_empty.result c.is_empty.ensures c.if-is_empty.true c.in_ok-save_new.ensures.touches

pub returns-in_err-save_new-2-clause-good : goal.returns-in_err-save_new-2-clause-good
returns-in_err-save_new-2-clause-good g c = Wrote-good g.S.X.BlockHash.block32 IsSave ((g.S.Store.seen c.args.store.now).told) ((g.S.Store.seen c.save_new-2.new.store).told) c.in_err-save_new-2.ensures.saves.1

pub returns-clause-good : goal.returns-clause-good
returns-clause-good g c = Wrote-good g.S.X.BlockHash.block32 IsSave ((g.S.Store.seen c.args.store.now).told) ((g.S.Store.seen c.save_new-2.new.store).told) c.in_ok-save_new-2.ensures.saves.1

pub returns-in_err-save_new-clause-no_other : goal.returns-in_err-save_new-clause-no_other
returns-in_err-save_new-clause-no_other g c = subst (λ (l : List ℕ). SavesAmong g.S.X.BlockHash.block32 (file_plan g.S.X.BlockHash.block32 c.args.p.now c.args.meta.now l).blocks (g.S.Store.seen c.args.store.now).told (g.S.Store.seen c.save_new.new.store).told) (sym (laid_empty [] c.args.offset c.args.piece.now c.is_empty.result c.is_empty.ensures c.if-is_empty.true)) c.in_err-save_new.ensures.no_other

pub returns-then-is_empty-clause-no_other : goal.returns-then-is_empty-clause-no_other
returns-then-is_empty-clause-no_other g c = subst (λ (l : List ℕ). SavesAmong g.S.X.BlockHash.block32 (file_plan g.S.X.BlockHash.block32 c.args.p.now c.args.meta.now l).blocks (g.S.Store.seen c.args.store.now).told (g.S.Store.seen c.save_new.new.store).told) (sym (laid_empty [] c.args.offset c.args.piece.now c.is_empty.result c.is_empty.ensures c.if-is_empty.true)) c.in_ok-save_new.ensures.no_other

pub returns-in_err-save_new-2-clause-no_other : goal.returns-in_err-save_new-2-clause-no_other
returns-in_err-save_new-2-clause-no_other g c = subst (λ (l : List ℕ). SavesAmong g.S.X.BlockHash.block32 (file_plan g.S.X.BlockHash.block32 c.args.p.now c.args.meta.now l).blocks (g.S.Store.seen c.args.store.now).told (g.S.Store.seen c.save_new-2.new.store).told) (laid-new c.args.offset c.args.piece.now (c.args.offset + length c.args.piece.now) refl (some_bytes (length c.args.piece.now) c.is_empty.result c.is_empty.ensures c.if-is_empty.false)) c.in_err-save_new-2.ensures.no_other

pub returns-clause-no_other : goal.returns-clause-no_other
returns-clause-no_other g c = subst (λ (l : List ℕ). SavesAmong g.S.X.BlockHash.block32 (file_plan g.S.X.BlockHash.block32 c.args.p.now c.args.meta.now l).blocks (g.S.Store.seen c.args.store.now).told (g.S.Store.seen c.save_new-2.new.store).told) (laid-new c.args.offset c.args.piece.now (c.args.offset + length c.args.piece.now) refl (some_bytes (length c.args.piece.now) c.is_empty.result c.is_empty.ensures c.if-is_empty.false)) c.in_ok-save_new-2.ensures.no_other
