use Rattle.uf_tree.specs.FilePlan.{file_plan}
use Rattle.uf_store.proofs.Among.{SavesAmong-refl}
use Rattle.uf_store.specs.Among.{SavesAmong}
use Rattle.uf_store.specs.Writing.{IsSave}
use Rattle.uf_store.proofs.Writing.{Wrote-good}
use Rattle.std.proofs.lemmas.Result.{err_from_is_err_and}
use Rattle.std.proofs.Common.{◌≡◌, ◌+◌, ◌≤◌, ◌∙◌, length, List, ℕ, ap, arith, max, refl, sym, subst}
use Rattle.uf_fileedit.specs.Edits.{laid}
use Rattle.uf_fileedit.specs.Touches.{written_chunks}
use Rattle.uf_fileedit.proofs.Bytes.{changed-laid, length-changed}
use Rattle.uf_fileedit.proofs.Edited.{agreed-held, answer-after, answer-entry, answer-held, answer-lost, bare-under, more-rows, nothing-after, some_bytes}
use Rattle.uf_tree.specs.FileSub.{IsHeight}
use Rattle.uf_tree.proofs.Told.{kept}
use Rattle.uf_fileedit.proofs.Touching.{write-costs}
use Rattle.uf_fileedit.proofs.editing.write_at.Goals as goal

pub returns-clause-value : goal.returns-clause-value
returns-clause-value g c = λ m b height is entry stays stood clash.
    answer-entry g.S.X.BlockHash.block32 (record { size = g.met.S.X.BlockHash.size; are_bytes = g.met.S.X.BlockHash.are_bytes }) c.args.p.now m b c.args.entry.now.cid height is ((g.S.Store.seen c.args.store.now).told) ((g.S.Store.seen c.edit.new.store).told) c.in_ok-edit.ensures.saves.1 stays.first c.in_ok-edit.field-0 _ (laid b c.args.offset c.args.piece.now) (changed-laid b c.args.offset c.args.piece.now (some_bytes (length c.args.piece.now) c.is_empty.result c.is_empty.ensures c.if-is_empty.false)) (c.in_ok-edit.ensures.gives.0 m b height is entry stays.first stays.last)

pub returns-clause-after : goal.returns-clause-after
returns-clause-after g c = λ m b height is entry stays.
    answer-after g.S.X.BlockHash.block32 (record { size = g.met.S.X.BlockHash.size; are_bytes = g.met.S.X.BlockHash.are_bytes }) c.args.p.now m b c.args.entry.now.cid height is ((g.S.Store.seen c.args.store.now).told) ((g.S.Store.seen c.edit.new.store).told) c.in_ok-edit.ensures.saves.1 stays.first c.in_ok-edit.field-0 _ (laid b c.args.offset c.args.piece.now) stays.last (changed-laid b c.args.offset c.args.piece.now (some_bytes (length c.args.piece.now) c.is_empty.result c.is_empty.ensures c.if-is_empty.false)) (c.in_ok-edit.ensures.gives.0 m b height is entry stays.first stays.last)

pub returns-clause-held : goal.returns-clause-held
returns-clause-held g c = λ m b height is entry before held.
    answer-held g.S.X.BlockHash.block32 (record { size = g.met.S.X.BlockHash.size; are_bytes = g.met.S.X.BlockHash.are_bytes }) c.args.p.now m b c.args.entry.now.cid height is ((g.S.Store.seen c.args.store.now).told) ((g.S.Store.seen c.edit.new.store).told) c.in_ok-edit.ensures.saves.1 before c.in_ok-edit.field-0 _ (laid b c.args.offset c.args.piece.now) held (changed-laid b c.args.offset c.args.piece.now (some_bytes (length c.args.piece.now) c.is_empty.result c.is_empty.ensures c.if-is_empty.false)) (c.in_ok-edit.ensures.gives.0 m b height is entry before (agreed-held g.S.X.BlockHash.block32 (record { size = g.met.S.X.BlockHash.size; are_bytes = g.met.S.X.BlockHash.are_bytes }) c.args.p.now m b c.args.entry.now.cid height is ((g.S.Store.seen c.args.store.now).told) ((g.S.Store.seen c.edit.new.store).told) c.in_ok-edit.ensures.saves.1 before held))

pub returns-in_err-edit-clause-value : goal.returns-in_err-edit-clause-value
returns-in_err-edit-clause-value g c = λ m b height is entry stays stood clash.
    let out = err_from_is_err_and c.from_residual.result c.from_residual.ensures.1 in rw (out.1, out.2) (answer-lost g.S.X.BlockHash.block32 (record { size = g.met.S.X.BlockHash.size; are_bytes = g.met.S.X.BlockHash.are_bytes }) c.args.p.now m b c.args.entry.now.cid height is ((g.S.Store.seen c.args.store.now).told) ((g.S.Store.seen c.edit.new.store).told) c.in_err-edit.ensures.saves.1 stays.first c.in_err-edit.field-0.0 (c.in_err-edit.ensures.gives.1 m b height is entry stays.first stays.last stood clash))

pub returns-then-is_empty-clause-after : goal.returns-then-is_empty-clause-after
returns-then-is_empty-clause-after g c = λ m b height is entry stays.
    nothing-after g.S.X.BlockHash.block32 (record { size = g.met.S.X.BlockHash.size; are_bytes = g.met.S.X.BlockHash.are_bytes }) c.args.p.now m b c.args.entry.now.cid height is ((g.S.Store.seen c.args.store.now).told) c.args.offset c.args.piece.now c.is_empty.result c.is_empty.ensures c.if-is_empty.true stays.first

pub returns-clause-touches : goal.returns-clause-touches
returns-clause-touches g c = λ m b rows after is agrees after_is.
    let some = some_bytes (length c.args.piece.now) c.is_empty.result c.is_empty.ensures c.if-is_empty.false in
    let old = bare-under c.args.p.now m (length b) rows is.rooted.least in
    let new = bare-under c.args.p.now m (length (laid b c.args.offset c.args.piece.now)) after after_is in
    let bytes : length (laid b c.args.offset c.args.piece.now) ≡ max (length b) (c.args.offset + length c.args.piece.now)
    = ap (λ (l : List ℕ). length l) (sym (changed-laid b c.args.offset c.args.piece.now some)) ∙ length-changed (max (length b) (c.args.offset + length c.args.piece.now)) b c.args.offset c.args.piece.now in
    more-rows (written_chunks c.args.p.now.chunk (length b) c.args.offset (length c.args.piece.now)) (max old.0 new.0) (max rows after) c.args.touches.now c.edit.new.touches (let a : old.0 ≤ rows = old.2 in let d : new.0 ≤ after = new.2 in omega arith)
    (write-costs c.args.p.now.chunk (length b) (max (length b) (c.args.offset + length c.args.piece.now)) c.args.offset (length c.args.piece.now) old.0 new.0 c.args.touches.now c.edit.new.touches ((kept c.args.p.now c.requires.profile).some) some refl
    (λ a z within. c.in_ok-edit.ensures.touches m b rows old.0 new.0 a z is agrees old.1 (subst (λ n. IsHeight c.args.p.now.chunk c.args.p.now.width n new.0) bytes new.1) within))

pub returns-in_err-edit-clause-touches : goal.returns-in_err-edit-clause-touches
returns-in_err-edit-clause-touches g c = λ m b rows after is agrees after_is.
    let some = some_bytes (length c.args.piece.now) c.is_empty.result c.is_empty.ensures c.if-is_empty.false in
    let old = bare-under c.args.p.now m (length b) rows is.rooted.least in
    let new = bare-under c.args.p.now m (length (laid b c.args.offset c.args.piece.now)) after after_is in
    let bytes : length (laid b c.args.offset c.args.piece.now) ≡ max (length b) (c.args.offset + length c.args.piece.now)
    = ap (λ (l : List ℕ). length l) (sym (changed-laid b c.args.offset c.args.piece.now some)) ∙ length-changed (max (length b) (c.args.offset + length c.args.piece.now)) b c.args.offset c.args.piece.now in
    more-rows (written_chunks c.args.p.now.chunk (length b) c.args.offset (length c.args.piece.now)) (max old.0 new.0) (max rows after) c.args.touches.now c.edit.new.touches (let a : old.0 ≤ rows = old.2 in let d : new.0 ≤ after = new.2 in omega arith)
    (write-costs c.args.p.now.chunk (length b) (max (length b) (c.args.offset + length c.args.piece.now)) c.args.offset (length c.args.piece.now) old.0 new.0 c.args.touches.now c.edit.new.touches ((kept c.args.p.now c.requires.profile).some) some refl
    (λ a z within. c.in_err-edit.ensures.touches m b rows old.0 new.0 a z is agrees old.1 (subst (λ n. IsHeight c.args.p.now.chunk c.args.p.now.width n new.0) bytes new.1) within))

pub returns-in_err-edit-clause-good : goal.returns-in_err-edit-clause-good
returns-in_err-edit-clause-good g c = Wrote-good g.S.X.BlockHash.block32 IsSave ((g.S.Store.seen c.args.store.now).told) ((g.S.Store.seen c.edit.new.store).told) c.in_err-edit.ensures.saves.1

pub returns-clause-good : goal.returns-clause-good
returns-clause-good g c = Wrote-good g.S.X.BlockHash.block32 IsSave ((g.S.Store.seen c.args.store.now).told) ((g.S.Store.seen c.edit.new.store).told) c.in_ok-edit.ensures.saves.1

pub returns-then-is_empty-clause-no_other : goal.returns-then-is_empty-clause-no_other
returns-then-is_empty-clause-no_other g c = λ m b height is stays. SavesAmong-refl g.S.X.BlockHash.block32 (file_plan g.S.X.BlockHash.block32 c.args.p.now m (laid b c.args.offset c.args.piece.now)).blocks (g.S.Store.seen c.args.store.now).told

pub returns-in_err-edit-clause-no_other : goal.returns-in_err-edit-clause-no_other
returns-in_err-edit-clause-no_other g c = λ m b height is stays.
    subst (λ (l : List ℕ). SavesAmong g.S.X.BlockHash.block32 (file_plan g.S.X.BlockHash.block32 c.args.p.now m l).blocks (g.S.Store.seen c.args.store.now).told (g.S.Store.seen c.edit.new.store).told) (changed-laid b c.args.offset c.args.piece.now (some_bytes (length c.args.piece.now) c.is_empty.result c.is_empty.ensures c.if-is_empty.false))
    (c.in_err-edit.ensures.no_other m b height is stays)

pub returns-clause-no_other : goal.returns-clause-no_other
returns-clause-no_other g c = λ m b height is stays.
    subst (λ (l : List ℕ). SavesAmong g.S.X.BlockHash.block32 (file_plan g.S.X.BlockHash.block32 c.args.p.now m l).blocks (g.S.Store.seen c.args.store.now).told (g.S.Store.seen c.edit.new.store).told) (changed-laid b c.args.offset c.args.piece.now (some_bytes (length c.args.piece.now) c.is_empty.result c.is_empty.ensures c.if-is_empty.false))
    (c.in_ok-edit.ensures.no_other m b height is stays)
