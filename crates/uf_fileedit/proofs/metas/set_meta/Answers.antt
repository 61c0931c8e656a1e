use Rattle.uf_fileedit.proofs.Saving.{meta-saves}
use Rattle.uf_tree.specs.FilePlan.{file_plan}
use Rattle.uf_store.proofs.Among.{SavesAmong-same}
use Rattle.uf_store.specs.Writing.{IsSave}
use Rattle.uf_store.proofs.Writing.{Wrote-good}
use Rattle.std.proofs.Common.{◌≡◌, subst, sym, ◌∙◌}
use Rattle.std.proofs.lemmas.Bool.{false≢true}
use Rattle.std.proofs.lemmas.Result.{err_from_is_err_and}
use Rattle.uf_store.specs.Contents.{Told}
use Rattle.uf_store.specs.Keeping.{KeepsGood}
use Rattle.uf_store.proofs.Keeping.{KeepsGood-refl}
use Rattle.uf_fileedit.proofs.Roots.{entry-same, entry-set, known-same, known-set, root-alone, set-after, set-held}
use Rattle.uf_fileedit.proofs.SameMeta.{meta-decides}
use Rattle.uf_fileedit.proofs.metas.set_meta.Goals as goal

pub returns-in_err-root-clause-value : goal.returns-in_err-root-clause-value
returns-in_err-root-clause-value g c = λ p m b height is entry agrees stood clash.
    let out = err_from_is_err_and c.from_residual.result c.from_residual.ensures.1 in rw (out.1, out.2) (c.in_err-root.ensures.gives.1 p m b height is (root-alone g.S.X.BlockHash.block32 (record { size = g.met.S.X.BlockHash.size; are_bytes = g.met.S.X.BlockHash.are_bytes }) p m b c.args.entry.now.cid height is (g.S.Store.seen c.args.store.now).told agrees) stood)

pub returns-then-eq-clause-value : goal.returns-then-eq-clause-value
returns-then-eq-clause-value g c = λ p m b height is entry agrees stood clash.
    let same : c.in_ok-root.root.meta ≡ c.args.meta.now = (meta-decides c.in_ok-root.root.meta c.args.meta.now).0 (sym c.eq.ensures ∙ c.if-eq.true) in
    entry-same g.S.X.BlockHash.block32 (record { size = g.met.S.X.BlockHash.size; are_bytes = g.met.S.X.BlockHash.are_bytes }) p m b c.args.entry.now.cid height is c.args.meta.now c.args.entry.now c.in_ok-root.root (c.in_ok-root.ensures.gives.0 p m b height is (root-alone g.S.X.BlockHash.block32 (record { size = g.met.S.X.BlockHash.size; are_bytes = g.met.S.X.BlockHash.are_bytes }) p m b c.args.entry.now.cid height is (g.S.Store.seen c.args.store.now).told agrees)) same entry

pub returns-then-eq-clause-after : goal.returns-then-eq-clause-after
returns-then-eq-clause-after g c = λ p m b height is entry stays.
    let same : c.in_ok-root.root.meta ≡ c.args.meta.now = (meta-decides c.in_ok-root.root.meta c.args.meta.now).0 (sym c.eq.ensures ∙ c.if-eq.true) in
    set-after g.S.X.BlockHash.block32 (record { size = g.met.S.X.BlockHash.size; are_bytes = g.met.S.X.BlockHash.are_bytes }) p m b c.args.entry.now.cid height is (g.S.Store.seen c.args.store.now).told (g.S.Store.seen c.load_root.new.store).told stays.first (subst (λ (t : Told). KeepsGood g.S.X.BlockHash.block32 (g.S.Store.seen c.args.store.now).told t) (sym c.in_ok-root.ensures.told) (KeepsGood-refl g.S.X.BlockHash.block32 (g.S.Store.seen c.args.store.now).told)) c.args.meta.now stays.last (known-same g.S.X.BlockHash.block32 (record { size = g.met.S.X.BlockHash.size; are_bytes = g.met.S.X.BlockHash.are_bytes }) p m b c.args.entry.now.cid height is (g.S.Store.seen c.args.store.now).told (g.S.Store.seen c.load_root.new.store).told stays.first (subst (λ (t : Told). KeepsGood g.S.X.BlockHash.block32 (g.S.Store.seen c.args.store.now).told t) (sym c.in_ok-root.ensures.told) (KeepsGood-refl g.S.X.BlockHash.block32 (g.S.Store.seen c.args.store.now).told)) c.args.meta.now c.in_ok-root.root (c.in_ok-root.ensures.gives.0 p m b height is (root-alone g.S.X.BlockHash.block32 (record { size = g.met.S.X.BlockHash.size; are_bytes = g.met.S.X.BlockHash.are_bytes }) p m b c.args.entry.now.cid height is (g.S.Store.seen c.args.store.now).told stays.first)) same)

pub returns-then-eq-clause-held : goal.returns-then-eq-clause-held
returns-then-eq-clause-held g c = λ p m b height is entry agrees holds.
    let same : c.in_ok-root.root.meta ≡ c.args.meta.now = (meta-decides c.in_ok-root.root.meta c.args.meta.now).0 (sym c.eq.ensures ∙ c.if-eq.true) in
    set-held g.S.X.BlockHash.block32 (record { size = g.met.S.X.BlockHash.size; are_bytes = g.met.S.X.BlockHash.are_bytes }) p m b c.args.entry.now.cid height is (g.S.Store.seen c.args.store.now).told (g.S.Store.seen c.load_root.new.store).told agrees (subst (λ (t : Told). KeepsGood g.S.X.BlockHash.block32 (g.S.Store.seen c.args.store.now).told t) (sym c.in_ok-root.ensures.told) (KeepsGood-refl g.S.X.BlockHash.block32 (g.S.Store.seen c.args.store.now).told)) c.args.meta.now holds (known-same g.S.X.BlockHash.block32 (record { size = g.met.S.X.BlockHash.size; are_bytes = g.met.S.X.BlockHash.are_bytes }) p m b c.args.entry.now.cid height is (g.S.Store.seen c.args.store.now).told (g.S.Store.seen c.load_root.new.store).told agrees (subst (λ (t : Told). KeepsGood g.S.X.BlockHash.block32 (g.S.Store.seen c.args.store.now).told t) (sym c.in_ok-root.ensures.told) (KeepsGood-refl g.S.X.BlockHash.block32 (g.S.Store.seen c.args.store.now).told)) c.args.meta.now c.in_ok-root.root (c.in_ok-root.ensures.gives.0 p m b height is (root-alone g.S.X.BlockHash.block32 (record { size = g.met.S.X.BlockHash.size; are_bytes = g.met.S.X.BlockHash.are_bytes }) p m b c.args.entry.now.cid height is (g.S.Store.seen c.args.store.now).told agrees)) same)

pub returns-clause-value : goal.returns-clause-value
returns-clause-value g c = λ p m b height is entry agrees stood clash.
    entry-set g.S.X.BlockHash.block32 (record { size = g.met.S.X.BlockHash.size; are_bytes = g.met.S.X.BlockHash.are_bytes }) p m b c.args.entry.now.cid height is c.args.meta.now c.in_ok-part.part c.in_ok-root.root c.as_slice.result.now (c.in_ok-root.ensures.gives.0 p m b height is (root-alone g.S.X.BlockHash.block32 (record { size = g.met.S.X.BlockHash.size; are_bytes = g.met.S.X.BlockHash.are_bytes }) p m b c.args.entry.now.cid height is (g.S.Store.seen c.args.store.now).told agrees)) c.as_slice.ensures c.in_ok-part.ensures.part

pub returns-clause-after : goal.returns-clause-after
returns-clause-after g c = λ p m b height is entry stays.
    set-after g.S.X.BlockHash.block32 (record { size = g.met.S.X.BlockHash.size; are_bytes = g.met.S.X.BlockHash.are_bytes }) p m b c.args.entry.now.cid height is (g.S.Store.seen c.args.store.now).told (g.S.Store.seen c.save_over.new.store).told stays.first (subst (λ (t : Told). KeepsGood g.S.X.BlockHash.block32 t (g.S.Store.seen c.save_over.new.store).told) c.in_ok-root.ensures.told (Wrote-good g.S.X.BlockHash.block32 IsSave ((g.S.Store.seen c.load_root.new.store).told) ((g.S.Store.seen c.save_over.new.store).told) c.in_ok-part.ensures.saves.2)) c.args.meta.now stays.last (known-set g.S.X.BlockHash.block32 (record { size = g.met.S.X.BlockHash.size; are_bytes = g.met.S.X.BlockHash.are_bytes }) p m b c.args.entry.now.cid height is (g.S.Store.seen c.args.store.now).told (g.S.Store.seen c.save_over.new.store).told stays.first (subst (λ (t : Told). KeepsGood g.S.X.BlockHash.block32 t (g.S.Store.seen c.save_over.new.store).told) c.in_ok-root.ensures.told (Wrote-good g.S.X.BlockHash.block32 IsSave ((g.S.Store.seen c.load_root.new.store).told) ((g.S.Store.seen c.save_over.new.store).told) c.in_ok-part.ensures.saves.2)) c.args.meta.now c.in_ok-root.root c.as_slice.result.now (c.in_ok-root.ensures.gives.0 p m b height is (root-alone g.S.X.BlockHash.block32 (record { size = g.met.S.X.BlockHash.size; are_bytes = g.met.S.X.BlockHash.are_bytes }) p m b c.args.entry.now.cid height is (g.S.Store.seen c.args.store.now).told stays.first)) c.as_slice.ensures c.in_ok-part.ensures.held)

pub returns-clause-held : goal.returns-clause-held
returns-clause-held g c = λ p m b height is entry agrees holds.
    set-held g.S.X.BlockHash.block32 (record { size = g.met.S.X.BlockHash.size; are_bytes = g.met.S.X.BlockHash.are_bytes }) p m b c.args.entry.now.cid height is (g.S.Store.seen c.args.store.now).told (g.S.Store.seen c.save_over.new.store).told agrees (subst (λ (t : Told). KeepsGood g.S.X.BlockHash.block32 t (g.S.Store.seen c.save_over.new.store).told) c.in_ok-root.ensures.told (Wrote-good g.S.X.BlockHash.block32 IsSave ((g.S.Store.seen c.load_root.new.store).told) ((g.S.Store.seen c.save_over.new.store).told) c.in_ok-part.ensures.saves.2)) c.args.meta.now holds (known-set g.S.X.BlockHash.block32 (record { size = g.met.S.X.BlockHash.size; are_bytes = g.met.S.X.BlockHash.are_bytes }) p m b c.args.entry.now.cid height is (g.S.Store.seen c.args.store.now).told (g.S.Store.seen c.save_over.new.store).told agrees (subst (λ (t : Told). KeepsGood g.S.X.BlockHash.block32 t (g.S.Store.seen c.save_over.new.store).told) c.in_ok-root.ensures.told (Wrote-good g.S.X.BlockHash.block32 IsSave ((g.S.Store.seen c.load_root.new.store).told) ((g.S.Store.seen c.save_over.new.store).told) c.in_ok-part.ensures.saves.2)) c.args.meta.now c.in_ok-root.root c.as_slice.result.now (c.in_ok-root.ensures.gives.0 p m b height is (root-alone g.S.X.BlockHash.block32 (record { size = g.met.S.X.BlockHash.size; are_bytes = g.met.S.X.BlockHash.are_bytes }) p m b c.args.entry.now.cid height is (g.S.Store.seen c.args.store.now).told agrees)) c.as_slice.ensures c.in_ok-part.ensures.held)

pub returns-clause-same : goal.returns-clause-same
returns-clause-same g c = λ p b height is agrees.
    absurd (false≢true (sym c.if-eq.false ∙ c.eq.ensures ∙ (meta-decides c.in_ok-root.root.meta c.args.meta.now).1 (c.in_ok-root.ensures.gives.0 p c.args.meta.now b height is (root-alone g.S.X.BlockHash.block32 (record { size = g.met.S.X.BlockHash.size; are_bytes = g.met.S.X.BlockHash.are_bytes }) p c.args.meta.now b c.args.entry.now.cid height is (g.S.Store.seen c.args.store.now).told agrees)).meta_is))

pub returns-clause-good : goal.returns-clause-good
returns-clause-good g c = subst (λ (t : Told). KeepsGood g.S.X.BlockHash.block32 t ((g.S.Store.seen c.save_over.new.store).told)) c.in_ok-root.ensures.told (Wrote-good g.S.X.BlockHash.block32 IsSave ((g.S.Store.seen c.load_root.new.store).told) ((g.S.Store.seen c.save_over.new.store).told) c.in_ok-part.ensures.saves.2)

pub returns-in_err-root-clause-no_other : goal.returns-in_err-root-clause-no_other
returns-in_err-root-clause-no_other g c = λ p m b height is agrees. SavesAmong-same g.S.X.BlockHash.block32 (file_plan g.S.X.BlockHash.block32 p c.args.meta.now b).blocks (g.S.Store.seen c.args.store.now).told (g.S.Store.seen c.load_root.new.store).told c.in_err-root.ensures.told

pub returns-then-eq-clause-no_other : goal.returns-then-eq-clause-no_other
returns-then-eq-clause-no_other g c = λ p m b height is agrees. SavesAmong-same g.S.X.BlockHash.block32 (file_plan g.S.X.BlockHash.block32 p c.args.meta.now b).blocks (g.S.Store.seen c.args.store.now).told (g.S.Store.seen c.load_root.new.store).told c.in_ok-root.ensures.told

pub returns-in_err-part-clause-no_other : goal.returns-in_err-part-clause-no_other
returns-in_err-part-clause-no_other g c = λ p m b height is agrees.
    meta-saves g.S.X.BlockHash.block32 p m c.args.meta.now b c.in_ok-root.root c.as_slice.result.now (g.S.Store.seen c.args.store.now).told (g.S.Store.seen c.load_root.new.store).told (g.S.Store.seen c.save_over.new.store).told (c.in_ok-root.ensures.gives.0 p m b height is (root-alone g.S.X.BlockHash.block32 (record { size = g.met.S.X.BlockHash.size; are_bytes = g.met.S.X.BlockHash.are_bytes }) p m b c.args.entry.now.cid height is (g.S.Store.seen c.args.store.now).told agrees)) c.as_slice.ensures c.in_ok-root.ensures.told c.in_err-part.ensures.no_other

pub returns-clause-no_other : goal.returns-clause-no_other
returns-clause-no_other g c = λ p m b height is agrees.
    meta-saves g.S.X.BlockHash.block32 p m c.args.meta.now b c.in_ok-root.root c.as_slice.result.now (g.S.Store.seen c.args.store.now).told (g.S.Store.seen c.load_root.new.store).told (g.S.Store.seen c.save_over.new.store).told (c.in_ok-root.ensures.gives.0 p m b height is (root-alone g.S.X.BlockHash.block32 (record { size = g.met.S.X.BlockHash.size; are_bytes = g.met.S.X.BlockHash.are_bytes }) p m b c.args.entry.now.cid height is (g.S.Store.seen c.args.store.now).told agrees)) c.as_slice.ensures c.in_ok-root.ensures.told c.in_ok-part.ensures.no_other
