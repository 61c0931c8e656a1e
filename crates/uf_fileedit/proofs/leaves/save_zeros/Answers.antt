use Rattle.uf_fileedit.specs.Changes.{overlaid}
use Rattle.uf_tree.specs.FilePlan.{leaf_held}
use Rattle.uf_store.proofs.Among.{SavesAmong-refl}
use Rattle.uf_store.specs.Among.{SavesAmong}
use Rattle.std.proofs.Common.{◌∙◌, arith, List, ℕ, [], ◌∷◌, subst}
use Rattle.uf_fileedit.proofs.Steps.{zeros-saved}
use Rattle.uf_fileedit.proofs.leaves.save_zeros.Goals as goal

pub returns-clause-blank : goal.returns-clause-blank
returns-clause-blank g c = λ p. zeros-saved g.S.X.BlockHash.block32 p (g.S.Store.seen c.save_leaf.new.store).told c.args.chunk c.as_slice.result.now c.in_ok-save_leaf.field-0 c.in_ok-save_leaf.ensures.part c.in_ok-save_leaf.ensures.held (c.as_slice.ensures.value ∙ c.in_ok-bytes.ensures.bytes)

pub returns-clause-none : goal.returns-clause-none
returns-clause-none g c = λ h. absurd (let high = c.if-to-saturating_add.false in let end = c.saturating_add.ensures in let least = c.max.ensures in let two = c.from-two.ensures in let some = c.requires.some in let small = c.requires.from in let few = c.requires.few in omega arith)

pub returns-in_err-save_leaf-clause-none : goal.returns-in_err-save_leaf-clause-none
returns-in_err-save_leaf-clause-none g c = λ h. absurd (let high = c.if-to-saturating_add.false in let end = c.saturating_add.ensures in let least = c.max.ensures in let two = c.from-two.ensures in let some = c.requires.some in let small = c.requires.from in let few = c.requires.few in omega arith)

pub returns-then-to-saturating_add-clause-no_other : goal.returns-then-to-saturating_add-clause-no_other
returns-then-to-saturating_add-clause-no_other g c = SavesAmong-refl g.S.X.BlockHash.block32 (leaf_held g.S.X.BlockHash.block32 (overlaid c.args.chunk [] 0 []) ∷ []) (g.S.Store.seen c.args.store.now).told

pub returns-in_err-bytes-clause-no_other : goal.returns-in_err-bytes-clause-no_other
returns-in_err-bytes-clause-no_other g c = SavesAmong-refl g.S.X.BlockHash.block32 (leaf_held g.S.X.BlockHash.block32 (overlaid c.args.chunk [] 0 []) ∷ []) (g.S.Store.seen c.args.store.now).told

pub returns-in_err-save_leaf-clause-no_other : goal.returns-in_err-save_leaf-clause-no_other
returns-in_err-save_leaf-clause-no_other g c = subst (λ (l : List ℕ). SavesAmong g.S.X.BlockHash.block32 (leaf_held g.S.X.BlockHash.block32 l ∷ []) (g.S.Store.seen c.args.store.now).told (g.S.Store.seen c.save_leaf.new.store).told) (c.as_slice.ensures.value ∙ c.in_ok-bytes.ensures.bytes) c.in_err-save_leaf.ensures.no_other

pub returns-clause-no_other : goal.returns-clause-no_other
returns-clause-no_other g c = subst (λ (l : List ℕ). SavesAmong g.S.X.BlockHash.block32 (leaf_held g.S.X.BlockHash.block32 l ∷ []) (g.S.Store.seen c.args.store.now).told (g.S.Store.seen c.save_leaf.new.store).told) (c.as_slice.ensures.value ∙ c.in_ok-bytes.ensures.bytes) c.in_ok-save_leaf.ensures.no_other
