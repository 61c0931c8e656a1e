use Rattle.std.proofs.Common.{◌≡◌, ◌+◌, ◌≤◌, ℕ, List, length, subst, arith}
use Rattle.uf_store.specs.Keeping.{Holds}
use Rattle.uf_store.specs.Among.{SavesAmong}
use Rattle.uf_store.proofs.Among.{SavesAmong-refl}
use Rattle.uf_tree.specs.FilePlan.{file_plan}
use Rattle.uf_tree.proofs.Told.{kept}
use Rattle.uf_build.specs.Building.{Any, Building, Builds, IsHeld, HasFed, HoldsFed, saved_by}
use Rattle.uf_build.specs.Rows.{saved_all}
use Rattle.uf_build.proofs.Ending.{saved-most}
use Rattle.uf_build.proofs.builder.Builder.finish_with.Goals as goal

pub returns-clause-entry : goal.returns-clause-entry
unfolding HasFed
returns-clause-entry g c = λ bytes.
    let hash : List ℕ → List ℕ = g.S.X.BlockHash.block32 in
    subst (λ (b : Building). Builds hash Any b.profile bytes b.begun b.rows → c.in_ok-entry.entry ≡ (file_plan hash b.profile c.args.meta.now bytes).entry) c.self.view_is (c.in_ok-entry.ensures.closed.entry_is bytes)

pub returns-clause-held : goal.returns-clause-held
unfolding HoldsFed
returns-clause-held g c = λ bytes.
    let hash : List ℕ → List ℕ = g.S.X.BlockHash.block32 in
    subst (λ (b : Building). Builds hash (IsHeld (g.S.Store.seen c.args.store.now).told) b.profile bytes b.begun b.rows → Holds (g.S.Store.seen c.close.new.store).told (file_plan hash b.profile c.args.meta.now bytes).blocks)
    c.self.view_is (c.in_ok-entry.ensures.closed.held bytes)

pub returns-then-is_spent-clause-most : goal.returns-then-is_spent-clause-most
unfolding HasFed saved_by
returns-then-is_spent-clause-most g c = λ bytes.
    let hash : List ℕ → List ℕ = g.S.X.BlockHash.block32 in
    subst (λ (b : Building). Builds hash Any b.profile bytes b.begun b.rows → c.args.touches.now + saved_all b.profile.width b.rows ≤ c.args.touches.now + length (file_plan hash b.profile c.args.meta.now bytes).blocks)
    c.self.view_is (let p = kept c.self.inside.layout.profile c.self.invariant.profile in λ h. omega (arith, saved-most hash c.self.inside.layout.profile p.some p.two c.args.meta.now bytes _ _ h))

pub returns-clause-saved : goal.returns-clause-saved
unfolding HasFed saved_by
returns-clause-saved g c = λ bytes.
    let hash : List ℕ → List ℕ = g.S.X.BlockHash.block32 in
    subst (λ (b : Building). Builds hash Any b.profile bytes b.begun b.rows → c.close.new.touches + saved_all b.profile.width b.rows ≡ c.args.touches.now + length (file_plan hash b.profile c.args.meta.now bytes).blocks)
    c.self.view_is (c.in_ok-entry.ensures.closed.saved bytes)

pub returns-clause-most : goal.returns-clause-most
unfolding HasFed saved_by
returns-clause-most g c = λ bytes.
    let hash : List ℕ → List ℕ = g.S.X.BlockHash.block32 in
    subst (λ (b : Building). Builds hash Any b.profile bytes b.begun b.rows → c.close.new.touches + saved_all b.profile.width b.rows ≤ c.args.touches.now + length (file_plan hash b.profile c.args.meta.now bytes).blocks)
    c.self.view_is (c.close.ensures.most bytes)

pub returns-in_err-entry-clause-most : goal.returns-in_err-entry-clause-most
unfolding HasFed saved_by
returns-in_err-entry-clause-most g c = λ bytes.
    let hash : List ℕ → List ℕ = g.S.X.BlockHash.block32 in
    subst (λ (b : Building). Builds hash Any b.profile bytes b.begun b.rows → c.close.new.touches + saved_all b.profile.width b.rows ≤ c.args.touches.now + length (file_plan hash b.profile c.args.meta.now bytes).blocks)
    c.self.view_is (c.close.ensures.most bytes)

pub returns-then-is_spent-clause-no_other : goal.returns-then-is_spent-clause-no_other
returns-then-is_spent-clause-no_other g c = λ bytes h.
    SavesAmong-refl g.S.X.BlockHash.block32 (file_plan g.S.X.BlockHash.block32 c.args.self.profile c.args.meta.now bytes).blocks (g.S.Store.seen c.args.store.now).told

pub returns-in_err-entry-clause-no_other : goal.returns-in_err-entry-clause-no_other
unfolding HasFed
returns-in_err-entry-clause-no_other g c = λ bytes.
    let hash : List ℕ → List ℕ = g.S.X.BlockHash.block32 in
    subst (λ (b : Building). Builds hash Any b.profile bytes b.begun b.rows → SavesAmong hash (file_plan hash b.profile c.args.meta.now bytes).blocks (g.S.Store.seen c.args.store.now).told (g.S.Store.seen c.close.new.store).told)
    c.self.view_is (c.close.ensures.no_other bytes)

pub returns-clause-no_other : goal.returns-clause-no_other
unfolding HasFed
returns-clause-no_other g c = λ bytes.
    let hash : List ℕ → List ℕ = g.S.X.BlockHash.block32 in
    subst (λ (b : Building). Builds hash Any b.profile bytes b.begun b.rows → SavesAmong hash (file_plan hash b.profile c.args.meta.now bytes).blocks (g.S.Store.seen c.args.store.now).told (g.S.Store.seen c.close.new.store).told)
    c.self.view_is (c.close.ensures.no_other bytes)
