use Rattle.std.proofs.Common.{◌≡◌, ◌+◌, ℕ, List, ◌++◌, sym, subst}
use Rattle.uf_tree.specs.declared.profile.Profile.{Profile}
use Rattle.uf_tree.proofs.Told.{kept}
use Rattle.uf_build.specs.Building.{Any, Building, Builds, IsHeld, HasFed, HoldsFed, SavesForBytes, SavesUpTo, saved_by}
use Rattle.uf_build.specs.Rows.{saved_all, groups_in}
use Rattle.uf_build.proofs.Among.{front-same}
use Rattle.uf_build.proofs.Ending.{up-to-none, up-to-done, most-by}
use Rattle.uf_build.proofs.builder.Builder.feed.Goals as goal

pub returns-clause-fed : goal.returns-clause-fed
unfolding HasFed
returns-clause-fed g c = λ bytes h.
    let hash : List ℕ → List ℕ = g.S.X.BlockHash.block32 in
    let before = subst (λ (b : Building). Builds hash Any b.profile bytes b.begun b.rows) (sym c.self.view_is) h in
    subst (λ (p : Profile). Builds hash Any p (bytes ++ c.args.piece.now) c.take.new.self.begun.items (groups_in c.take.new.self.opened)) (sym c.in_ok-take.ensures.took.same_profile)
    (c.in_ok-take.ensures.took.feeds.fed bytes before)

pub returns-clause-held : goal.returns-clause-held
unfolding HoldsFed
returns-clause-held g c = λ bytes h.
    let hash : List ℕ → List ℕ = g.S.X.BlockHash.block32 in
    let told = (g.S.Store.seen c.args.store.now).told in
    let told_now = (g.S.Store.seen c.take.new.store).told in
    let before = subst (λ (b : Building). Builds hash (IsHeld told) b.profile bytes b.begun b.rows) (sym c.self.view_is) h in
    subst (λ (p : Profile). Builds hash (IsHeld told_now) p (bytes ++ c.args.piece.now) c.take.new.self.begun.items (groups_in c.take.new.self.opened)) (sym c.in_ok-take.ensures.took.same_profile)
    (c.in_ok-take.ensures.took.feeds.held bytes before)

pub returns-clause-saved : goal.returns-clause-saved
unfolding saved_by
returns-clause-saved g c =
    subst (λ (b : Building). c.take.new.touches + saved_all b.profile.width b.rows ≡ c.args.touches.now + saved_all c.take.new.self.profile.width (groups_in c.take.new.self.opened)) c.self.view_is
    (subst (λ (p : Profile). c.take.new.touches + saved_all c.self.inside.layout.profile.width (groups_in c.self.inside.layout.opened) ≡ c.args.touches.now + saved_all p.width (groups_in c.take.new.self.opened))
    (sym c.in_ok-take.ensures.took.same_profile) c.in_ok-take.ensures.took.feeds.saves)

pub returns-then-self-clause-most : goal.returns-then-self-clause-most
returns-then-self-clause-most g c =
    let l = c.self.inside.layout in
    let p = kept l.profile c.self.invariant.profile in
    most-by g.S.X.BlockHash.block32 c.args.self.now c.args.piece.now c.args.touches.now c.args.touches.now
    (subst (λ (b : Building). SavesUpTo g.S.X.BlockHash.block32 b.profile c.args.piece.now b.begun b.rows c.args.touches.now c.args.touches.now) c.self.view_is
    (up-to-none g.S.X.BlockHash.block32 l.profile p.some p.two c.args.piece.now l.begun.items (groups_in l.opened) c.args.touches.now))

pub returns-then-more-most-clause-most : goal.returns-then-more-most-clause-most
returns-then-more-most-clause-most g c =
    let l = c.self.inside.layout in
    let p = kept l.profile c.self.invariant.profile in
    most-by g.S.X.BlockHash.block32 c.args.self.now c.args.piece.now c.args.touches.now c.args.touches.now
    (subst (λ (b : Building). SavesUpTo g.S.X.BlockHash.block32 b.profile c.args.piece.now b.begun b.rows c.args.touches.now c.args.touches.now) c.self.view_is
    (up-to-none g.S.X.BlockHash.block32 l.profile p.some p.two c.args.piece.now l.begun.items (groups_in l.opened) c.args.touches.now))

pub returns-clause-most : goal.returns-clause-most
returns-clause-most g c =
    let l = c.self.inside.layout in
    let p = kept l.profile c.self.invariant.profile in
    most-by g.S.X.BlockHash.block32 c.args.self.now c.args.piece.now c.args.touches.now c.take.new.touches
    (subst (λ (b : Building). SavesUpTo g.S.X.BlockHash.block32 b.profile c.args.piece.now b.begun b.rows c.args.touches.now c.take.new.touches) c.self.view_is
    (up-to-done g.S.X.BlockHash.block32 l.profile p.some p.two c.args.piece.now l.begun.items c.take.new.self.begun.items (groups_in l.opened) (groups_in c.take.new.self.opened) _ _ c.args.touches.now c.take.new.touches
    c.in_ok-take.ensures.took.feeds))

pub returns-in_err-take-clause-most : goal.returns-in_err-take-clause-most
returns-in_err-take-clause-most g c =
    most-by g.S.X.BlockHash.block32 c.args.self.now c.args.piece.now c.args.touches.now c.take.new.touches
    (subst (λ (b : Building). SavesUpTo g.S.X.BlockHash.block32 b.profile c.args.piece.now b.begun b.rows c.args.touches.now c.take.new.touches) c.self.view_is c.in_err-take.ensures.stops.most)

pub returns-then-self-clause-no_other : goal.returns-then-self-clause-no_other
returns-then-self-clause-no_other g c = λ bytes h. front-same g.S.X.BlockHash.block32 c.args.self.now.profile (bytes ++ c.args.piece.now) (g.S.Store.seen c.args.store.now).told

pub returns-then-more-most-clause-no_other : goal.returns-then-more-most-clause-no_other
returns-then-more-most-clause-no_other g c = λ bytes h. front-same g.S.X.BlockHash.block32 c.args.self.now.profile (bytes ++ c.args.piece.now) (g.S.Store.seen c.args.store.now).told

pub returns-clause-no_other : goal.returns-clause-no_other
unfolding HasFed
returns-clause-no_other g c = λ bytes h.
    subst (λ (b : Building). SavesForBytes g.S.X.BlockHash.block32 b.profile c.args.piece.now b.begun b.rows (g.S.Store.seen c.args.store.now).told (g.S.Store.seen c.take.new.store).told) c.self.view_is
    c.in_ok-take.ensures.took.feeds.no_other bytes h

pub returns-in_err-take-clause-no_other : goal.returns-in_err-take-clause-no_other
unfolding HasFed
returns-in_err-take-clause-no_other g c = λ bytes h.
    subst (λ (b : Building). SavesForBytes g.S.X.BlockHash.block32 b.profile c.args.piece.now b.begun b.rows (g.S.Store.seen c.args.store.now).told (g.S.Store.seen c.take.new.store).told) c.self.view_is
    c.in_err-take.ensures.stops.no_other bytes h
