use Rattle.std.proofs.Common.{◌≡◌, ◌∙◌, ℕ, [], ◌∷◌, length, length-append, ap, arith, refl, subst, sym, Ok, Err}
use Rattle.std.proofs.lemmas.Result.{err_from_is_err_and}
use Rattle.uf_store.specs.Contents.{held_at}
use Rattle.uf_store.specs.declared.store.StoreFault.TheVariants.{Memory}
use Rattle.uf_walk.specs.Order.{OverMost, order}
use Rattle.uf_pull.specs.declared.fault.PullFault.TheVariants as fault
use Rattle.uf_pull.specs.Pulling.{PullsOn, Stand, at_first, stand, with_all}
use Rattle.uf_pull.proofs.Courses.{has_ended, is_over}
use Rattle.uf_pull.proofs.Going.{closes_now, on_handed, over_now, starts, stops_now, unclosed, visit_goes, visit_refuses}
use Rattle.uf_pull.proofs.Pullings.{pulls-none, pulls-pulls}
use Rattle.uf_pull.proofs.Written.{bytes-same, bytes-then}
use Rattle.uf_pull.proofs.pulling.pull_all.Goals as goal

pub rest-init : goal.rest-init
rest-init g c =
    let peer = c.requires.first in
    let more = ap (λ (s : Stand). s.more) peer in
    let place = ap (λ (s : Stand). s.place) peer in
    let added = ap (λ (s : Stand). s.added) peer in
    let none = ap length c.requires.handed in
    record {
      due = c.requires.due;
      most = refl;
      place = record { some = omega (arith, more); few = omega (arith, place) };
      few = omega (arith, added);
      within = omega (arith, none);
      goes = λ t bytes root is left on.
          subst (λ (s : Stand). PullsOn g.S.X.BlockHash.block32 c.args.walk.now.most root at_first t bytes (g.O.Sink.holds c.args.out.now) s c.args.walk.now (g.S.Store.seen c.args.store.now).told (g.I.Source.left c.args.input.now) (g.O.Sink.holds c.args.out.now))
          (sym peer)
          (starts g.S.X.BlockHash.block32 c.args.walk.now.most root at_first t bytes c.args.walk.now _ _ _ _ is left refl on);
      some = bytes-same _ _ refl;
      pulls = pulls-none g.S.X.BlockHash.block32 (g.S.Store.seen c.args.store.now);
      source = refl;
      sink = refl;
    }

pub returns-in_err-advance-clause-pulls : goal.returns-in_err-advance-clause-pulls
returns-in_err-advance-clause-pulls g c = λ t bytes root is left on.
    let out = err_from_is_err_and c.from_residual.result c.from_residual.ensures.1 in
    let inv = c.rest.invariant in
    let far = inv.goes t bytes root is left on in
    rw (out.1, out.2) (stops_now _ _ _ _ _ _ _ _ _ _ _ _ far (fault.Store Memory) (omega (arith, far.added, inv.few, inv.within)) refl)

pub returns-in_err-close-in-End-clause-pulls : goal.returns-in_err-close-in-End-clause-pulls
returns-in_err-close-in-End-clause-pulls g c = λ t bytes root is left on.
    let out = err_from_is_err_and c.from_residual-in_err-close-in-End.result c.from_residual-in_err-close-in-End.ensures.1 in
    let inv = c.rest.invariant in
    let far = inv.goes t bytes root is left on in
    let ends = rw c.in-End.is at c.in_ok-advance.ensures in
    let whole = subst (λ (m : ℕ). order (held_at (with_all far.blocks t)) m root ≡ Ok c.rest.walk.handed) inv.most (has_ended root (held_at (with_all far.blocks t)) c.rest.walk far.on_course c.advance.new.self ends) in
    rw (out.1, out.2) (unclosed _ _ _ _ _ _ _ _ _ _ _ _ far c.rest.walk.handed (omega (arith, far.added, inv.few, inv.within)) whole c.in_err-close-in-End.field-0.0 _ _ _ (c.in_err-close-in-End.ensures.closes (with_all far.blocks t) far.kept))

pub returns-in_err-close-in-End-clause-some : goal.returns-in_err-close-in-End-clause-some
returns-in_err-close-in-End-clause-some g c = bytes-then _ _ _ c.rest.invariant.some c.in_err-close-in-End.ensures.some

pub returns-in_err-close-in-End-clause-keeps : goal.returns-in_err-close-in-End-clause-keeps
returns-in_err-close-in-End-clause-keeps g c =
    let out = err_from_is_err_and c.from_residual-in_err-close-in-End.result c.from_residual-in_err-close-in-End.ensures.1 in
    rw (out.1, out.2) (pulls-pulls g.S.X.BlockHash.block32 _ _ _ _ c.rest.invariant.pulls c.in_err-close-in-End.ensures.pulls)

pub returns-in-End-clause-pulls : goal.returns-in-End-clause-pulls
returns-in-End-clause-pulls g c = λ t bytes root is left on.
    let inv = c.rest.invariant in
    let far = inv.goes t bytes root is left on in
    let ends = rw c.in-End.is at c.in_ok-advance.ensures in
    let whole = subst (λ (m : ℕ). order (held_at (with_all far.blocks t)) m root ≡ Ok c.rest.walk.handed) inv.most (has_ended root (held_at (with_all far.blocks t)) c.rest.walk far.on_course c.advance.new.self ends) in
    closes_now _ _ _ _ _ _ _ _ _ _ _ _ far c.rest.walk.handed (omega (arith, far.added, inv.few, inv.within)) whole _ _ _ refl refl (c.in_ok-close-in-End.ensures.closes (with_all far.blocks t) far.kept) refl

pub returns-in-End-clause-some : goal.returns-in-End-clause-some
returns-in-End-clause-some g c = bytes-then _ _ _ c.rest.invariant.some c.in_ok-close-in-End.ensures.some

pub returns-in-End-clause-keeps : goal.returns-in-End-clause-keeps
returns-in-End-clause-keeps g c = pulls-pulls g.S.X.BlockHash.block32 _ _ _ _ c.rest.invariant.pulls c.in_ok-close-in-End.ensures.pulls

pub returns-in-TooMany-clause-pulls : goal.returns-in-TooMany-clause-pulls
returns-in-TooMany-clause-pulls g c = λ t bytes root is left on.
    let inv = c.rest.invariant in
    let far = inv.goes t bytes root is left on in
    let full = rw c.in-TooMany.is at c.in_ok-advance.ensures in
    over_now _ _ _ _ _ _ _ _ _ _ _ _ far (omega (arith, far.added, inv.few, inv.within))
    (subst (λ (m : ℕ). order (held_at (with_all far.blocks t)) m root ≡ Err OverMost) inv.most (is_over root (held_at (with_all far.blocks t)) c.rest.walk far.on_course c.advance.new.self full))

pub visit-requires-clause-few : goal.visit-requires-clause-few
visit-requires-clause-few g c =
    let inv = c.rest.invariant in
    let hands = rw c.in-At.is at c.in_ok-advance.ensures in
    omega (arith, c.requires.most, inv.few, inv.most, hands.fits)

pub returns-in_err-visit-in-At-clause-pulls : goal.returns-in_err-visit-in-At-clause-pulls
returns-in_err-visit-in-At-clause-pulls g c = λ t bytes root is left on.
    let out = err_from_is_err_and c.from_residual-in_err-visit-in-At.result c.from_residual-in_err-visit-in-At.ensures.1 in
    let inv = c.rest.invariant in
    let far = inv.goes t bytes root is left on in
    let hands = rw c.in-At.is at c.in_ok-advance.ensures in
    let handed = on_handed _ _ _ _ _ _ _ _ _ _ _ _ far c.in-At.next c.advance.new.self hands inv.most inv.few refl in
    rw (out.1, out.2) (visit_refuses _ _ _ _ _ _ _ _ _ _ _ _ far c.in-At.next c.advance.new.self hands inv.most inv.few refl c.in_err-visit-in-At.field-0.0 (stand c.visit.new.peer) c.visit.new.walk _ (g.I.Source.left c.visit.new.input) _
    (c.in_err-visit-in-At.ensures.visits (with_all far.blocks t) far.rest root far.kept far.left handed))

pub returns-in_err-visit-in-At-clause-some : goal.returns-in_err-visit-in-At-clause-some
returns-in_err-visit-in-At-clause-some g c = bytes-then _ _ _ c.rest.invariant.some c.in_err-visit-in-At.ensures.some

pub returns-in_err-visit-in-At-clause-keeps : goal.returns-in_err-visit-in-At-clause-keeps
returns-in_err-visit-in-At-clause-keeps g c =
    let out = err_from_is_err_and c.from_residual-in_err-visit-in-At.result c.from_residual-in_err-visit-in-At.ensures.1 in
    rw (out.1, out.2) (pulls-pulls g.S.X.BlockHash.block32 _ _ _ _ c.rest.invariant.pulls c.in_err-visit-in-At.ensures.pulls)

pub rest-preserved : goal.rest-preserved
rest-preserved g c =
    let inv = c.rest.invariant in
    let hands = rw c.in-At.is at c.in_ok-advance.ensures in
    let did = c.in_ok-visit-in-At.ensures in
    let more = ap length (did.steps.taken.same_handed ∙ hands.handed) ∙ length-append c.rest.walk.handed (c.in-At.next ∷ []) in
    record {
      due = did.steps.taken.due;
      most = did.steps.taken.same_most ∙ hands.same_most ∙ inv.most;
      place = did.place;
      few = omega (arith, more, inv.few, did.steps.few);
      within = omega (arith, more, hands.fits, inv.most);
      goes = λ t bytes root is left on.
          let far = inv.goes t bytes root is left on in
          let handed = on_handed _ _ _ _ _ _ _ _ _ _ _ _ far c.in-At.next c.advance.new.self hands inv.most inv.few refl in
          visit_goes _ _ _ _ _ _ _ _ _ _ _ _ far c.in-At.next c.advance.new.self hands inv.most inv.few refl _ _ _ _ _ (did.visits (with_all far.blocks t) far.rest root far.kept far.left handed);
      some = bytes-then _ _ _ inv.some did.some;
      pulls = pulls-pulls g.S.X.BlockHash.block32 _ _ _ _ inv.pulls did.pulls;
      source = did.reads.still refl ∙ inv.source;
      sink = did.writes.still refl ∙ inv.sink;
    }
