use Rattle.std.proofs.Common.{◌≡◌, ℕ, ◌*◌, ◌<◌, ◌≤◌, List, ◌++◌, length, length-append, inl, inr, arith, ap, sym, ◌∙◌, subst}
use Rattle.std.proofs.Math.Nat.{mul-le-mul_right}
use Rattle.std.proofs.lemmas.List.{append-nil}
use Rattle.std.proofs.lemmas.Result.{err_from_is_err_and}
use Rattle.uf_tree.specs.declared.profile.Profile.{Profile}
use Rattle.uf_tree.proofs.Told.{kept}
use Rattle.uf_build.specs.Building.{Feeds, SavesForBytes, SavesUpTo}
use Rattle.uf_build.specs.Layouts.{Takes}
use Rattle.uf_build.specs.Rows.{groups_in}
use Rattle.uf_build.proofs.Among.{for-behind, for-front}
use Rattle.uf_build.proofs.Calls.{builds-builds}
use Rattle.uf_build.proofs.Cutting.{goes-on, left-behind, no-length}
use Rattle.uf_build.proofs.Ending.{up-to-behind, up-to-front}
use Rattle.uf_build.proofs.Feeding.{Feeds-trans}
use Rattle.uf_build.proofs.Holding.{on_err_given}
use Rattle.uf_build.proofs.layout.Layout.save_pieces.Goals as goal

pub returns-in_err-save_group-clause-builds : goal.returns-in_err-save_group-clause-builds
returns-in_err-save_group-clause-builds g c =
    let out = err_from_is_err_and c.from_residual.result c.from_residual.ensures.1 in
    rw (out.1, out.2) (builds-builds c.loop-left.invariant.builds c.in_err-save_group.ensures.builds)

pub loop-left-preserved : goal.loop-left-preserved
loop-left-preserved g c =
    let hash : List ℕ → List ℕ = g.S.X.BlockHash.block32 in
    let p = c.args.self.now.profile in
    let two = (kept c.args.self.now.profile c.requires.can.profile).two in
    let before = (g.S.Store.seen c.args.store.now).told in
    let mid = (g.S.Store.seen c.loop-left.store).told in
    let now = (g.S.Store.seen c.save_group.new.store).told in
    let took = c.loop-left.invariant.took in
    let group = subst (λ (q : Profile). Feeds hash q c.split_at.result.0.now c.loop-left.self.begun.items c.save_group.new.self.begun.items (groups_in c.loop-left.self.opened) (groups_in c.save_group.new.self.opened) mid now c.loop-left.touches c.save_group.new.touches)
    c.loop-left.invariant.profile c.in_ok-save_group.ensures.took.takes.feeds in
    record {
      took = (
        took.0 ++ c.split_at.result.0.now,
        goes-on _ _ _ _ _ _ took.1 c.split_at.ensures.front c.split_at.ensures.back,
        record {
          same_profile = c.in_ok-save_group.ensures.took.takes.same_profile ∙ c.loop-left.invariant.profile;
          room = subst (λ (q : Profile). length c.save_group.new.self.begun.items < q.chunk) c.loop-left.invariant.profile c.in_ok-save_group.ensures.took.takes.room;
          feeds = Feeds-trans hash p two took.0 c.split_at.result.0.now c.args.self.now.begun.items c.loop-left.self.begun.items c.save_group.new.self.begun.items
              (groups_in c.args.self.now.opened) (groups_in c.loop-left.self.opened) (groups_in c.save_group.new.self.opened) before mid now c.args.touches.now c.loop-left.touches c.save_group.new.touches took.2.feeds group;
        },
      );
      profile = c.in_ok-save_group.ensures.took.takes.same_profile ∙ c.loop-left.invariant.profile;
      begun = c.in_ok-save_group.ensures.took.begun ∙ c.loop-left.invariant.begun;
      left = left-behind c.loop-left.left c.min-few.result p.chunk _ _ (omega arith) c.loop-left.invariant.left (omega (arith, c.split_at.ensures.back_len));
      builds = builds-builds c.loop-left.invariant.builds c.in_ok-save_group.ensures.builds;
    }

pub returns-clause-took : goal.returns-clause-took
returns-clause-took g c =
    let took = c.loop-left.invariant.took in
    let zero : c.loop-left.left ≡ 0 = omega arith in
    let none : length c.loop-left.rest.now ≡ 0 = grind (arith, c.loop-left.invariant.left) in
    let is : c.args.bytes.now ≡ took.0 = took.1 ∙ ap (λ (l : List ℕ). took.0 ++ l) (no-length c.loop-left.rest.now none) ∙ append-nil took.0 in
    record {
      takes = subst (λ (l : List ℕ). Takes g.S.X.BlockHash.block32 l c.args.self.now c.loop-left.self (g.S.Store.seen c.args.store.now).told (g.S.Store.seen c.loop-left.store).told c.args.touches.now c.loop-left.touches) (sym is) took.2;
      begun = c.loop-left.invariant.begun;
    }

pub returns-in_err-save_group-clause-stops : goal.returns-in_err-save_group-clause-stops
returns-in_err-save_group-clause-stops g c =
    let hash : List ℕ → List ℕ = g.S.X.BlockHash.block32 in
    let p = c.args.self.now.profile in
    let is_kept = kept c.args.self.now.profile c.requires.can.profile in
    let before = (g.S.Store.seen c.args.store.now).told in
    let mid = (g.S.Store.seen c.loop-left.store).told in
    let group : List ℕ = c.split_at.result.0.now in
    let behind : List ℕ = c.split_at.result.1.now in
    let took = c.loop-left.invariant.took in
    let pieces = subst (λ (q : Profile). SavesUpTo hash q group c.loop-left.self.begun.items (groups_in c.loop-left.self.opened) c.loop-left.touches c.save_group.new.touches)
    c.loop-left.invariant.profile c.in_err-save_group.ensures.stops.most in
    let most = up-to-behind hash p is_kept.some is_kept.two took.0 group c.args.self.now.begun.items c.loop-left.self.begun.items (groups_in c.args.self.now.opened) (groups_in c.loop-left.self.opened) before mid
    c.args.touches.now c.loop-left.touches c.save_group.new.touches took.2.feeds pieces in
    let now = (g.S.Store.seen c.save_group.new.store).told in
    let others = subst (λ (q : Profile). SavesForBytes hash q group c.loop-left.self.begun.items (groups_in c.loop-left.self.opened) mid now)
    c.loop-left.invariant.profile c.in_err-save_group.ensures.stops.no_other in
    let among = for-behind hash p took.0 group c.args.self.now.begun.items c.loop-left.self.begun.items (groups_in c.args.self.now.opened) (groups_in c.loop-left.self.opened) before mid now
    took.2.feeds.fed took.2.feeds.no_other others in
    on_err_given c.from_residual.result (record {
      same_profile = c.in_err-save_group.ensures.stops.same_profile ∙ c.loop-left.invariant.profile;
      most = subst (λ (l : List ℕ). SavesUpTo hash p l c.args.self.now.begun.items (groups_in c.args.self.now.opened) c.args.touches.now c.save_group.new.touches)
          (sym (goes-on _ _ _ _ _ _ took.1 c.split_at.ensures.front c.split_at.ensures.back))
          (up-to-front hash p is_kept.some is_kept.two (took.0 ++ group) behind c.args.self.now.begun.items (groups_in c.args.self.now.opened) c.args.touches.now c.save_group.new.touches most);
      no_other = subst (λ (l : List ℕ). SavesForBytes hash p l c.args.self.now.begun.items (groups_in c.args.self.now.opened) before now)
          (sym (goes-on _ _ _ _ _ _ took.1 c.split_at.ensures.front c.split_at.ensures.back))
          (for-front hash p (took.0 ++ group) behind c.args.self.now.begun.items (groups_in c.args.self.now.opened) before now among);
    })

pub split_at-requires : goal.split_at-requires
split_at-requires g c =
    let few : c.min-few.result ≤ c.loop-left.left = omega arith in
    omega (arith, mul-le-mul_right c.args.self.now.profile.chunk few, c.loop-left.invariant.left)

pub save_group-requires-clause-begun : goal.save_group-requires-clause-begun
save_group-requires-clause-begun g c =
    let took = c.loop-left.invariant.took in
    let some : 1 ≤ c.loop-left.left = omega arith in
    elim c.requires.begun [
      | inl zero ↦ absurd (omega (
        arith,
        mul-le-mul_right c.args.self.now.profile.chunk some,
        (kept c.args.self.now.profile c.requires.can.profile).some,
        zero,
        ap length took.1,
        length-append took.0 c.loop-left.rest.now,
        c.loop-left.invariant.left,
      ))
      | inr none ↦ c.loop-left.invariant.begun ∙ none
    ]

pub save_group-requires-clause-count : goal.save_group-requires-clause-count
save_group-requires-clause-count g c = c.split_at.ensures.front_len ∙ ap (λ (p : Profile). c.min-few.result * p.chunk) (sym c.loop-left.invariant.profile)
