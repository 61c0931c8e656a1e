use Rattle.std.proofs.Common.{ℕ, List, ◌++◌, length, take, ap, sym, ◌∙◌, arith, subst}
use Rattle.std.proofs.lemmas.Grind.{common_steps}
use Rattle.std.proofs.lemmas.Result.{err_from_is_err_and}
use Rattle.uf_tree.specs.declared.profile.Profile.{Profile}
use Rattle.uf_tree.proofs.Told.{kept}
use Rattle.uf_build.specs.Building.{Feeds, SavesForBytes, SavesUpTo}
use Rattle.uf_build.specs.Rows.{groups_in}
use Rattle.uf_build.proofs.Among.{for-behind, for-front}
use Rattle.uf_build.proofs.Calls.{builds-builds, builds-memory}
use Rattle.uf_build.proofs.Cutting.{splits}
use Rattle.uf_build.proofs.Ending.{up-to-behind, up-to-done, up-to-front}
use Rattle.uf_build.proofs.Feeding.{Feeds-trans, Feeds-begun}
use Rattle.uf_build.proofs.Holding.{on_err_given}
use Rattle.uf_build.proofs.layout.Layout.take.Goals as goal

pub returns-in_err-save_pieces-clause-builds : goal.returns-in_err-save_pieces-clause-builds
returns-in_err-save_pieces-clause-builds g c =
    let out = err_from_is_err_and c.from_residual-in_err-save_pieces.result c.from_residual-in_err-save_pieces.ensures.1 in
    rw (out.1, out.2) (builds-builds c.in_ok-front.ensures.builds c.in_err-save_pieces.ensures.builds)

pub returns-in_err-append-clause-builds : goal.returns-in_err-append-clause-builds
returns-in_err-append-clause-builds g c =
    let out = err_from_is_err_and c.from_residual-in_err-append.result c.from_residual-in_err-append.ensures.1 in
    rw (out.1, out.2) (builds-memory (builds-builds c.in_ok-front.ensures.builds c.in_ok-save_pieces.ensures.builds))

pub returns-clause-builds : goal.returns-clause-builds
returns-clause-builds g c = builds-builds c.in_ok-front.ensures.builds c.in_ok-save_pieces.ensures.builds

pub returns-clause-took : goal.returns-clause-took
returns-clause-took g c =
    let hash : List ℕ → List ℕ = g.S.X.BlockHash.block32 in
    let p = c.args.self.now.profile in
    let two = (kept c.args.self.now.profile c.requires.can.profile).two in
    let before = (g.S.Store.seen c.args.store.now).told in
    let mid = (g.S.Store.seen c.fill.new.store).told in
    let now = (g.S.Store.seen c.save_pieces.new.store).told in
    let group : List ℕ = c.split_at.result.0.now in
    let behind : List ℕ = c.split_at.result.1.now in
    let pieces = subst (λ (q : Profile). Feeds hash q group c.fill.new.self.begun.items c.save_pieces.new.self.begun.items (groups_in c.fill.new.self.opened) (groups_in c.save_pieces.new.self.opened) mid now c.fill.new.touches c.save_pieces.new.touches)
    c.in_ok-front.ensures.took.takes.same_profile c.in_ok-save_pieces.ensures.took.takes.feeds in
    let first = Feeds-trans hash p two (take c.in_ok-front.front c.args.bytes.now) group c.args.self.now.begun.items c.fill.new.self.begun.items c.save_pieces.new.self.begun.items
    (groups_in c.args.self.now.opened) (groups_in c.fill.new.self.opened) (groups_in c.save_pieces.new.self.opened) before mid now c.args.touches.now c.fill.new.touches c.save_pieces.new.touches c.in_ok-front.ensures.took.takes.feeds pieces in
    let then = subst (λ (b : List ℕ). Feeds hash p behind c.save_pieces.new.self.begun.items b (groups_in c.save_pieces.new.self.opened) (groups_in c.save_pieces.new.self.opened) now now c.save_pieces.new.touches c.save_pieces.new.touches)
    (sym c.in_ok-append.ensures) (Feeds-begun hash p two behind c.save_pieces.new.self.begun.items (groups_in c.save_pieces.new.self.opened) now c.save_pieces.new.touches first.are_open) in
    record {
      same_profile = c.in_ok-save_pieces.ensures.took.takes.same_profile ∙ c.in_ok-front.ensures.took.takes.same_profile;
      room = grind (arith, common_steps, ap length c.in_ok-append.ensures, ap length c.in_ok-save_pieces.ensures.took.begun, c.in_ok-front.ensures.took.all, c.in_ok-front.ensures.took.takes.room);
      feeds = subst (λ (l : List ℕ). Feeds hash p l c.args.self.now.begun.items c.append.new.begun.items (groups_in c.args.self.now.opened) (groups_in c.save_pieces.new.self.opened) before now c.args.touches.now c.save_pieces.new.touches)
          (sym (splits c.args.bytes.now group behind c.in_ok-front.front _ c.in_ok-front.ensures.took.fits c.split_at.ensures.front c.split_at.ensures.back))
          (Feeds-trans hash p two (take c.in_ok-front.front c.args.bytes.now ++ group) behind c.args.self.now.begun.items c.save_pieces.new.self.begun.items c.append.new.begun.items
          (groups_in c.args.self.now.opened) (groups_in c.save_pieces.new.self.opened) (groups_in c.save_pieces.new.self.opened) before now now c.args.touches.now c.save_pieces.new.touches c.save_pieces.new.touches first then);
    }

pub returns-in_err-save_pieces-clause-stops : goal.returns-in_err-save_pieces-clause-stops
returns-in_err-save_pieces-clause-stops g c =
    let hash : List ℕ → List ℕ = g.S.X.BlockHash.block32 in
    let p = c.args.self.now.profile in
    let is_kept = kept c.args.self.now.profile c.requires.can.profile in
    let before = (g.S.Store.seen c.args.store.now).told in
    let mid = (g.S.Store.seen c.fill.new.store).told in
    let front : List ℕ = take c.in_ok-front.front c.args.bytes.now in
    let group : List ℕ = c.split_at.result.0.now in
    let behind : List ℕ = c.split_at.result.1.now in
    let pieces = subst (λ (q : Profile). SavesUpTo hash q group c.fill.new.self.begun.items (groups_in c.fill.new.self.opened) c.fill.new.touches c.save_pieces.new.touches)
    c.in_ok-front.ensures.took.takes.same_profile c.in_err-save_pieces.ensures.stops.most in
    let most = up-to-behind hash p is_kept.some is_kept.two front group c.args.self.now.begun.items c.fill.new.self.begun.items (groups_in c.args.self.now.opened) (groups_in c.fill.new.self.opened) before mid
    c.args.touches.now c.fill.new.touches c.save_pieces.new.touches c.in_ok-front.ensures.took.takes.feeds pieces in
    let now = (g.S.Store.seen c.save_pieces.new.store).told in
    let others = subst (λ (q : Profile). SavesForBytes hash q group c.fill.new.self.begun.items (groups_in c.fill.new.self.opened) mid now)
    c.in_ok-front.ensures.took.takes.same_profile c.in_err-save_pieces.ensures.stops.no_other in
    let among = for-behind hash p front group c.args.self.now.begun.items c.fill.new.self.begun.items (groups_in c.args.self.now.opened) (groups_in c.fill.new.self.opened) before mid now
    c.in_ok-front.ensures.took.takes.feeds.fed c.in_ok-front.ensures.took.takes.feeds.no_other others in
    on_err_given c.from_residual-in_err-save_pieces.result (record {
      same_profile = c.in_err-save_pieces.ensures.stops.same_profile ∙ c.in_ok-front.ensures.took.takes.same_profile;
      most = subst (λ (l : List ℕ). SavesUpTo hash p l c.args.self.now.begun.items (groups_in c.args.self.now.opened) c.args.touches.now c.save_pieces.new.touches)
          (sym (splits c.args.bytes.now group behind c.in_ok-front.front _ c.in_ok-front.ensures.took.fits c.split_at.ensures.front c.split_at.ensures.back))
          (up-to-front hash p is_kept.some is_kept.two (front ++ group) behind c.args.self.now.begun.items (groups_in c.args.self.now.opened) c.args.touches.now c.save_pieces.new.touches most);
      no_other = subst (λ (l : List ℕ). SavesForBytes hash p l c.args.self.now.begun.items (groups_in c.args.self.now.opened) before now)
          (sym (splits c.args.bytes.now group behind c.in_ok-front.front _ c.in_ok-front.ensures.took.fits c.split_at.ensures.front c.split_at.ensures.back))
          (for-front hash p (front ++ group) behind c.args.self.now.begun.items (groups_in c.args.self.now.opened) before now among);
    })

pub returns-in_err-append-clause-stops : goal.returns-in_err-append-clause-stops
returns-in_err-append-clause-stops g c =
    let hash : List ℕ → List ℕ = g.S.X.BlockHash.block32 in
    let p = c.args.self.now.profile in
    let is_kept = kept c.args.self.now.profile c.requires.can.profile in
    let before = (g.S.Store.seen c.args.store.now).told in
    let mid = (g.S.Store.seen c.fill.new.store).told in
    let front : List ℕ = take c.in_ok-front.front c.args.bytes.now in
    let group : List ℕ = c.split_at.result.0.now in
    let behind : List ℕ = c.split_at.result.1.now in
    let now = (g.S.Store.seen c.save_pieces.new.store).told in
    let pieces = subst (λ (q : Profile). Feeds hash q group c.fill.new.self.begun.items c.save_pieces.new.self.begun.items (groups_in c.fill.new.self.opened) (groups_in c.save_pieces.new.self.opened) mid now c.fill.new.touches c.save_pieces.new.touches)
    c.in_ok-front.ensures.took.takes.same_profile c.in_ok-save_pieces.ensures.took.takes.feeds in
    let done = up-to-done hash p is_kept.some is_kept.two (front ++ group) c.args.self.now.begun.items c.save_pieces.new.self.begun.items (groups_in c.args.self.now.opened) (groups_in c.save_pieces.new.self.opened) before now
    c.args.touches.now c.save_pieces.new.touches in
    let feeds = Feeds-trans hash p is_kept.two front group c.args.self.now.begun.items c.fill.new.self.begun.items c.save_pieces.new.self.begun.items
    (groups_in c.args.self.now.opened) (groups_in c.fill.new.self.opened) (groups_in c.save_pieces.new.self.opened) before mid now c.args.touches.now c.fill.new.touches c.save_pieces.new.touches c.in_ok-front.ensures.took.takes.feeds pieces in
    let most = done feeds in
    on_err_given c.from_residual-in_err-append.result (record {
      same_profile = c.in_ok-save_pieces.ensures.took.takes.same_profile ∙ c.in_ok-front.ensures.took.takes.same_profile;
      most = subst (λ (l : List ℕ). SavesUpTo hash p l c.args.self.now.begun.items (groups_in c.args.self.now.opened) c.args.touches.now c.save_pieces.new.touches)
          (sym (splits c.args.bytes.now group behind c.in_ok-front.front _ c.in_ok-front.ensures.took.fits c.split_at.ensures.front c.split_at.ensures.back))
          (up-to-front hash p is_kept.some is_kept.two (front ++ group) behind c.args.self.now.begun.items (groups_in c.args.self.now.opened) c.args.touches.now c.save_pieces.new.touches most);
      no_other = subst (λ (l : List ℕ). SavesForBytes hash p l c.args.self.now.begun.items (groups_in c.args.self.now.opened) before now)
          (sym (splits c.args.bytes.now group behind c.in_ok-front.front _ c.in_ok-front.ensures.took.fits c.split_at.ensures.front c.split_at.ensures.back))
          (for-front hash p (front ++ group) behind c.args.self.now.begun.items (groups_in c.args.self.now.opened) before now feeds.no_other);
    })
