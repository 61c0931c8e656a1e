use Rattle.std.proofs.Common.{◌≡◌, ℕ, ◌+◌, ◌-◌, ◌*◌, ◌≤◌, List, ◌∷◌, ◌++◌, length, take, drop, arith, ap, sym, ◌∙◌, subst}
use Rattle.std.proofs.Math.Nat.{mul-le-mul_right}
use Rattle.std.proofs.lemmas.List.{take-append-drop}
use Rattle.std.proofs.lemmas.Result.{err_from_is_err_and}
use Rattle.uf_tree.specs.declared.profile.Profile.{Profile}
use Rattle.uf_store.specs.Among.{SavesAmong}
use Rattle.uf_tree.specs.FilePlan.{leaf_held, leaf_part}
use Rattle.uf_tree.proofs.Told.{kept}
use Rattle.uf_build.specs.Building.{Adds, Feeds, SavesForBytes, SavesUpTo}
use Rattle.uf_build.specs.Layouts.{Takes}
use Rattle.uf_build.specs.Rows.{add_held, add_row, saved_all, groups_in}
use Rattle.uf_build.proofs.Among.{for-behind, for-front, for-piece}
use Rattle.uf_build.proofs.Calls.{builds-builds}
use Rattle.uf_build.proofs.Cutting.{more, piece-size, whole}
use Rattle.uf_build.proofs.Ending.{up-to-behind, up-to-front, up-to-piece}
use Rattle.uf_build.proofs.Feeding.{Feeds-piece, Feeds-trans}
use Rattle.uf_build.proofs.Holding.{on_err_given}
use Rattle.uf_build.proofs.layout.Layout.save_group.Goals as goal

pub returns-in_err-save_leaf-clause-builds : goal.returns-in_err-save_leaf-clause-builds
returns-in_err-save_leaf-clause-builds g c =
    let out = err_from_is_err_and c.from_residual.result c.from_residual.ensures.1 in
    rw (out.1, out.2) (builds-builds c.loop-i.invariant.builds c.in_err-save_leaf.ensures.builds)

pub loop-i-preserved : goal.loop-i-preserved
loop-i-preserved g c =
    let hash : List ℕ → List ℕ = g.S.X.BlockHash.block32 in
    let p = c.args.self.now.profile in
    let is_kept = kept c.args.self.now.profile c.requires.can.profile in
    let two = is_kept.two in
    let i = c.loop-i.i in
    let bytes = c.args.bytes.now in
    let before = (g.S.Store.seen c.args.store.now).told in
    let mid = (g.S.Store.seen c.loop-i.store).told in
    let now = (g.S.Store.seen c.save_leaf.new.store).told in
    let piece : List ℕ = take (i * p.chunk + p.chunk - i * p.chunk) (drop (i * p.chunk) bytes) in
    let size : length piece ≡ p.chunk = piece-size bytes i p.chunk c.args.count (omega arith) c.requires.count in
    let adds = subst (λ (q : Profile). Adds hash q piece (groups_in c.loop-i.self.opened) (groups_in c.save_leaf.new.opened) mid now c.loop-i.touches c.save_leaf.new.touches) c.loop-i.invariant.profile c.in_ok-save_leaf.ensures.adds in
    let among = subst (λ (q : Profile). SavesAmong hash (leaf_held hash piece ∷ add_held hash q.width (leaf_part hash piece) (groups_in c.loop-i.self.opened)) mid now) c.loop-i.invariant.profile c.save_leaf.ensures.no_other in
    record {
      took = record {
        same_profile = c.loop-i.invariant.profile;
        room = omega (arith, ap length c.loop-i.invariant.begun, is_kept.some);
        feeds = subst (λ (l : List ℕ). Feeds hash p l c.args.self.now.begun.items c.loop-i.self.begun.items (groups_in c.args.self.now.opened) (groups_in c.save_leaf.new.opened) before now c.args.touches.now c.save_leaf.new.touches)
            (sym (more bytes i p.chunk))
            (Feeds-trans hash p two (take (i * p.chunk) bytes) piece c.args.self.now.begun.items c.loop-i.self.begun.items c.loop-i.self.begun.items
            (groups_in c.args.self.now.opened) (groups_in c.loop-i.self.opened) (groups_in c.save_leaf.new.opened) before mid now c.args.touches.now c.loop-i.touches c.save_leaf.new.touches c.loop-i.invariant.took.feeds
            (Feeds-piece hash p two piece c.loop-i.self.begun.items c.loop-i.self.begun.items piece (groups_in c.loop-i.self.opened) (groups_in c.save_leaf.new.opened) mid now c.loop-i.touches c.save_leaf.new.touches
            is_kept.some (ap (λ (l : List ℕ). l ++ piece) c.loop-i.invariant.begun) size c.loop-i.invariant.begun among adds));
      };
      profile = c.loop-i.invariant.profile;
      begun = c.loop-i.invariant.begun;
      builds = builds-builds c.loop-i.invariant.builds c.in_ok-save_leaf.ensures.builds;
    }

pub returns-clause-took : goal.returns-clause-took
returns-clause-took g c =
    let is : c.loop-i.i ≡ c.args.count = omega (arith, c.loop-i.auto.i-end) in
    record {
      takes = subst (λ (l : List ℕ). Takes g.S.X.BlockHash.block32 l c.args.self.now c.loop-i.self (g.S.Store.seen c.args.store.now).told (g.S.Store.seen c.loop-i.store).told c.args.touches.now c.loop-i.touches)
          (whole c.args.bytes.now c.loop-i.i c.args.self.now.profile.chunk c.args.count is c.requires.count) c.loop-i.invariant.took;
      begun = c.loop-i.invariant.begun ∙ sym c.requires.begun;
    }

pub returns-in_err-save_leaf-clause-stops : goal.returns-in_err-save_leaf-clause-stops
returns-in_err-save_leaf-clause-stops g c =
    let hash : List ℕ → List ℕ = g.S.X.BlockHash.block32 in
    let p = c.args.self.now.profile in
    let is_kept = kept c.args.self.now.profile c.requires.can.profile in
    let i = c.loop-i.i in
    let bytes = c.args.bytes.now in
    let before = (g.S.Store.seen c.args.store.now).told in
    let mid = (g.S.Store.seen c.loop-i.store).told in
    let piece : List ℕ = take (i * p.chunk + p.chunk - i * p.chunk) (drop (i * p.chunk) bytes) in
    let size : length piece ≡ p.chunk = piece-size bytes i p.chunk c.args.count (omega arith) c.requires.count in
    let one = subst (λ (q : Profile). c.save_leaf.new.touches + saved_all q.width (groups_in c.loop-i.self.opened) ≤ c.loop-i.touches + saved_all q.width (add_row hash q.width (leaf_part hash piece) (groups_in c.loop-i.self.opened)))
    c.loop-i.invariant.profile c.save_leaf.ensures.most in
    let next = up-to-piece hash p is_kept.some is_kept.two piece c.loop-i.self.begun.items piece (groups_in c.loop-i.self.opened) c.loop-i.touches c.save_leaf.new.touches
    (ap (λ (l : List ℕ). l ++ piece) c.loop-i.invariant.begun) size one in
    let most = up-to-behind hash p is_kept.some is_kept.two (take (i * p.chunk) bytes) piece c.args.self.now.begun.items c.loop-i.self.begun.items (groups_in c.args.self.now.opened) (groups_in c.loop-i.self.opened) before mid
    c.args.touches.now c.loop-i.touches c.save_leaf.new.touches c.loop-i.invariant.took.feeds next in
    let now = (g.S.Store.seen c.save_leaf.new.store).told in
    let leaf = subst (λ (q : Profile). SavesAmong hash (leaf_held hash piece ∷ add_held hash q.width (leaf_part hash piece) (groups_in c.loop-i.self.opened)) mid now) c.loop-i.invariant.profile c.save_leaf.ensures.no_other in
    let others = for-piece hash p is_kept.some is_kept.two piece c.loop-i.self.begun.items piece (groups_in c.loop-i.self.opened) mid now
    (ap (λ (l : List ℕ). l ++ piece) c.loop-i.invariant.begun) size leaf in
    let among = for-behind hash p (take (i * p.chunk) bytes) piece c.args.self.now.begun.items c.loop-i.self.begun.items (groups_in c.args.self.now.opened) (groups_in c.loop-i.self.opened) before mid now
    c.loop-i.invariant.took.feeds.fed c.loop-i.invariant.took.feeds.no_other others in
    on_err_given c.from_residual.result (record {
      same_profile = c.loop-i.invariant.profile;
      most = subst (λ (l : List ℕ). SavesUpTo hash p l c.args.self.now.begun.items (groups_in c.args.self.now.opened) c.args.touches.now c.save_leaf.new.touches)
          (ap (λ (l : List ℕ). l ++ drop ((i + 1) * p.chunk) bytes) (sym (more bytes i p.chunk)) ∙ take-append-drop ((i + 1) * p.chunk) bytes)
          (up-to-front hash p is_kept.some is_kept.two (take (i * p.chunk) bytes ++ piece) (drop ((i + 1) * p.chunk) bytes) c.args.self.now.begun.items (groups_in c.args.self.now.opened) c.args.touches.now c.save_leaf.new.touches most);
      no_other = subst (λ (l : List ℕ). SavesForBytes hash p l c.args.self.now.begun.items (groups_in c.args.self.now.opened) before now)
          (ap (λ (l : List ℕ). l ++ drop ((i + 1) * p.chunk) bytes) (sym (more bytes i p.chunk)) ∙ take-append-drop ((i + 1) * p.chunk) bytes)
          (for-front hash p (take (i * p.chunk) bytes ++ piece) (drop ((i + 1) * p.chunk) bytes) c.args.self.now.begun.items (groups_in c.args.self.now.opened) before now among);
    })

pub overflow_mul-piece : goal.overflow_mul-piece
overflow_mul-piece g c =
    let low : c.loop-i.i + 1 ≤ c.args.count = omega arith in
    omega (arith, mul-le-mul_right c.args.self.now.profile.chunk low, c.requires.count, c.requires.can.most)

pub overflow_mul-piece-in-loop-i : goal.overflow_mul-piece-in-loop-i
overflow_mul-piece-in-loop-i g c =
    let low : c.loop-i.i + 1 ≤ c.args.count = omega arith in
    omega (arith, mul-le-mul_right c.args.self.now.profile.chunk low, c.requires.count, c.requires.can.most)

pub overflow_add-piece : goal.overflow_add-piece
overflow_add-piece g c =
    let low : c.loop-i.i + 1 ≤ c.args.count = omega arith in
    omega (arith, mul-le-mul_right c.args.self.now.profile.chunk low, c.requires.count, c.requires.can.most)

pub slice_bounds-piece-end : goal.slice_bounds-piece-end
slice_bounds-piece-end g c =
    let low : c.loop-i.i + 1 ≤ c.args.count = omega arith in
    omega (arith, mul-le-mul_right c.args.self.now.profile.chunk low, c.requires.count)

pub save_leaf-requires-clause-size : goal.save_leaf-requires-clause-size
save_leaf-requires-clause-size g c = omega (
  arith,
  piece-size c.args.bytes.now c.loop-i.i c.args.self.now.profile.chunk c.args.count (omega arith) c.requires.count,
  ap (λ (p : Profile). p.chunk) c.loop-i.invariant.profile,
)
