use Rattle.std.proofs.Common.{◌≡◌, ℕ, List, ◌++◌, length, take, drop, refl, inr, arith, ap, subst}
use Rattle.std.proofs.lemmas.Grind.{common_steps}
use Rattle.std.proofs.lemmas.List.{take-append-drop}
use Rattle.uf_tree.proofs.Told.{kept}
use Rattle.uf_build.specs.Building.{SavesForBytes, SavesUpTo}
use Rattle.uf_build.specs.Rows.{groups_in}
use Rattle.uf_build.proofs.Among.{for-front, for-none, for-piece}
use Rattle.uf_build.proofs.Ending.{up-to-none, up-to-piece, up-to-front}
use Rattle.uf_build.proofs.Feeding.{Feeds-piece}
use Rattle.uf_build.proofs.Holding.{on_err_given}
use Rattle.uf_build.proofs.layout.Layout.fill.Goals as goal

pub returns-clause-took : goal.returns-clause-took
returns-clause-took g c =
    let p = kept c.args.self.now.profile c.requires.can.profile in
    let front : List ℕ = take c.min-front.result c.args.bytes.now in
    let is : c.args.self.now.begun.items ++ front ≡ c.append.new.begun.items = grind (arith, common_steps, c.in_ok-append.ensures) in
    let ends = c.in_ok-end_piece.ensures.ends in
    record {
      takes = record {
        same_profile = c.end_piece.ensures.within.same_profile;
        room = omega (arith, ap length ends.begun, p.some);
        feeds = Feeds-piece g.S.X.BlockHash.block32 c.args.self.now.profile p.two front c.args.self.now.begun.items c.end_piece.new.self.begun.items
            c.append.new.begun.items (groups_in c.args.self.now.opened) (groups_in c.end_piece.new.self.opened) _ _ _ _ p.some
            is (let size = ap length is in grind (arith, common_steps)) ends.begun c.end_piece.ensures.within.no_other ends.adds;
      };
      fits = grind (arith, common_steps);
      all = inr ends.begun;
    }

pub returns-in_err-append-clause-stops : goal.returns-in_err-append-clause-stops
returns-in_err-append-clause-stops g c =
    let p = kept c.args.self.now.profile c.requires.can.profile in
    on_err_given c.from_residual.result (record {
      same_profile = refl;
      most = up-to-none g.S.X.BlockHash.block32 c.args.self.now.profile p.some p.two c.args.bytes.now c.args.self.now.begun.items (groups_in c.args.self.now.opened) c.args.touches.now;
      no_other = for-none g.S.X.BlockHash.block32 c.args.self.now.profile c.args.bytes.now c.args.self.now.begun.items (groups_in c.args.self.now.opened) (g.S.Store.seen c.args.store.now).told;
    })

pub returns-in_err-end_piece-clause-stops : goal.returns-in_err-end_piece-clause-stops
returns-in_err-end_piece-clause-stops g c =
    let hash : List ℕ → List ℕ = g.S.X.BlockHash.block32 in
    let q = c.args.self.now.profile in
    let p = kept c.args.self.now.profile c.requires.can.profile in
    let begun = c.args.self.now.begun.items in
    let front : List ℕ = take c.min-front.result c.args.bytes.now in
    let is : begun ++ front ≡ c.append.new.begun.items = grind (arith, common_steps, c.in_ok-append.ensures) in
    let piece = up-to-piece hash q p.some p.two front begun c.append.new.begun.items (groups_in c.args.self.now.opened) c.args.touches.now c.end_piece.new.touches
    is (let size = ap length is in grind (arith, common_steps)) c.end_piece.ensures.within.most in
    let told = (g.S.Store.seen c.args.store.now).told in
    let now = (g.S.Store.seen c.end_piece.new.store).told in
    let among = for-piece hash q p.some p.two front begun c.append.new.begun.items (groups_in c.args.self.now.opened) told now
    is (let size = ap length is in grind (arith, common_steps)) c.end_piece.ensures.within.no_other in
    on_err_given c.from_residual-in_err-end_piece.result (record {
      same_profile = c.end_piece.ensures.within.same_profile;
      most = subst (λ (l : List ℕ). SavesUpTo hash q l begun (groups_in c.args.self.now.opened) c.args.touches.now c.end_piece.new.touches) (take-append-drop c.min-front.result c.args.bytes.now)
          (up-to-front hash q p.some p.two front (drop c.min-front.result c.args.bytes.now) begun (groups_in c.args.self.now.opened) c.args.touches.now c.end_piece.new.touches piece);
      no_other = subst (λ (l : List ℕ). SavesForBytes hash q l begun (groups_in c.args.self.now.opened) told now) (take-append-drop c.min-front.result c.args.bytes.now)
          (for-front hash q front (drop c.min-front.result c.args.bytes.now) begun (groups_in c.args.self.now.opened) told now among);
    })
