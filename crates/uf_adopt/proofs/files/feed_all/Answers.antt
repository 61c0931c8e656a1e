use Rattle.std.proofs.Common.{◌≡◌, ◌++◌, List, ℕ, Err, Ok, None, arith, refl, rules, subst, sym, ◌∙◌}
use Rattle.std.specs.Prelude.{IfSome, Option}
use Rattle.std.proofs.lemmas.Result.{err_from_is_err_and}
use Rattle.uf_build.specs.Building.{SavesForFront}
use Rattle.uf_build.proofs.Among.{front-same, front-trans}
use Rattle.uf_shard.proofs.Saves.{saves-none}
use Rattle.uf_store.specs.Calls.{OnlyReads}
use Rattle.uf_store.specs.Contents.{held_at}
use Rattle.uf_store.specs.Faults.{NoneIsBad}
use Rattle.uf_store.proofs.Calls.{reads-saves, saves-saves}
use Rattle.uf_tree.specs.declared.profile.Profile.{Profile}
use Rattle.uf_lenient.specs.Steps.{IsNextPiece}
use Rattle.uf_lenient.specs.Visited.{VisitsNext}
use Rattle.uf_adopt.specs.Feeding.{FeedsOne}
use Rattle.uf_adopt.proofs.Fed.{gave-all, gave-fault, gave-long, gave-more, gave-none, map-kept}
use Rattle.uf_adopt.proofs.Saving.{piece-saves}
use Rattle.uf_adopt.proofs.files.feed_all.Goals as goal

pub loop-piece-preserved : goal.loop-piece-preserved
loop-piece-preserved g c =
    let X = g.S.X.BlockHash.block32 in
    let told = (g.S.Store.seen c.loop-piece.store).told in
    let next = (g.S.Store.seen c.next.new.store).told in
    let now = (g.S.Store.seen c.feed_one.new.store).told in
    let reads : OnlyReads X NoneIsBad None (g.S.Store.seen c.loop-piece.store) (g.S.Store.seen c.next.new.store) = record { cause = c.in_ok-piece.ensures.cause; told = c.in_ok-piece.ensures.told } in
    record {
      gave = λ held limits bytes good start is front.
          gave-more X held limits c.args.cid.now bytes is told next now c.loop-piece.pieces c.next.new.self c.loop-piece.builder c.feed_one.new.builder c.in-Some.piece
          (map-kept X held (g.S.Store.seen c.args.store.now).told told c.loop-piece.invariant.saves.good good) c.in_ok-piece.ensures.told (c.loop-piece.invariant.gave held limits bytes good start is front)
          (subst (λ (r : Option (List ℕ)). IfSome told (λ t. IsNextPiece (held_at t) c.loop-piece.pieces c.next.new.self (Ok r))) c.in-Some.is c.in_ok-piece.ensures.says)
          (subst (λ (r : Option (List ℕ)). IfSome told (λ t. IfSome r (λ _. VisitsNext (held_at t) c.loop-piece.pieces c.next.new.self))) c.in-Some.is c.in_ok-piece.ensures.visits)
          (subst (λ (l : List ℕ). FeedsOne X c.args.cid.now l next now c.loop-piece.builder c.feed_one.new.builder (Ok tt)) c.as_slice.ensures c.in_ok-feed_one.ensures.feeds);
      no_other = λ held limits bytes good start is front.
          front-trans X c.args.builder.now.profile bytes (g.S.Store.seen c.args.store.now).told next now
          (subst (SavesForFront X c.args.builder.now.profile bytes (g.S.Store.seen c.args.store.now).told) (sym c.in_ok-piece.ensures.told) (c.loop-piece.invariant.no_other held limits bytes good start is front))
          (subst (λ (p : Profile). SavesForFront X p bytes next now) c.loop-piece.invariant.profile
          (piece-saves X held limits c.args.cid.now bytes is told next now c.loop-piece.pieces c.next.new.self c.loop-piece.builder c.in-Some.piece
          (map-kept X held (g.S.Store.seen c.args.store.now).told told c.loop-piece.invariant.saves.good good) (c.loop-piece.invariant.gave held limits bytes good start is front)
          (subst (λ (r : Option (List ℕ)). IfSome told (λ t. IsNextPiece (held_at t) c.loop-piece.pieces c.next.new.self (Ok r))) c.in-Some.is c.in_ok-piece.ensures.says)
          (subst (λ (r : Option (List ℕ)). IfSome told (λ t. IfSome r (λ _. VisitsNext (held_at t) c.loop-piece.pieces c.next.new.self))) c.in-Some.is c.in_ok-piece.ensures.visits)
          (λ l fed. subst (λ (k : List ℕ). SavesForFront X c.loop-piece.builder.profile (l ++ k) next now) c.as_slice.ensures (c.feed_one.ensures.no_other l fed))));
      profile = c.feed_one.ensures.profile ∙ c.loop-piece.invariant.profile;
      not_spent = c.in_ok-feed_one.ensures.not_spent;
      fed = λ was. c.in_ok-feed_one.ensures.fed (c.loop-piece.invariant.fed was);
      touched = omega (arith, c.loop-piece.invariant.touched, c.in_ok-piece.ensures.touched, c.in_ok-feed_one.ensures.touches);
      saves = saves-saves c.loop-piece.invariant.saves (saves-saves (reads-saves reads) c.in_ok-feed_one.ensures.adopts.saves);
    }

pub returns-in_err-feed_one-clause-feeds : goal.returns-in_err-feed_one-clause-feeds
returns-in_err-feed_one-clause-feeds g c = λ held limits bytes good start is front.
    let X = g.S.X.BlockHash.block32 in
    let told = (g.S.Store.seen c.loop-piece.store).told in
    let next = (g.S.Store.seen c.next.new.store).told in
    let now = (g.S.Store.seen c.feed_one.new.store).told in
    let out = err_from_is_err_and c.from_residual-in_err-feed_one.result c.from_residual-in_err-feed_one.ensures.1 in
    rw (out.1, out.2)
    (gave-long X held limits c.args.cid.now bytes is told next now c.loop-piece.pieces c.next.new.self c.loop-piece.builder c.feed_one.new.builder c.in-Some.piece c.in_err-feed_one.field-0.0
    (map-kept X held (g.S.Store.seen c.args.store.now).told told c.loop-piece.invariant.saves.good good) c.in_ok-piece.ensures.told c.feed_one.ensures.profile (c.loop-piece.invariant.gave held limits bytes good start is front)
    (subst (λ (r : Option (List ℕ)). IfSome told (λ t. IsNextPiece (held_at t) c.loop-piece.pieces c.next.new.self (Ok r))) c.in-Some.is c.in_ok-piece.ensures.says)
    (subst (λ (r : Option (List ℕ)). IfSome told (λ t. IfSome r (λ _. VisitsNext (held_at t) c.loop-piece.pieces c.next.new.self))) c.in-Some.is c.in_ok-piece.ensures.visits)
    (subst (λ (l : List ℕ). FeedsOne X c.args.cid.now l next now c.loop-piece.builder c.feed_one.new.builder (Err c.in_err-feed_one.field-0.0)) c.as_slice.ensures c.in_err-feed_one.ensures.feeds))

pub returns-in_err-feed_one-clause-adopts : goal.returns-in_err-feed_one-clause-adopts
returns-in_err-feed_one-clause-adopts g c =
    let reads : OnlyReads g.S.X.BlockHash.block32 NoneIsBad None (g.S.Store.seen c.loop-piece.store) (g.S.Store.seen c.next.new.store) = record { cause = c.in_ok-piece.ensures.cause; told = c.in_ok-piece.ensures.told } in
    let out = err_from_is_err_and c.from_residual-in_err-feed_one.result c.from_residual-in_err-feed_one.ensures.1 in
    rw (out.1, out.2) (record {
      saves = saves-saves c.loop-piece.invariant.saves (saves-saves (reads-saves reads) c.in_err-feed_one.ensures.adopts.saves);
      apart = c.in_err-feed_one.ensures.adopts.apart;
    })

pub returns-in_err-piece-clause-feeds : goal.returns-in_err-piece-clause-feeds
returns-in_err-piece-clause-feeds g c = λ held limits bytes good start is front.
    let X = g.S.X.BlockHash.block32 in
    let told = (g.S.Store.seen c.loop-piece.store).told in
    let out = err_from_is_err_and c.from_residual.result c.from_residual.ensures.1 in
    rw (out.1, out.2)
    (gave-fault X held limits c.args.cid.now bytes is told (g.S.Store.seen c.next.new.store).told c.loop-piece.pieces c.next.new.self c.loop-piece.builder c.in_err-piece.field-0.0
    (map-kept X held (g.S.Store.seen c.args.store.now).told told c.loop-piece.invariant.saves.good good) (c.loop-piece.invariant.gave held limits bytes good start is front) c.in_err-piece.ensures.says)

pub returns-clause-feeds : goal.returns-clause-feeds
returns-clause-feeds g c = λ held limits bytes good start is front.
    let X = g.S.X.BlockHash.block32 in
    let told = (g.S.Store.seen c.loop-piece.store).told in
    let none : c.in_ok-piece.field-0 ≡ None = search rules in
    gave-all X held limits c.args.cid.now bytes is told (g.S.Store.seen c.next.new.store).told c.loop-piece.pieces c.next.new.self c.loop-piece.builder
    (map-kept X held (g.S.Store.seen c.args.store.now).told told c.loop-piece.invariant.saves.good good) c.in_ok-piece.ensures.told (c.loop-piece.invariant.gave held limits bytes good start is front)
    (subst (λ (r : Option (List ℕ)). IfSome told (λ t. IsNextPiece (held_at t) c.loop-piece.pieces c.next.new.self (Ok r))) none c.in_ok-piece.ensures.says)

pub returns-in_err-feed_one-clause-no_other : goal.returns-in_err-feed_one-clause-no_other
returns-in_err-feed_one-clause-no_other g c = λ held limits bytes good start is front.
    let X = g.S.X.BlockHash.block32 in
    let told = (g.S.Store.seen c.loop-piece.store).told in
    let next = (g.S.Store.seen c.next.new.store).told in
    let now = (g.S.Store.seen c.feed_one.new.store).told in
    front-trans X c.args.builder.now.profile bytes (g.S.Store.seen c.args.store.now).told next now
    (subst (SavesForFront X c.args.builder.now.profile bytes (g.S.Store.seen c.args.store.now).told) (sym c.in_ok-piece.ensures.told) (c.loop-piece.invariant.no_other held limits bytes good start is front))
    (subst (λ (p : Profile). SavesForFront X p bytes next now) c.loop-piece.invariant.profile
    (piece-saves X held limits c.args.cid.now bytes is told next now c.loop-piece.pieces c.next.new.self c.loop-piece.builder c.in-Some.piece
    (map-kept X held (g.S.Store.seen c.args.store.now).told told c.loop-piece.invariant.saves.good good) (c.loop-piece.invariant.gave held limits bytes good start is front)
    (subst (λ (r : Option (List ℕ)). IfSome told (λ t. IsNextPiece (held_at t) c.loop-piece.pieces c.next.new.self (Ok r))) c.in-Some.is c.in_ok-piece.ensures.says)
    (subst (λ (r : Option (List ℕ)). IfSome told (λ t. IfSome r (λ _. VisitsNext (held_at t) c.loop-piece.pieces c.next.new.self))) c.in-Some.is c.in_ok-piece.ensures.visits)
    (λ l fed. subst (λ (k : List ℕ). SavesForFront X c.loop-piece.builder.profile (l ++ k) next now) c.as_slice.ensures (c.feed_one.ensures.no_other l fed))))

pub returns-in_err-piece-clause-no_other : goal.returns-in_err-piece-clause-no_other
returns-in_err-piece-clause-no_other g c = λ held limits bytes good start is front.
    subst (SavesForFront g.S.X.BlockHash.block32 c.args.builder.now.profile bytes (g.S.Store.seen c.args.store.now).told) (sym c.in_err-piece.ensures.told)
    (c.loop-piece.invariant.no_other held limits bytes good start is front)

pub returns-clause-no_other : goal.returns-clause-no_other
returns-clause-no_other g c = λ held limits bytes good start is front.
    subst (SavesForFront g.S.X.BlockHash.block32 c.args.builder.now.profile bytes (g.S.Store.seen c.args.store.now).told) (sym c.in_ok-piece.ensures.told)
    (c.loop-piece.invariant.no_other held limits bytes good start is front)

pub loop-piece-init : goal.loop-piece-init
loop-piece-init g c = record {
  gave = λ held limits bytes good start is front. gave-none g.S.X.BlockHash.block32 held limits c.args.cid.now bytes is (g.S.Store.seen c.args.store.now).told c.args.pieces.now c.args.builder.now start front;
  no_other = λ held limits bytes good start is front. front-same g.S.X.BlockHash.block32 c.args.builder.now.profile bytes (g.S.Store.seen c.args.store.now).told;
  profile = refl;
  not_spent = c.requires.not_spent;
  fed = λ was. was;
  touched = omega arith;
  saves = saves-none (g.S.Store.seen c.args.store.now);
}
