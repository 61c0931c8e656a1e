use Rattle.std.proofs.Common.{subst, ◌∙◌}
use Rattle.std.proofs.lemmas.Result.{err_from_is_err_and}
use Rattle.uf_store.specs.Among.{SavesAmong}
use Rattle.uf_store.proofs.Among.{SavesAmong-refl, SavesAmong-trans}
use Rattle.uf_store.proofs.Calls.{saves-saves}
use Rattle.uf_build.proofs.Among.{front-whole}
use Rattle.uf_tree.specs.FilePlan.{file_plan}
use Rattle.uf_tree.specs.declared.profile.Profile.{Profile}
use Rattle.uf_adopt.specs.Feeding.{AdoptsFile}
use Rattle.uf_adopt.proofs.Fed.{new-front, no-file}
use Rattle.uf_adopt.proofs.files.adopt_file.Goals as goal

pub returns-in_err-feed_all-clause-file : goal.returns-in_err-feed_all-clause-file
returns-in_err-feed_all-clause-file g c = λ held bytes good is.
    let X = g.S.X.BlockHash.block32 in
    let told = (g.S.Store.seen c.args.store.now).told in
    let n = c.new-builder.ensures in
    let out = err_from_is_err_and c.from_residual-in_err-feed_all.result c.from_residual-in_err-feed_all.ensures.1 in
    rw (out.1, out.2)
    (no-file X c.args.meta.now c.args.cid.now c.args.p.now bytes (g.S.Store.seen c.feed_all.new.store).told c.feed_all.new.builder c.in_err-feed_all.field-0.0 (c.feed_all.ensures.profile ∙ n.profile)
    (c.in_err-feed_all.ensures.feeds held c.args.limits.now bytes good c.in_ok-pieces.ensures.start is (new-front X told c.new-builder.result (n.fed X) (n.held X told) n.count n.spent)))

pub returns-clause-file : goal.returns-clause-file
returns-clause-file g c = λ held bytes good is.
    let X = g.S.X.BlockHash.block32 in
    let told = (g.S.Store.seen c.args.store.now).told in
    let n = c.new-builder.ensures in
    let front = c.in_ok-feed_all.ensures.feeds held c.args.limits.now bytes good c.in_ok-pieces.ensures.start is (new-front X told c.new-builder.result (n.fed X) (n.held X told) n.count n.spent) in
    subst (λ (p : Profile). AdoptsFile X p c.args.meta.now c.args.cid.now bytes (g.S.Store.seen c.close.new.store).told c.close.result) (c.feed_all.ensures.profile ∙ n.profile) (c.close.ensures.file c.args.cid.now bytes front)

pub returns-clause-adopts : goal.returns-clause-adopts
returns-clause-adopts g c = record { saves = saves-saves c.in_ok-feed_all.ensures.adopts.saves c.close.ensures.adopts.saves; apart = c.close.ensures.adopts.apart }

pub returns-in_err-pieces-clause-no_other : goal.returns-in_err-pieces-clause-no_other
returns-in_err-pieces-clause-no_other g c = λ held bytes good is. SavesAmong-refl g.S.X.BlockHash.block32 (file_plan g.S.X.BlockHash.block32 c.args.p.now c.args.meta.now bytes).blocks (g.S.Store.seen c.args.store.now).told

pub returns-in_err-feed_all-clause-no_other : goal.returns-in_err-feed_all-clause-no_other
returns-in_err-feed_all-clause-no_other g c = λ held bytes good is.
    let X = g.S.X.BlockHash.block32 in
    let told = (g.S.Store.seen c.args.store.now).told in
    let n = c.new-builder.ensures in
    subst (λ (p : Profile). SavesAmong X (file_plan X p c.args.meta.now bytes).blocks told (g.S.Store.seen c.feed_all.new.store).told) n.profile
    (front-whole X c.new-builder.result.profile c.args.meta.now bytes told (g.S.Store.seen c.feed_all.new.store).told
    (c.feed_all.ensures.no_other held c.args.limits.now bytes good c.in_ok-pieces.ensures.start is (new-front X told c.new-builder.result (n.fed X) (n.held X told) n.count n.spent)))

pub returns-clause-no_other : goal.returns-clause-no_other
returns-clause-no_other g c = λ held bytes good is.
    let X = g.S.X.BlockHash.block32 in
    let told = (g.S.Store.seen c.args.store.now).told in
    let mid = (g.S.Store.seen c.feed_all.new.store).told in
    let now = (g.S.Store.seen c.close.new.store).told in
    let n = c.new-builder.ensures in
    let blocks = (file_plan X c.args.p.now c.args.meta.now bytes).blocks in
    let new = new-front X told c.new-builder.result (n.fed X) (n.held X told) n.count n.spent in
    let front = c.in_ok-feed_all.ensures.feeds held c.args.limits.now bytes good c.in_ok-pieces.ensures.start is new in
    SavesAmong-trans X blocks told mid now
    (subst (λ (p : Profile). SavesAmong X (file_plan X p c.args.meta.now bytes).blocks told mid) n.profile
    (front-whole X c.new-builder.result.profile c.args.meta.now bytes told mid (c.feed_all.ensures.no_other held c.args.limits.now bytes good c.in_ok-pieces.ensures.start is new)))
    (subst (λ (p : Profile). SavesAmong X (file_plan X p c.args.meta.now bytes).blocks mid now) (c.feed_all.ensures.profile ∙ n.profile) (c.close.ensures.no_other bytes front.fed))
