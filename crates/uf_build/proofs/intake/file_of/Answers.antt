use Rattle.std.proofs.lemmas.Result.{err_from_is_err_and}
use Rattle.uf_store.proofs.Writing.{SavesOnly-trans}
use Rattle.uf_build.proofs.FeedingAll.{file-of, new-fed, no-file, saves-stopped, saves-unclosed, saves-whole}
use Rattle.uf_build.proofs.intake.file_of.Goals as goal

pub returns-in_err-feed_all-clause-file : goal.returns-in_err-feed_all-clause-file
returns-in_err-feed_all-clause-file g c =
    let X = g.S.X.BlockHash.block32 in let p = c.args.profile in let told = (g.S.Store.seen c.args.store.now).told in
    let n = c.new-builder.ensures in
    let out = err_from_is_err_and c.from_residual.result c.from_residual.ensures.1 in
    rw (out.1, out.2) (no-file X p c.in_err-feed_all.field-0.0 told (g.S.Store.seen c.feed_all.new.store).told c.new-builder.result (g.I.Source.left c.args.input.now) (g.I.Source.left c.feed_all.new.input) (new-fed X p told c.new-builder.result (n.fed X) (n.held X told) n.count n.profile) (c.in_err-feed_all.ensures.feeds p))

pub returns-clause-file : goal.returns-clause-file
returns-clause-file g c =
    let X = g.S.X.BlockHash.block32 in let p = c.args.profile in let told = (g.S.Store.seen c.args.store.now).told in
    let n = c.new-builder.ensures in
    file-of X p c.in_ok-close.field-0 told _ _ _ _ _ _ (c.in_ok-feed_all.ensures.feeds p) (new-fed X p told _ (n.fed X) (n.held X told) n.count n.profile) c.in_ok-close.ensures.closes

pub close-requires : goal.close-requires
close-requires g c = (c.in_ok-feed_all.ensures.feeds c.args.profile).feeds.ready

pub returns-in_err-close-clause-saves : goal.returns-in_err-close-clause-saves
returns-in_err-close-clause-saves g c = SavesOnly-trans _ _ _ _ c.in_ok-feed_all.ensures.saves.saves c.in_err-close.ensures.saves.saves

pub returns-clause-saves : goal.returns-clause-saves
returns-clause-saves g c = SavesOnly-trans _ _ _ _ c.in_ok-feed_all.ensures.saves.saves c.in_ok-close.ensures.saves.saves

pub returns-in_err-feed_all-clause-no_other : goal.returns-in_err-feed_all-clause-no_other
returns-in_err-feed_all-clause-no_other g c =
    let X = g.S.X.BlockHash.block32 in let p = c.args.profile in let told = (g.S.Store.seen c.args.store.now).told in
    let n = c.new-builder.ensures in
    let out = err_from_is_err_and c.from_residual.result c.from_residual.ensures.1 in
    rw out.1 (saves-stopped X p c.in_err-feed_all.field-0.0 told _ _ _ _ (new-fed X p told c.new-builder.result (n.fed X) (n.held X told) n.count n.profile) (c.in_err-feed_all.ensures.feeds p))

pub returns-in_err-close-clause-no_other : goal.returns-in_err-close-clause-no_other
returns-in_err-close-clause-no_other g c =
    let X = g.S.X.BlockHash.block32 in let p = c.args.profile in let told = (g.S.Store.seen c.args.store.now).told in
    let n = c.new-builder.ensures in
    let out = err_from_is_err_and c.from_residual-in_err-close.result c.from_residual-in_err-close.ensures.1 in
    rw out.1 (saves-unclosed X p told _ _ _ _ _ _ (c.in_ok-feed_all.ensures.feeds p) (new-fed X p told c.new-builder.result (n.fed X) (n.held X told) n.count n.profile) c.close.ensures.no_other)

pub returns-clause-no_other : goal.returns-clause-no_other
returns-clause-no_other g c =
    let X = g.S.X.BlockHash.block32 in let p = c.args.profile in let told = (g.S.Store.seen c.args.store.now).told in
    let n = c.new-builder.ensures in
    saves-whole X p c.in_ok-close.field-0 told _ _ _ _ _ _ (c.in_ok-feed_all.ensures.feeds p) (new-fed X p told _ (n.fed X) (n.held X told) n.count n.profile) c.in_ok-close.ensures.closes c.close.ensures.no_other
