use Rattle.std.proofs.Common.{Ok, subst}
use Rattle.std.proofs.lemmas.Result.{err_from_is_err_and}
use Rattle.uf_store.proofs.Calls.{saves-saves}
use Rattle.uf_tree.specs.declared.profile.Profile.{Profile}
use Rattle.uf_host.specs.Reading.{AddsFile, SavesFileAt}
use Rattle.uf_host.proofs.Takings.{file-added, file-unclosed}
use Rattle.uf_host.proofs.intake.add_file.Goals as goal

pub returns-in_err-close-clause-saves : goal.returns-in_err-close-clause-saves
returns-in_err-close-clause-saves g c =
    let out = err_from_is_err_and c.from_residual-in_err-close.result c.from_residual-in_err-close.ensures.1 in
    rw (out.1, out.2) (saves-saves c.in_ok-feed_all.ensures.saves c.in_err-close.ensures.saves)

pub returns-clause-saves : goal.returns-clause-saves
returns-clause-saves g c = saves-saves c.in_ok-feed_all.ensures.saves c.in_ok-close.ensures.saves

pub returns-in_err-feed_all-clause-no_other : goal.returns-in_err-feed_all-clause-no_other
returns-in_err-feed_all-clause-no_other g c =
    let X = g.S.X.BlockHash.block32 in let host = g.W.Host.tree c.args.host.now in let path = c.args.path.now in
    let before = (g.S.Store.seen c.args.store.now).told in let mid = (g.S.Store.seen c.feed_all.new.store).told in
    let out = err_from_is_err_and c.from_residual.result c.from_residual.ensures.1 in
    rw out.1 (subst (λ (p : Profile). SavesFileAt X p before mid host path) c.new-builder.ensures.profile c.in_err-feed_all.ensures.no_other)

pub returns-in_err-close-clause-no_other : goal.returns-in_err-close-clause-no_other
returns-in_err-close-clause-no_other g c =
    let X = g.S.X.BlockHash.block32 in let host = g.W.Host.tree c.args.host.now in let path = c.args.path.now in
    let before = (g.S.Store.seen c.args.store.now).told in let mid = (g.S.Store.seen c.feed_all.new.store).told in let now = (g.S.Store.seen c.close.new.store).told in
    let same = c.new-builder.ensures.profile in
    let out = err_from_is_err_and c.from_residual-in_err-close.result c.from_residual-in_err-close.ensures.1 in
    rw out.1 (subst (λ (p : Profile). SavesFileAt X p before now host path) same
    (file-unclosed X c.new-builder.result.profile before mid now host path c.feed_all.new.builder c.in_ok-feed_all.ensures.reads_all c.close.ensures.no_other))

pub returns-clause-file : goal.returns-clause-file
returns-clause-file g c =
    let X = g.S.X.BlockHash.block32 in let host = g.W.Host.tree c.args.host.now in let path = c.args.path.now in
    let before = (g.S.Store.seen c.args.store.now).told in let mid = (g.S.Store.seen c.feed_all.new.store).told in let now = (g.S.Store.seen c.close.new.store).told in
    subst (λ (p : Profile). AddsFile X p before now host path (Ok c.in_ok-close.field-0)) c.new-builder.ensures.profile
    (file-added X c.new-builder.result.profile before mid now host path c.feed_all.new.builder c.in_ok-close.field-0 c.in_ok-feed_all.ensures.reads_all c.in_ok-close.ensures.closes c.close.ensures.no_other)
