use Rattle.std.proofs.Common.{subst, ◌∙◌}
use Rattle.std.proofs.lemmas.Result.{err_from_is_err_and}
use Rattle.uf_store.specs.Among.{SavesAmong}
use Rattle.uf_store.proofs.Among.{SavesAmong-trans}
use Rattle.uf_store.proofs.Calls.{saves-saves}
use Rattle.uf_tree.specs.FilePlan.{file_plan}
use Rattle.uf_tree.specs.Metas.{none}
use Rattle.uf_tree.specs.declared.profile.Profile.{Profile}
use Rattle.uf_gen.proofs.fresh.file_entry.Goals as goal

pub returns-in_err-close-clause-saves : goal.returns-in_err-close-clause-saves
returns-in_err-close-clause-saves g c =
    let out = err_from_is_err_and c.from_residual-in_err-close.result c.from_residual-in_err-close.ensures.1 in
    rw (out.1, out.2) (saves-saves c.in_ok-feed.ensures.saves c.in_err-close.ensures.saves)

pub returns-clause-saves : goal.returns-clause-saves
returns-clause-saves g c = saves-saves c.in_ok-feed.ensures.saves c.in_ok-close.ensures.saves

pub returns-in_err-feed-clause-no_other : goal.returns-in_err-feed-clause-no_other
returns-in_err-feed-clause-no_other g c =
    let X = g.S.X.BlockHash.block32 in
    let before = (g.S.Store.seen c.args.store.now).told in let mid = (g.S.Store.seen c.feed.new.store).told in
    let n = c.new-builder.ensures in
    subst (λ (p : Profile). SavesAmong X (file_plan X p none c.args.bytes.now).blocks before mid) n.profile (c.feed.ensures.no_other (n.fed X))

pub returns-in_err-close-clause-no_other : goal.returns-in_err-close-clause-no_other
returns-in_err-close-clause-no_other g c =
    let X = g.S.X.BlockHash.block32 in
    let before = (g.S.Store.seen c.args.store.now).told in let mid = (g.S.Store.seen c.feed.new.store).told in let now = (g.S.Store.seen c.close.new.store).told in
    let n = c.new-builder.ensures in
    SavesAmong-trans X (file_plan X c.args.p.now none c.args.bytes.now).blocks before mid now
    (subst (λ (p : Profile). SavesAmong X (file_plan X p none c.args.bytes.now).blocks before mid) n.profile (c.feed.ensures.no_other (n.fed X)))
    (subst (λ (p : Profile). SavesAmong X (file_plan X p none c.args.bytes.now).blocks mid now) (c.feed.ensures.profile ∙ n.profile) (c.close.ensures.no_other c.args.bytes.now (c.in_ok-feed.ensures.fed (n.fed X))))

pub returns-clause-no_other : goal.returns-clause-no_other
returns-clause-no_other g c =
    let X = g.S.X.BlockHash.block32 in
    let before = (g.S.Store.seen c.args.store.now).told in let mid = (g.S.Store.seen c.feed.new.store).told in let now = (g.S.Store.seen c.close.new.store).told in
    let n = c.new-builder.ensures in
    SavesAmong-trans X (file_plan X c.args.p.now none c.args.bytes.now).blocks before mid now
    (subst (λ (p : Profile). SavesAmong X (file_plan X p none c.args.bytes.now).blocks before mid) n.profile (c.feed.ensures.no_other (n.fed X)))
    (subst (λ (p : Profile). SavesAmong X (file_plan X p none c.args.bytes.now).blocks mid now) (c.feed.ensures.profile ∙ n.profile) (c.close.ensures.no_other c.args.bytes.now (c.in_ok-feed.ensures.fed (n.fed X))))
