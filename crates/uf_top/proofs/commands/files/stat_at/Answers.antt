use Rattle.std.proofs.Common.{◌≡◌, refl, subst}
use Rattle.std.specs.Prelude.{IfOk}
use Rattle.std.proofs.lemmas.Result.{err_from_is_err_and}
use Rattle.uf_cid.specs.declared.bytes.Memory.{Memory}
use Rattle.uf_plain.specs.Replies.{stat_of}
use Rattle.uf_plain.specs.declared.reply.Stat.{Stat as TheStat}
use Rattle.uf_command.specs.Lines.{stat_text}
use Rattle.uf_command.specs.declared.types.Ask.TheVariants.{Stat}
use Rattle.uf_top.proofs.Asking.{is-looked, not-looked}
use Rattle.uf_top.proofs.commands.files.stat_at.Goals as goal

pub returns-in_err-map_err : goal.returns-in_err-map_err
returns-in_err-map_err g c =
    let X = g.S.X.BlockHash.block32 in let N = g.N.NameHash.name64 in
    let e = c.stat-found.ensures in let out = err_from_is_err_and c.from_residual.result c.from_residual.ensures.1 in
    rw (out.1, out.2) (not-looked X N c.args.tree.now c.args.path.now (g.S.Store.seen c.args.store.now) (g.S.Store.seen c.stat-found.new.store) Stat (λ p t. stat_text (stat_of X N p t)) refl (λ p es. refl) c.args.touches.now c.stat-found.new.touches (λ p es rows over stood. e.touches) TheStat c.stat-found.result e.touched (λ p t found. found ≡ stat_of X N p t)
    c.in_err-map_err.field-0.0 c.in_err-map_err.ensures.cases e.answer e.lost e.cause e.told)

pub returns : goal.returns
returns g c =
    let X = g.S.X.BlockHash.block32 in let N = g.N.NameHash.name64 in
    let e = c.stat-found.ensures in
    is-looked X N c.args.tree.now c.args.path.now (g.S.Store.seen c.args.store.now) (g.S.Store.seen c.stat-found.new.store) Stat (λ p t. stat_text (stat_of X N p t)) refl (λ p es. refl) c.args.touches.now c.stat-found.new.touches (λ p es rows over stood. e.touches) TheStat Memory c.stat-found.result e.touched (λ p t found. found ≡ stat_of X N p t)
    c.in_ok-map_err.field-0 c.in_ok-map_err.ensures.cases c.stat_text.result c.made.result e.answer e.lost
    (λ p t at_tree h. subst (λ found. IfOk c.stat_text.result (λ x. x ≡ stat_text found)) h c.stat_text.ensures) c.made.ensures e.cause e.told
