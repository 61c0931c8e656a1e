use Rattle.std.proofs.Common.{◌≡◌, true, List, refl, subst}
use Rattle.std.specs.List.{flat_map}
use Rattle.std.specs.Prelude.{IfOk}
use Rattle.std.proofs.lemmas.Result.{err_from_is_err_and}
use Rattle.uf_cid.specs.declared.bytes.Memory.{Memory}
use Rattle.uf_plain.specs.Replies.{rows_at}
use Rattle.uf_plain.specs.declared.reply.Row.{Row}
use Rattle.uf_command.specs.Lines.{row_line}
use Rattle.uf_top.specs.Reply.{listed}
use Rattle.uf_command.specs.declared.types.Ask.TheVariants.{Ls}
use Rattle.uf_top.proofs.Asking.{is-looked, not-looked}
use Rattle.uf_top.proofs.commands.files.rows_at.Goals as goal

pub returns-in_err-map_err : goal.returns-in_err-map_err
returns-in_err-map_err g c =
    let X = g.S.X.BlockHash.block32 in let N = g.N.NameHash.name64 in let names = c.args.path.now.names in
    let e = c.ls-found.ensures in let out = err_from_is_err_and c.from_residual.result c.from_residual.ensures.1 in
    rw (out.1, out.2) (not-looked X N c.args.tree.now c.args.path.now (g.S.Store.seen c.args.store.now) (g.S.Store.seen c.ls-found.new.store) (Ls true) (λ p. listed X N true p names) refl (λ p es. refl) c.args.touches.now c.ls-found.new.touches (λ p es rows. e.touches p es) (List Row) c.ls-found.result e.touched (λ p t found. found ≡ rows_at X N p names t)
    c.in_err-map_err.field-0.0 c.in_err-map_err.ensures.cases e.answer e.lost e.cause e.told)

pub returns : goal.returns
returns g c =
    let X = g.S.X.BlockHash.block32 in let N = g.N.NameHash.name64 in let names = c.args.path.now.names in
    let e = c.ls-found.ensures in
    is-looked X N c.args.tree.now c.args.path.now (g.S.Store.seen c.args.store.now) (g.S.Store.seen c.ls-found.new.store) (Ls true) (λ p. listed X N true p names) refl (λ p es. refl) c.args.touches.now c.ls-found.new.touches (λ p es rows. e.touches p es) (List Row) Memory c.ls-found.result e.touched (λ p t found. found ≡ rows_at X N p names t)
    c.in_ok-map_err.field-0 c.in_ok-map_err.ensures.cases c.row_lines-2.result c.made.result e.answer e.lost
    (λ p t at_tree h. subst (λ found. IfOk c.row_lines-2.result (λ x. x ≡ flat_map row_line found)) h c.row_lines-2.ensures) c.made.ensures e.cause e.told
