use Rattle.std.proofs.Common.{subst}
use Rattle.std.proofs.lemmas.Result.{err_from_is_err_and}
use Rattle.uf_edits.specs.Edits.{EditsInMemory}
use Rattle.uf_top.specs.Causes.{RefusesInTree}
use Rattle.uf_top.proofs.Asking.{commit-refused, edit-refused, is-committed}
use Rattle.uf_top.proofs.Refusing.{gave-same}
use Rattle.uf_top.proofs.commands.files.edit_at.Goals as goal

pub returns-in_err-map_err : goal.returns-in_err-map_err
returns-in_err-map_err g c =
    let out = err_from_is_err_and c.from_residual.result c.from_residual.ensures.1 in
    rw (out.1, out.2) (edit-refused g.S.X.BlockHash.block32 g.N.NameHash.name64 c.args.tree c.args.path.now c.args.edit.now c.edited.new.tree (g.S.Store.seen c.args.store.now) (g.S.Store.seen c.edited.new.store) c.args.touches.now c.edited.new.touches
    c.edited.result c.in_err-map_err.field-0.0 c.in_err-map_err.ensures.cases c.edited.ensures.edits)

pub returns-in_err-map_err-2 : goal.returns-in_err-map_err-2
returns-in_err-map_err-2 g c =
    let X = g.S.X.BlockHash.block32 in let N = g.N.NameHash.name64 in let a = g.S.Store.seen c.args.store.now in let m = g.S.Store.seen c.edited.new.store in
    let e = subst (λ r. EditsInMemory X N c.args.tree c.edited.new.tree c.args.edit.now c.args.path.now r a m c.args.touches.now c.edited.new.touches) (gave-same RefusesInTree c.edited.result c.in_ok-map_err.field-0 c.in_ok-map_err.ensures.cases) c.edited.ensures.edits in
    let k = c.commit.ensures in let out = err_from_is_err_and c.from_residual-in_err-map_err-2.result c.from_residual-in_err-map_err-2.ensures.1 in
    rw (out.1, out.2) (commit-refused X N c.args.tree c.args.path.now c.args.edit.now c.edited.new.tree a m c.args.touches.now c.edited.new.touches e (g.S.Store.seen c.commit.new.store) k.good k.idle c.commit.new.touches k.touches
    c.commit.result c.in_err-map_err-2.field-0.0 c.in_err-map_err-2.ensures.cases k.touched k.answer k.leaves k.cause)

pub returns : goal.returns
returns g c =
    let X = g.S.X.BlockHash.block32 in let N = g.N.NameHash.name64 in let a = g.S.Store.seen c.args.store.now in let m = g.S.Store.seen c.edited.new.store in
    let e = subst (λ r. EditsInMemory X N c.args.tree c.edited.new.tree c.args.edit.now c.args.path.now r a m c.args.touches.now c.edited.new.touches) (gave-same RefusesInTree c.edited.result c.in_ok-map_err.field-0 c.in_ok-map_err.ensures.cases) c.edited.ensures.edits in
    let k = c.commit.ensures in
    is-committed X N c.args.tree c.args.path.now c.args.edit.now c.edited.new.tree a m c.args.touches.now c.edited.new.touches e (g.S.Store.seen c.commit.new.store) k.good k.idle c.commit.new.touches k.touches
    c.commit.result c.in_ok-map_err-2.ensures.cases c.new.result c.new.ensures k.commits c.commit.new.self k.stands k.cause
