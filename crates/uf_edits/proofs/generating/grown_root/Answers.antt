use Rattle.std.proofs.lemmas.Result.{err_from_is_err_and}
use Rattle.uf_gen.specs.declared.step.Step.TheVariants.{Make, Change}
use Rattle.uf_edits.proofs.Grown.{begun, made-changed, root-refused, root-stands, unready}
use Rattle.uf_edits.proofs.generating.grown_root.Goals as goal

pub returns-in_err-tree : goal.returns-in_err-tree
returns-in_err-tree g c = λ new.
    let f = c.in_err-tree.field-0.0 in
    let out = err_from_is_err_and c.from_residual.result c.from_residual.ensures.1 in
    rw (out.1, out.2)
    (unready g.S.X.BlockHash.block32 g.N.NameHash.name64 c.args.seed c.args.n (g.S.Store.seen c.args.store.now) (g.S.Store.seen c.init.new.store) f new
    c.in_err-tree.ensures.cause c.in_err-tree.ensures.leaves c.in_err-tree.ensures.finds)

pub returns-in_err-step_all : goal.returns-in_err-step_all
returns-in_err-step_all g c = λ new.
    let X = g.S.X.BlockHash.block32 in
    let N = g.N.NameHash.name64 in
    let e = c.in_ok-tree.ensures in
    let first = begun X N c.args.seed (g.S.Store.seen c.args.store.now) (g.S.Store.seen c.init.new.store) c.in_ok-tree.tree new e.cause e.writes e.answer in
    let out = err_from_is_err_and c.from_residual-in_err-step_all.result c.from_residual-in_err-step_all.ensures.1 in
    rw (out.1, out.2)
    (root-refused X N Make c.args.n c.args.seed (g.S.Store.seen c.step_all.new.store) c.step_all.new.tree c.in_err-step_all.field-0.0
    (c.in_err-step_all.ensures.grows first))

pub returns-in_err-step_all-2 : goal.returns-in_err-step_all-2
returns-in_err-step_all-2 g c = λ new.
    let X = g.S.X.BlockHash.block32 in
    let N = g.N.NameHash.name64 in
    let e = c.in_ok-tree.ensures in
    let first = begun X N c.args.seed (g.S.Store.seen c.args.store.now) (g.S.Store.seen c.init.new.store) c.in_ok-tree.tree new e.cause e.writes e.answer in
    let made = made-changed X N c.args.seed c.args.n (g.S.Store.seen c.step_all.new.store) c.step_all.new.tree (c.in_ok-step_all.ensures.grows first) in
    let out = err_from_is_err_and c.from_residual-in_err-step_all-2.result c.from_residual-in_err-step_all-2.ensures.1 in
    rw (out.1, out.2)
    (root-refused X N Change c.args.n c.args.seed (g.S.Store.seen c.step_all-2.new.store) c.step_all-2.new.tree c.in_err-step_all-2.field-0.0
    (c.in_err-step_all-2.ensures.grows made))

pub returns : goal.returns
returns g c = λ new.
    let X = g.S.X.BlockHash.block32 in
    let N = g.N.NameHash.name64 in
    let e = c.in_ok-tree.ensures in
    let first = begun X N c.args.seed (g.S.Store.seen c.args.store.now) (g.S.Store.seen c.init.new.store) c.in_ok-tree.tree new e.cause e.writes e.answer in
    let made = made-changed X N c.args.seed c.args.n (g.S.Store.seen c.step_all.new.store) c.step_all.new.tree (c.in_ok-step_all.ensures.grows first) in
    root-stands X N c.args.n c.args.seed (g.S.Store.seen c.step_all-2.new.store) c.step_all-2.new.tree (c.in_ok-step_all-2.ensures.grows made)
