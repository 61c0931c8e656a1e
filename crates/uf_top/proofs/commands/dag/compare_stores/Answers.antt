use Rattle.std.proofs.lemmas.Result.{err_from_is_err_and}
use Rattle.uf_top.proofs.Comparing.{compared-shown, compared-unshown, uncompared}
use Rattle.uf_top.proofs.commands.dag.compare_stores.Goals as goal

pub returns-in_err-found : goal.returns-in_err-found
returns-in_err-found g c =
    let e = c.same.ensures in let out = err_from_is_err_and c.from_residual.result c.from_residual.ensures.1 in
    rw (out.1, out.2) (uncompared g.S.X.BlockHash.block32 c.args.cid.now c.args.root.now (g.S.Store.seen c.args.left.now) (g.S.Store.seen c.same.new.left) (g.R.Store.seen c.args.right.now) (g.R.Store.seen c.same.new.right) e.left_told e.right_told
    c.same.result c.in_err-found.field-0.0 c.in_err-found.ensures.cases e.verdict e.loads e.left e.right e.left_misses)

pub returns-in_err-compared_text : goal.returns-in_err-compared_text
returns-in_err-compared_text g c =
    let e = c.same.ensures in let out = err_from_is_err_and c.from_residual-in_err-compared_text.result c.from_residual-in_err-compared_text.ensures.1 in
    rw (out.1, out.2) (compared-unshown g.S.X.BlockHash.block32 c.args.cid.now c.args.root.now (g.S.Store.seen c.args.left.now) (g.S.Store.seen c.same.new.left) (g.R.Store.seen c.args.right.now) (g.R.Store.seen c.same.new.right) e.left_told e.right_told
    c.same.result c.in_ok-found.found c.in_ok-found.ensures.cases e.left)

pub returns : goal.returns
returns g c =
    let e = c.same.ensures in
    compared-shown g.S.X.BlockHash.block32 c.args.cid.now c.args.root.now (g.S.Store.seen c.args.left.now) (g.S.Store.seen c.same.new.left) (g.R.Store.seen c.args.right.now) (g.R.Store.seen c.same.new.right) e.left_told e.right_told
    c.same.result c.in_ok-found.found c.in_ok-found.ensures.cases c.in_ok-compared_text.field-0 e.verdict c.in_ok-compared_text.ensures e.left
