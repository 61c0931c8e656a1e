use Rattle.std.proofs.lemmas.Result.{err_from_is_err_and}
use Rattle.uf_top.proofs.Opening.{at-opened, at-refused}
use Rattle.uf_top.proofs.commands.files.at.Goals as goal

pub returns-in_err-tree : goal.returns-in_err-tree
returns-in_err-tree g c = λ left reads h w side er er2.
    let out = err_from_is_err_and c.from_residual.result c.from_residual.ensures.1 in
    rw (out.1, out.2) (at-refused g.S.X.BlockHash.block32 g.N.NameHash.name64 c.args.ask.now c.args.path.now (g.S.Store.seen c.args.store.now) (g.S.Store.seen c.opened.new.store) left reads h w c.args.touches.now c.opened.new.touches side er er2
    c.in_err-tree.field-0.0 c.in_err-tree.ensures)

pub returns : goal.returns
returns g c = λ left reads h w side er er2.
    at-opened g.S.X.BlockHash.block32 g.N.NameHash.name64 c.args.ask.now c.args.path.now (g.S.Store.seen c.args.store.now) (g.S.Store.seen c.opened.new.store) left reads h w c.args.touches.now c.opened.new.touches side er er2
    c.in_ok-tree.tree c.in_ok-tree.ensures c.in_tree.result (g.S.Store.seen c.in_tree.new.store) c.in_tree.new.touches c.in_tree.ensures
