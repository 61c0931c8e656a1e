use Rattle.std.proofs.lemmas.Result.{err_from_is_err_and}
use Rattle.uf_top.proofs.Adopted.{graft-ends, graft-unopened}
use Rattle.uf_top.proofs.commands.files_cp.graft.Goals as goal

pub returns-in_err-tree : goal.returns-in_err-tree
returns-in_err-tree g c = λ left reads held writes side er er2.
    let out = err_from_is_err_and c.from_residual.result c.from_residual.ensures.1 in
    rw (out.1, out.2) (graft-unopened g.S.X.BlockHash.block32 g.N.NameHash.name64 c.args.source.now c.args.dest.now (g.S.Store.seen c.args.store.now) (g.S.Store.seen c.opened.new.store) left reads held writes c.args.touches.now c.opened.new.touches side er er2
    c.in_err-tree.field-0.0 c.in_err-tree.ensures)

pub returns : goal.returns
returns g c = λ left reads held writes side er er2.
    graft-ends g.S.X.BlockHash.block32 g.N.NameHash.name64 c.args.source.now c.args.dest.now (g.S.Store.seen c.args.store.now) (g.S.Store.seen c.opened.new.store) left reads held writes c.args.touches.now c.opened.new.touches side er er2
    c.in_ok-tree.tree c.in_ok-tree.ensures (g.S.Store.seen c.graft_in.new.store) c.graft_in.new.touches c.graft_in.result c.graft_in.ensures
