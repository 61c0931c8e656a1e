use Rattle.std.proofs.lemmas.Result.{err_from_is_err_and}
use Rattle.uf_top.proofs.Adopted.{graft-ended, graft-refused}
use Rattle.uf_top.proofs.commands.files_cp.graft_in.Goals as goal

pub returns-in_err-grafted : goal.returns-in_err-grafted
returns-in_err-grafted g c =
    let out = err_from_is_err_and c.from_residual.result c.from_residual.ensures.1 in
    rw (out.1, out.2) (let e = c.in_err-grafted.ensures in
    graft-refused g.S.X.BlockHash.block32 g.N.NameHash.name64 c.args.tree c.grafted.new.tree c.args.source.now c.args.dest.now (g.S.Store.seen c.args.store.now) (g.S.Store.seen c.grafted.new.store)
    c.in_err-grafted.field-0.0 e.puts e.saves e.unplaced e.no_other e.kinds c.args.touches.now c.grafted.new.touches e.touched)

pub returns : goal.returns
returns g c =
    let e = c.in_ok-grafted.ensures in let k = c.commit.ensures in
    graft-ended g.S.X.BlockHash.block32 g.N.NameHash.name64 c.args.tree c.grafted.new.tree c.args.source.now c.args.dest.now (g.S.Store.seen c.args.store.now) (g.S.Store.seen c.grafted.new.store) (g.S.Store.seen c.commit.new.store)
    e.puts e.saves e.unplaced e.no_other k.good c.commit.result c.map_err.result c.map_err.ensures.cases e.profile k.answer k.commits k.leaves k.cause c.args.touches.now c.grafted.new.touches c.commit.new.touches e.touched k.touched
