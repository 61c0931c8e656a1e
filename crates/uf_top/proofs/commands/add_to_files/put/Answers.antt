use Rattle.std.proofs.lemmas.Result.{err_from_is_err_and}
use Rattle.uf_top.specs.Causes.{RefusesInTree}
use Rattle.uf_top.proofs.Refusing.{gave-same}
use Rattle.uf_top.proofs.Settled.{committed, uncommitted, unplaced}
use Rattle.uf_top.proofs.commands.add_to_files.put.Goals as goal

pub returns-in_err-map_err : goal.returns-in_err-map_err
returns-in_err-map_err g c =
    let e = c.place.ensures in let out = err_from_is_err_and c.from_residual.result c.from_residual.ensures.1 in
    rw (out.1, out.2) (unplaced g.S.X.BlockHash.block32 g.N.NameHash.name64 c.args.found.tree c.place.new.self c.args.found.spot c.args.given (g.S.Store.seen c.args.store.now) (g.S.Store.seen c.place.new.store) c.requires c.args.touches.now c.place.new.touches
    c.place.result c.in_err-map_err.field-0.0 c.in_err-map_err.ensures.cases e.cause e.good e.saves e.no_other e.touched e.touches e.missing e.lost)

pub returns-in_err-map_err-2 : goal.returns-in_err-map_err-2
returns-in_err-map_err-2 g c =
    let e = c.place.ensures in let k = c.commit.ensures in let done = gave-same RefusesInTree c.place.result c.in_ok-map_err.field-0 c.in_ok-map_err.ensures.cases in
    let out = err_from_is_err_and c.from_residual-in_err-map_err-2.result c.from_residual-in_err-map_err-2.ensures.1 in
    rw (out.1, out.2) (uncommitted g.S.X.BlockHash.block32 g.N.NameHash.name64 c.args.found.tree c.place.new.self c.args.found.spot c.args.given (g.S.Store.seen c.args.store.now) (g.S.Store.seen c.place.new.store) c.requires c.args.touches.now c.place.new.touches
    c.place.result done e.cause e.good e.saves e.no_other e.lost e.touches (g.S.Store.seen c.commit.new.store) k.good c.commit.new.touches k.touches e.touched.kept
    c.commit.result c.in_err-map_err-2.field-0.0 c.in_err-map_err-2.ensures.cases k.answer k.leaves k.cause k.touched)

pub returns : goal.returns
returns g c =
    let e = c.place.ensures in let k = c.commit.ensures in let done = gave-same RefusesInTree c.place.result c.in_ok-map_err.field-0 c.in_ok-map_err.ensures.cases in
    committed g.S.X.BlockHash.block32 g.N.NameHash.name64 c.args.found.tree c.place.new.self c.args.found.spot c.args.given (g.S.Store.seen c.args.store.now) (g.S.Store.seen c.place.new.store) c.requires c.args.touches.now c.place.new.touches
    c.place.result done e.cause e.good e.saves e.no_other e.lost e.touches (g.S.Store.seen c.commit.new.store) k.good c.commit.new.touches k.touches e.touched.kept
    c.commit.result c.in_ok-map_err-2.ensures.cases e.stays.2 k.commits k.cause
