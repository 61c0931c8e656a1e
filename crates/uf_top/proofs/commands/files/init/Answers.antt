use Rattle.std.proofs.lemmas.Result.{err_from_is_err_and}
use Rattle.uf_top.proofs.Opening.{init-refused, is-ready}
use Rattle.uf_top.proofs.commands.files.init.Goals as goal

pub returns-in_err-map_err : goal.returns-in_err-map_err
returns-in_err-map_err g c = λ left reads h w side er er2.
    let e = c.init.ensures in let out = err_from_is_err_and c.from_residual.result c.from_residual.ensures.1 in
    rw (out.1, out.2) (init-refused g.S.X.BlockHash.block32 g.N.NameHash.name64 c.args.profile (g.S.Store.seen c.args.store.now) (g.S.Store.seen c.init.new.store) e.good left reads h w c.args.touches.now c.init.new.touches side er er2
    c.init.result c.in_err-map_err.field-0.0 c.in_err-map_err.ensures.cases e.answer e.finds e.leaves e.no_other e.fault e.unready e.touched e.cause)

pub returns : goal.returns
returns g c = λ left reads h w side er er2.
    let e = c.init.ensures in
    is-ready g.S.X.BlockHash.block32 g.N.NameHash.name64 c.args.profile (g.S.Store.seen c.args.store.now) (g.S.Store.seen c.init.new.store) e.good left reads h w c.args.touches.now c.init.new.touches side er er2
    c.init.result c.in_ok-map_err.field-0 c.new.result c.in_ok-map_err.ensures.cases c.new.ensures e.answer e.finds e.writes e.no_other e.cause
