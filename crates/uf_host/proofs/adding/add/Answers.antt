use Rattle.std.proofs.lemmas.Result.{err_from_is_err_and}
use Rattle.uf_host.specs.Paths.{trimmed}
use Rattle.uf_host.specs.Stopping.{levels_of}
use Rattle.uf_host.proofs.Stops.{nothing-read}
use Rattle.uf_host.proofs.adding.add.Goals as goal

pub returns-in_err-site-clause-no_other : goal.returns-in_err-site-clause-no_other
returns-in_err-site-clause-no_other g c =
    let out = err_from_is_err_and c.from_residual.result c.from_residual.ensures.1 in
    rw out.1 (nothing-read g.S.X.BlockHash.block32 g.N.NameHash.name64 c.args.p.now (g.W.Host.tree c.args.host.now) (g.S.Store.seen c.args.store.now).told (levels_of c.args.recursive) (trimmed c.args.path.now))

pub returns-in_err-zeros-clause-no_other : goal.returns-in_err-zeros-clause-no_other
returns-in_err-zeros-clause-no_other g c =
    let out = err_from_is_err_and c.from_residual-in_err-zeros.result c.from_residual-in_err-zeros.ensures.1 in
    rw out.1 (nothing-read g.S.X.BlockHash.block32 g.N.NameHash.name64 c.args.p.now (g.W.Host.tree c.args.host.now) (g.S.Store.seen c.args.store.now).told (levels_of c.args.recursive) (trimmed c.args.path.now))
