use Rattle.std.proofs.Common.{true}
use Rattle.std.proofs.lemmas.Result.{err_from_is_err_and}
use Rattle.uf_top.specs.Around.{host_side}
use Rattle.uf_top.proofs.Hosts.{from-unread, is-only-hashed}
use Rattle.uf_top.proofs.commands.add_from.hash_from.Goals as goal

pub returns-in_err-found : goal.returns-in_err-found
returns-in_err-found g c =
    let out = err_from_is_err_and c.from_residual.result c.from_residual.ensures.1 in
    rw (out.1, out.2) (λ touches left reads held writes er er2.
    from-unread g.S.X.BlockHash.block32 g.N.NameHash.name64 (record { size = g.met.S.X.BlockHash.size; are_bytes = g.met.S.X.BlockHash.are_bytes }) c.args.recursive c.args.path.now (g.S.Store.seen c.args.store.now) (g.S.Store.seen c.head_profile.new.store) c.head_profile.ensures.told (host_side (g.W.Host.tree c.args.host.now) (g.W.Host.read_faults c.args.host.now) (g.W.Host.write_faults c.args.host.now)) er er2 left reads held writes
    true touches c.in_err-found.field-0.0 c.in_err-found.ensures.read c.in_err-found.ensures.cause)

pub returns : goal.returns
returns g c = λ touches left reads held writes er er2.
    let e = c.hash_by.ensures in
    is-only-hashed g.S.X.BlockHash.block32 g.N.NameHash.name64 (record { size = g.met.S.X.BlockHash.size; are_bytes = g.met.S.X.BlockHash.are_bytes }) c.args.recursive c.args.path.now (g.S.Store.seen c.args.store.now) (g.S.Store.seen c.head_profile.new.store) c.head_profile.ensures.told (host_side (g.W.Host.tree c.args.host.now) (g.W.Host.read_faults c.args.host.now) (g.W.Host.write_faults c.args.host.now)) er er2 left reads held writes
    c.in_ok-found.ensures.cause c.hash_by.result (host_side (g.W.Host.tree c.hash_by.new.host) (g.W.Host.read_faults c.hash_by.new.host) (g.W.Host.write_faults c.hash_by.new.host)) e.host c.in_ok-found.found c.or_usual.result touches c.or_usual.ensures c.in_ok-found.ensures.read e.text e.wants
