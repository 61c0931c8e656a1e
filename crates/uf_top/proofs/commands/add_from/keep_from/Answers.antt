use Rattle.std.proofs.Common.{false, subst}
use Rattle.std.proofs.lemmas.Result.{err_from_is_err_and}
use Rattle.std.specs.Prelude.{IfSome}
use Rattle.uf_top.specs.Around.{host_side}
use Rattle.uf_top.specs.Causes.{IsProfileIn}
use Rattle.uf_top.proofs.Hosts.{from-no-head, from-unread, is-kept}
use Rattle.uf_top.proofs.commands.add_from.keep_from.Goals as goal

pub returns-in_err-head_profile : goal.returns-in_err-head_profile
returns-in_err-head_profile g c =
    let out = err_from_is_err_and c.from_residual.result c.from_residual.ensures.1 in
    rw (out.1, out.2) (λ left reads held writes er er2.
    from-unread g.S.X.BlockHash.block32 g.N.NameHash.name64 (record { size = g.met.S.X.BlockHash.size; are_bytes = g.met.S.X.BlockHash.are_bytes }) c.args.recursive c.args.path.now (g.S.Store.seen c.args.store.now) (g.S.Store.seen c.head_profile.new.store) c.head_profile.ensures.told (host_side (g.W.Host.tree c.args.host.now) (g.W.Host.read_faults c.args.host.now) (g.W.Host.write_faults c.args.host.now)) er er2 left reads held writes
    false c.args.touches.now c.in_err-head_profile.field-0.0 c.in_err-head_profile.ensures.read c.in_err-head_profile.ensures.cause)

pub returns-in-None : goal.returns-in-None
returns-in-None g c = λ left reads held writes er er2.
    from-no-head g.S.X.BlockHash.block32 g.N.NameHash.name64 (record { size = g.met.S.X.BlockHash.size; are_bytes = g.met.S.X.BlockHash.are_bytes }) c.args.recursive c.args.path.now (g.S.Store.seen c.args.store.now) (g.S.Store.seen c.head_profile.new.store) c.head_profile.ensures.told (host_side (g.W.Host.tree c.args.host.now) (g.W.Host.read_faults c.args.host.now) (g.W.Host.write_faults c.args.host.now)) er er2 left reads held writes
    c.args.touches.now
    (subst (λ found. IfSome (g.S.Store.seen c.args.store.now).told (λ t. IsProfileIn found t.notes.head)) c.in-None.is c.in_ok-head_profile.ensures.read) c.in_ok-head_profile.ensures.cause

pub returns-in-Some : goal.returns-in-Some
returns-in-Some g c = λ left reads held writes er er2.
    let e = c.keep_by.ensures in
    is-kept g.S.X.BlockHash.block32 g.N.NameHash.name64 (record { size = g.met.S.X.BlockHash.size; are_bytes = g.met.S.X.BlockHash.are_bytes }) c.args.recursive c.args.path.now (g.S.Store.seen c.args.store.now) (g.S.Store.seen c.head_profile.new.store) c.head_profile.ensures.told (host_side (g.W.Host.tree c.args.host.now) (g.W.Host.read_faults c.args.host.now) (g.W.Host.write_faults c.args.host.now)) er er2 left reads held writes
    c.in_ok-head_profile.ensures.cause c.keep_by.result (host_side (g.W.Host.tree c.keep_by.new.host) (g.W.Host.read_faults c.keep_by.new.host) (g.W.Host.write_faults c.keep_by.new.host)) e.host c.in-Some.profile (g.S.Store.seen c.keep_by.new.store) c.args.touches.now c.keep_by.new.touches
    (subst (λ found. IfSome (g.S.Store.seen c.args.store.now).told (λ t. IsProfileIn found t.notes.head)) c.in-Some.is c.in_ok-head_profile.ensures.read) e.text e.cause e.good e.writes e.no_other
