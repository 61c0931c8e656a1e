use Rattle.std.proofs.Common.{Some, Err, inl, inr, refl}
use Rattle.std.proofs.lemmas.Result.{err_from_is_err_and}
use Rattle.uf_top.specs.Around.{host_side}
use Rattle.uf_top.specs.HostTexts.{host_text}
use Rattle.uf_top.specs.Placing.{SaysHost}
use Rattle.uf_top.proofs.Placed.{begun-put, begun-ungiven, find-reads, host-kinds, is-put-there, not-found, not-given, of-host, put-reads, some-host, ungiven-blameless}
use Rattle.uf_command.specs.Statuses.{status_of}
use Rattle.uf_top.proofs.PutSaved.{none-hosted, trees-put, trees-saved}
use Rattle.uf_top.proofs.commands.add_to_files.add_from_to.Goals as goal

pub returns-in_err-found : goal.returns-in_err-found
returns-in_err-found g c =
    let out = err_from_is_err_and c.from_residual.result c.from_residual.ensures.1 in
    rw (out.1, out.2) (λ left reads held writes er er2.
    let X = g.S.X.BlockHash.block32 in let N = g.N.NameHash.name64 in let host = g.W.Host.tree c.args.host.now in let path = c.args.path.now in
    let s = host_side (g.W.Host.tree c.args.host.now) (g.W.Host.read_faults c.args.host.now) (g.W.Host.write_faults c.args.host.now) in
    let a = g.S.Store.seen c.args.store.now in let m = g.S.Store.seen c.find.new.store in
    of-host X N c.args.recursive path c.args.dest.now left reads held writes s s er er2 (Err c.in_err-found.field-0.0) a m c.args.touches.now c.find.new.touches
    (not-found X N c.args.dest.now (Some path) (λ p. SaysHost X N p host c.args.recursive path) (λ p. host_text X N p path) (some-host X N host c.args.recursive path) a m c.args.touches.now c.find.new.touches c.in_err-found.field-0.0 c.in_err-found.ensures)
    (find-reads c.in_err-found.field-0.0 s c.in_err-found.ensures.unread)
    (none-hosted X N c.args.dest.now a m c.in_err-found.ensures.reads.told c.args.recursive path host)
    (inl (record { told = c.in_err-found.ensures.reads.told; left = refl; reads = refl })))

pub returns-in_err-given : goal.returns-in_err-given
returns-in_err-given g c =
    let out = err_from_is_err_and c.from_residual-in_err-given.result c.from_residual-in_err-given.ensures.1 in
    rw (out.1, out.2) (λ left reads held writes er er2.
    let X = g.S.X.BlockHash.block32 in let N = g.N.NameHash.name64 in let host = g.W.Host.tree c.args.host.now in let path = c.args.path.now in
    let s = host_side (g.W.Host.tree c.args.host.now) (g.W.Host.read_faults c.args.host.now) (g.W.Host.write_faults c.args.host.now) in
    let t = host_side (g.W.Host.tree c.read_host.new.host) (g.W.Host.read_faults c.read_host.new.host) (g.W.Host.write_faults c.read_host.new.host) in
    let a = g.S.Store.seen c.args.store.now in let m = g.S.Store.seen c.find.new.store in let b = g.S.Store.seen c.read_host.new.store in
    let e = c.in_err-given.ensures in
    of-host X N c.args.recursive path c.args.dest.now left reads held writes s t er er2 (Err c.in_err-given.field-0.0) a b c.args.touches.now c.find.new.touches
    (not-given X N c.args.dest.now (Some path) (λ p. SaysHost X N p host c.args.recursive path) (λ p. host_text X N p path) (some-host X N host c.args.recursive path) a m c.args.touches.now c.find.new.touches c.in_ok-found.found c.in_ok-found.ensures
    b c.in_err-given.field-0.0 e.gives e.saves (host-kinds (SaysHost X N c.in_ok-found.found.tree.profile host c.args.recursive path) path c.in_err-given.field-0.0 e.gives) (ungiven-blameless (SaysHost X N c.in_ok-found.found.tree.profile host c.args.recursive path) c.in_err-given.field-0.0 e.gives))
    e.host
    (trees-saved X N c.args.dest.now path a m c.args.touches.now c.find.new.touches c.in_ok-found.found c.in_ok-found.ensures c.args.recursive (status_of c.in_err-given.field-0.0) b host e.no_other)
    (inr (begun-ungiven X N c.args.dest.now (Some path) (λ p. SaysHost X N p host c.args.recursive path) (λ p. host_text X N p path) (some-host X N host c.args.recursive path) a m c.args.touches.now c.find.new.touches c.in_ok-found.found c.in_ok-found.ensures b c.in_err-given.field-0.0 e.gives e.saves)))

pub returns : goal.returns
returns g c = λ left reads held writes er er2.
    let X = g.S.X.BlockHash.block32 in let N = g.N.NameHash.name64 in let host = g.W.Host.tree c.args.host.now in let path = c.args.path.now in
    let s = host_side (g.W.Host.tree c.args.host.now) (g.W.Host.read_faults c.args.host.now) (g.W.Host.write_faults c.args.host.now) in
    let t = host_side (g.W.Host.tree c.read_host.new.host) (g.W.Host.read_faults c.read_host.new.host) (g.W.Host.write_faults c.read_host.new.host) in
    let a = g.S.Store.seen c.args.store.now in let m = g.S.Store.seen c.find.new.store in let b = g.S.Store.seen c.read_host.new.store in let d = g.S.Store.seen c.put.new.store in
    let e = c.in_ok-given.ensures in
    of-host X N c.args.recursive path c.args.dest.now left reads held writes s t er er2 c.put.result a d c.args.touches.now c.put.new.touches
    (is-put-there X N c.args.dest.now (Some path) (λ p. SaysHost X N p host c.args.recursive path) (λ p. host_text X N p path) (some-host X N host c.args.recursive path) a m c.args.touches.now c.find.new.touches c.in_ok-found.found c.in_ok-found.ensures
    b d c.put.new.touches c.in_ok-found.ensures.touched.kept c.in_ok-given.given e.gives e.saves c.put.result c.put.ensures)
    (put-reads c.put.result s t c.put.ensures.kinds e.host)
    (trees-put X N c.args.dest.now path a m c.args.touches.now c.find.new.touches c.in_ok-found.found c.in_ok-found.ensures c.args.recursive (host_text X N c.in_ok-found.found.tree.profile path) b d c.put.new.touches host c.in_ok-given.given e.gives e.saves e.no_other c.put.result c.put.ensures)
    (inr (begun-put X N c.args.dest.now (Some path) (λ p. SaysHost X N p host c.args.recursive path) (λ p. host_text X N p path) (some-host X N host c.args.recursive path) a m c.args.touches.now c.find.new.touches c.in_ok-found.found c.in_ok-found.ensures
    b d c.put.new.touches c.in_ok-found.ensures.touched.kept c.in_ok-given.given e.gives e.saves c.put.result c.put.ensures))
