use Rattle.std.proofs.Common.{◌∙◌, Err}
use Rattle.uf_host.specs.Paths.{trimmed}
use Rattle.uf_store.specs.Faults.{NoneIsBad}
use Rattle.uf_store.proofs.Calls.{shown-after}
use Rattle.uf_command.specs.Kinds.{refusal_fault}
use Rattle.uf_top.specs.Around.{host_side}
use Rattle.uf_top.proofs.Cats.{same-fault}
use Rattle.uf_top.proofs.Gotten.{get-does, same-below, then-gotten, unread-counts, unwritten-counts, way-gotten, way-kind}
use Rattle.uf_top.proofs.commands.get.get.Goals as goal

pub returns-in-Err : goal.returns-in-Err
returns-in-Err g c = λ N left reads held writes er er2.
    let a = g.S.Store.seen c.args.store.now in let m = g.S.Store.seen c.resolve.new.store in
    let s = host_side (g.W.Host.tree c.args.host.now) (g.W.Host.read_faults c.args.host.now) (g.W.Host.write_faults c.args.host.now) in
    let e = c.in-Err.ensures in let why = c.dag_refusal.result in let is = c.dag_refusal.ensures in
    get-does g.S.X.BlockHash.block32 N c.args.path.now c.args.host_path.now a m e.told left reads held writes c.args.touches.now c.resolve.new.touches s s er er2
    (Err why) (way-gotten a.told c.args.path.now c.args.host_path.now s.told c.in-Err.fault why e.says is) (same-below (trimmed c.args.host_path.now) s.told) (way-kind c.args.path.now c.in-Err.fault why is)
    (unread-counts c.args.path.now c.in-Err.fault why is s.reads) (unwritten-counts c.args.path.now c.in-Err.fault why is s.writes) (same-fault c.args.path.now c.in-Err.fault g.S.X.BlockHash.block32 a m why is e.cause)

pub returns-in-Ok : goal.returns-in-Ok
returns-in-Ok g c = λ N left reads held writes er er2.
    let a = g.S.Store.seen c.args.store.now in let m = g.S.Store.seen c.resolve.new.store in let b = g.S.Store.seen c.get_under.new.store in
    let s = host_side (g.W.Host.tree c.args.host.now) (g.W.Host.read_faults c.args.host.now) (g.W.Host.write_faults c.args.host.now) in
    let t = host_side (g.W.Host.tree c.get_under.new.host) (g.W.Host.read_faults c.get_under.new.host) (g.W.Host.write_faults c.get_under.new.host) in
    let e = c.in-Ok.ensures in let u = c.get_under.ensures in let done = c.get_under.result in
    get-does g.S.X.BlockHash.block32 N c.args.path.now c.args.host_path.now a b (u.reads.told ∙ e.told) left reads held writes c.args.touches.now c.get_under.new.touches s t er er2
    done (then-gotten a.told m.told c.args.path.now c.args.host_path.now c.in-Ok.cid s.told t.told done e.told e.says u.gets) u.below u.refuses
    u.host_reads u.host_writes (shown-after g.S.X.BlockHash.block32 NoneIsBad (refusal_fault done) a m b e.cause u.reads.cause)
