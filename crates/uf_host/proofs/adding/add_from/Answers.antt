use Rattle.std.proofs.Common.{Bool, false, Ok, subst, sym}
use Rattle.std.specs.Prelude.{OnErr}
use Rattle.uf_host.specs.Adding.{AddsAs, IsRefusal, SavesReadAt}
use Rattle.uf_host.specs.Stopping.{levels_of}
use Rattle.uf_host.specs.HostTree.{rows_of, walk_of}
use Rattle.uf_host.specs.declared.fault.HostFault.{HostFault}
use Rattle.uf_host.proofs.Walks.{one-added, one-refused}
use Rattle.uf_host.proofs.adding.add_from.Goals as goal

pub returns-in-Ok-clause-adds : goal.returns-in-Ok-clause-adds
returns-in-Ok-clause-adds g c =
    let X = g.S.X.BlockHash.block32 in let N = g.N.NameHash.name64 in let p = c.args.import.now.profile in
    let host = g.W.Host.tree c.args.host.now in let site = c.args.site.now in let before = (g.S.Store.seen c.args.store.now).told in let told = (g.S.Store.seen c.add_at-2.new.store).told in
    let rows = c.args.import.now.rows in let rows_now = c.add_at-2.new.import.rows in let e = c.in-Ok.entry in
    subst (λ (r : Bool). AddsAs X N p (rows_of X N p site.row) before told host (λ tree. walk_of X N p tree r site.path) rows rows_now (Ok e)) (sym c.if-recursive.false)
    (one-added X N p before told host site rows rows_now e c.in-Ok.ensures.adds)

pub returns-in-Err-clause-adds : goal.returns-in-Err-clause-adds
returns-in-Err-clause-adds g c =
    let X = g.S.X.BlockHash.block32 in let N = g.N.NameHash.name64 in let p = c.args.import.now.profile in
    let host = g.W.Host.tree c.args.host.now in let path = c.args.site.now.path in
    subst (λ (r : Bool). IsRefusal host (λ tree. walk_of X N p tree r path) c.for_one.result) (sym c.if-recursive.false)
    (subst (λ (f : HostFault). IsRefusal host (λ tree. walk_of X N p tree false path) f) (sym c.for_one.ensures) (one-refused X N p host path c.in-Err.fault c.in-Err.ensures.adds))

pub returns-then-recursive-clause-no_other : goal.returns-then-recursive-clause-no_other
returns-then-recursive-clause-no_other g c =
    let X = g.S.X.BlockHash.block32 in let N = g.N.NameHash.name64 in let p = c.args.import.now.profile in
    let before = (g.S.Store.seen c.args.store.now).told in let now = (g.S.Store.seen c.add_at.new.store).told in
    subst (λ (r : Bool). OnErr c.add_at.result (SavesReadAt X N p before now (g.W.Host.tree c.args.host.now) (levels_of r) c.args.site.now.path)) (sym c.if-recursive.true)
    c.add_at.ensures.no_other

pub returns-in-Err-clause-no_other : goal.returns-in-Err-clause-no_other
returns-in-Err-clause-no_other g c =
    let X = g.S.X.BlockHash.block32 in let N = g.N.NameHash.name64 in let p = c.args.import.now.profile in
    let before = (g.S.Store.seen c.args.store.now).told in let now = (g.S.Store.seen c.add_at-2.new.store).told in
    subst (λ (r : Bool). SavesReadAt X N p before now (g.W.Host.tree c.args.host.now) (levels_of r) c.args.site.now.path) (sym c.if-recursive.false)
    c.in-Err.ensures.no_other
