use Rattle.std.proofs.Common.{ap, ◌∙◌}
use Rattle.uf_mfs.specs.declared.mfs.Mfs.{Mfs}
use Rattle.uf_uses.proofs.Roots.{root-over}
use Rattle.uf_uses.proofs.folder.root_with_folder.Goals as goal

pub returns : goal.returns
returns g c =
    let first = c.in_ok-tree.ensures in
    let next = c.in_ok-mkdir.ensures in
    root-over g.S.X.BlockHash.block32 g.N.NameHash.name64 c.args.path.now.names c.usual.result (g.S.Store.seen c.args.store.now).told (g.S.Store.seen c.args.store.now) (g.S.Store.seen c.init.new.store) (g.S.Store.seen c.mkdir.new.store) c.in_ok-tree.tree c.mkdir.new.self c.in_ok-mkdir.field-0 c.commit.new.self.root.cid
    c.usual.ensures.numbers first.answer first.cause next.cause next.answer (ap (λ (m : Mfs). m.root.cid) c.in_ok-commit.ensures.same)
