use Rattle.std.proofs.Common.{◌≤◌, ◌+◌, None, refl, subst, sym, []}
use Rattle.uf_store.specs.Calls.{OnlySaves}
use Rattle.uf_tree.specs.Tree.{Dir}
use Rattle.uf_tree.specs.TreePlan.{blocks}
use Rattle.uf_mfs.specs.declared.editing.Act.{Act}
use Rattle.uf_mfs.specs.Acts.{IsBadActed, LeavesTree, acted_root, root_touches}
use Rattle.uf_mfs.specs.Bad.{AtRoot}
use Rattle.uf_mfs.specs.Steps.{ChangesOver, stop_fault}
use Rattle.uf_mfs.proofs.After.{back-among, stays-some}
use Rattle.uf_mfs.proofs.Filling.{agreed-beside}
use Rattle.uf_mfs.proofs.MetaEdits.{root-remade}
use Rattle.uf_store.specs.Among.{SavesAmong}
use Rattle.uf_mfs.specs.Saving.{next_blocks}
use Rattle.uf_mfs.proofs.Saving.{throughout-agreed}
use Rattle.uf_mfs.proofs.changing.edit_root.Goals as goal

pub returns-in-Remake-clause-edits : goal.returns-in-Remake-clause-edits
returns-in-Remake-clause-edits g c = λ more es o.
    let X = g.S.X.BlockHash.block32 in let N = g.N.NameHash.name64 in let p = c.args.site.now.profile in let root = c.args.root.now in
    let a = g.S.Store.seen c.args.store.now in let b = g.S.Store.seen c.change_meta.new.store in
    subst (λ (act : Act). ChangesOver X N p a b more es (acted_root act es) c.change_meta.result) (sym c.in-Remake.is)
    (root-remade X N p a b more c.in-Remake.what es c.change_meta.result
    (c.change_meta.ensures.gives (Dir es) (agreed-beside X N p more root es o, tt) (stays-some a.told b.told _ _ (back-among more (blocks X N p (Dir es))) o.stays) o.calm))

pub returns-in-Remake-clause-idle : goal.returns-in-Remake-clause-idle
returns-in-Remake-clause-idle g c = λ q es i stood left.
    c.change_meta.ensures.idle q (Dir es) (i, tt) stood (subst (λ (act : Act). LeavesTree act c.args.site.now.piece.now (Dir es)) c.in-Remake.is left)

pub returns-in-Remake-clause-made : goal.returns-in-Remake-clause-made
returns-in-Remake-clause-made g c = c.change_meta.ensures.made c.args.root.now None refl

pub returns-in-Remake-clause-saves : goal.returns-in-Remake-clause-saves
returns-in-Remake-clause-saves g c =
    let X = g.S.X.BlockHash.block32 in let N = g.N.NameHash.name64 in let p = c.args.site.now.profile in let root = c.args.root.now in
    let a = g.S.Store.seen c.args.store.now in let b = g.S.Store.seen c.change_meta.new.store in
    subst (λ (act : Act). OnlySaves X (IsBadActed X N p b.told root.cid act) (stop_fault c.change_meta.result) a b) (sym c.in-Remake.is) (c.change_meta.ensures.saves root.cid (AtRoot refl))

pub returns-in-Remake-clause-touches : goal.returns-in-Remake-clause-touches
returns-in-Remake-clause-touches g c =
    subst (λ (act : Act). c.change_meta.new.touches ≤ c.args.touches.now + root_touches act) (sym c.in-Remake.is) c.change_meta.ensures.touches

pub returns-in-Remake-clause-no_other : goal.returns-in-Remake-clause-no_other
returns-in-Remake-clause-no_other g c =
    λ es plan h.
    let X = g.S.X.BlockHash.block32 in let N = g.N.NameHash.name64 in let p = c.args.site.now.profile in let root = c.args.root.now in
    let a = g.S.Store.seen c.args.store.now in let b = g.S.Store.seen c.change_meta.new.store in
    subst (λ (act : Act). SavesAmong X (next_blocks X N p (acted_root act es)) a.told b.told) (sym c.in-Remake.is)
    (c.change_meta.ensures.no_other (Dir es) (throughout-agreed X N p a b [] root es plan h, tt) h)
