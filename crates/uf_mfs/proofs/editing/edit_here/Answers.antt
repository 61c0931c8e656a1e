use Rattle.std.proofs.Common.{◌≡◌, ◌+◌, ◌∙◌, [], arith, refl, subst, sym, Err, None, Ok, Option, Some, ap, ◌∷◌}
use Rattle.std.proofs.lemmas.Bool.{false≢true}
use Rattle.std.proofs.lemmas.Result.{err_from_is_err_and}
use Rattle.uf_store.proofs.Calls.{saves-saves}
use Rattle.uf_mfs.specs.Remade.{ChangesMember}
use Rattle.uf_mfs.proofs.Acting.{EditsHere, IdleHere, SavesHere, TouchesHere, leaves-there}
use Rattle.uf_mfs.proofs.Filling.{stood-before}
use Rattle.uf_mfs.proofs.Leaving.{left-file}
use Rattle.uf_mfs.proofs.MetaEdits.{member-stays, remake-none, remake-put, remake-stopped, remake-touches}
use Rattle.uf_mfs.proofs.Renewing.{tree-saves}
use Rattle.uf_mfs.proofs.Folders.{over-first}
use Rattle.uf_mfs.proofs.Rewriting.{file-done, in-written, member-put, member-stopped, member-touches, way-written}
use Rattle.uf_tree.specs.declared.nodes.Entry.{Entry}
use Rattle.uf_plain.specs.Edits.{child}
use Rattle.uf_mfs.specs.Steps.{stop_fault}
use Rattle.uf_mfs.specs.Writes.{file_touches}
use Rattle.uf_store.proofs.Among.{SavesAmong-refl, SavesAmong-trans}
use Rattle.uf_mfs.proofs.Saving.{calm-of, saved-more, throughout-first, throughout-over}
use Rattle.uf_mfs.proofs.SavingActs.{NoOtherHere, file-among, file-put, member-throughout, remade-among, remade-put}
use Rattle.uf_store.specs.Among.{SavesAmong}
use Rattle.uf_plain.specs.declared.change.Change.{Change as TheChange}
use Rattle.uf_plain.specs.declared.change.Change.TheVariants.{Make, Put}
use Rattle.uf_mfs.specs.declared.editing.Act.{Act}
use Rattle.uf_mfs.specs.declared.editing.Act.TheVariants.{Change}
use Rattle.uf_mfs.specs.Acts.{may_act}
use Rattle.uf_mfs.specs.Answers.{Decides}
use Rattle.uf_mfs.specs.Saving.{act_blocks}
use Rattle.uf_mfs.proofs.SavingActs.{change-done, taken-here}
use Rattle.uf_mfs.proofs.editing.edit_here.Goals as goal

pub returns-in_err-new-in-Rewrite-clause-edits : goal.returns-in_err-new-in-Rewrite-clause-edits
returns-in_err-new-in-Rewrite-clause-edits g c =
    let X = g.S.X.BlockHash.block32 in let N = g.N.NameHash.name64 in let site = c.args.site.now in let p = site.profile in let folder = c.args.folder.now in let name = c.args.name.now in
    let a = g.S.Store.seen c.args.store.now in let b = g.S.Store.seen c.new_file.new.store in let s = c.in_err-new-in-Rewrite.field-0.0 in
    let out = err_from_is_err_and c.from_residual-in_err-new-in-Rewrite.result c.from_residual-in_err-new-in-Rewrite.ensures.1 in
    rw (out.1, out.2) (subst (EditsHere X N p a b folder name site.piece.now site.led c.args.found (Err s)) (sym c.in-Rewrite.is)
    (λ t es meant member o. member-stopped X N p a b c.in-Rewrite.what site.piece.now (site.led + 1) name es s (c.in_err-new-in-Rewrite.ensures.gives N folder name es member o)))

pub returns-in_err-new-in-Rewrite-clause-touches : goal.returns-in_err-new-in-Rewrite-clause-touches
returns-in_err-new-in-Rewrite-clause-touches g c =
    let X = g.S.X.BlockHash.block32 in let N = g.N.NameHash.name64 in let site = c.args.site.now in let folder = c.args.folder.now in let name = c.args.name.now in
    let a = g.S.Store.seen c.args.store.now in let b = g.S.Store.seen c.new_file.new.store in
    subst (TouchesHere X N site.profile a b folder name site.piece.now site.led c.args.found c.args.touches.now c.new_file.new.touches) (sym c.in-Rewrite.is)
    (λ t rows es meant heights member o.
    let r = c.in_err-new-in-Rewrite.ensures.touches N rows folder name es heights member o in
    let few = file-done X N site.profile rows c.in-Rewrite.what site.piece.now (site.led + 1) name es in omega (arith, r, few))

pub returns-in_err-new-in-Rewrite-clause-saves : goal.returns-in_err-new-in-Rewrite-clause-saves
returns-in_err-new-in-Rewrite-clause-saves g c =
    let X = g.S.X.BlockHash.block32 in let N = g.N.NameHash.name64 in let site = c.args.site.now in let folder = c.args.folder.now in
    let a = g.S.Store.seen c.args.store.now in let b = g.S.Store.seen c.new_file.new.store in
    let out = err_from_is_err_and c.from_residual-in_err-new-in-Rewrite.result c.from_residual-in_err-new-in-Rewrite.ensures.1 in
    rw (out.1, out.2) (subst (SavesHere X N site.profile a b folder c.args.name.now site.piece.now site.led c.args.found (stop_fault {A = Entry} (Err c.in_err-new-in-Rewrite.field-0.0))) (sym c.in-Rewrite.is)
    (in-written X N site.profile b.told folder.cid c.in_err-new-in-Rewrite.ensures.saves))

pub returns-in_ok-new-in-Rewrite-clause-edits : goal.returns-in_ok-new-in-Rewrite-clause-edits
returns-in_ok-new-in-Rewrite-clause-edits g c =
    let X = g.S.X.BlockHash.block32 in let N = g.N.NameHash.name64 in let site = c.args.site.now in let p = site.profile in let folder = c.args.folder.now in let name = c.args.name.now in
    let a = g.S.Store.seen c.args.store.now in let d = g.S.Store.seen c.put_in-in-Rewrite.new.store in
    let before = c.in_ok-new-in-Rewrite.ensures.saves in let after = c.put_in-in-Rewrite.ensures.saves in
    subst (EditsHere X N p a d folder name site.piece.now site.led c.args.found c.put_in-in-Rewrite.result) (sym c.in-Rewrite.is) (λ t es meant member o.
    member-put X N p before after folder c.in_ok-new-in-Rewrite.new c.in-Rewrite.what site.piece.now (site.led + 1) name es o
    (c.in_ok-new-in-Rewrite.ensures.gives N folder name es member (over-first X N p before after [] folder es o)) c.put_in-in-Rewrite.result c.put_in-in-Rewrite.ensures.edits)

pub returns-in_ok-new-in-Rewrite-clause-saves : goal.returns-in_ok-new-in-Rewrite-clause-saves
returns-in_ok-new-in-Rewrite-clause-saves g c =
    let X = g.S.X.BlockHash.block32 in let N = g.N.NameHash.name64 in let site = c.args.site.now in let folder = c.args.folder.now in
    let a = g.S.Store.seen c.args.store.now in let d = g.S.Store.seen c.put_in-in-Rewrite.new.store in
    subst (SavesHere X N site.profile a d folder c.args.name.now site.piece.now site.led c.args.found (stop_fault c.put_in-in-Rewrite.result)) (sym c.in-Rewrite.is)
    (saves-saves c.in_ok-new-in-Rewrite.ensures.saves (way-written X N site.profile d.told folder.cid c.put_in-in-Rewrite.ensures.saves))

pub returns-in_ok-new-in-Rewrite-clause-touches : goal.returns-in_ok-new-in-Rewrite-clause-touches
returns-in_ok-new-in-Rewrite-clause-touches g c =
    let X = g.S.X.BlockHash.block32 in let N = g.N.NameHash.name64 in let site = c.args.site.now in let p = site.profile in let folder = c.args.folder.now in let name = c.args.name.now in
    let a = g.S.Store.seen c.args.store.now in let d = g.S.Store.seen c.put_in-in-Rewrite.new.store in
    let before = c.in_ok-new-in-Rewrite.ensures.saves in let after = c.put_in-in-Rewrite.ensures.saves in
    subst (TouchesHere X N p a d folder name site.piece.now site.led c.args.found c.args.touches.now c.put_in-in-Rewrite.new.touches) (sym c.in-Rewrite.is) (λ t rows es meant heights member o.
    let first = over-first X N p before after [] folder es o in
    member-touches X N p before after folder c.in_ok-new-in-Rewrite.new c.in-Rewrite.what site.piece.now (site.led + 1) name es o (c.in_ok-new-in-Rewrite.ensures.gives N folder name es member first)
    (file_touches p rows c.in-Rewrite.what site.piece.now (child name es)) c.args.touches.now c.new_file.new.touches c.put_in-in-Rewrite.new.touches
    (c.in_ok-new-in-Rewrite.ensures.touches N rows folder name es heights member first) c.put_in-in-Rewrite.ensures.touches)

pub returns-in_err-new-in-Remake-clause-edits : goal.returns-in_err-new-in-Remake-clause-edits
returns-in_err-new-in-Remake-clause-edits g c =
    let X = g.S.X.BlockHash.block32 in let N = g.N.NameHash.name64 in let site = c.args.site.now in let p = site.profile in let folder = c.args.folder.now in let name = c.args.name.now in
    let a = g.S.Store.seen c.args.store.now in let b = g.S.Store.seen c.change_member_meta.new.store in
    let s = c.in_err-new-in-Remake.field-0.0 in let out = err_from_is_err_and c.from_residual-in_err-new-in-Remake.result c.from_residual-in_err-new-in-Remake.ensures.1 in
    rw (out.1, out.2) (subst (EditsHere X N p a b folder name site.piece.now site.led c.args.found (Err s)) (sym c.in-Remake.is)
    (λ t es meant member o. remake-stopped X N p a.told b.told c.in-Remake.what (site.led + 1) folder name es s o.plan (c.in_err-new-in-Remake.ensures.gives (child name es) member (member-stays X N p a.told b.told name es o.stays) o.calm)))

pub returns-in_err-new-in-Remake-clause-idle : goal.returns-in_err-new-in-Remake-clause-idle
returns-in_err-new-in-Remake-clause-idle g c =
    let X = g.S.X.BlockHash.block32 in let N = g.N.NameHash.name64 in let site = c.args.site.now in let p = site.profile in let folder = c.args.folder.now in let name = c.args.name.now in
    let a = g.S.Store.seen c.args.store.now in let b = g.S.Store.seen c.change_member_meta.new.store in
    let s = c.in_err-new-in-Remake.field-0.0 in let out = err_from_is_err_and c.from_residual-in_err-new-in-Remake.result c.from_residual-in_err-new-in-Remake.ensures.1 in
    rw out.1 (subst (IdleHere X N p a b folder name site.piece.now site.led c.args.found (Err s)) (sym c.in-Remake.is) (λ q t member stood left. c.in_err-new-in-Remake.ensures.idle q t member stood left))

pub returns-in_err-new-in-Remake-clause-saves : goal.returns-in_err-new-in-Remake-clause-saves
returns-in_err-new-in-Remake-clause-saves g c =
    let X = g.S.X.BlockHash.block32 in let N = g.N.NameHash.name64 in let site = c.args.site.now in let p = site.profile in let folder = c.args.folder.now in let name = c.args.name.now in
    let a = g.S.Store.seen c.args.store.now in let b = g.S.Store.seen c.change_member_meta.new.store in
    let s = c.in_err-new-in-Remake.field-0.0 in let out = err_from_is_err_and c.from_residual-in_err-new-in-Remake.result c.from_residual-in_err-new-in-Remake.ensures.1 in
    rw (out.1, out.2) (subst (SavesHere X N p a b folder name site.piece.now site.led c.args.found (stop_fault {A = Option Entry} (Err s))) (sym c.in-Remake.is) (c.in_err-new-in-Remake.ensures.saves folder.cid c.requires.required))

pub returns-in_err-new-in-Remake-clause-touches : goal.returns-in_err-new-in-Remake-clause-touches
returns-in_err-new-in-Remake-clause-touches g c =
    let X = g.S.X.BlockHash.block32 in let N = g.N.NameHash.name64 in let site = c.args.site.now in let p = site.profile in let folder = c.args.folder.now in let name = c.args.name.now in
    let a = g.S.Store.seen c.args.store.now in let b = g.S.Store.seen c.change_member_meta.new.store in
    subst (TouchesHere X N p a b folder name site.piece.now site.led c.args.found c.args.touches.now c.change_member_meta.new.touches) (sym c.in-Remake.is)
    (λ t rows es meant heights member o. let r = c.in_err-new-in-Remake.ensures.touches in omega (arith, r))

pub returns-in_default-clause-edits : goal.returns-in_default-clause-edits
returns-in_default-clause-edits g c =
    let X = g.S.X.BlockHash.block32 in let N = g.N.NameHash.name64 in let site = c.args.site.now in let p = site.profile in let folder = c.args.folder.now in let name = c.args.name.now in
    let a = g.S.Store.seen c.args.store.now in let b = g.S.Store.seen c.change_member_meta.new.store in
    subst (EditsHere X N p a b folder name site.piece.now site.led c.args.found (Ok None)) (sym c.in-Remake.is)
    (λ t es meant member o. remake-none X N p a.told b.told c.in-Remake.what (site.led + 1) name es o.plan.tree
    (subst (λ (new : Option Entry). ChangesMember X N p a.told b.told c.in-Remake.what (site.led + 1) (child name es) (Ok new)) c.in_default.is (c.in_ok-new-in-Remake.ensures.gives (child name es) member (member-stays X N p a.told b.told name es o.stays) o.calm)))

pub returns-in_default-clause-idle : goal.returns-in_default-clause-idle
returns-in_default-clause-idle g c =
    let X = g.S.X.BlockHash.block32 in let N = g.N.NameHash.name64 in let site = c.args.site.now in let p = site.profile in let folder = c.args.folder.now in let name = c.args.name.now in
    let a = g.S.Store.seen c.args.store.now in let b = g.S.Store.seen c.change_member_meta.new.store in
    subst (IdleHere X N p a b folder name site.piece.now site.led c.args.found (Ok None)) (sym c.in-Remake.is) (λ q t member stood left. ((c.in_ok-new-in-Remake.ensures.idle q t member stood left).0, refl))

pub returns-in_default-clause-saves : goal.returns-in_default-clause-saves
returns-in_default-clause-saves g c =
    let X = g.S.X.BlockHash.block32 in let N = g.N.NameHash.name64 in let site = c.args.site.now in let p = site.profile in let folder = c.args.folder.now in let name = c.args.name.now in
    let a = g.S.Store.seen c.args.store.now in let b = g.S.Store.seen c.change_member_meta.new.store in
    subst (SavesHere X N p a b folder name site.piece.now site.led c.args.found None) (sym c.in-Remake.is) (c.in_ok-new-in-Remake.ensures.saves folder.cid c.requires.required)

pub returns-in_default-clause-touches : goal.returns-in_default-clause-touches
returns-in_default-clause-touches g c =
    let X = g.S.X.BlockHash.block32 in let N = g.N.NameHash.name64 in let site = c.args.site.now in let p = site.profile in let folder = c.args.folder.now in let name = c.args.name.now in
    let a = g.S.Store.seen c.args.store.now in let b = g.S.Store.seen c.change_member_meta.new.store in
    subst (TouchesHere X N p a b folder name site.piece.now site.led c.args.found c.args.touches.now c.change_member_meta.new.touches) (sym c.in-Remake.is)
    (λ t rows es meant heights member o. let r = c.in_ok-new-in-Remake.ensures.touches in omega (arith, r))

pub returns-in-Some-clause-edits : goal.returns-in-Some-clause-edits
returns-in-Some-clause-edits g c =
    let X = g.S.X.BlockHash.block32 in let N = g.N.NameHash.name64 in let site = c.args.site.now in let p = site.profile in let folder = c.args.folder.now in let name = c.args.name.now in
    let a = g.S.Store.seen c.args.store.now in let b = g.S.Store.seen c.change_member_meta.new.store in
    let d = g.S.Store.seen c.put_in-in-Remake.new.store in let before = c.in_ok-new-in-Remake.ensures.saves folder.cid c.requires.required in let after = c.put_in-in-Remake.ensures.saves in
    subst (EditsHere X N p a d folder name site.piece.now site.led c.args.found c.put_in-in-Remake.result) (sym c.in-Remake.is) (λ t es meant member o.
    let first = over-first X N p before after [] folder es o in
    remake-put X N p before after folder c.in-Some.new c.in-Remake.what (site.led + 1) name es o
    (subst (λ (new : Option Entry). ChangesMember X N p a.told b.told c.in-Remake.what (site.led + 1) (child name es) (Ok new)) c.in-Some.is (c.in_ok-new-in-Remake.ensures.gives (child name es) member (member-stays X N p a.told b.told name es first.stays) first.calm))
    c.put_in-in-Remake.result c.put_in-in-Remake.ensures.edits)

pub returns-in-Some-clause-idle : goal.returns-in-Some-clause-idle
returns-in-Some-clause-idle g c =
    let X = g.S.X.BlockHash.block32 in let N = g.N.NameHash.name64 in let site = c.args.site.now in let p = site.profile in let folder = c.args.folder.now in let name = c.args.name.now in
    let a = g.S.Store.seen c.args.store.now in let b = g.S.Store.seen c.change_member_meta.new.store in
    let d = g.S.Store.seen c.put_in-in-Remake.new.store in let before = c.in_ok-new-in-Remake.ensures.saves folder.cid c.requires.required in
    subst (IdleHere X N p a d folder name site.piece.now site.led c.args.found c.put_in-in-Remake.result) (sym c.in-Remake.is) (λ q t member stood left.
    let done = c.in_ok-new-in-Remake.ensures.idle q t member (stood-before X _ _ (stop_fault c.put_in-in-Remake.result) a b d before c.put_in-in-Remake.ensures.saves stood) left in
    absurd (let no : Some c.in-Some.new ≡ None = sym c.in-Some.is ∙ done.1 in cc))

pub returns-in-Some-clause-saves : goal.returns-in-Some-clause-saves
returns-in-Some-clause-saves g c =
    let X = g.S.X.BlockHash.block32 in let N = g.N.NameHash.name64 in let site = c.args.site.now in let p = site.profile in let folder = c.args.folder.now in let name = c.args.name.now in
    let a = g.S.Store.seen c.args.store.now in let b = g.S.Store.seen c.change_member_meta.new.store in
    let d = g.S.Store.seen c.put_in-in-Remake.new.store in
    subst (SavesHere X N p a d folder name site.piece.now site.led c.args.found (stop_fault c.put_in-in-Remake.result)) (sym c.in-Remake.is)
    (saves-saves (c.in_ok-new-in-Remake.ensures.saves folder.cid c.requires.required) (tree-saves X N p folder.cid c.put_in-in-Remake.ensures.saves))

pub returns-in-Some-clause-touches : goal.returns-in-Some-clause-touches
returns-in-Some-clause-touches g c =
    let X = g.S.X.BlockHash.block32 in let N = g.N.NameHash.name64 in let site = c.args.site.now in let p = site.profile in let folder = c.args.folder.now in let name = c.args.name.now in
    let a = g.S.Store.seen c.args.store.now in let b = g.S.Store.seen c.change_member_meta.new.store in
    let d = g.S.Store.seen c.put_in-in-Remake.new.store in let before = c.in_ok-new-in-Remake.ensures.saves folder.cid c.requires.required in let after = c.put_in-in-Remake.ensures.saves in
    subst (TouchesHere X N p a d folder name site.piece.now site.led c.args.found c.args.touches.now c.put_in-in-Remake.new.touches) (sym c.in-Remake.is) (λ t rows es meant heights member o.
    let first = over-first X N p before after [] folder es o in
    remake-touches X N p before after folder c.in-Some.new c.in-Remake.what (site.led + 1) name es o
    (subst (λ (new : Option Entry). ChangesMember X N p a.told b.told c.in-Remake.what (site.led + 1) (child name es) (Ok new)) c.in-Some.is (c.in_ok-new-in-Remake.ensures.gives (child name es) member (member-stays X N p a.told b.told name es first.stays) first.calm))
    c.args.touches.now c.change_member_meta.new.touches c.put_in-in-Remake.new.touches c.in_ok-new-in-Remake.ensures.touches c.put_in-in-Remake.ensures.touches)

pub returns-in_err-new-in-Rewrite-clause-idle : goal.returns-in_err-new-in-Rewrite-clause-idle
returns-in_err-new-in-Rewrite-clause-idle g c =
    let X = g.S.X.BlockHash.block32 in let N = g.N.NameHash.name64 in let site = c.args.site.now in let p = site.profile in let folder = c.args.folder.now in let name = c.args.name.now in
    let a = g.S.Store.seen c.args.store.now in let d = g.S.Store.seen c.new_file.new.store in
    let out = err_from_is_err_and c.from_residual-in_err-new-in-Rewrite.result c.from_residual-in_err-new-in-Rewrite.ensures.1 in
    rw out.1 (subst (IdleHere X N p a d folder name site.piece.now site.led c.args.found (Err c.in_err-new-in-Rewrite.field-0.0)) (sym c.in-Rewrite.is) (λ q t member stood left.
    absurd (false≢true (sym c.if-leaves.false ∙ c.leaves.ensures ∙ leaves-there X N a.told q c.in-Rewrite.what site.piece.now t c.args.found member left))))

pub returns-in_ok-new-in-Rewrite-clause-idle : goal.returns-in_ok-new-in-Rewrite-clause-idle
returns-in_ok-new-in-Rewrite-clause-idle g c =
    let X = g.S.X.BlockHash.block32 in let N = g.N.NameHash.name64 in let site = c.args.site.now in let p = site.profile in let folder = c.args.folder.now in let name = c.args.name.now in
    let a = g.S.Store.seen c.args.store.now in let d = g.S.Store.seen c.put_in-in-Rewrite.new.store in
    (subst (IdleHere X N p a d folder name site.piece.now site.led c.args.found c.put_in-in-Rewrite.result) (sym c.in-Rewrite.is) (λ q t member stood left.
    absurd (false≢true (sym c.if-leaves.false ∙ c.leaves.ensures ∙ leaves-there X N a.told q c.in-Rewrite.what site.piece.now t c.args.found member left))))

pub returns-then-leaves-clause-edits : goal.returns-then-leaves-clause-edits
returns-then-leaves-clause-edits g c =
    let X = g.S.X.BlockHash.block32 in let N = g.N.NameHash.name64 in let site = c.args.site.now in let p = site.profile in let folder = c.args.folder.now in let name = c.args.name.now in
    let a = g.S.Store.seen c.args.store.now in
    subst (EditsHere X N p a a folder name site.piece.now site.led c.args.found (Ok None)) (sym c.in-Rewrite.is)
    (λ t es meant member o. left-file X N p a.told c.in-Rewrite.what site.piece.now (site.led + 1) name es c.args.found o.plan.tree member (sym c.leaves.ensures ∙ c.if-leaves.true))

pub returns-then-leaves-clause-no_other : goal.returns-then-leaves-clause-no_other
returns-then-leaves-clause-no_other g c =
    let X = g.S.X.BlockHash.block32 in let N = g.N.NameHash.name64 in let site = c.args.site.now in let p = site.profile in let folder = c.args.folder.now in let name = c.args.name.now in let piece = site.piece.now in let led = site.led in
    let a = g.S.Store.seen c.args.store.now in
    subst (NoOtherHere X N p a a folder name piece led c.args.found) (sym c.in-Rewrite.is) (λ t es meant member plan h. SavesAmong-refl X _ a.told)

pub returns-in_err-new-in-Rewrite-clause-no_other : goal.returns-in_err-new-in-Rewrite-clause-no_other
returns-in_err-new-in-Rewrite-clause-no_other g c =
    let X = g.S.X.BlockHash.block32 in let N = g.N.NameHash.name64 in let site = c.args.site.now in let p = site.profile in let folder = c.args.folder.now in let name = c.args.name.now in let piece = site.piece.now in let led = site.led in
    let a = g.S.Store.seen c.args.store.now in let d = g.S.Store.seen c.new_file.new.store in
    subst (NoOtherHere X N p a d folder name piece led c.args.found) (sym c.in-Rewrite.is) (λ t es meant member plan h.
    saved-more X _ _ a.told d.told (file-among X N p c.in-Rewrite.what piece (led + 1) name es)
    (c.in_err-new-in-Rewrite.ensures.no_other N (child name es) member (member-throughout X N p a d name es h)))

pub returns-in_ok-new-in-Rewrite-clause-no_other : goal.returns-in_ok-new-in-Rewrite-clause-no_other
returns-in_ok-new-in-Rewrite-clause-no_other g c =
    let X = g.S.X.BlockHash.block32 in let N = g.N.NameHash.name64 in let site = c.args.site.now in let p = site.profile in let folder = c.args.folder.now in let name = c.args.name.now in let piece = site.piece.now in let led = site.led in
    let a = g.S.Store.seen c.args.store.now in let d = g.S.Store.seen c.put_in-in-Rewrite.new.store in
    subst (NoOtherHere X N p a d folder name piece led c.args.found) (sym c.in-Rewrite.is) (λ t es meant member plan h.
    let b = g.S.Store.seen c.new_file.new.store in
    let first = c.in_ok-new-in-Rewrite.ensures.saves in let second = c.put_in-in-Rewrite.ensures.saves in let whole = throughout-first X N p first second _ h in
    SavesAmong-trans X _ a.told b.told d.told
    (saved-more X _ _ a.told b.told (file-among X N p c.in-Rewrite.what piece (led + 1) name es) (c.in_ok-new-in-Rewrite.ensures.no_other N (child name es) member (member-throughout X N p a b name es whole)))
    (file-put X N p first second folder c.in_ok-new-in-Rewrite.new name es plan h c.put_in-in-Rewrite.ensures.no_other c.in-Rewrite.what piece (led + 1)
    (c.in_ok-new-in-Rewrite.ensures.gives N folder name es member (throughout-over X N p first second [] folder es plan h))))

pub returns-in_err-new-in-Remake-clause-no_other : goal.returns-in_err-new-in-Remake-clause-no_other
returns-in_err-new-in-Remake-clause-no_other g c =
    let X = g.S.X.BlockHash.block32 in let N = g.N.NameHash.name64 in let site = c.args.site.now in let p = site.profile in let folder = c.args.folder.now in let name = c.args.name.now in let piece = site.piece.now in let led = site.led in
    let a = g.S.Store.seen c.args.store.now in let d = g.S.Store.seen c.change_member_meta.new.store in
    subst (NoOtherHere X N p a d folder name piece led c.args.found) (sym c.in-Remake.is) (λ t es meant member plan h.
    saved-more X _ _ a.told d.told (remade-among X N p c.in-Remake.what (led + 1) name es)
    (c.in_err-new-in-Remake.ensures.no_other (child name es) member (member-throughout X N p a d name es h)))

pub returns-in_default-clause-no_other : goal.returns-in_default-clause-no_other
returns-in_default-clause-no_other g c =
    let X = g.S.X.BlockHash.block32 in let N = g.N.NameHash.name64 in let site = c.args.site.now in let p = site.profile in let folder = c.args.folder.now in let name = c.args.name.now in let piece = site.piece.now in let led = site.led in
    let a = g.S.Store.seen c.args.store.now in let d = g.S.Store.seen c.change_member_meta.new.store in
    subst (NoOtherHere X N p a d folder name piece led c.args.found) (sym c.in-Remake.is) (λ t es meant member plan h.
    saved-more X _ _ a.told d.told (remade-among X N p c.in-Remake.what (led + 1) name es)
    (c.in_ok-new-in-Remake.ensures.no_other (child name es) member (member-throughout X N p a d name es h)))

pub returns-in-Some-clause-no_other : goal.returns-in-Some-clause-no_other
returns-in-Some-clause-no_other g c =
    let X = g.S.X.BlockHash.block32 in let N = g.N.NameHash.name64 in let site = c.args.site.now in let p = site.profile in let folder = c.args.folder.now in let name = c.args.name.now in let piece = site.piece.now in let led = site.led in
    let a = g.S.Store.seen c.args.store.now in let d = g.S.Store.seen c.put_in-in-Remake.new.store in
    subst (NoOtherHere X N p a d folder name piece led c.args.found) (sym c.in-Remake.is) (λ t es meant member plan h.
    let b = g.S.Store.seen c.change_member_meta.new.store in
    let first = c.in_ok-new-in-Remake.ensures.saves folder.cid c.requires.required in let second = c.put_in-in-Remake.ensures.saves in let whole = throughout-first X N p first second _ h in
    SavesAmong-trans X _ a.told b.told d.told
    (saved-more X _ _ a.told b.told (remade-among X N p c.in-Remake.what (led + 1) name es) (c.in_ok-new-in-Remake.ensures.no_other (child name es) member (member-throughout X N p a b name es whole)))
    (remade-put X N p first second folder c.in-Some.new name es plan h c.put_in-in-Remake.ensures.no_other c.in-Remake.what (led + 1)
    (subst (λ (new : Option Entry). ChangesMember X N p a.told b.told c.in-Remake.what (led + 1) (child name es) (Ok new)) c.in-Some.is
    (c.in_ok-new-in-Remake.ensures.gives (child name es) member (member-stays X N p a.told b.told name es whole.stays) (calm-of a b h.can first.cause)))))

pub returns-in-Change-Make-clause-no_other : goal.returns-in-Change-Make-clause-no_other
returns-in-Change-Make-clause-no_other g c =
    let X = g.S.X.BlockHash.block32 in let N = g.N.NameHash.name64 in let site = c.args.site.now in let p = site.profile in let folder = c.args.folder.now in let name = c.args.name.now in let piece = site.piece.now in let led = site.led in
    let a = g.S.Store.seen c.args.store.now in let d = g.S.Store.seen c.make_in.new.store in
    let is : site.what ≡ Change Make = c.in-Change-Make.is ∙ ap (λ (x : TheChange). Change x) (rw c.in-Change-Make.is at c.in-Change-Make.field-0-is) in
    subst (NoOtherHere X N p a d folder name piece led c.args.found) (sym is) (λ t es meant member plan h.
    let may = subst (λ (act : Act). Decides (λ (a b : Unit {0}). Unit {0}) (may_act act (led + 1) (child name es)) (Ok tt)) is (c.in_ok-may.ensures X N a.told p (child name es) member) in
    subst (λ w. SavesAmong X (act_blocks X N p (Change Make) (name ∷ []) es w) a.told d.told) (sym (change-done X N p Make t (led + 1) name es may))
    (c.make_in.ensures.no_other es plan h))

pub returns-in-Change-Put-clause-no_other : goal.returns-in-Change-Put-clause-no_other
returns-in-Change-Put-clause-no_other g c =
    let X = g.S.X.BlockHash.block32 in let N = g.N.NameHash.name64 in let site = c.args.site.now in let p = site.profile in let folder = c.args.folder.now in let name = c.args.name.now in let piece = site.piece.now in let led = site.led in
    let a = g.S.Store.seen c.args.store.now in let d = g.S.Store.seen c.put_in.new.store in
    let is : site.what ≡ Change (Put c.in-Change-Put.new) = c.in-Change-Put.is ∙ ap (λ (x : TheChange). Change x) (rw c.in-Change-Put.is at c.in-Change-Put.field-0-is) in
    subst (NoOtherHere X N p a d folder name piece led c.args.found) (sym is) (λ t es meant member plan h.
    let may = subst (λ (act : Act). Decides (λ (a b : Unit {0}). Unit {0}) (may_act act (led + 1) (child name es)) (Ok tt)) is (c.in_ok-may.ensures X N a.told p (child name es) member) in
    subst (λ w. SavesAmong X (act_blocks X N p (Change (Put c.in-Change-Put.new)) (name ∷ []) es w) a.told d.told) (sym (change-done X N p (Put c.in-Change-Put.new) t (led + 1) name es may))
    (c.put_in.ensures.no_other t meant es plan h))

pub returns-in-Change-Remove-clause-no_other : goal.returns-in-Change-Remove-clause-no_other
returns-in-Change-Remove-clause-no_other g c =
    let X = g.S.X.BlockHash.block32 in let N = g.N.NameHash.name64 in let site = c.args.site.now in let p = site.profile in let a = g.S.Store.seen c.args.store.now in
    taken-here X N p a (g.S.Store.seen c.take_out.new.store) c.args.folder.now c.args.name.now site.piece.now site.led c.args.found site.what c.in-Change-Remove.field-0 c.in-Change-Remove.is
    (rw c.in-Change-Remove.is at c.in-Change-Remove.field-0-is) (λ es member. c.in_ok-may.ensures X N a.told p (child c.args.name.now es) member) c.take_out.ensures.no_other
