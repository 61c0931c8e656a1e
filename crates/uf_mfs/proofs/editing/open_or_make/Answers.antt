use Rattle.std.proofs.Common.{[], None, Option, ap, subst, ◌∙◌, Some}
use Rattle.std.proofs.lemmas.Result.{err_from_is_err_and}
use Rattle.uf_tree.specs.Tree.{Dir, Tree}
use Rattle.uf_tree.specs.TreePlan.{blocks}
use Rattle.uf_store.specs.Faults.{NoneIsBad}
use Rattle.uf_store.specs.Calls.{OnlySaves}
use Rattle.uf_plain.specs.Edits.{child, or_new}
use Rattle.uf_mfs.specs.declared.thing.Thing.{Thing}
use Rattle.uf_store.proofs.Calls.{reads-saves, saves-saves}
use Rattle.uf_mfs.specs.Standing.{IsAgreedMember}
use Rattle.uf_mfs.proofs.Filling.{agreed-over}
use Rattle.uf_mfs.proofs.Folders.{member-stops, opened-folder, opened-new, over-first}
use Rattle.uf_mfs.proofs.Starting.{empty-after}
use Rattle.std.specs.Prelude.{IfSome}
use Rattle.uf_mfs.specs.Bad.{IsRequired}
use Rattle.uf_mfs.proofs.Judging.{made-required}
use Rattle.std.proofs.Common.{sym}
use Rattle.uf_store.specs.Among.{SavesAmong}
use Rattle.uf_store.proofs.Among.{SavesAmong-same, SavesAmong-trans}
use Rattle.uf_tree.specs.Metas.{none}
use Rattle.uf_tree.specs.Tree.{Nothing}
use Rattle.uf_mfs.specs.Saving.{opened_blocks}
use Rattle.uf_mfs.proofs.Filling.{free}
use Rattle.uf_mfs.proofs.Moving.{own-dir}
use Rattle.uf_mfs.proofs.Saving.{calm-of, saved-more, throughout-agreed}
use Rattle.uf_mfs.proofs.editing.open_or_make.Goals as goal

pub returns-in_ok-new-in-None-clause-opens : goal.returns-in_ok-new-in-None-clause-opens
returns-in_ok-new-in-None-clause-opens g c = λ p es o.
    let X = g.S.X.BlockHash.block32 in let N = g.N.NameHash.name64 in
    let a = g.S.Store.seen c.args.store.now in let b = g.S.Store.seen c.member.new.store in let e = g.S.Store.seen c.empty.new.store in
    let found = reads-saves {f = None} c.in_ok-member.ensures.reads in
    let made : OnlySaves X NoneIsBad None b e = record { cause = c.in_ok-new-in-None.ensures.cause; good = c.in_ok-new-in-None.ensures.good; saves = c.in_ok-new-in-None.ensures.saves } in
    let first = over-first X N p found made [] c.args.folder.now es o in
    let none = subst (λ x. IsAgreedMember X N a.told p (child c.args.name.now es) x) c.in-None.is (c.in_ok-member.ensures.member p es (agreed-over X N p c.args.folder.now es first) first.calm.faults) in
    let old = blocks X N p (Dir es) in
    opened-new X N p a.told e.told old c.args.led (child c.args.name.now es) c.in_ok-new-in-None.new none
    (empty-after X N p a.told e.told old old c.in_ok-new-in-None.new o.plan.profile o.stays.first (saves-saves found made).saves (c.in_ok-new-in-None.ensures.entry N p) (c.in_ok-new-in-None.ensures.held N p))

pub returns-in_err-member-clause-saves : goal.returns-in_err-member-clause-saves
returns-in_err-member-clause-saves g c =
    let out = err_from_is_err_and c.from_residual.result c.from_residual.ensures.1 in
    rw (out.1, out.2) (reads-saves c.in_err-member.ensures.reads)

pub returns-in_err-member-clause-opens : goal.returns-in_err-member-clause-opens
returns-in_err-member-clause-opens g c = λ p es o.
    let X = g.S.X.BlockHash.block32 in let N = g.N.NameHash.name64 in
    let a = g.S.Store.seen c.args.store.now in let b = g.S.Store.seen c.member.new.store in
    let out = err_from_is_err_and c.from_residual.result c.from_residual.ensures.1 in
    rw (out.1, out.2) (member-stops X N p a.told b.told [] (λ (m : Option Tree) (x : Option Thing). IsAgreedMember X N a.told p m x) (child c.args.name.now es) c.args.name.now es (or_new c.args.led (child c.args.name.now es)) c.in_err-member.field-0.0
    (c.in_err-member.ensures.member p es (agreed-over X N p c.args.folder.now es o) o.calm.faults))

pub returns-in-Some-Folder-clause-opens : goal.returns-in-Some-Folder-clause-opens
returns-in-Some-Folder-clause-opens g c = λ p es o.
    let X = g.S.X.BlockHash.block32 in let N = g.N.NameHash.name64 in
    let a = g.S.Store.seen c.args.store.now in let b = g.S.Store.seen c.member.new.store in
    let found = subst (λ x. IsAgreedMember X N a.told p (child c.args.name.now es) x) (c.in-Some-Folder.is ∙ ap Some c.in-Some-Folder.field-0-is) (c.in_ok-member.ensures.member p es (agreed-over X N p c.args.folder.now es o) o.calm.faults) in
    rw c.in-Some-Folder.entry-is (opened-folder X N p c.args.led c.args.folder.now c.in-Some-Folder.entry _ c.args.name.now es (reads-saves {f = None} c.in_ok-member.ensures.reads) o found)

pub returns-in_ok-new-in-None-clause-required : goal.returns-in_ok-new-in-None-clause-required
returns-in_ok-new-in-None-clause-required g c = made-required g.S.X.BlockHash.block32 g.N.NameHash.name64 None c.args.folder.now.cid c.in_ok-new-in-None.new.cid (c.in_ok-new-in-None.ensures.made None)

pub returns-in-Some-Folder-clause-required : goal.returns-in-Some-Folder-clause-required
returns-in-Some-Folder-clause-required g c =
    let X = g.S.X.BlockHash.block32 in let folder = c.args.folder.now.cid in
    rw c.in-Some-Folder.entry-is (subst (λ o. IfSome o (IsRequired X folder)) (c.in-Some-Folder.is ∙ ap Some c.in-Some-Folder.field-0-is) c.in_ok-member.ensures.required)

pub returns-in_err-member-clause-no_other : goal.returns-in_err-member-clause-no_other
returns-in_err-member-clause-no_other g c =
    λ p es plan h. let X = g.S.X.BlockHash.block32 in let N = g.N.NameHash.name64 in
    SavesAmong-same X _ _ _ c.in_err-member.ensures.reads.told

pub returns-in_err-new-in-None-clause-no_other : goal.returns-in_err-new-in-None-clause-no_other
returns-in_err-new-in-None-clause-no_other g c =
    λ p es plan h. let X = g.S.X.BlockHash.block32 in let N = g.N.NameHash.name64 in let name = c.args.name.now in
    let a = g.S.Store.seen c.args.store.now in let b = g.S.Store.seen c.member.new.store in let e = g.S.Store.seen c.empty.new.store in
    let reads = c.in_ok-member.ensures.reads in
    let member = subst (λ x. IsAgreedMember X N a.told p (child name es) x) c.in-None.is (c.in_ok-member.ensures.member p es (throughout-agreed X N p a e [] c.args.folder.now es plan h) (calm-of a b h.can reads.cause).faults) in
    subst (λ (o : Option Tree). SavesAmong X (opened_blocks X N p o) a.told e.told) (sym (free X N p a.told (child name es) member))
    (saved-more X _ _ a.told e.told (own-dir X N p (Nothing none)) (SavesAmong-trans X _ a.told b.told e.told (SavesAmong-same X _ a.told b.told reads.told) (c.in_err-new-in-None.ensures.no_other N p)))

pub returns-in_ok-new-in-None-clause-no_other : goal.returns-in_ok-new-in-None-clause-no_other
returns-in_ok-new-in-None-clause-no_other g c =
    λ p es plan h. let X = g.S.X.BlockHash.block32 in let N = g.N.NameHash.name64 in let name = c.args.name.now in
    let a = g.S.Store.seen c.args.store.now in let b = g.S.Store.seen c.member.new.store in let e = g.S.Store.seen c.empty.new.store in
    let reads = c.in_ok-member.ensures.reads in
    let member = subst (λ x. IsAgreedMember X N a.told p (child name es) x) c.in-None.is (c.in_ok-member.ensures.member p es (throughout-agreed X N p a e [] c.args.folder.now es plan h) (calm-of a b h.can reads.cause).faults) in
    subst (λ (o : Option Tree). SavesAmong X (opened_blocks X N p o) a.told e.told) (sym (free X N p a.told (child name es) member))
    (saved-more X _ _ a.told e.told (own-dir X N p (Nothing none)) (SavesAmong-trans X _ a.told b.told e.told (SavesAmong-same X _ a.told b.told reads.told) (c.in_ok-new-in-None.ensures.no_other N p)))

pub returns-in-Some-File-clause-no_other : goal.returns-in-Some-File-clause-no_other
returns-in-Some-File-clause-no_other g c =
    λ p es plan h. let X = g.S.X.BlockHash.block32 in let N = g.N.NameHash.name64 in
    SavesAmong-same X _ _ _ c.in_ok-member.ensures.reads.told

pub returns-in-Some-Folder-clause-no_other : goal.returns-in-Some-Folder-clause-no_other
returns-in-Some-Folder-clause-no_other g c =
    λ p es plan h. let X = g.S.X.BlockHash.block32 in let N = g.N.NameHash.name64 in
    SavesAmong-same X _ _ _ c.in_ok-member.ensures.reads.told
