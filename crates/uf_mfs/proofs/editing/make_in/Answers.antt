use Rattle.std.proofs.Common.{None, Ok, [], arith}
use Rattle.uf_tree.specs.Metas.{none}
use Rattle.uf_tree.specs.Tree.{Dir, Nothing}
use Rattle.uf_tree.specs.TreePlan.{blocks}
use Rattle.uf_plain.specs.Edits.{with_child}
use Rattle.uf_store.specs.Faults.{NoneIsBad}
use Rattle.uf_store.specs.Calls.{OnlySaves}
use Rattle.uf_store.proofs.Calls.{saves-saves}
use Rattle.uf_mfs.proofs.Folders.{beside, changes-over, over-then}
use Rattle.uf_mfs.proofs.Hinge.{are-good}
use Rattle.uf_mfs.proofs.Starting.{empty-after}
use Rattle.uf_store.proofs.Among.{SavesAmong-trans}
use Rattle.uf_mfs.proofs.After.{among-then}
use Rattle.uf_mfs.proofs.Moving.{own-dir}
use Rattle.uf_mfs.proofs.Saving.{below-among, put-then, saved-more}
use Rattle.uf_mfs.proofs.editing.make_in.Goals as goal

pub returns-clause-edits : goal.returns-clause-edits
returns-clause-edits g c = λ es o.
    let X = g.S.X.BlockHash.block32 in let N = g.N.NameHash.name64 in let p = c.args.profile.now in let folder = c.args.folder.now in
    let a = g.S.Store.seen c.args.store.now in let b = g.S.Store.seen c.empty.new.store in
    let made : OnlySaves X NoneIsBad None a b = record { cause = c.in_ok-new.ensures.cause; good = c.in_ok-new.ensures.good; saves = c.in_ok-new.ensures.saves } in
    let new = empty-after X N p a.told b.told (blocks X N p (Dir es)) (blocks X N p (Dir es)) c.in_ok-new.new o.plan.profile o.stays.first made.saves (c.in_ok-new.ensures.entry N p) (c.in_ok-new.ensures.held N p) in
    let came = beside X N p made c.put_in.ensures.saves [] (blocks X N p (Dir (Nothing none))) folder es tt o new.after in
    changes-over X N p made c.put_in.ensures.saves [] (blocks X N p (Dir (Nothing none))) folder es (Ok (with_child c.args.name.now (Dir (Nothing none)) es)) c.put_in.result o came
    (c.put_in.ensures.edits (Dir (Nothing none)) new.plan es (over-then X N p made c.put_in.ensures.saves [] (blocks X N p (Dir (Nothing none))) folder folder es es (are-good X N p (Dir (Nothing none))) o.plan o came))

pub returns-clause-touches : goal.returns-clause-touches
returns-clause-touches g c = λ es o.
    let X = g.S.X.BlockHash.block32 in let N = g.N.NameHash.name64 in let p = c.args.profile.now in let folder = c.args.folder.now in
    let a = g.S.Store.seen c.args.store.now in let b = g.S.Store.seen c.empty.new.store in
    let made : OnlySaves X NoneIsBad None a b = record { cause = c.in_ok-new.ensures.cause; good = c.in_ok-new.ensures.good; saves = c.in_ok-new.ensures.saves } in
    let new = empty-after X N p a.told b.told (blocks X N p (Dir es)) (blocks X N p (Dir es)) c.in_ok-new.new o.plan.profile o.stays.first made.saves (c.in_ok-new.ensures.entry N p) (c.in_ok-new.ensures.held N p) in
    let came = beside X N p made c.put_in.ensures.saves [] (blocks X N p (Dir (Nothing none))) folder es tt o new.after in
    let r = c.put_in.ensures.touches (Dir (Nothing none)) new.plan es (over-then X N p made c.put_in.ensures.saves [] (blocks X N p (Dir (Nothing none))) folder folder es es (are-good X N p (Dir (Nothing none))) o.plan o came) in
    let first = c.in_ok-new.ensures.touches in
    omega (arith, r, first)

pub returns-clause-saves : goal.returns-clause-saves
returns-clause-saves g c =
    let a = g.S.Store.seen c.args.store.now in let b = g.S.Store.seen c.empty.new.store in
    let made : OnlySaves g.S.X.BlockHash.block32 NoneIsBad None a b = record { cause = c.in_ok-new.ensures.cause; good = c.in_ok-new.ensures.good; saves = c.in_ok-new.ensures.saves } in
    saves-saves made c.put_in.ensures.saves

pub returns-in_err-new-clause-no_other : goal.returns-in_err-new-clause-no_other
returns-in_err-new-clause-no_other g c = λ es plan h.
    let X = g.S.X.BlockHash.block32 in let N = g.N.NameHash.name64 in let p = c.args.profile.now in
    saved-more X _ _ _ _ (among-then _ _ _ (own-dir X N p (Nothing none)) (below-among X N p c.args.name.now (Dir (Nothing none)) es)) (c.in_err-new.ensures.no_other N p)

pub returns-clause-no_other : goal.returns-clause-no_other
returns-clause-no_other g c = λ es plan h.
    let X = g.S.X.BlockHash.block32 in let N = g.N.NameHash.name64 in let p = c.args.profile.now in let folder = c.args.folder.now in let name = c.args.name.now in
    let a = g.S.Store.seen c.args.store.now in let b = g.S.Store.seen c.empty.new.store in let d = g.S.Store.seen c.put_in.new.store in
    let made : OnlySaves X NoneIsBad None a b = record { cause = c.in_ok-new.ensures.cause; good = c.in_ok-new.ensures.good; saves = c.in_ok-new.ensures.saves } in
    let new = empty-after X N p a.told b.told (blocks X N p (Dir es)) (blocks X N p (Dir es)) c.in_ok-new.new plan.profile h.stays.first made.saves (c.in_ok-new.ensures.entry N p) (c.in_ok-new.ensures.held N p) in
    SavesAmong-trans X _ a.told b.told d.told
    (saved-more X _ _ _ _ (among-then _ _ _ (own-dir X N p (Nothing none)) (below-among X N p name (Dir (Nothing none)) es)) (c.in_ok-new.ensures.no_other N p))
    (put-then X N p made c.put_in.ensures.saves [] folder c.in_ok-new.new name (Dir (Nothing none)) es tt plan h new.plan new.after c.put_in.ensures.no_other)
