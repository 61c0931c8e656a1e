use Rattle.std.proofs.Common.{subst}
use Rattle.std.proofs.lemmas.Result.{err_from_is_err_and}
use Rattle.std.specs.Prelude.{OnErr}
use Rattle.uf_mfs.specs.Standing.{LeavesHead, SavesThen}
use Rattle.uf_mfs.proofs.Starting.{nothing-left, on-err}
use Rattle.uf_mfs.proofs.mfs.Mfs.init.Goals.{in-None, in-Some}
use Rattle.uf_store.proofs.Among.{SavesAmong-refl}
use Rattle.uf_mfs.specs.Standing.{Same}
use Rattle.uf_mfs.specs.Saving.{SavesEmpty}
use Rattle.uf_mfs.proofs.mfs.Mfs.init.Goals as goal

pub returns-in_err-head_note-clause-leaves : goal.returns-in_err-head_note-clause-leaves
returns-in_err-head_note-clause-leaves g c =
    let out = err_from_is_err_and c.from_residual.result c.from_residual.ensures.1 in
    rw out.1 (nothing-left _ _ _ c.in_err-head_note.ensures.reads.told)

pub returns-clause-leaves : goal.returns-clause-leaves
returns-clause-leaves g c =
    let X = g.S.X.BlockHash.block32 in
    let a = (g.S.Store.seen c.args.store.now).told in
    elim c.match-branch-2.branch [
      | in-Some w ↦ on-err (SavesThen X LeavesHead a (g.S.Store.seen c.match-branch-2.store).told) c.match-branch-2.result (rw w.store-is (nothing-left _ _ _ c.in_ok-head_note.ensures.reads.told))
      | in-None w ↦ rw (w.store-is, w.result-is) (subst (λ t. OnErr w.start.result (SavesThen X LeavesHead t (g.S.Store.seen w.start.new.store).told)) c.in_ok-head_note.ensures.reads.told w.start.ensures.leaves)
    ]

pub returns-in_err-head_note-clause-no_other : goal.returns-in_err-head_note-clause-no_other
returns-in_err-head_note-clause-no_other g c =
    let X = g.S.X.BlockHash.block32 in let N = g.N.NameHash.name64 in
    let out = err_from_is_err_and c.from_residual.result c.from_residual.ensures.1 in
    rw out.1 (record { between = (g.S.Store.seen c.args.store.now).told; saves = SavesAmong-refl X _ _; last = Same c.in_err-head_note.ensures.reads.told })

pub returns-clause-no_other : goal.returns-clause-no_other
returns-clause-no_other g c =
    let X = g.S.X.BlockHash.block32 in let N = g.N.NameHash.name64 in let a = (g.S.Store.seen c.args.store.now).told in
    elim c.match-branch-2.branch [
      | in-Some w ↦ rw (w.store-is, w.result-is) (record { between = a; saves = SavesAmong-refl X _ a; last = Same c.in_ok-head_note.ensures.reads.told })
      | in-None w ↦ rw (w.store-is, w.result-is) (subst (λ t. SavesEmpty X N c.args.p t (g.S.Store.seen w.start.new.store).told w.start.result) c.in_ok-head_note.ensures.reads.told w.start.ensures.no_other)
    ]
