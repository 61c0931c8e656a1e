use Rattle.std.proofs.Common.{◌≤◌, ◌+◌, length, subst, sym}
use Rattle.uf_tree.proofs.Laid.{length-cut}
use Rattle.uf_tree.specs.Laying.{cut_to, laid}
use Rattle.uf_tree.specs.FileSub.{IsFileHeight}
use Rattle.uf_plain.specs.declared.file.FileEdit.{FileEdit}
use Rattle.uf_plain.specs.Files.{fitting, rewritten}
use Rattle.uf_tree.specs.Tree.{File}
use Rattle.uf_tree.specs.TreePlan.{blocks}
use Rattle.uf_mfs.specs.Reading.{rows_with}
use Rattle.uf_mfs.specs.Writes.{MakesFile, rewriting_touches}
use Rattle.uf_mfs.proofs.Reaching.{heights-with}
use Rattle.uf_mfs.proofs.Rewriting.{cut-file, cut-touches, laid-file, laid-touches, over-agrees, over-file, stepped-counts}
use Rattle.uf_store.specs.Among.{SavesAmong}
use Rattle.uf_mfs.specs.Saving.{file_blocks}
use Rattle.uf_mfs.proofs.SavingFiles.{cut-saves, laid-saves}
use Rattle.uf_mfs.proofs.writing.rewritten_file.Goals as goal

pub returns-in-Write-clause-gives : goal.returns-in-Write-clause-gives
returns-in-Write-clause-gives g c = λ N m bytes over.
    let X = g.S.X.BlockHash.block32 in let p = c.args.site.now.profile in let x = c.args.site.now.piece.now in
    let a = g.S.Store.seen c.args.store.now in let b = g.S.Store.seen c.write_at.new.store in
    subst (λ (what : FileEdit). MakesFile X N p a b (blocks X N p (File m bytes)) m (fitting p (rewritten what x bytes)) c.as_step.result) (sym c.in-Write.is)
    (laid-file X N p a b c.args.old.now m bytes c.in-Write.how.offset x c.write_at.result c.as_step.result over c.slices_hold_bytes.ensures
    c.write_at.ensures.long c.write_at.ensures.value c.write_at.ensures.after c.as_step.ensures)

pub returns-in-Write-clause-touches : goal.returns-in-Write-clause-touches
returns-in-Write-clause-touches g c = λ N rows m bytes heights over.
    let X = g.S.X.BlockHash.block32 in let p = c.args.site.now.profile in let x = c.args.site.now.piece.now in let old = c.args.old.now in
    let a = g.S.Store.seen c.args.store.now in let b = g.S.Store.seen c.write_at.new.store in
    let tall = heights-with p rows over.plan.profile heights in
    subst (λ (what : FileEdit). c.write_at.new.touches ≤ c.args.touches.now + rewriting_touches p rows what x m bytes) (sym c.in-Write.is)
    (laid-touches X N p rows a b old m bytes c.in-Write.how.offset x c.write_at.result c.args.touches.now c.write_at.new.touches _ over c.write_at.ensures.long c.write_at.ensures.touched
    (c.write_at.ensures.touches m bytes (rows_with rows m (length bytes)) (rows_with rows m (length (laid bytes c.in-Write.how.offset x)))
    (over-file X N p a b old m bytes (rows_with rows m (length bytes)) over (tall m (length bytes))) (over-agrees X N p a b old m bytes over)
    (tall m (length (laid bytes c.in-Write.how.offset x)))))

pub returns-in-Truncate-clause-gives : goal.returns-in-Truncate-clause-gives
returns-in-Truncate-clause-gives g c = λ N m bytes over.
    let X = g.S.X.BlockHash.block32 in let p = c.args.site.now.profile in let x = c.args.site.now.piece.now in
    let a = g.S.Store.seen c.args.store.now in let b = g.S.Store.seen c.truncate.new.store in let r = c.as_step-in-Truncate.result in
    subst (λ (what : FileEdit). MakesFile X N p a b (blocks X N p (File m bytes)) m (fitting p (rewritten what x bytes)) r) (sym c.in-Truncate.is)
    (cut-file X N p a b c.args.old.now m bytes c.in-Truncate.size c.truncate.result r over
    c.truncate.ensures.long c.truncate.ensures.value c.truncate.ensures.after c.as_step-in-Truncate.ensures)

pub returns-in-Truncate-clause-touches : goal.returns-in-Truncate-clause-touches
returns-in-Truncate-clause-touches g c = λ N rows m bytes heights over.
    let X = g.S.X.BlockHash.block32 in let p = c.args.site.now.profile in let x = c.args.site.now.piece.now in let old = c.args.old.now in
    let a = g.S.Store.seen c.args.store.now in let b = g.S.Store.seen c.truncate.new.store in let size = c.in-Truncate.size in
    let tall = heights-with p rows over.plan.profile heights in
    let after = rows_with rows m (length (cut_to bytes size)) in
    subst (λ (what : FileEdit). c.truncate.new.touches ≤ c.args.touches.now + rewriting_touches p rows what x m bytes) (sym c.in-Truncate.is)
    (cut-touches X N p bytes size c.truncate.result c.args.touches.now c.truncate.new.touches _ c.truncate.ensures.long c.truncate.ensures.touched
    (c.truncate.ensures.touches m bytes (rows_with rows m (length bytes)) after
    (over-file X N p a b old m bytes (rows_with rows m (length bytes)) over (tall m (length bytes))) (over-agrees X N p a b old m bytes over)
    (subst (λ n. IsFileHeight p.chunk p.width m n after) (length-cut bytes size) (tall m (length (cut_to bytes size))))))

pub returns-in-Write-clause-touched : goal.returns-in-Write-clause-touched
returns-in-Write-clause-touched g c = stepped-counts c.write_at.result c.as_step.result c.args.touches.now c.write_at.new.touches c.as_step.ensures c.write_at.ensures.touched

pub returns-in-Truncate-clause-touched : goal.returns-in-Truncate-clause-touched
returns-in-Truncate-clause-touched g c =
    stepped-counts c.truncate.result c.as_step-in-Truncate.result c.args.touches.now c.truncate.new.touches c.as_step-in-Truncate.ensures c.truncate.ensures.touched

pub returns-in-Write-clause-no_other : goal.returns-in-Write-clause-no_other
returns-in-Write-clause-no_other g c =
    λ N m bytes plan h.
    let X = g.S.X.BlockHash.block32 in let p = c.args.site.now.profile in let x = c.args.site.now.piece.now in let old = c.args.old.now in
    let a = g.S.Store.seen c.args.store.now in let b = g.S.Store.seen c.write_at.new.store in
    subst (λ (what : FileEdit). SavesAmong X (file_blocks X N p m (fitting p (rewritten what x bytes))) a.told b.told) (sym c.in-Write.is)
    (laid-saves X N p _ a b old m bytes c.in-Write.how.offset x c.write_at.result plan h c.write_at.ensures.long c.write_at.ensures.cause c.write_at.ensures.no_other)

pub returns-in-Truncate-clause-no_other : goal.returns-in-Truncate-clause-no_other
returns-in-Truncate-clause-no_other g c =
    λ N m bytes plan h.
    let X = g.S.X.BlockHash.block32 in let p = c.args.site.now.profile in let x = c.args.site.now.piece.now in let old = c.args.old.now in
    let a = g.S.Store.seen c.args.store.now in let b = g.S.Store.seen c.truncate.new.store in
    subst (λ (what : FileEdit). SavesAmong X (file_blocks X N p m (fitting p (rewritten what x bytes))) a.told b.told) (sym c.in-Truncate.is)
    (cut-saves X N p _ a b old m bytes c.in-Truncate.size c.truncate.result plan h c.truncate.ensures.long c.truncate.ensures.cause c.truncate.ensures.no_other)
