use Rattle.std.proofs.Common.{[], length, max, arith}
use Rattle.uf_tree.specs.Laying.{laid}
use Rattle.uf_fileedit.specs.Bad.{IsBadEdited}
use Rattle.uf_fileedit.specs.Touches.{edit_touches, written_chunks}
use Rattle.uf_fileedit.proofs.Edited.{more-rows}
use Rattle.uf_mfs.specs.Reading.{rows_with}
use Rattle.uf_mfs.proofs.Reaching.{heights-with}
use Rattle.uf_mfs.proofs.Rewriting.{created-file, created-touches, stepped-counts, stepped-saves}
use Rattle.uf_cid.specs.declared.cid.Codec.TheVariants.{Raw}
use Rattle.uf_mfs.proofs.SavingFiles.{created-saves}
use Rattle.uf_mfs.proofs.writing.created_file.Goals as goal

pub returns-clause-gives : goal.returns-clause-gives
returns-clause-gives g c = λ N folder es over.
    let X = g.S.X.BlockHash.block32 in let p = c.args.site.now.profile in
    let a = g.S.Store.seen c.args.store.now in let b = g.S.Store.seen c.create.new.store in
    created-file X N p a b folder es c.args.meta.now c.args.how.offset c.args.site.now.piece.now c.create.result c.as_step.result over c.requires.good c.slices_hold_bytes.ensures
    c.create.ensures.long c.create.ensures.value c.create.ensures.held c.as_step.ensures

pub returns-clause-touched : goal.returns-clause-touched
returns-clause-touched g c = stepped-counts c.create.result c.as_step.result c.args.touches.now c.create.new.touches c.as_step.ensures c.create.ensures.touched

pub returns-clause-touches : goal.returns-clause-touches
returns-clause-touches g c = λ rows heights.
    let X = g.S.X.BlockHash.block32 in let p = c.args.site.now.profile in let x = c.args.site.now.piece.now in let m = c.args.meta.now in let offset = c.args.how.offset in
    let tall = heights-with p rows c.requires.profile heights in
    let old = rows_with rows m 0 in let new = rows_with rows m (length (laid [] offset x)) in let chunks = written_chunks p.chunk 0 offset (length x) in
    created-touches X (λ name. 0) p m offset x c.create.result c.args.touches.now c.create.new.touches (edit_touches chunks (max old new)) c.create.ensures.long c.create.ensures.touched
    (more-rows chunks new (max old new) c.args.touches.now c.create.new.touches (omega arith) (c.create.ensures.touches new (tall m (length (laid [] offset x)))))

pub returns-clause-saves : goal.returns-clause-saves
returns-clause-saves g c = λ root.
    let X = g.S.X.BlockHash.block32 in let a = g.S.Store.seen c.args.store.now in let b = g.S.Store.seen c.create.new.store in
    stepped-saves X (IsBadEdited X c.args.site.now.profile b.told root) c.create.result c.as_step.result a b c.as_step.ensures (c.create.ensures.cause root) c.create.ensures.good c.create.ensures.saves

pub returns-clause-no_other : goal.returns-clause-no_other
returns-clause-no_other g c =
    λ N.
    let X = g.S.X.BlockHash.block32 in let site = c.args.site.now in
    created-saves X N site.profile _ (g.S.Store.seen c.args.store.now) (g.S.Store.seen c.create.new.store) c.args.meta.now c.args.how.offset site.piece.now c.create.result c.create.ensures.long
    (c.create.ensures.cause (record { codec = Raw; digest = [] })) c.create.ensures.no_other
