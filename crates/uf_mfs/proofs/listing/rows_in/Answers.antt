use Rattle.std.proofs.Common.{arith, Err, None, Ok, subst, sym, ◌∙◌}
use Rattle.std.proofs.lemmas.Result.{err_from_is_err_and}
use Rattle.uf_store.specs.Lost.{ReadsOver}
use Rattle.uf_store.specs.Faults.{fault_in}
use Rattle.uf_store.proofs.Calls.{reads-by, reads-reads, shown-rises, stood-back, stood-front}
use Rattle.uf_tree.specs.Tree.{Dir, pairs}
use Rattle.uf_plain.specs.Needs.{own_needs}
use Rattle.uf_dir.specs.Bad.{IsBadRoot}
use Rattle.uf_mfs.specs.Standing.{AreMembers, IsAgreed}
use Rattle.uf_mfs.proofs.Agreed.{folder-members}
use Rattle.uf_mfs.proofs.Answering.{entries-says, entries-touches, listed-shows}
use Rattle.uf_mfs.proofs.Holding.{loss-front, reads-back}
use Rattle.uf_mfs.proofs.Membering.{roots, rows, same-length}
use Rattle.uf_store.specs.Calls.{OnlyReads}
use Rattle.uf_store.specs.Faults.{NoneIsBad}
use Rattle.uf_mfs.specs.Bad.{IsBadInTree}
use Rattle.uf_mfs.proofs.Judging.{root-bad}
use Rattle.uf_mfs.proofs.listing.rows_in.Goals as goal

pub returns-in_err-pairs-clause-rows : goal.returns-in_err-pairs-clause-rows
returns-in_err-pairs-clause-rows g c = λ p es s stood.
    let X = g.S.X.BlockHash.block32 in let N = g.N.NameHash.name64 in let a = g.S.Store.seen c.args.store.now in
    let out = err_from_is_err_and c.from_residual.result c.from_residual.ensures.1 in let f = c.in_err-pairs.field-0.0 in
    rw (out.1, out.2) (loss-front a.told (own_needs X N p (Dir es)) (roots X N p (pairs es)) f (entries-says X N (record { size = g.met.S.X.BlockHash.size; are_bytes = g.met.S.X.BlockHash.are_bytes }) g.met.N.NameHash.fits a.told p c.args.folder.now es (Err f) s
    (λ M p m l i k. c.in_err-pairs.ensures.value M p m l i k stood)))

pub returns-in_err-pairs-clause-reads : goal.returns-in_err-pairs-clause-reads
returns-in_err-pairs-clause-reads g c =
    let out = err_from_is_err_and c.from_residual.result c.from_residual.ensures.1 in
    rw (out.1, out.2) (record { cause = listed-shows g.S.X.BlockHash.block32 g.N.NameHash.name64 c.args.folder.now.cid c.in_err-pairs.field-0.0 _ _ c.in_err-pairs.ensures.blames c.in_err-pairs.ensures.cause; told = c.in_err-pairs.ensures.told })

pub returns-clause-rows : goal.returns-clause-rows
returns-clause-rows g c = λ p es s stood.
    let X = g.S.X.BlockHash.block32 in let N = g.N.NameHash.name64 in
    let a = g.S.Store.seen c.args.store.now in let b = g.S.Store.seen c.entries.new.store in let d = g.S.Store.seen c.rows_from.new.store in
    let front = stood-front a.faults b.faults d.faults c.in_ok-pairs.ensures.cause.faults (shown-rises X IsBadRoot (fault_in c.rows_from.result) b d c.rows_from.ensures.reads.cause).faults stood in
    let back = stood-back a.faults b.faults d.faults c.in_ok-pairs.ensures.cause.faults stood in
    let is = entries-says X N (record { size = g.met.S.X.BlockHash.size; are_bytes = g.met.S.X.BlockHash.are_bytes }) g.met.N.NameHash.fits a.told p c.args.folder.now es (Ok c.in_ok-pairs.pairs) s
    (λ M p m l i k. c.in_ok-pairs.ensures.value M p m l i k front) in
    let members = folder-members X N p b.told c.args.folder.now es (subst (λ told. IsAgreed X N told p c.args.folder.now (Dir es)) (sym c.in_ok-pairs.ensures.told) s) in
    reads-back a.told (own_needs X N p (Dir es)) (roots X N p (pairs es)) (rows X N p (pairs es)) c.rows_from.result
    (subst (λ told. ReadsOver told (roots X N p (pairs es)) (rows X N p (pairs es)) c.rows_from.result) c.in_ok-pairs.ensures.told
    (c.rows_from.ensures.rows p (pairs es) (subst (λ l. AreMembers X N b.told p l (pairs es)) (sym (c.as_slice.ensures ∙ is)) members) back))

pub returns-in_err-pairs-clause-touches : goal.returns-in_err-pairs-clause-touches
returns-in_err-pairs-clause-touches g c = λ p es s stood.
    let r = entries-touches g.S.X.BlockHash.block32 g.N.NameHash.name64 (record { size = g.met.S.X.BlockHash.size; are_bytes = g.met.S.X.BlockHash.are_bytes }) g.met.N.NameHash.fits _ p c.args.folder.now es c.args.touches.now c.entries.new.touches s c.in_err-pairs.ensures.touches in
    omega (arith, r)

pub returns-clause-touches : goal.returns-clause-touches
returns-clause-touches g c = λ p es s stood.
    let X = g.S.X.BlockHash.block32 in let N = g.N.NameHash.name64 in
    let a = g.S.Store.seen c.args.store.now in let b = g.S.Store.seen c.entries.new.store in let d = g.S.Store.seen c.rows_from.new.store in
    let front = stood-front a.faults b.faults d.faults c.in_ok-pairs.ensures.cause.faults (shown-rises X IsBadRoot (fault_in c.rows_from.result) b d c.rows_from.ensures.reads.cause).faults stood in
    let is = entries-says X N (record { size = g.met.S.X.BlockHash.size; are_bytes = g.met.S.X.BlockHash.are_bytes }) g.met.N.NameHash.fits a.told p c.args.folder.now es (Ok c.in_ok-pairs.pairs) s (λ M p m l i k. c.in_ok-pairs.ensures.value M p m l i k front) in
    let members = folder-members X N p b.told c.args.folder.now es (subst (λ told. IsAgreed X N told p c.args.folder.now (Dir es)) (sym c.in_ok-pairs.ensures.told) s) in
    let long = same-length X N p b.told c.as_slice.result.now (pairs es) (subst (λ l. AreMembers X N b.told p l (pairs es)) (sym (c.as_slice.ensures ∙ is)) members) in
    let r = entries-touches X N (record { size = g.met.S.X.BlockHash.size; are_bytes = g.met.S.X.BlockHash.are_bytes }) g.met.N.NameHash.fits a.told p c.args.folder.now es c.args.touches.now c.entries.new.touches s c.in_ok-pairs.ensures.touches in
    let more = c.rows_from.ensures.touches in
    omega (arith, long, r, more)

pub returns-clause-reads : goal.returns-clause-reads
returns-clause-reads g c =
    let X = g.S.X.BlockHash.block32 in let N = g.N.NameHash.name64 in let folder = c.args.folder.now.cid in
    let found : OnlyReads X NoneIsBad None (g.S.Store.seen c.args.store.now) (g.S.Store.seen c.entries.new.store) = record { cause = c.in_ok-pairs.ensures.cause; told = c.in_ok-pairs.ensures.told } in
    reads-reads found (reads-by (IsBadInTree X N None folder) (root-bad X N None folder) c.rows_from.ensures.reads)
