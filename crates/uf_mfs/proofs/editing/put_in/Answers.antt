use Rattle.std.proofs.lemmas.Result.{err_from_is_err_and}
use Rattle.std.proofs.Common.{Some}
use Rattle.uf_mfs.proofs.Answering.{stop-shows}
use Rattle.uf_mfs.proofs.Moving.{put-bound, put-done, put-err, put-loses}
use Rattle.uf_mfs.proofs.Saving.{put-saves}
use Rattle.uf_mfs.proofs.editing.put_in.Goals as goal

pub returns-in_err-new-clause-edits : goal.returns-in_err-new-clause-edits
returns-in_err-new-clause-edits g c = λ t new es o.
    let out = err_from_is_err_and c.from_residual.result c.from_residual.ensures.1 in
    rw out.1 (put-err g.S.X.BlockHash.block32 g.N.NameHash.name64 c.args.profile.now (record { size = g.met.S.X.BlockHash.size; are_bytes = g.met.S.X.BlockHash.are_bytes }) g.met.N.NameHash.fits
    _ _ c.args.folder.now es c.args.entry.now c.args.name.now t c.in_err-new.field-0.0 out.0 out.2 o.plan new o.stays
    (λ m l planned agrees. c.in_err-new.ensures.value m l planned agrees o.calm.faults o.calm.clashes))

pub returns-clause-edits : goal.returns-clause-edits
returns-clause-edits g c = λ t new es o.
    put-done g.S.X.BlockHash.block32 g.N.NameHash.name64 c.args.profile.now (record { size = g.met.S.X.BlockHash.size; are_bytes = g.met.S.X.BlockHash.are_bytes }) g.met.N.NameHash.fits
    _ _ c.args.folder.now es c.args.entry.now c.args.name.now t c.in_ok-new.new c.names_are_good.ensures o.plan new c.in_ok-new.ensures.good o.stays
    (λ m l planned agrees. c.in_ok-new.ensures.value m l planned agrees o.calm.faults o.calm.clashes) c.in_ok-new.ensures.after

pub returns-in_err-new-clause-saves : goal.returns-in_err-new-clause-saves
returns-in_err-new-clause-saves g c =
    let X = g.S.X.BlockHash.block32 in let N = g.N.NameHash.name64 in
    let out = err_from_is_err_and c.from_residual.result c.from_residual.ensures.1 in
    rw out.1 (record { cause = stop-shows X N c.args.folder.now.cid (N c.args.name.now) (Some c.args.profile.now) c.in_err-new.field-0.0 out.0 _ _ out.2 c.in_err-new.ensures.blames c.in_err-new.ensures.cause; good = c.in_err-new.ensures.good; saves = c.in_err-new.ensures.saves })

pub returns-clause-touches : goal.returns-clause-touches
returns-clause-touches g c = λ t new es o.
    put-bound g.S.X.BlockHash.block32 g.N.NameHash.name64 c.args.profile.now (record { size = g.met.S.X.BlockHash.size; are_bytes = g.met.S.X.BlockHash.are_bytes }) g.met.N.NameHash.fits
    _ _ c.args.folder.now es c.args.entry.now c.args.name.now t c.args.touches.now c.put.new.touches o.plan new o.stays c.in_ok-new.ensures.touches

pub returns-in_err-new-clause-touches : goal.returns-in_err-new-clause-touches
returns-in_err-new-clause-touches g c = λ t new es o.
    put-bound g.S.X.BlockHash.block32 g.N.NameHash.name64 c.args.profile.now (record { size = g.met.S.X.BlockHash.size; are_bytes = g.met.S.X.BlockHash.are_bytes }) g.met.N.NameHash.fits
    _ _ c.args.folder.now es c.args.entry.now c.args.name.now t c.args.touches.now c.put.new.touches o.plan new o.stays c.in_err-new.ensures.touches

pub returns-in_err-new-clause-missing : goal.returns-in_err-new-clause-missing
returns-in_err-new-clause-missing g c = λ es o.
    let out = err_from_is_err_and c.from_residual.result c.from_residual.ensures.1 in
    rw out.1 (put-loses g.S.X.BlockHash.block32 g.N.NameHash.name64 c.args.profile.now (record { size = g.met.S.X.BlockHash.size; are_bytes = g.met.S.X.BlockHash.are_bytes }) g.met.N.NameHash.fits
    _ _ c.args.folder.now es c.args.entry.now c.args.name.now c.in_err-new.field-0.0 out.0 out.2 o.plan o.stays
    (λ m l planned agrees. c.in_err-new.ensures.value m l planned agrees o.calm.faults o.calm.clashes))

pub returns-in_err-new-clause-no_other : goal.returns-in_err-new-clause-no_other
returns-in_err-new-clause-no_other g c = λ t new es plan h.
    put-saves g.S.X.BlockHash.block32 g.N.NameHash.name64 c.args.profile.now (record { size = g.met.S.X.BlockHash.size; are_bytes = g.met.S.X.BlockHash.are_bytes }) g.met.N.NameHash.fits
    _ _ c.args.folder.now es c.args.entry.now c.args.name.now t plan new h.stays.first c.in_err-new.ensures.no_other

pub returns-clause-no_other : goal.returns-clause-no_other
returns-clause-no_other g c = λ t new es plan h.
    put-saves g.S.X.BlockHash.block32 g.N.NameHash.name64 c.args.profile.now (record { size = g.met.S.X.BlockHash.size; are_bytes = g.met.S.X.BlockHash.are_bytes }) g.met.N.NameHash.fits
    _ _ c.args.folder.now es c.args.entry.now c.args.name.now t plan new h.stays.first c.in_ok-new.ensures.no_other
