use Rattle.std.proofs.Common.{ap, refl, Ok, Err, None, Some}
use Rattle.std.proofs.lemmas.Result.{err_from_is_err_and}
use Rattle.uf_mfs.proofs.Answering.{weighed-shows}
use Rattle.uf_mfs.proofs.Moving.{take-bound, take-done, take-err, take-says, taken-not}
use Rattle.uf_mfs.proofs.Saving.{take-saves}
use Rattle.uf_mfs.proofs.editing.take_out.Goals as goal

pub returns-in_err-taken-clause-edits : goal.returns-in_err-taken-clause-edits
returns-in_err-taken-clause-edits g c = λ es there o.
    let X = g.S.X.BlockHash.block32 in let N = g.N.NameHash.name64 in let p = c.args.profile.now in let f = c.in_err-taken.field-0.0 in
    let a = (g.S.Store.seen c.args.store.now).told in let b = (g.S.Store.seen c.remove.new.store).told in
    let out = err_from_is_err_and c.from_residual.result c.from_residual.ensures.1 in
    rw (out.1, out.2) (take-err X N p (record { size = g.met.S.X.BlockHash.size; are_bytes = g.met.S.X.BlockHash.are_bytes }) g.met.N.NameHash.fits a b c.args.folder.now es c.args.name.now f
    (take-says X N p (record { size = g.met.S.X.BlockHash.size; are_bytes = g.met.S.X.BlockHash.are_bytes }) g.met.N.NameHash.fits a b c.args.folder.now es c.args.name.now (Err f) (Err f) refl o.plan o.stays
    (λ m l planned stays. c.in_err-taken.ensures.value m l planned stays o.calm.faults o.calm.clashes)))

pub returns-in-None-clause-edits : goal.returns-in-None-clause-edits
returns-in-None-clause-edits g c = λ es there o.
    let X = g.S.X.BlockHash.block32 in let N = g.N.NameHash.name64 in let p = c.args.profile.now in
    let a = (g.S.Store.seen c.args.store.now).told in let b = (g.S.Store.seen c.remove.new.store).told in
    absurd (taken-not X N p (record { size = g.met.S.X.BlockHash.size; are_bytes = g.met.S.X.BlockHash.are_bytes }) g.met.N.NameHash.fits a b c.args.folder.now es c.args.name.now there
    (take-says X N p (record { size = g.met.S.X.BlockHash.size; are_bytes = g.met.S.X.BlockHash.are_bytes }) g.met.N.NameHash.fits a b c.args.folder.now es c.args.name.now (Ok c.in_ok-taken.taken) (Ok None) (ap Ok c.in-None.is) o.plan o.stays
    (λ m l planned stays. c.in_ok-taken.ensures.value m l planned stays o.calm.faults o.calm.clashes)))

pub returns-in-Some-clause-edits : goal.returns-in-Some-clause-edits
returns-in-Some-clause-edits g c = λ es there o.
    let X = g.S.X.BlockHash.block32 in let N = g.N.NameHash.name64 in let p = c.args.profile.now in
    let a = (g.S.Store.seen c.args.store.now).told in let b = (g.S.Store.seen c.remove.new.store).told in
    take-done X N p (record { size = g.met.S.X.BlockHash.size; are_bytes = g.met.S.X.BlockHash.are_bytes }) g.met.N.NameHash.fits a b c.args.folder.now es c.in-Some.new c.args.name.now c.in_ok-taken.ensures.good o.plan o.stays there
    (take-says X N p (record { size = g.met.S.X.BlockHash.size; are_bytes = g.met.S.X.BlockHash.are_bytes }) g.met.N.NameHash.fits a b c.args.folder.now es c.args.name.now (Ok c.in_ok-taken.taken) (Ok (Some c.in-Some.new)) (ap Ok c.in-Some.is) o.plan o.stays
    (λ m l planned stays. c.in_ok-taken.ensures.value m l planned stays o.calm.faults o.calm.clashes)) (λ m l planned stays. c.in_ok-taken.ensures.after m l planned stays o.calm.faults o.calm.clashes)

pub returns-in_err-taken-clause-saves : goal.returns-in_err-taken-clause-saves
returns-in_err-taken-clause-saves g c =
    let X = g.S.X.BlockHash.block32 in let N = g.N.NameHash.name64 in let f = c.in_err-taken.field-0.0 in
    let out = err_from_is_err_and c.from_residual.result c.from_residual.ensures.1 in
    rw (out.1, out.2) (record { cause = weighed-shows X N c.args.folder.now.cid (N c.args.name.now) (Some c.args.profile.now) f _ _ c.in_err-taken.ensures.blames c.in_err-taken.ensures.cause; good = c.in_err-taken.ensures.good; saves = c.in_err-taken.ensures.saves })

pub returns-in_err-taken-clause-touches : goal.returns-in_err-taken-clause-touches
returns-in_err-taken-clause-touches g c = λ es o.
    let a = (g.S.Store.seen c.args.store.now).told in let b = (g.S.Store.seen c.remove.new.store).told in
    take-bound g.S.X.BlockHash.block32 g.N.NameHash.name64 c.args.profile.now (record { size = g.met.S.X.BlockHash.size; are_bytes = g.met.S.X.BlockHash.are_bytes }) g.met.N.NameHash.fits a b c.args.folder.now es c.args.name.now
    c.args.touches.now c.remove.new.touches o.plan o.stays (λ m l planned stays. c.in_err-taken.ensures.touches m l planned stays o.calm.faults o.calm.clashes)

pub returns-in-None-clause-touches : goal.returns-in-None-clause-touches
returns-in-None-clause-touches g c = λ es o.
    let a = (g.S.Store.seen c.args.store.now).told in let b = (g.S.Store.seen c.remove.new.store).told in
    take-bound g.S.X.BlockHash.block32 g.N.NameHash.name64 c.args.profile.now (record { size = g.met.S.X.BlockHash.size; are_bytes = g.met.S.X.BlockHash.are_bytes }) g.met.N.NameHash.fits a b c.args.folder.now es c.args.name.now
    c.args.touches.now c.remove.new.touches o.plan o.stays (λ m l planned stays. c.in_ok-taken.ensures.touches m l planned stays o.calm.faults o.calm.clashes)

pub returns-in-Some-clause-touches : goal.returns-in-Some-clause-touches
returns-in-Some-clause-touches g c = λ es o.
    let a = (g.S.Store.seen c.args.store.now).told in let b = (g.S.Store.seen c.remove.new.store).told in
    take-bound g.S.X.BlockHash.block32 g.N.NameHash.name64 c.args.profile.now (record { size = g.met.S.X.BlockHash.size; are_bytes = g.met.S.X.BlockHash.are_bytes }) g.met.N.NameHash.fits a b c.args.folder.now es c.args.name.now
    c.args.touches.now c.remove.new.touches o.plan o.stays (λ m l planned stays. c.in_ok-taken.ensures.touches m l planned stays o.calm.faults o.calm.clashes)

pub returns-in_err-taken-clause-no_other : goal.returns-in_err-taken-clause-no_other
returns-in_err-taken-clause-no_other g c = λ es plan h.
    take-saves g.S.X.BlockHash.block32 g.N.NameHash.name64 c.args.profile.now (record { size = g.met.S.X.BlockHash.size; are_bytes = g.met.S.X.BlockHash.are_bytes }) g.met.N.NameHash.fits
    (g.S.Store.seen c.args.store.now) (g.S.Store.seen c.remove.new.store) c.args.folder.now es c.args.name.now plan h c.in_err-taken.ensures.no_other

pub returns-in-None-clause-no_other : goal.returns-in-None-clause-no_other
returns-in-None-clause-no_other g c = λ es plan h.
    take-saves g.S.X.BlockHash.block32 g.N.NameHash.name64 c.args.profile.now (record { size = g.met.S.X.BlockHash.size; are_bytes = g.met.S.X.BlockHash.are_bytes }) g.met.N.NameHash.fits
    (g.S.Store.seen c.args.store.now) (g.S.Store.seen c.remove.new.store) c.args.folder.now es c.args.name.now plan h c.in_ok-taken.ensures.no_other

pub returns-in-Some-clause-no_other : goal.returns-in-Some-clause-no_other
returns-in-Some-clause-no_other g c = λ es plan h.
    take-saves g.S.X.BlockHash.block32 g.N.NameHash.name64 c.args.profile.now (record { size = g.met.S.X.BlockHash.size; are_bytes = g.met.S.X.BlockHash.are_bytes }) g.met.N.NameHash.fits
    (g.S.Store.seen c.args.store.now) (g.S.Store.seen c.remove.new.store) c.args.folder.now es c.args.name.now plan h c.in_ok-taken.ensures.no_other
