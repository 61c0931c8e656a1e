use Rattle.std.proofs.Common.{Err, Ok, subst}
use Rattle.std.proofs.lemmas.Result.{err_from_is_err_and}
use Rattle.uf_mfs.specs.declared.fault.Stop.TheVariants as stop
use Rattle.uf_mfs.specs.Bad.{IsRequired}
use Rattle.uf_mfs.proofs.Renewing.{file-made, file-renewed, file-stopped, folder-made, folder-renewed, folder-saves, folder-stopped}
use Rattle.uf_mfs.proofs.SavingFiles.{file-meta, folder-meta}
use Rattle.uf_mfs.proofs.remaking.set_thing_meta.Goals as goal

pub returns-in_err-new-in-File-clause-gives : goal.returns-in_err-new-in-File-clause-gives
returns-in_err-new-in-File-clause-gives g c = λ t thing stays calm.
    let X = g.S.X.BlockHash.block32 in let N = g.N.NameHash.name64 in let p = c.args.p.now in let k = c.args.meta.now in let e = c.in-File.entry in
    let a = g.S.Store.seen c.args.store.now in let b = g.S.Store.seen c.set_meta.new.store in let f = c.in_err-new-in-File.field-0.0 in
    let out = err_from_is_err_and c.from_residual.result c.from_residual.ensures.1 in
    rw (out.1, out.2) (file-renewed X N p a.told b.told k t c.args.thing e _ (Err (stop.Store f)) c.in-File.is thing stays
    (λ m x s stays. file-stopped X N p a b e m k x s stays calm f c.in_err-new-in-File.ensures.value))

pub returns-in_ok-new-in-File-clause-gives : goal.returns-in_ok-new-in-File-clause-gives
returns-in_ok-new-in-File-clause-gives g c = λ t thing stays calm.
    let X = g.S.X.BlockHash.block32 in let N = g.N.NameHash.name64 in let p = c.args.p.now in let k = c.args.meta.now in let e = c.in-File.entry in
    let a = g.S.Store.seen c.args.store.now in let b = g.S.Store.seen c.set_meta.new.store in let new = c.in_ok-new-in-File.new in
    file-renewed X N p a.told b.told k t c.args.thing e _ (Ok new) c.in-File.is thing stays
    (λ m x s stays. file-made X N p a b e m k x s stays calm new c.requires.meta c.in_ok-new-in-File.ensures.value c.in_ok-new-in-File.ensures.after)

pub returns-in_err-new-in-Folder-clause-gives : goal.returns-in_err-new-in-Folder-clause-gives
returns-in_err-new-in-Folder-clause-gives g c = λ t thing stays calm.
    let X = g.S.X.BlockHash.block32 in let N = g.N.NameHash.name64 in let p = c.args.p.now in let k = c.args.meta.now in let e = c.in-Folder.entry in
    let a = g.S.Store.seen c.args.store.now in let b = g.S.Store.seen c.set_meta-in-Folder.new.store in let f = c.in_err-new-in-Folder.field-0.0 in
    let out = err_from_is_err_and c.from_residual-in_err-new-in-Folder.result c.from_residual-in_err-new-in-Folder.ensures.1 in
    rw (out.1) (folder-renewed X N p a.told b.told k t c.args.thing e _ (Err out.0) c.in-Folder.is thing stays
    (λ es plan stays. folder-stopped X N p (record { size = g.met.S.X.BlockHash.size; are_bytes = g.met.S.X.BlockHash.are_bytes }) g.met.N.NameHash.fits a.told b.told e k es plan stays f out.0 out.2 c.in_err-new-in-Folder.ensures.apart
    (λ M m l is agrees. c.in_err-new-in-Folder.ensures.value M m l is agrees calm.faults calm.clashes)))

pub returns-in_err-new-in-Folder-clause-saves : goal.returns-in_err-new-in-Folder-clause-saves
returns-in_err-new-in-Folder-clause-saves g c = λ root required.
    let X = g.S.X.BlockHash.block32 in let N = g.N.NameHash.name64 in let p = c.args.p.now in let e = c.in-Folder.entry in
    let out = err_from_is_err_and c.from_residual-in_err-new-in-Folder.result c.from_residual-in_err-new-in-Folder.ensures.1 in
    rw (out.1) (folder-saves X N p root e c.in_err-new-in-Folder.field-0.0 out.0 _ _ out.2 (subst (IsRequired X root) c.in-Folder.is required) c.in_err-new-in-Folder.ensures.blames c.in_err-new-in-Folder.ensures.cause
    c.in_err-new-in-Folder.ensures.good c.in_err-new-in-Folder.ensures.saves)

pub returns-in_ok-new-in-Folder-clause-gives : goal.returns-in_ok-new-in-Folder-clause-gives
returns-in_ok-new-in-Folder-clause-gives g c = λ t thing stays calm.
    let X = g.S.X.BlockHash.block32 in let N = g.N.NameHash.name64 in let p = c.args.p.now in let k = c.args.meta.now in let e = c.in-Folder.entry in
    let a = g.S.Store.seen c.args.store.now in let b = g.S.Store.seen c.set_meta-in-Folder.new.store in let new = c.in_ok-new-in-Folder.new in
    folder-renewed X N p a.told b.told k t c.args.thing e _ (Ok new) c.in-Folder.is thing stays
    (λ es plan stays. folder-made X N p (record { size = g.met.S.X.BlockHash.size; are_bytes = g.met.S.X.BlockHash.are_bytes }) g.met.N.NameHash.fits a.told b.told e k es plan stays new c.requires.meta c.in_ok-new-in-Folder.ensures.good
    (λ M m l is agrees. c.in_ok-new-in-Folder.ensures.value M m l is agrees calm.faults calm.clashes) c.in_ok-new-in-Folder.ensures.after)

pub returns-in_err-new-in-File-clause-no_other : goal.returns-in_err-new-in-File-clause-no_other
returns-in_err-new-in-File-clause-no_other g c =
    λ t thing h.
    let X = g.S.X.BlockHash.block32 in let N = g.N.NameHash.name64 in
    file-meta X N c.args.p.now (g.S.Store.seen c.args.store.now) (g.S.Store.seen c.set_meta.new.store) c.args.meta.now t c.args.thing c.in-File.entry _ c.in-File.is thing h c.in_err-new-in-File.ensures.no_other

pub returns-in_ok-new-in-File-clause-no_other : goal.returns-in_ok-new-in-File-clause-no_other
returns-in_ok-new-in-File-clause-no_other g c =
    λ t thing h.
    let X = g.S.X.BlockHash.block32 in let N = g.N.NameHash.name64 in
    file-meta X N c.args.p.now (g.S.Store.seen c.args.store.now) (g.S.Store.seen c.set_meta.new.store) c.args.meta.now t c.args.thing c.in-File.entry _ c.in-File.is thing h c.in_ok-new-in-File.ensures.no_other

pub returns-in_err-new-in-Folder-clause-no_other : goal.returns-in_err-new-in-Folder-clause-no_other
returns-in_err-new-in-Folder-clause-no_other g c =
    λ t thing h.
    let X = g.S.X.BlockHash.block32 in let N = g.N.NameHash.name64 in
    folder-meta X N c.args.p.now (record { size = g.met.S.X.BlockHash.size; are_bytes = g.met.S.X.BlockHash.are_bytes }) g.met.N.NameHash.fits
    (g.S.Store.seen c.args.store.now) (g.S.Store.seen c.set_meta-in-Folder.new.store) c.args.meta.now t c.args.thing c.in-Folder.entry _ c.in-Folder.is thing h c.in_err-new-in-Folder.ensures.no_other

pub returns-in_ok-new-in-Folder-clause-no_other : goal.returns-in_ok-new-in-Folder-clause-no_other
returns-in_ok-new-in-Folder-clause-no_other g c =
    λ t thing h.
    let X = g.S.X.BlockHash.block32 in let N = g.N.NameHash.name64 in
    folder-meta X N c.args.p.now (record { size = g.met.S.X.BlockHash.size; are_bytes = g.met.S.X.BlockHash.are_bytes }) g.met.N.NameHash.fits
    (g.S.Store.seen c.args.store.now) (g.S.Store.seen c.set_meta-in-Folder.new.store) c.args.meta.now t c.args.thing c.in-Folder.entry _ c.in-Folder.is thing h c.in_ok-new-in-Folder.ensures.no_other
