use Rattle.std.proofs.Common.{Err, Ok, subst, ◌∙◌}
use Rattle.std.proofs.lemmas.Result.{err_from_is_err_and}
use Rattle.uf_dir.specs.declared.kind.EntryKind.{EntryKind}
use Rattle.uf_mfs.proofs.Measured.{IsKind, file-stat-is, folder-stat-is, kind-says}
use Rattle.uf_mfs.proofs.measuring.stat_at_root.Goals as goal

pub returns-in_err-size-clause-stat : goal.returns-in_err-size-clause-stat
returns-in_err-size-clause-stat g c = λ p t s stood.
    let X = g.S.X.BlockHash.block32 in let N = g.N.NameHash.name64 in
    let out = err_from_is_err_and c.from_residual.result c.from_residual.ensures.1 in
    rw (out.1, out.2) (kind-says X N (record { size = g.met.S.X.BlockHash.size; are_bytes = g.met.S.X.BlockHash.are_bytes }) p g.met.N.NameHash.fits (g.S.Store.seen c.args.store.now).told c.args.entry.now t (Err c.in_err-size.field-0.0) s
    (λ raw. (c.in_err-size.ensures.raw raw).0) (λ M p m l i a. c.in_err-size.ensures.folder M p m l i a stood) (λ p m bytes root i node a. c.in_err-size.ensures.file p m bytes root i node a stood))

pub returns-in-File-clause-stat : goal.returns-in-File-clause-stat
returns-in-File-clause-stat g c = λ p t s stood.
    let X = g.S.X.BlockHash.block32 in let N = g.N.NameHash.name64 in let told = (g.S.Store.seen c.args.store.now).told in let e = c.args.entry.now in
    c.file_stat.ensures ∙ file-stat-is X N (record { size = g.met.S.X.BlockHash.size; are_bytes = g.met.S.X.BlockHash.are_bytes }) p told e t c.in-File.size
    (subst (λ (k : EntryKind). IsKind X N (record { size = g.met.S.X.BlockHash.size; are_bytes = g.met.S.X.BlockHash.are_bytes }) p told e t (Ok k)) c.in-File.is
    (kind-says X N (record { size = g.met.S.X.BlockHash.size; are_bytes = g.met.S.X.BlockHash.are_bytes }) p g.met.N.NameHash.fits told e t (Ok c.in_ok-size.field-0) s
    (λ raw. (c.in_ok-size.ensures.raw raw).0) (λ M p m l i a. c.in_ok-size.ensures.folder M p m l i a stood) (λ p m bytes root i node a. c.in_ok-size.ensures.file p m bytes root i node a stood)))

pub returns-in-Folder-clause-stat : goal.returns-in-Folder-clause-stat
returns-in-Folder-clause-stat g c = λ p t s stood.
    let X = g.S.X.BlockHash.block32 in let N = g.N.NameHash.name64 in let told = (g.S.Store.seen c.args.store.now).told in let e = c.args.entry.now in
    c.folder_stat.ensures ∙ folder-stat-is X N (record { size = g.met.S.X.BlockHash.size; are_bytes = g.met.S.X.BlockHash.are_bytes }) p told e t (record { links = c.in-Folder.links; meta = c.in-Folder.meta })
    (subst (λ (k : EntryKind). IsKind X N (record { size = g.met.S.X.BlockHash.size; are_bytes = g.met.S.X.BlockHash.are_bytes }) p told e t (Ok k)) c.in-Folder.is
    (kind-says X N (record { size = g.met.S.X.BlockHash.size; are_bytes = g.met.S.X.BlockHash.are_bytes }) p g.met.N.NameHash.fits told e t (Ok c.in_ok-size.field-0) s
    (λ raw. (c.in_ok-size.ensures.raw raw).0) (λ M p m l i a. c.in_ok-size.ensures.folder M p m l i a stood) (λ p m bytes root i node a. c.in_ok-size.ensures.file p m bytes root i node a stood)))
