use Rattle.std.proofs.Common.{Err, Ok, subst}
use Rattle.std.proofs.lemmas.Result.{err_from_is_err_and}
use Rattle.uf_dir.specs.Roots.{HasRoot}
use Rattle.uf_dir.specs.declared.kind.EntryKind.{EntryKind}
use Rattle.uf_tree.specs.Validity.{IsHash}
use Rattle.uf_light.proofs.Blaming.{met-required}
use Rattle.uf_light.proofs.Seeing.{IsKindOf, kind-says}
use Rattle.uf_light.proofs.looking.thing_of.Goals as goal

pub returns-in_err-kind-clause-thing : goal.returns-in_err-kind-clause-thing
returns-in_err-kind-clause-thing g c = λ p t s stood.
    let good : IsHash g.S.X.BlockHash.block32 = record { size = g.met.S.X.BlockHash.size; are_bytes = g.met.S.X.BlockHash.are_bytes } in
    let out = err_from_is_err_and c.from_residual.result c.from_residual.ensures.1 in
    rw (out.1, out.2) (kind-says g.S.X.BlockHash.block32 g.N.NameHash.name64 good g.met.N.NameHash.fits (g.S.Store.seen c.args.store.now).told p c.args.entry.now t (Err c.in_err-kind.field-0.0) s
    (λ raw. (c.in_err-kind.ensures.raw raw).0) (λ M q m l i a. c.in_err-kind.ensures.folder M q m l i a stood) (λ q m bytes root i node a. c.in_err-kind.ensures.file q m bytes root i node a stood))

pub returns-in-Folder-clause-thing : goal.returns-in-Folder-clause-thing
returns-in-Folder-clause-thing g c = λ p t s stood.
    let X = g.S.X.BlockHash.block32 in let N = g.N.NameHash.name64 in let told = (g.S.Store.seen c.args.store.now).told in
    let good : IsHash X = record { size = g.met.S.X.BlockHash.size; are_bytes = g.met.S.X.BlockHash.are_bytes } in
    subst (λ (k : EntryKind). IsKindOf X N good g.met.N.NameHash.fits told p c.args.entry.now t (Ok k)) c.in-Folder.is (kind-says X N good g.met.N.NameHash.fits told p c.args.entry.now t (Ok c.in_ok-kind.kind) s
    (λ raw. (c.in_ok-kind.ensures.raw raw).0) (λ M q m l i a. c.in_ok-kind.ensures.folder M q m l i a stood) (λ q m bytes root i node a. c.in_ok-kind.ensures.file q m bytes root i node a stood))

pub returns-in-File-clause-thing : goal.returns-in-File-clause-thing
returns-in-File-clause-thing g c = λ p t s stood.
    let X = g.S.X.BlockHash.block32 in let N = g.N.NameHash.name64 in let told = (g.S.Store.seen c.args.store.now).told in
    let good : IsHash X = record { size = g.met.S.X.BlockHash.size; are_bytes = g.met.S.X.BlockHash.are_bytes } in
    subst (λ (k : EntryKind). IsKindOf X N good g.met.N.NameHash.fits told p c.args.entry.now t (Ok k)) c.in-File.is (kind-says X N good g.met.N.NameHash.fits told p c.args.entry.now t (Ok c.in_ok-kind.kind) s
    (λ raw. (c.in_ok-kind.ensures.raw raw).0) (λ M q m l i a. c.in_ok-kind.ensures.folder M q m l i a stood) (λ q m bytes root i node a. c.in_ok-kind.ensures.file q m bytes root i node a stood))

pub returns-in-Folder-clause-required : goal.returns-in-Folder-clause-required
returns-in-Folder-clause-required g c = λ root.
    let X = g.S.X.BlockHash.block32 in let told = (g.S.Store.seen c.args.store.now).told in let lent = (g.S.Store.seen c.kind_of.new.store).lent in
    met-required X g.N.NameHash.name64 root told c.args.entry.now.cid lent (subst (λ (k : EntryKind). HasRoot X told c.args.entry.now.cid lent k) c.in-Folder.is c.in_ok-kind.ensures.met)

pub returns-in-Folder-clause-seen : goal.returns-in-Folder-clause-seen
returns-in-Folder-clause-seen g c =
    let X = g.S.X.BlockHash.block32 in let told = (g.S.Store.seen c.args.store.now).told in let lent = (g.S.Store.seen c.kind_of.new.store).lent in
    (lent, subst (λ (k : EntryKind). HasRoot X told c.args.entry.now.cid lent k) c.in-Folder.is c.in_ok-kind.ensures.met)
