use Rattle.std.proofs.Common.{Ok, subst}
use Rattle.std.proofs.lemmas.Result.{err_from_is_err_and}
use Rattle.uf_store.specs.Lost.{IsLossOf}
use Rattle.uf_tree.specs.Tree.{Dir}
use Rattle.uf_plain.specs.Edits.{at}
use Rattle.uf_plain.specs.Needs.{way}
use Rattle.uf_mfs.specs.Answers.{MeetsOr}
use Rattle.uf_mfs.specs.Standing.{IsAgreed, IsAgreedThing}
use Rattle.uf_mfs.proofs.Ranges.{file-err, file-folder, file-found}
use Rattle.uf_mfs.proofs.contents.look_at_file.Goals as goal

pub returns-in_err-entry-clause-looks : goal.returns-in_err-entry-clause-looks
returns-in_err-entry-clause-looks g c = λ p es s stood.
    let X = g.S.X.BlockHash.block32 in let N = g.N.NameHash.name64 in let told = (g.S.Store.seen c.args.store.now).told in
    let out = err_from_is_err_and c.from_residual.result c.from_residual.ensures.1 in
    rw (out.1, out.2) (file-err (IsLossOf told (way X N p c.args.names.now (Dir es))) (λ t x. IsAgreedThing X N told p t x) (λ t e. IsAgreed X N told p e t) (at 0 c.args.names.now (Dir es)) _ c.in_err-entry.field-0.0
    (c.in_err-entry.ensures.looks p (Dir es) (s, tt) stood))

pub returns-in-File-clause-looks : goal.returns-in-File-clause-looks
returns-in-File-clause-looks g c = λ p es s stood.
    let X = g.S.X.BlockHash.block32 in let N = g.N.NameHash.name64 in let told = (g.S.Store.seen c.args.store.now).told in
    let May = IsLossOf told (way X N p c.args.names.now (Dir es)) in
    file-found X N told p May (at 0 c.args.names.now (Dir es)) _ c.in-File.entry c.in-File.field-1
    (subst (λ x. MeetsOr May (λ t x. IsAgreedThing X N told p t x) (at 0 c.args.names.now (Dir es)) (Ok x)) c.in-File.is (c.in_ok-entry.ensures.looks p (Dir es) (s, tt) stood))

pub returns-in-Folder-clause-looks : goal.returns-in-Folder-clause-looks
returns-in-Folder-clause-looks g c = λ p es s stood.
    let X = g.S.X.BlockHash.block32 in let N = g.N.NameHash.name64 in let told = (g.S.Store.seen c.args.store.now).told in
    let May = IsLossOf told (way X N p c.args.names.now (Dir es)) in
    file-folder X N told p May (λ t e. IsAgreed X N told p e t) (at 0 c.args.names.now (Dir es)) _ c.in-Folder.field-0 _
    (subst (λ x. MeetsOr May (λ t x. IsAgreedThing X N told p t x) (at 0 c.args.names.now (Dir es)) (Ok x)) c.in-Folder.is (c.in_ok-entry.ensures.looks p (Dir es) (s, tt) stood))
