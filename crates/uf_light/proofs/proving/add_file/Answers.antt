use Rattle.std.proofs.Common.{◌≡◌, ◌∙◌, ◌++◌, List, None, Some, ap, subst, sym}
use Rattle.std.proofs.lemmas.Result.{err_from_is_err_and}
use Rattle.uf_cid.specs.declared.cid.Cid.{Cid}
use Rattle.uf_tree.specs.declared.nodes.Entry.{Entry}
use Rattle.uf_tree.specs.FileSub.{whole_blocks}
use Rattle.uf_fileread.specs.Ranges.{IsFile}
use Rattle.uf_light.specs.FileCids.{cids_of}
use Rattle.uf_light.proofs.Going.{gathered-none}
use Rattle.uf_light.proofs.Holding.{finds-loss}
use Rattle.uf_light.proofs.proving.add_file.Goals as goal

pub returns-in_default-clause-none : goal.returns-in_default-clause-none
returns-in_default-clause-none g c = λ empty. gathered-none (g.S.Store.seen c.args.store.now).told c.args.cids.now

pub returns-in_default-clause-some : goal.returns-in_default-clause-some
returns-in_default-clause-some g c = λ e p m bytes height is file agrees stood. absurd (let no : None ≡ Some e = sym c.in_default.is ∙ is in cc)

pub returns-in_err-blocks-clause-none : goal.returns-in_err-blocks-clause-none
returns-in_err-blocks-clause-none g c = λ empty. absurd (let no : None ≡ Some c.in-Some.entry = sym empty ∙ c.in-Some.is in cc)

pub returns-in_err-blocks-clause-some : goal.returns-in_err-blocks-clause-some
returns-in_err-blocks-clause-some g c = λ e p m bytes height is file agrees stood.
    let X = g.S.X.BlockHash.block32 in let told = (g.S.Store.seen c.args.store.now).told in let l = whole_blocks X p.chunk p.width m height bytes in
    let same : c.in-Some.entry ≡ e = (let one : Some c.in-Some.entry ≡ Some e = sym c.in-Some.is ∙ is in cc) in
    let out = err_from_is_err_and c.from_residual.result c.from_residual.ensures.1 in
    rw (out.1, out.2) (finds-loss {A = List Cid} told l (cids_of l) c.in_err-blocks.field-0.0
    (c.in_err-blocks.ensures.value p m bytes height (subst (λ (x : Entry). IsFile X p m bytes x.cid height) (sym same) file) agrees stood))

pub returns-in_err-blocks-clause-reads : goal.returns-in_err-blocks-clause-reads
returns-in_err-blocks-clause-reads g c =
    let out = err_from_is_err_and c.from_residual.result c.from_residual.ensures.1 in
    rw (out.1, out.2) c.in_err-blocks.ensures.reads

pub returns-in_err-append-clause-none : goal.returns-in_err-append-clause-none
returns-in_err-append-clause-none g c = λ empty. absurd (let no : None ≡ Some c.in-Some.entry = sym empty ∙ c.in-Some.is in cc)

pub returns-clause-none : goal.returns-clause-none
returns-clause-none g c = λ empty. absurd (let no : None ≡ Some c.in-Some.entry = sym empty ∙ c.in-Some.is in cc)

pub returns-clause-some : goal.returns-clause-some
returns-clause-some g c = λ e p m bytes height is file agrees stood.
    let X = g.S.X.BlockHash.block32 in
    let same : c.in-Some.entry ≡ e = (let one : Some c.in-Some.entry ≡ Some e = sym c.in-Some.is ∙ is in cc) in
    let found = c.in_ok-blocks.ensures.value p m bytes height (subst (λ (x : Entry). IsFile X p m bytes x.cid height) (sym same) file) agrees stood in
    record { added = c.in_ok-append.ensures.ok ∙ ap (λ (l : List Cid). c.args.cids.now ++ l) (c.as_slice.ensures ∙ found.0); held = found.1 }

pub returns-in_err-blocks-clause-untouched : goal.returns-in_err-blocks-clause-untouched
returns-in_err-blocks-clause-untouched g c = λ empty. absurd (let no : None ≡ Some c.in-Some.entry = sym empty ∙ c.in-Some.is in cc)

pub returns-in_err-append-clause-untouched : goal.returns-in_err-append-clause-untouched
returns-in_err-append-clause-untouched g c = λ empty. absurd (let no : None ≡ Some c.in-Some.entry = sym empty ∙ c.in-Some.is in cc)

pub returns-clause-untouched : goal.returns-clause-untouched
returns-clause-untouched g c = λ empty. absurd (let no : None ≡ Some c.in-Some.entry = sym empty ∙ c.in-Some.is in cc)

pub returns-in_default-clause-few : goal.returns-in_default-clause-few
returns-in_default-clause-few g c = λ e is p m bytes height file agrees stood. absurd (let no : None ≡ Some e = sym c.in_default.is ∙ is in cc)

pub returns-in_err-blocks-clause-few : goal.returns-in_err-blocks-clause-few
returns-in_err-blocks-clause-few g c = λ e is p m bytes height file agrees stood.
    let same : c.in-Some.entry ≡ e = (let one : Some c.in-Some.entry ≡ Some e = sym c.in-Some.is ∙ is in cc) in
    c.in_err-blocks.ensures.few p m bytes height (subst (λ (x : Entry). IsFile g.S.X.BlockHash.block32 p m bytes x.cid height) (sym same) file) agrees stood

pub returns-in_err-append-clause-few : goal.returns-in_err-append-clause-few
returns-in_err-append-clause-few g c = λ e is p m bytes height file agrees stood.
    let same : c.in-Some.entry ≡ e = (let one : Some c.in-Some.entry ≡ Some e = sym c.in-Some.is ∙ is in cc) in
    c.in_ok-blocks.ensures.few p m bytes height (subst (λ (x : Entry). IsFile g.S.X.BlockHash.block32 p m bytes x.cid height) (sym same) file) agrees stood

pub returns-clause-few : goal.returns-clause-few
returns-clause-few g c = λ e is p m bytes height file agrees stood.
    let same : c.in-Some.entry ≡ e = (let one : Some c.in-Some.entry ≡ Some e = sym c.in-Some.is ∙ is in cc) in
    c.in_ok-blocks.ensures.few p m bytes height (subst (λ (x : Entry). IsFile g.S.X.BlockHash.block32 p m bytes x.cid height) (sym same) file) agrees stood
