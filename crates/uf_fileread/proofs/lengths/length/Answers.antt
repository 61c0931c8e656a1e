use Rattle.std.proofs.Common.{ap, ℕ, [], ◌∷◌, length}
use Rattle.std.proofs.lemmas.Result.{err_from_is_err_and}
use Rattle.uf_fileread.specs.Sizes.{links_of}
use Rattle.uf_fileread.proofs.Rooted.{other-value}
use Rattle.uf_fileread.specs.declared.size.FileSize.{FileSize}
use Rattle.uf_fileread.proofs.lengths.length.Goals as goal

pub returns-in_err-size-clause-value : goal.returns-in_err-size-clause-value
returns-in_err-size-clause-value g c p m bytes root is agrees stood =
    let size : FileSize = record { length = length bytes; links = links_of p is.height bytes; meta = m } in
    let out = err_from_is_err_and c.from_residual.result c.from_residual.ensures.1 in rw (out.1, out.2) (other-value {A = FileSize} {B = ℕ} (g.S.Store.seen c.args.store.now).told (root ∷ []) size (length bytes) c.in_err-size.field-0.0 (c.in_err-size.ensures.value p m bytes root is agrees stood))

pub returns-clause-value : goal.returns-clause-value
returns-clause-value g c p m bytes root is agrees stood =
    let found = c.in_ok-size.ensures.value p m bytes root is agrees stood in
    (ap (λ (s : FileSize). s.length) found.0, found.1)
