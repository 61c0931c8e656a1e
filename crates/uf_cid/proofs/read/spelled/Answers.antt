use Rattle.std.proofs.Common.{◌≡◌, ℕ, length, take, sym, Err, Ok, ap, ◌∙◌}
use Rattle.std.proofs.lemmas.Result.{err_from_is_err_and}
use Rattle.uf_cid.specs.Read.{alone}
use Rattle.uf_cid.proofs.Fronts.{spelled_front}
use Rattle.uf_cid.proofs.read.spelled.Goals as goal

pub returns-in_err-cid : goal.returns-in_err-cid
returns-in_err-cid c =
    let out = err_from_is_err_and c.from_residual.result c.from_residual.ensures.1 in
    rw (out.1, out.2)
    (sym (spelled_front _ _ (Err c.in_err-cid.field-0.0) c.in-Some.ensures.bytes c.in_err-cid.ensures))

pub returns : goal.returns
returns c =
    let front = c.in-Some.front in
    let size : length (take front.len front.bytes) ≡ front.len = c.in-Some.ensures.size.1 in
    let read = Ok (c.in_ok-cid.cid, c.in_ok-cid.used) in
    sym (spelled_front _ _ read c.in-Some.ensures.bytes c.in_ok-cid.ensures
    ∙ ap (λ (n : ℕ). alone n read) size ∙ sym c.all_of.ensures)
