use Rattle.std.proofs.Common.{sym, ap, ◌-◌, List, length, slice_get, ◌∙◌}
use Rattle.uf_cid.specs.declared.cid.Cid.{Cid}
use Rattle.uf_pins.proofs.Written.{above-is}
use Rattle.uf_pins.proofs.reading.is_above.Goals as goal

pub returns-in-Some : goal.returns-in-Some
returns-in-Some c =
    let both = above-is c.args.pins.now c.in-Some.last.now c.args.cid.now c.requires
    (sym (ap (λ (l : List Cid). slice_get l (length l - 1)) c.as_slice.ensures) ∙ sym c.in-Some.ensures.value) in
    (λ h. both.0 (c.is_before.ensures.0 h), λ k. c.is_before.ensures.1 (both.1 k))
