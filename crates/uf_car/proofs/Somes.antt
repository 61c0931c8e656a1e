-- That some bytes were written.
use Rattle.std.proofs.Common.{◌≡◌, List, ℕ, [], ◌++◌, append-nil, sym, ap, refl, ◌∙◌, None, Some, take}
use Rattle.uf_edge.proofs.Appending.{after-after}
use Rattle.uf_edge.specs.Streams.{AppendsPrefix, Told, after}
use Rattle.uf_car.specs.Exporting.{WritesSome}

after-none : (out : Told) → out ≡ after out []
after-none None = refl
after-none (Some held) = ap (λ (bs : List ℕ). Some bs) (sym (append-nil held))

pub some-same : (out now : Told) → now ≡ out → WritesSome out now
some-same out now same = ([], same ∙ after-none out)

pub some-part : (text : List ℕ) (out now : Told) → AppendsPrefix text out now → WritesSome out now
some-part text out now part = (take part.count text, part.appended)

pub some-then : (out mid now : Told) → WritesSome out mid → WritesSome mid now → WritesSome out now
some-then out mid now first second =
    (first.0 ++ second.0, second.1 ∙ ap (λ (t : Told). after t second.0) first.1 ∙ after-after out first.0 second.0)
