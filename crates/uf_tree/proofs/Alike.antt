-- Bytes that are compared one by one.
use Rattle.std.proofs.Common.{◌≡◌, ℕ, Bool, true, false, ◌&&◌, eqb, List, [], ◌∷◌, refl, ap, sym, ◌∙◌}
use lib.Pointwise.{pointwise}
use Rattle.std.specs.Bool.{MatchBool}
use Rattle.std.proofs.lemmas.Bool.{eqb-true, eq-eqb}

both_true : (a b : Bool) → (a && b) ≡ true → (a ≡ true) × (b ≡ true)
both_true true b e = (refl, e)
both_true false b e = absurd cc

same_bytes : (a b : List ℕ) → pointwise eqb a b ≡ true → a ≡ b
same_bytes [] [] e = refl
same_bytes [] (y ∷ ys) e = absurd cc
same_bytes (x ∷ xs) [] e = absurd cc
same_bytes (x ∷ xs) (y ∷ ys) e =
    let t = both_true (eqb x y) (pointwise eqb xs ys) e in
    let first : x ≡ y = eqb-true x y t.0 in
    let rest : xs ≡ ys = same_bytes xs ys t.1 in
    λ i. first i ∷ rest i

self_bytes : (a : List ℕ) → pointwise eqb a a ≡ true
self_bytes [] = refl
self_bytes (x ∷ xs) = rw (eq-eqb x x refl, self_bytes xs) refl

pub decides_bytes : (r : Bool) (a b : List ℕ) → r ≡ pointwise eqb a b → MatchBool r (a ≡ b) (a ≡ b → ⊥)
decides_bytes true a b e = same_bytes a b (sym e)
decides_bytes false a b e =
    λ same.
    let told : true ≡ false = sym (self_bytes a) ∙ ap (pointwise eqb a) same ∙ sym e in
    cc
