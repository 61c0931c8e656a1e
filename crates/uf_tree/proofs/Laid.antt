-- How long bytes are that were laid over or cut, and that each of them passes a test.
use Rattle.std.proofs.Common.{◌≡◌, ℕ, zero, suc, ◌+◌, ◌-◌, ◌<◌, ◌≤◌, List, [], ◌∷◌, ◌++◌, length, take, drop, replicate, refl, ap, arith, sym, ◌∙◌, Bool, true, false, length-append, length-take, length-drop}
use Rattle.std.specs.Prelude.{◌&&◌, nat_lt}
use Rattle.std.specs.List.{list_all}
use Rattle.std.proofs.lemmas.Bool.Decides.{nat_tests}
use Rattle.uf_tree.specs.Laying.{cut_to, laid}

length-zeros : (n : ℕ) → length {A = ℕ} (replicate n 0) ≡ n
length-zeros zero = refl
length-zeros (suc n) = ap suc (length-zeros n)

pub length-cut : (b : List ℕ) (size : ℕ) → length (cut_to b size) ≡ size
length-cut b size = omega (arith, length-append (take size b) (replicate (size - length b) 0), length-take size b, length-zeros (size - length b))

pub length-laid : (b : List ℕ) (offset z : ℕ) (x : List ℕ) → length (laid b offset (z ∷ x)) ≡ (offset + length (z ∷ x)) + (length b - (offset + length (z ∷ x)))
length-laid b offset z x =
    let front = take offset (b ++ replicate (offset - length b) 0) in
    omega (
      arith,
      length-append (front ++ z ∷ x) (drop (offset + length (z ∷ x)) b),
      length-append front (z ∷ x),
      length-take offset (b ++ replicate (offset - length b) 0),
      length-append b (replicate (offset - length b) 0),
      length-zeros (offset - length b),
      length-drop (offset + length (z ∷ x)) b,
    )

-- bytes that weren't too many are so with a piece exactly where its end is too far
pub laid-long : (most offset : ℕ) (b x : List ℕ) → length b ≤ most → nat_lt 0 (length x) && nat_lt most (offset + length x) ≡ nat_lt most (length (laid b offset x))
laid-long most offset b [] few = by (nat_lt most (length b)) refl
  where
    by : (t : Bool) → nat_lt most (length b) ≡ t → false ≡ nat_lt most (length b)
    by false is = sym is
    by true is = (let clash : most < length b = grind (arith, nat_tests) in absurd (omega arith))
laid-long most offset b (z ∷ x) few =
    let long = length-laid b offset z x in
    let some : nat_lt 0 (length (z ∷ x)) ≡ true = grind (arith, nat_tests) in
    ap (λ s. s && nat_lt most (offset + length (z ∷ x))) some ∙ by (nat_lt most (offset + length (z ∷ x))) (nat_lt most (length (laid b offset (z ∷ x)))) refl refl long
  where
    by : (s t : Bool) → nat_lt most (offset + length (z ∷ x)) ≡ s → nat_lt most (length (laid b offset (z ∷ x))) ≡ t → length (laid b offset (z ∷ x)) ≡ (offset + length (z ∷ x)) + (length b - (offset + length (z ∷ x)))
        → nat_lt most (offset + length (z ∷ x)) ≡ nat_lt most (length (laid b offset (z ∷ x)))
    by true true p q long = p ∙ sym q
    by false false p q long = p ∙ sym q
    by true false p q long = (let far : most < offset + length (z ∷ x) = grind (arith, nat_tests) in let near : length (laid b offset (z ∷ x)) ≤ most = grind (arith, nat_tests) in absurd (omega arith))
    by false true p q long = (let near : offset + length (z ∷ x) ≤ most = grind (arith, nat_tests) in let far : most < length (laid b offset (z ∷ x)) = grind (arith, nat_tests) in absurd (omega arith))

module _ (t : ℕ → Bool) where
  both : (a b : Bool) → a ≡ true → b ≡ true → a && b ≡ true
  both true b g h = h
  both false b g h = g

  first-of : (a b : Bool) → a && b ≡ true → a ≡ true
  first-of true b h = refl
  first-of false b h = h

  rest-of : (a b : Bool) → a && b ≡ true → b ≡ true
  rest-of true b h = h
  rest-of false b h = absurd cc

  pub all-append : (a b : List ℕ) → list_all t a ≡ true → list_all t b ≡ true → list_all t (a ++ b) ≡ true
  all-append [] b g h = h
  all-append (x ∷ a) b g h = both (t x) (list_all t (a ++ b)) (first-of (t x) (list_all t a) g) (all-append a b (rest-of (t x) (list_all t a) g) h)

  all-take : (n : ℕ) (a : List ℕ) → list_all t a ≡ true → list_all t (take n a) ≡ true
  all-take zero a h = refl
  all-take (suc n) [] h = refl
  all-take (suc n) (x ∷ a) h = both (t x) (list_all t (take n a)) (first-of (t x) (list_all t a) h) (all-take n a (rest-of (t x) (list_all t a) h))

  all-drop : (n : ℕ) (a : List ℕ) → list_all t a ≡ true → list_all t (drop n a) ≡ true
  all-drop zero a h = h
  all-drop (suc n) [] h = refl
  all-drop (suc n) (x ∷ a) h = all-drop n a (rest-of (t x) (list_all t a) h)

  all-zeros : (n : ℕ) → t 0 ≡ true → list_all t (replicate n 0) ≡ true
  all-zeros zero h = refl
  all-zeros (suc n) h = both (t 0) (list_all t (replicate n 0)) h (all-zeros n h)

  pub all-cut : (b : List ℕ) (size : ℕ) → t 0 ≡ true → list_all t b ≡ true → list_all t (cut_to b size) ≡ true
  all-cut b size none h = all-append (take size b) (replicate (size - length b) 0) (all-take size b h) (all-zeros (size - length b) none)

  pub all-laid : (b : List ℕ) (offset : ℕ) (x : List ℕ) → t 0 ≡ true → list_all t b ≡ true → list_all t x ≡ true → list_all t (laid b offset x) ≡ true
  all-laid b offset [] none h j = h
  all-laid b offset (z ∷ x) none h j =
      all-append (take offset (b ++ replicate (offset - length b) 0) ++ z ∷ x) (drop (offset + length (z ∷ x)) b)
      (all-append (take offset (b ++ replicate (offset - length b) 0)) (z ∷ x)
      (all-take offset (b ++ replicate (offset - length b) 0) (all-append b (replicate (offset - length b) 0) h (all-zeros (offset - length b) none))) j)
      (all-drop (offset + length (z ∷ x)) b h)
