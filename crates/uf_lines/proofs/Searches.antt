-- How far bytes have no LF.
use Rattle.std.proofs.Common.{◌≡◌, ℕ, ◌+◌, ◌-◌, ◌≤◌, ◌<◌, List, length, take, drop, get_or, Bool, true, false, refl, sym, ap, ◌∙◌, subst, arith, length-drop, length-take}
use Rattle.std.proofs.Math.Seq.{take-add}
use Rattle.std.proofs.lemmas.Bool.Decides.{nat_tests}
use Rattle.std.proofs.lemmas.List.{get_or-drop, get_or-take, take_rest}
use Rattle.std.proofs.lemmas.List.Elements.{All-append, All-from_get_or}
use Rattle.std.specs.Prelude.{min, ◌==◌}
use Rattle.memchr.specs.Find.{Nowhere, Passes, is_byte}
use Rattle.uf_lines.specs.LinesIn.{HasNoFeed}

not_true : (b : Bool) → ¬ (b ≡ true) → b ≡ false
not_true true h = absurd (h refl)
not_true false h = refl

-- so many more bytes have none
pub searched_on : (seen count : ℕ) (bytes : List ℕ) → HasNoFeed (take seen bytes) → Nowhere (Passes (is_byte 10) (drop seen bytes)) 0 count → HasNoFeed (take (seen + count) bytes)
searched_on seen count bytes none nowhere =
    let P : List ℕ → Type 0 = HasNoFeed in
    subst P (sym (take-add seen count bytes)) (All-append (λ b. (b == 10) ≡ false) (take seen bytes) (take count (drop seen bytes)) none (All-from_get_or (λ b. (b == 10) ≡ false) (take count (drop seen bytes)) 0 by))
  where
    by : (i : ℕ) → i < length (take count (drop seen bytes)) → (get_or (take count (drop seen bytes)) i 0 == 10) ≡ false
    by i inside =
        let size : length (take count (drop seen bytes)) ≡ min count (length (drop seen bytes)) = length-take count (drop seen bytes) in
        let few : i < count = omega (arith, size) in
        ap (λ b. b == 10) (get_or-take count (drop seen bytes) i 0 few) ∙ not_true (get_or (drop seen bytes) i 0 == 10) (nowhere i (omega arith) few)

-- the byte behind them is LF
pub stands_at : (seen count : ℕ) (bytes : List ℕ) → Passes (is_byte 10) (drop seen bytes) count → get_or bytes (seen + count) 0 ≡ 10
stands_at seen count bytes passes =
    sym (get_or-drop seen bytes count 0) ∙ by (get_or (drop seen bytes) count 0) passes
  where
    by : (b : ℕ) → (b == 10) ≡ true → b ≡ 10
    by b is = grind (arith, nat_tests)

-- ---- in a window of which nothing is used

module _ (used seen : ℕ) (there bytes : List ℕ) (passed : used ≡ 0) (same : bytes ≡ there) where
  ahead_is : drop used there ≡ bytes
  ahead_is = (λ i. drop (passed i) (sym same i))

  rest_is : take (length bytes - seen) (drop seen bytes) ≡ drop seen bytes
  rest_is = take_rest bytes seen

  module _ (none : HasNoFeed (take seen (drop used there))) where
    pub found_at : (count : ℕ) → Nowhere (Passes (is_byte 10) (take (length bytes - seen) (drop seen bytes))) 0 count → HasNoFeed (take (seen + count) (drop used there))
    found_at count nowhere =
        let Q : List ℕ → Type 0 = λ xs. HasNoFeed (take (seen + count) xs) in
        let R : List ℕ → Type 0 = λ xs. HasNoFeed (take seen xs) in
        let N : List ℕ → Type 0 = λ xs. Nowhere (Passes (is_byte 10) xs) 0 count in
        subst Q (sym ahead_is) (searched_on seen count bytes (subst R ahead_is none) (subst N rest_is nowhere))

    pub found_none : seen ≤ length bytes → Nowhere (Passes (is_byte 10) (take (length bytes - seen) (drop seen bytes))) 0 (length (take (length bytes - seen) (drop seen bytes)))
        → HasNoFeed (take (length bytes) (drop used there))
    found_none inside nowhere =
        let size : length (take (length bytes - seen) (drop seen bytes)) ≡ length bytes - seen = ap length rest_is ∙ length-drop seen bytes in
        let N : ℕ → Type 0 = λ n. Nowhere (Passes (is_byte 10) (take (length bytes - seen) (drop seen bytes))) 0 n in
        let Q : ℕ → Type 0 = λ n. HasNoFeed (take n (drop used there)) in
        subst Q (let e : seen + (length bytes - seen) ≡ length bytes = omega arith in e) (found_at (length bytes - seen) (subst N size nowhere))

  pub inside_of : (count : ℕ) → count < length (take (length bytes - seen) (drop seen bytes)) → seen + count < length (drop used there)
  inside_of count few =
      let size : length (take (length bytes - seen) (drop seen bytes)) ≡ length bytes - seen = ap length rest_is ∙ length-drop seen bytes in
      let all : length (drop used there) ≡ length bytes = ap length ahead_is in
      omega (arith, size, all)

  pub feed_at : (count : ℕ) → Passes (is_byte 10) (take (length bytes - seen) (drop seen bytes)) count → get_or (drop used there) (seen + count) 0 ≡ 10
  feed_at count passes =
      let T : List ℕ → Type 0 = λ xs. Passes (is_byte 10) xs count in
      ap (λ (xs : List ℕ). get_or xs (seen + count) 0) ahead_is ∙ stands_at seen count bytes (subst T rest_is passes)
