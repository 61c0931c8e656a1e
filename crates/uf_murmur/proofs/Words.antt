-- Words of what is left over, and powers.
use Rattle.std.proofs.Common.{◌≡◌, ℕ, zero, suc, ◌+◌, ◌-◌, ◌*◌, ◌^◌, List, [], ◌∷◌, length, refl, ap, sym, ◌∙◌, arith, get_or, drop, take}
use Rattle.std.proofs.lemmas.List.{get_or-drop, length-drop, take_all}
use Rattle.std.proofs.lemmas.Nat.{pow-add}
use Rattle.std.specs.Int.{w64, from_le_bytes}
use Rattle.uf_murmur.specs.Murmur.{word_at}

byte_behind : (last name : List ℕ) (start : ℕ) → ((i : ℕ) → get_or last i 0 ≡ get_or (drop start name) i 0) → (i j : ℕ) → j ≡ start + i → get_or last i 0 ≡ get_or name j 0
byte_behind last name start h i j e = h i ∙ get_or-drop start name i 0 ∙ ap (λ j. get_or name j 0) (sym e)

-- a word of the bytes behind a place is the word that far on
pub word_behind : (last name : List ℕ) (start : ℕ) → ((i : ℕ) → get_or last i 0 ≡ get_or (drop start name) i 0) → (k j : ℕ) → j ≡ start + k → word_at last k ≡ word_at name j
word_behind last name start h k j e =
    let byte = byte_behind last name start h in
    let b0 = byte k j e in
    let b1 = byte (k + 1) (j + 1) (omega arith) in
    let b2 = byte (k + 2) (j + 2) (omega arith) in
    let b3 = byte (k + 3) (j + 3) (omega arith) in
    let b4 = byte (k + 4) (j + 4) (omega arith) in
    let b5 = byte (k + 5) (j + 5) (omega arith) in
    let b6 = byte (k + 6) (j + 6) (omega arith) in
    let b7 = byte (k + 7) (j + 7) (omega arith) in
    λ i. from_le_bytes w64 (b0 i ∷ b1 i ∷ b2 i ∷ b3 i ∷ b4 i ∷ b5 i ∷ b6 i ∷ b7 i ∷ [])

pub power_of_bytes : (n : ℕ) → 2 ^ (8 * n) ≡ 256 ^ n
power_of_bytes zero = refl
power_of_bytes (suc n) = by (power_of_bytes n)
  where
    by : 2 ^ (8 * n) ≡ 256 ^ n → 2 ^ (8 * suc n) ≡ 256 ^ suc n
    by e =
        let more : 8 * suc n ≡ 8 * n + 8 = omega arith in
        let next : n + 1 ≡ suc n = omega arith in
        ap (λ k. 2 ^ k) more ∙ pow-add 2 (8 * n) 8 ∙ ap (λ p. p * 256) e ∙ sym (pow-add 256 n 1) ∙ ap (λ k. 256 ^ k) next

-- the slice of all bytes from a place on
pub rest_from : (name : List ℕ) (k : ℕ) → take (length name - k) (drop k name) ≡ drop k name
rest_from name k = take_all (length name - k) (drop k name) (omega (arith, length-drop k name))
