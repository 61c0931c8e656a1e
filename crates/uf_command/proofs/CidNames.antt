-- The text of a CID is a good name.
use Rattle.std.proofs.Common.{◌≡◌, ℕ, zero, suc, ◌+◌, ◌*◌, ◌<◌, ◌≤◌, List, [], ◌∷◌, true, false, length, arith, refl, inl, inr}
use Rattle.std.specs.Prelude.{◌==◌, ◌||◌, map, flat_map, nat_lt, nat_le}
use Rattle.std.specs.List.{AllByRecursion, list_any}
use Rattle.std.specs.Str.{IsAscii, IsUtf8}
use Rattle.std.proofs.lemmas.Bool.{cases_lt, le-leb}
use Rattle.std.proofs.lemmas.Bool.Decides.{nat_tests}
use Rattle.std.proofs.lemmas.Str.{IsUtf8-from_ascii, is_utf8-from_IsUtf8}
use Rattle.uf_cid.specs.Base32.{base32, bits, five, fives, letter}
use Rattle.uf_cid.specs.Cid.{cid_bytes, cid_text}
use Rattle.uf_cid.specs.Read.{IsCid}
use Rattle.uf_cid.specs.Unbase32.{AreBits, are_bits}
use Rattle.uf_cid.specs.declared.cid.Cid.{Cid}
use Rattle.uf_tree.specs.Names.{is_dots, is_name}

-- a byte that is a letter or a digit
abbrev IsPlain : ℕ → Type 0
IsPlain b = (47 < b) × (b < 128)

low_is : (n : ℕ) → n < 26 → nat_lt n 26 ≡ true
low_is n h = grind (arith, nat_tests)

high_is : (n : ℕ) → 26 ≤ n → nat_lt n 26 ≡ false
high_is n h = grind (arith, nat_tests)

plain_letter : (n : ℕ) → n < 32 → IsPlain (letter n)
plain_letter n h = elim (cases_lt n 26) [
  | inl lt ↦ rw (low_is n lt) (omega (arith, lt), omega (arith, lt))
  | inr le ↦ rw (high_is n le) (omega (arith, le), omega (arith, h))
]

letters_of : (bs : List ℕ) → AreBits bs → AllByRecursion IsPlain (map letter (fives bs))
letters_of [] p = tt
letters_of (a ∷ []) p = (plain_letter (five a 0 0 0 0) (omega (arith, p.0)), tt)
letters_of (a ∷ b ∷ []) p = (plain_letter (five a b 0 0 0) (omega (arith, p.0, p.1.0)), tt)
letters_of (a ∷ b ∷ c ∷ []) p = (plain_letter (five a b c 0 0) (omega (arith, p.0, p.1.0, p.1.1.0)), tt)
letters_of (a ∷ b ∷ c ∷ d ∷ []) p = (plain_letter (five a b c d 0) (omega (arith, p.0, p.1.0, p.1.1.0, p.1.1.1.0)), tt)
letters_of (a ∷ b ∷ c ∷ d ∷ e ∷ rest) p = (plain_letter (five a b c d e) (omega (arith, p.0, p.1.0, p.1.1.0, p.1.1.1.0, p.1.1.1.1.0)), letters_of rest p.1.1.1.1.1)

text_plain : (c : Cid) → AllByRecursion IsPlain (cid_text c)
unfolding base32
text_plain c = ((omega arith, omega arith), letters_of (flat_map bits (cid_bytes c)) (are_bits (cid_bytes c)))

ascii_more : (b : ℕ) (l : List ℕ) → b < 128 → IsAscii l → IsAscii (b ∷ l)
ascii_more b l low h zero = low
ascii_more b l low h (suc i) = h i

ascii_of : (l : List ℕ) → AllByRecursion IsPlain l → IsAscii l
ascii_of [] h = λ i. omega arith
ascii_of (b ∷ l) h = ascii_more b l h.0.1 (ascii_of l h.1)

not_separator : (b : ℕ) → 47 < b → ((b == 47) || (b == 0)) ≡ false
not_separator b h = grind (arith, nat_tests)

no_separator : (l : List ℕ) → AllByRecursion IsPlain l → list_any (λ b. (b == 47) || (b == 0)) l ≡ false
no_separator [] h = refl
no_separator (b ∷ l) h = rw (not_separator b h.0.0) (no_separator l h.1)

no_dots : (l : List ℕ) → is_dots (98 ∷ l) ≡ false
no_dots [] = refl
no_dots (b ∷ []) = refl
no_dots (b ∷ c ∷ l) = refl

some_byte : (l : List ℕ) → nat_le 1 (length (98 ∷ l)) ≡ true
some_byte l = le-leb 1 (length (98 ∷ l)) (omega arith)

good_text : (l : List ℕ) → length (98 ∷ l) ≤ 255 → AllByRecursion IsPlain (98 ∷ l) → is_name (98 ∷ l) ≡ true
good_text l few plain =
    let utf = is_utf8-from_IsUtf8 (98 ∷ l) (IsUtf8-from_ascii (98 ∷ l) (ascii_of (98 ∷ l) plain)) in
    rw (some_byte l, le-leb (length (98 ∷ l)) 255 few, no_separator (98 ∷ l) plain, no_dots l, utf) refl

few_letters : (bs : List ℕ) → 5 * length (map letter (fives bs)) ≤ length bs + 4
few_letters [] = omega arith
few_letters (a ∷ []) = omega arith
few_letters (a ∷ b ∷ []) = omega arith
few_letters (a ∷ b ∷ c ∷ []) = omega arith
few_letters (a ∷ b ∷ c ∷ d ∷ []) = omega arith
few_letters (a ∷ b ∷ c ∷ d ∷ e ∷ rest) = (let k = few_letters rest in omega (arith, k))

bits_count : (bytes : List ℕ) → length (flat_map bits bytes) ≡ 8 * length bytes
bits_count [] = refl
bits_count (b ∷ bytes) = (let k = bits_count bytes in omega (arith, k))

few_text : (c : Cid) → IsCid c → length (cid_text c) ≤ 255
unfolding base32
few_text c whole =
    let count = bits_count (cid_bytes c) in
    let few = few_letters (flat_map bits (cid_bytes c)) in
    let size = whole.size in
    omega (arith, count, few, size)

pub text-name : (c : Cid) → IsCid c → is_name (cid_text c) ≡ true
text-name c whole = good_text (base32 (cid_bytes c)) (few_text c whole) (text_plain c)

pub text-utf8 : (c : Cid) → IsUtf8 (cid_text c)
text-utf8 c = IsUtf8-from_ascii (cid_text c) (ascii_of (cid_text c) (text_plain c))
