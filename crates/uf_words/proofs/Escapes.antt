-- What is printed of bytes is what the crate `percent_encoding` writes, and is read again as one word of a line.
use Rattle.std.proofs.Common.{◌≡◌, ◌≢◌, ℕ, zero, suc, ◌/◌, ◌%◌, ◌<◌, ◌≤◌, ◌&&◌, ⊎_elim, Bool, true, false, not, List, [], ◌∷◌, ◌++◌, length, get_or, refl, sym, ap, ◌∙◌, append-nil, arith}
use Rattle.std.proofs.lemmas.Bool.{cases_Bool, cases_eq, cases_lt, cond-true, cond-false}
use Rattle.std.proofs.lemmas.Bool.Decides.{nat_tests}
use Rattle.uf_cid.specs.Bytes.{IsBytes}
use Rattle.percent_encoding.specs.AsciiSet.{contains, should_percent_encode}
use Rattle.percent_encoding.specs.Percent.{percent_encode, percent_encode_byte}
use Rattle.percent_encoding.proofs.PercentLemmas.{percent_encode-nil, percent_encode_escaped, percent_encode_kept, All-percent_encode, IsByte, IsEscapeByte, percent_decode-nil, percent_encode-nil, round_trip}
use Rattle.percent_encoding.specs.Percent.{percent_decode}
use Rattle.std.specs.Prelude.{All}
use Rattle.std.specs.List.{flat_map, slice_split}
use Rattle.std.proofs.lemmas.List.Elements.{All-cons, All-nil}
use Rattle.std.proofs.lemmas.List.Splits.{slice_split_none}
use Rattle.uf_words.specs.Lines.{is_space, line_words, word_in}
use Rattle.uf_words.specs.Shown.{is_plain, upper_hex, shown_bytes}
use Rattle.uf_words.specs.declared.printing.TheConstants.{ESCAPED}

both : (a b : Bool) → (a && b) ≡ true → (a ≡ true) × (b ≡ true)
both true b h = (refl, h)
both false b h = (cc, cc)

-- a test holds of each number below n
abbrev every : (ℕ → Bool) → ℕ → Bool
every p zero = true
every p (suc n) = p n && every p n

every_at : (p : ℕ → Bool) (n k : ℕ) → every p n ≡ true → k < n → p k ≡ true
every_at p zero k h below = absurd (omega arith)
every_at p (suc n) k h below =
    let each = both (p n) (every p n) h in
    ⊎_elim
    (λ (e : k ≡ n). ap p e ∙ each.0)
    (λ (e : k ≢ n). every_at p n k each.1 (omega arith))
    (cases_eq k n)

abbrev same : Bool → Bool → Bool
same true b = b
same false b = not b

same_is : (a b : Bool) → same a b ≡ true → a ≡ b
same_is true true h = refl
same_is true false h = cc
same_is false true h = cc
same_is false false h = refl

-- the set has the bytes below 128 that are not plain
in_the_set : (b : ℕ) → b < 128 → contains ESCAPED b ≡ not (is_plain b)
in_the_set b below = same_is _ _ (every_at (λ c. same (contains ESCAPED c) (not (is_plain c))) 128 b refl below)

escaped : (b : ℕ) → is_plain b ≡ false → should_percent_encode ESCAPED b ≡ true
unfolding should_percent_encode
escaped b h = ⊎_elim (λ (below : b < 128). let e = in_the_set b below in grind (arith, nat_tests)) (λ (above : 128 ≤ b). grind (arith, nat_tests)) (cases_lt b 128)

kept : (b : ℕ) → is_plain b ≡ true → should_percent_encode ESCAPED b ≡ false
unfolding should_percent_encode
kept b h =
    let below : b < 128 = grind (arith, nat_tests) in
    let e = in_the_set b below in
    grind (arith, nat_tests)

two_digits : (b : ℕ) → b < 256 → percent_encode_byte b ≡ 37 ∷ upper_hex (b / 16) ∷ upper_hex (b % 16) ∷ []
unfolding percent_encode_byte
two_digits b small =
    let e : b / 16 % 16 ≡ b / 16 = omega arith in
    ap (λ (n : ℕ). 37 ∷ upper_hex n ∷ upper_hex (b % 16) ∷ []) e

pub shown_encoded : (bytes : List ℕ) → IsBytes bytes → percent_encode ESCAPED bytes ≡ shown_bytes bytes
shown_encoded [] h = percent_encode-nil ESCAPED
shown_encoded (b ∷ bytes) h =
    let rest = shown_encoded bytes h.1 in
    ⊎_elim
    (λ (e : is_plain b ≡ true). percent_encode_kept ESCAPED b bytes (kept b e) ∙ ap (λ (bs : List ℕ). b ∷ bs) rest ∙ ap (λ (bs : List ℕ). bs ++ shown_bytes bytes) (sym (cond-true (is_plain b) (b ∷ []) (37 ∷ upper_hex (b / 16) ∷ upper_hex (b % 16) ∷ []) e)))
    (λ (e : is_plain b ≡ false). percent_encode_escaped ESCAPED b bytes (escaped b e) ∙ ap (λ (bs : List ℕ). bs ++ percent_encode ESCAPED bytes) (two_digits b h.0) ∙ ap (λ (bs : List ℕ). (37 ∷ upper_hex (b / 16) ∷ upper_hex (b % 16) ∷ []) ++ bs) rest ∙ ap (λ (bs : List ℕ). bs ++ shown_bytes bytes) (sym (cond-false (is_plain b) (b ∷ []) (37 ∷ upper_hex (b / 16) ∷ upper_hex (b % 16) ∷ []) e)))
    (cases_Bool (is_plain b))

-- what the indices of a list say, by its recursion
pub bytes_from : (bytes : List ℕ) → ((i : ℕ) → i < length bytes → get_or bytes i 0 < 256) → IsBytes bytes
bytes_from [] h = tt
bytes_from (b ∷ bytes) h = (h 0 (omega arith), bytes_from bytes (λ i within. h (suc i) (omega arith)))

not_space : (b : ℕ) → is_plain b ≡ true → is_space b ≡ false
not_space b h = grind (arith, nat_tests)

kept_is_plain : (b : ℕ) → should_percent_encode ESCAPED b ≡ false → is_plain b ≡ true
kept_is_plain b h =
    ⊎_elim
    (λ (e : is_plain b ≡ true). e)
    (λ (e : is_plain b ≡ false). let no = escaped b e in cc)
    (cases_Bool (is_plain b))

digit_is_no_space : (b : ℕ) → IsEscapeByte b → is_space b ≡ false
digit_is_no_space b h = grind (arith, nat_tests)

all_bytes : (bytes : List ℕ) → IsBytes bytes → All IsByte bytes
all_bytes [] h = All-nil IsByte
all_bytes (b ∷ bytes) h = All-cons IsByte b bytes h.0 (all_bytes bytes h.1)

one_word : (shown bytes : List ℕ) → percent_decode shown ≡ bytes → 0 < length bytes → word_in shown ≡ bytes ∷ []
one_word [] bytes is some = absurd (let none : [] ≡ bytes = sym percent_decode-nil ∙ is in let empty : length bytes ≡ 0 = ap length (sym none) in omega arith)
one_word (b ∷ shown) bytes is some = ap (λ (bs : List ℕ). bs ∷ []) is

-- a line that is what is printed of a text that isn't empty has the text as its one word
pub shown_is_one_word : (bytes : List ℕ) → IsBytes bytes → 0 < length bytes → line_words (shown_bytes bytes) ≡ bytes ∷ []
unfolding line_words
shown_is_one_word bytes small some =
    let same = shown_encoded bytes small in
    let spaceless = All-percent_encode (λ b. is_space b ≡ false) ESCAPED bytes (λ b kept. not_space b (kept_is_plain b kept)) digit_is_no_space in
    let whole = slice_split_none is_space (percent_encode ESCAPED bytes) spaceless in
    let again = round_trip ESCAPED bytes refl (all_bytes bytes small) in
    ap (λ (line : List ℕ). flat_map word_in (slice_split is_space line)) (sym same)
    ∙ ap (flat_map word_in) whole
    ∙ append-nil (word_in (percent_encode ESCAPED bytes))
    ∙ one_word (percent_encode ESCAPED bytes) bytes again some
