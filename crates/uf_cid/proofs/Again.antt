-- What is written as a CID is read again.
use Rattle.std.proofs.Common.{◌≡◌, ℕ, zero, suc, ◌+◌, ◌-◌, ◌<◌, ◌≤◌, ◌⊎◌, inl, inr, Bool, true, false, List, [], ◌∷◌, ◌++◌, length, get_or, take, drop, map, refl, sym, ap, subst, ◌∙◌, arith, Option, Some, None, Result, Ok, Err, cond}
use Rattle.std.specs.Prelude.{◌==◌, ◌&&◌, nat_lt, if◌then◌else◌, flat_map, replicate}
use Rattle.std.specs.List.{AllByRecursion}
use Rattle.std.specs.Option.{option_and_then, option_map}
use Rattle.std.proofs.lemmas.List.{take-append-drop, length-append, length-take-le}
use Rattle.std.proofs.Math.Seq.{take-append_seam}
use Rattle.std.proofs.lemmas.Bool.{cases_lt, eqb-true}
use Rattle.std.proofs.lemmas.Bool.Decides.{nat_tests}
use Rattle.uf_cid.specs.Base32.{bits, fives, letter, base32}
use Rattle.uf_cid.specs.Bytes.{IsBytes}
use Rattle.uf_cid.specs.Cid.{codec_byte, cid_bytes, cid_text}
use Rattle.uf_cid.specs.Unbase32.{AreBits, are_bits, bits5, eights, Padded, bits-fives, eights-bits}
use Rattle.uf_cid.specs.Read.{IsCid, multihash_at, codec_at, cid_at, alone, value_of, values_of, spare, is_padding, padded_bytes, unbase32, cid_spelled, cid_of_text, raised}
use Rattle.uf_cid.specs.declared.cid.Cid.{Cid}
use Rattle.uf_cid.specs.declared.cid.CidFault.{CidFault}
use Rattle.uf_cid.specs.declared.cid.CidFault.TheVariants as fault
use Rattle.uf_cid.specs.declared.cid.Codec.{Codec}
use Rattle.uf_cid.specs.declared.cid.Codec.TheVariants.{Raw, DagPb}

-- ---- bytes

not_less : (n : ℕ) → 32 ≤ n → nat_lt n 32 ≡ false
not_less n h = grind (arith, nat_tests)

enough : (digest rest : List ℕ) → length digest ≡ 32 → nat_lt (length (digest ++ rest)) 32 ≡ false
enough digest rest size = let e : length (digest ++ rest) ≡ length digest + length rest = length-append digest rest in not_less (length (digest ++ rest)) (omega (arith, e, size))

front_of : (digest rest : List ℕ) → length digest ≡ 32 → take 32 (digest ++ rest) ≡ digest
front_of digest rest size = ap (λ (n : ℕ). take n (digest ++ rest)) (sym size) ∙ take-append_seam digest rest

multihash_again : (codec : Codec) (before : ℕ) (digest rest : List ℕ) → length digest ≡ 32
    → multihash_at codec before (0x12 ∷ 0x20 ∷ (digest ++ rest)) ≡ Ok (record { codec = codec; digest = digest }, before + 34)
multihash_again codec before digest rest size =
    let room = enough digest rest size in
    let front = front_of digest rest size in
    λ i. if room i then Err fault.Short else Ok (record { codec = codec; digest = front i }, before + 34)

parts_again : (codec : Codec) (digest rest : List ℕ) → length digest ≡ 32 → cid_at (1 ∷ codec_byte codec ∷ 0x12 ∷ 0x20 ∷ (digest ++ rest)) ≡ Ok (record { codec = codec; digest = digest }, 36)
unfolding cid_at
parts_again Raw digest rest size = multihash_again Raw 2 digest rest size
parts_again DagPb digest rest size = multihash_again DagPb 2 digest rest size

pub binary_again : (c : Cid) (rest : List ℕ) → IsCid c → cid_at (cid_bytes c ++ rest) ≡ Ok (c, 36)
binary_again c rest h = parts_again c.codec c.digest rest h.size

-- ---- letters

value_letter : (a c : ℕ) → a ≤ c → c < a + 26 → value_of a c ≡ Some (c - a)
value_letter a c low high = grind (arith, nat_tests)

value_digit : (a c : ℕ) → 56 ≤ a → 50 ≤ c → c < 56 → value_of a c ≡ Some (c - 24)
value_digit a c above low high = grind (arith, nat_tests)

abbrev some : ℕ → Option ℕ
some n = Some n

is_low : (n : ℕ) → n < 26 → nat_lt n 26 ≡ true
is_low n h = grind (arith, nat_tests)

is_high : (n : ℕ) → 26 ≤ n → nat_lt n 26 ≡ false
is_high n h = grind (arith, nat_tests)

low_letter : (n : ℕ) → n < 26 → letter n ≡ 97 + n
low_letter n h = rw (is_low n h) refl

high_letter : (n : ℕ) → 26 ≤ n → letter n ≡ 24 + n
high_letter n h = rw (is_high n h) refl

value_again : (n : ℕ) → n < 32 → value_of 97 (letter n) ≡ Some n
value_again n h = elim (cases_lt n 26) [
  | inl lt ↦ ap (value_of 97) (low_letter n lt) ∙ value_letter 97 (97 + n) (omega arith) (omega arith) ∙ ap (λ (k : ℕ). some k) (let e : 97 + n - 97 ≡ n = omega arith in e)
  | inr le ↦ ap (value_of 97) (high_letter n le) ∙ value_digit 97 (24 + n) (omega arith) (omega arith) (omega arith) ∙ ap (λ (k : ℕ). some k) (let e : 24 + n - 24 ≡ n = omega arith in e)
]

values_again : (vs : List ℕ) → AllByRecursion (λ v. v < 32) vs → values_of 97 (map letter vs) ≡ Some vs
values_again [] h = refl
values_again (v ∷ vs) h = rw (value_again v h.0, values_again vs h.1) refl

fives_small : (bs : List ℕ) → AreBits bs → AllByRecursion (λ v. v < 32) (fives bs)
fives_small [] p = tt
fives_small (a ∷ []) p = (omega arith, tt)
fives_small (a ∷ b ∷ []) p = (omega arith, tt)
fives_small (a ∷ b ∷ c ∷ []) p = (omega arith, tt)
fives_small (a ∷ b ∷ c ∷ d ∷ []) p = (omega arith, tt)
fives_small (a ∷ b ∷ c ∷ d ∷ e ∷ rest) p = (omega arith, fives_small rest p.1.1.1.1.1)

few_spare : (n : ℕ) → n < 5 → is_padding (spare (replicate n 0)) ≡ true
few_spare zero h = refl
few_spare (suc zero) h = refl
few_spare (suc (suc zero)) h = refl
few_spare (suc (suc (suc zero))) h = refl
few_spare (suc (suc (suc (suc zero)))) h = refl
few_spare (suc (suc (suc (suc (suc n))))) h = absurd (omega arith)

padding_again : (bytes : List ℕ) (n : ℕ) → n < 5 → is_padding (spare (flat_map bits bytes ++ replicate n 0)) ≡ true
padding_again [] n h = few_spare n h
padding_again (b ∷ bs) n h = padding_again bs n h

padded_again : (bytes bs : List ℕ) → IsBytes bytes → Padded (flat_map bits bytes) bs → padded_bytes bs ≡ Some bytes
padded_again bytes bs fits p =
    let fine : is_padding (spare bs) ≡ true = ap (λ (t : List ℕ). is_padding (spare t)) p.is ∙ padding_again bytes p.zeros p.few in
    let back : eights bs ≡ bytes = ap eights p.is ∙ eights-bits bytes p.zeros p.few fits in
    λ i. if fine i then Some (back i) else None

unbase32_again : (bytes : List ℕ) → IsBytes bytes → unbase32 97 (base32 bytes) ≡ Some bytes
unfolding base32
unbase32_again bytes fits =
    let bs = flat_map bits bytes in
    ap (option_and_then (λ vs. padded_bytes (flat_map bits5 vs))) (values_again (fives bs) (fives_small bs (are_bits bytes)))
    ∙ padded_again bytes (flat_map bits5 (fives bs)) fits (bits-fives bs (are_bits bytes))

append_nothing : (xs : List ℕ) → xs ++ [] ≡ xs
append_nothing [] = refl
append_nothing (x ∷ xs) = ap (λ (t : List ℕ). x ∷ t) (append_nothing xs)

byte_of_codec : (codec : Codec) → codec_byte codec < 256
byte_of_codec Raw = omega arith
byte_of_codec DagPb = omega arith

pub text_again : (c : Cid) → IsCid c → cid_of_text (cid_text c) ≡ Ok c
unfolding cid_of_text
text_again c h =
    let fits : IsBytes (cid_bytes c) = (omega arith, (byte_of_codec c.codec, (omega arith, (omega arith, h.bytes)))) in
    let read : cid_at (cid_bytes c) ≡ Ok (c, 36) = ap cid_at (sym (append_nothing (cid_bytes c))) ∙ binary_again c [] h in
    let size : length (cid_bytes c) ≡ 36 = ap (λ (n : ℕ). suc (suc (suc (suc n)))) h.size in
    ap cid_spelled (unbase32_again (cid_bytes c) fits)
    ∙ ap (alone (length (cid_bytes c))) read
    ∙ ap (λ (n : ℕ). alone n (Ok (c, 36))) size

-- ---- one spelling

abbrev ok : Cid × ℕ → Result (Cid × ℕ) CidFault
ok x = Ok x

ok_is : (x y : Cid × ℕ) → ok x ≡ ok y → x ≡ y
ok_is x y e = cc

chosen : (b : Bool) (x y z : Result (Cid × ℕ) CidFault) → cond b x y ≡ z → ((b ≡ true) × (x ≡ z)) ⊎ ((b ≡ false) × (y ≡ z))
chosen true x y z e = inl (refl, e)
chosen false x y z e = inr (refl, e)

both_true : (a b : Bool) → (a && b) ≡ true → (a ≡ true) × (b ≡ true)
both_true true b e = (refl, e)
both_true false b e = absurd cc

take_bytes : (n : ℕ) (bytes : List ℕ) → IsBytes bytes → IsBytes (take n bytes)
take_bytes zero bytes h = tt
take_bytes (suc n) [] h = tt
take_bytes (suc n) (b ∷ bytes) h = (h.0, take_bytes n bytes h.1)

not_room : (n : ℕ) → nat_lt n 32 ≡ false → 32 ≤ n
not_room n e = grind (arith, nat_tests)

-- a multihash is read from its own bytes alone
record Hashed (codec : Codec) (before : ℕ) (rest : List ℕ) (found : Cid × ℕ) : Type 0 where
  codec_is : found.0.codec ≡ codec
  used : found.1 ≡ before + 34
  spelled : rest ≡ 0x12 ∷ 0x20 ∷ (found.0.digest ++ drop 34 rest)
  whole : IsBytes rest → IsCid found.0

abbrev failed : CidFault → Result (Cid × ℕ) CidFault
failed why = Err why

abbrev somes : List ℕ → Option (List ℕ)
somes xs = Some xs

abbrev no_number : Option ℕ
no_number = None

abbrev unread : CidFault → Result Cid CidFault
unread why = Err why

no_cid : (why : CidFault) (c : Cid) → unread why ≡ Ok c → ⊥
no_cid why c e = cc

no_err : (why : CidFault) (found : Cid × ℕ) → failed why ≡ ok found → ⊥
no_err why found e = cc

multihash_is : (codec : Codec) (before : ℕ) (rest : List ℕ) (found : Cid × ℕ) → multihash_at codec before rest ≡ ok found → Hashed codec before rest found
multihash_is codec before [] found e = absurd (no_err fault.Short found e)
multihash_is codec before (a ∷ []) found e =
    elim (chosen (a == 0x12) (Err fault.Short) (Err fault.Hash) (ok found) e) [
      | inl p ↦ absurd (no_err fault.Short found p.1)
      | inr p ↦ absurd (no_err fault.Hash found p.1)
    ]
multihash_is codec before (a ∷ b ∷ rest) found e =
    let made : Cid × ℕ = (record { codec = codec; digest = take 32 rest }, before + 34) in
    elim (chosen ((a == 0x12) && (b == 0x20)) (cond (nat_lt (length rest) 32) (Err fault.Short) (ok made)) (Err fault.Hash) (ok found) e) [
      | inr p ↦ absurd (no_err fault.Hash found p.1)
      | inl p ↦ elim (chosen (nat_lt (length rest) 32) (Err fault.Short) (ok made) (ok found) p.1) [
        | inl q ↦ absurd (no_err fault.Short found q.1)
        | inr q ↦
            let is : made ≡ found = ok_is made found q.1 in
            let ends : 32 ≤ length rest = not_room (length rest) q.0 in
            let a_is : a ≡ 0x12 = eqb-true a 0x12 (both_true (a == 0x12) (b == 0x20) p.0).0 in
            let b_is : b ≡ 0x20 = eqb-true b 0x20 (both_true (a == 0x12) (b == 0x20) p.0).1 in
            subst (Hashed codec before (a ∷ b ∷ rest)) is (record {
              codec_is = refl;
              used = refl;
              spelled = (λ i. a_is i ∷ b_is i ∷ rest) ∙ ap (λ (t : List ℕ). 0x12 ∷ 0x20 ∷ t) (sym (take-append-drop 32 rest));
              whole = λ h. record { size = length-take-le 32 rest ends; bytes = take_bytes 32 rest h.1.1 };
            })
      ]
    ]

-- a CID is read from its own bytes alone, where it isn't a CIDv0
record Read (bytes : List ℕ) (found : Cid × ℕ) : Type 0 where
  spelled : found.1 ≡ 36 → bytes ≡ cid_bytes found.0 ++ drop 36 bytes
  whole : IsBytes bytes → IsCid found.0

version_is : (a c : ℕ) (codec : Codec) (rest : List ℕ) (found : Cid × ℕ) → a ≡ 1 → c ≡ codec_byte codec → Hashed codec 2 rest found → Read (a ∷ c ∷ rest) found
version_is a c codec rest found a_is c_is h = record {
  spelled = λ _. (λ i. a_is i ∷ c_is i ∷ h.spelled i) ∙ ap (λ (k : Codec). 1 ∷ codec_byte k ∷ 0x12 ∷ 0x20 ∷ (found.0.digest ++ drop 34 rest)) (sym h.codec_is);
  whole = λ fits. h.whole fits.1.1;
}

codec_is : (a : ℕ) (rest : List ℕ) (found : Cid × ℕ) → a ≡ 1 → codec_at rest ≡ ok found → Read (a ∷ rest) found
codec_is a [] found a_is e = absurd (no_err fault.Short found e)
codec_is a (c ∷ rest) found a_is e =
    elim (chosen (c == 0x55) (multihash_at Raw 2 rest) (cond (c == 0x70) (multihash_at DagPb 2 rest) (Err fault.Codec)) (ok found) e) [
      | inl p ↦ version_is a c Raw rest found a_is (eqb-true c 0x55 p.0) (multihash_is Raw 2 rest found p.1)
      | inr p ↦ elim (chosen (c == 0x70) (multihash_at DagPb 2 rest) (Err fault.Codec) (ok found) p.1) [
        | inl q ↦ version_is a c DagPb rest found a_is (eqb-true c 0x70 q.0) (multihash_is DagPb 2 rest found q.1)
        | inr q ↦ absurd (no_err fault.Codec found q.1)
      ]
    ]

cid_is : (bytes : List ℕ) (found : Cid × ℕ) → cid_at bytes ≡ ok found → Read bytes found
unfolding cid_at
cid_is [] found e = absurd (no_err fault.Short found e)
cid_is (a ∷ rest) found e =
    elim (chosen (a == 1) (codec_at rest) (cond (a == 0x12) (multihash_at DagPb 0 (a ∷ rest)) (Err fault.Version)) (ok found) e) [
      | inl p ↦ codec_is a rest found (eqb-true a 1 p.0) p.1
      | inr p ↦ elim (chosen (a == 0x12) (multihash_at DagPb 0 (a ∷ rest)) (Err fault.Version) (ok found) p.1) [
        | inl q ↦
            let h : Hashed DagPb 0 (a ∷ rest) found = multihash_is DagPb 0 (a ∷ rest) found q.1 in
            record { spelled = λ e. absurd (omega (arith, h.used)); whole = h.whole }
        | inr q ↦ absurd (no_err fault.Version found q.1)
      ]
    ]

pub one_spelling : (c : Cid) (bytes : List ℕ) → cid_at bytes ≡ ok (c, 36) → bytes ≡ cid_bytes c ++ drop 36 bytes
one_spelling c bytes e = (cid_is bytes (c, 36) e).spelled refl

pub read_whole : (c : Cid) (bytes : List ℕ) (used : ℕ) → IsBytes bytes → cid_at bytes ≡ ok (c, used) → IsCid c
read_whole c bytes used fits e = (cid_is bytes (c, used) e).whole fits

-- ---- upper case

value_none : (a c : ℕ) → (c < a) ⊎ (a + 26 ≤ c) → (c < 50) ⊎ (56 ≤ c) → value_of a c ≡ None
value_none a c (inl p) (inl q) = grind (arith, nat_tests)
value_none a c (inl p) (inr q) = grind (arith, nat_tests)
value_none a c (inr p) (inl q) = grind (arith, nat_tests)
value_none a c (inr p) (inr q) = grind (arith, nat_tests)

raised_low : (c : ℕ) → 97 ≤ c → raised c ≡ c - 32
raised_low c h = grind (arith, nat_tests)

raised_other : (c : ℕ) → c < 97 → raised c ≡ c
raised_other c h = grind (arith, nat_tests)

none_is : (v : ℕ) → no_number ≡ some v → ⊥
none_is v e = cc

low_value : (c v : ℕ) → value_of 97 c ≡ some v → value_of 65 (raised c) ≡ some v
low_value c v e = elim (cases_lt c 50) [
  | inl p ↦ absurd (none_is v (sym (value_none 97 c (inl (omega arith)) (inl p)) ∙ e))
  | inr p ↦ elim (cases_lt c 56) [
    | inl q ↦ ap (value_of 65) (raised_other c (omega arith)) ∙ value_digit 65 c (omega arith) p q ∙ sym (value_digit 97 c (omega arith) p q) ∙ e
    | inr q ↦ elim (cases_lt c 97) [
      | inl r ↦ absurd (none_is v (sym (value_none 97 c (inl r) (inr q)) ∙ e))
      | inr r ↦ elim (cases_lt c 123) [
        | inl s ↦ ap (value_of 65) (raised_low c r) ∙ value_letter 65 (c - 32) (omega arith) (omega arith)
            ∙ ap (λ (k : ℕ). some k) (let e : c - 32 - 65 ≡ c - 97 = omega arith in e) ∙ sym (value_letter 97 c r s) ∙ e
        | inr s ↦ absurd (none_is v (sym (value_none 97 c (inr s) (inr q)) ∙ e))
      ]
    ]
  ]
]

record Joined (v : ℕ) (o : Option (List ℕ)) (vs : List ℕ) : Type 0 where
  rest : List ℕ
  told : o ≡ somes rest
  is : somes (v ∷ rest) ≡ somes vs

joined : (v : ℕ) (o : Option (List ℕ)) (vs : List ℕ) → option_map (λ ws. v ∷ ws) o ≡ somes vs → Joined v o vs
joined v None vs e = absurd cc
joined v (Some ws) vs e = record { rest = ws; told = refl; is = e }

record Taken (o : Option ℕ) (rest : Option (List ℕ)) (vs : List ℕ) : Type 0 where
  first : ℕ
  told : o ≡ some first
  joins : Joined first rest vs

taken : (o : Option ℕ) (rest : Option (List ℕ)) (vs : List ℕ) → option_and_then (λ v. option_map (λ ws. v ∷ ws) rest) o ≡ somes vs → Taken o rest vs
taken None rest vs e = absurd cc
taken (Some v) rest vs e = record { first = v; told = refl; joins = joined v rest vs e }

raised_values : (letters vs : List ℕ) → values_of 97 letters ≡ somes vs → values_of 65 (map raised letters) ≡ somes vs
raised_values [] vs e = e
raised_values (c ∷ cs) vs e =
    let t : Taken (value_of 97 c) (values_of 97 cs) vs = taken (value_of 97 c) (values_of 97 cs) vs e in
    ap (option_and_then (λ v. option_map (λ ws. v ∷ ws) (values_of 65 (map raised cs)))) (low_value c t.first t.told)
    ∙ ap (option_map (λ ws. t.first ∷ ws)) (raised_values cs t.joins.rest t.joins.told)
    ∙ t.joins.is

raised_bytes : (letters : List ℕ) (o : Option (List ℕ)) (c : Cid) → values_of 97 letters ≡ o → cid_spelled (option_and_then (λ vs. padded_bytes (flat_map bits5 vs)) o) ≡ Ok c → cid_spelled (unbase32 65 (map raised letters)) ≡ Ok c
raised_bytes letters None c told e = absurd (no_cid fault.Base c e)
raised_bytes letters (Some vs) c told e = ap (λ (o : Option (List ℕ)). cid_spelled (option_and_then (λ vs. padded_bytes (flat_map bits5 vs)) o)) (raised_values letters vs told) ∙ e

pub upper_again : (c : Cid) (letters : List ℕ) → cid_of_text (98 ∷ letters) ≡ Ok c → cid_of_text (66 ∷ map raised letters) ≡ Ok c
unfolding cid_of_text
upper_again c letters e = raised_bytes letters (values_of 97 letters) c refl e

-- ---- the values of the type

pub each_byte : (bytes : List ℕ) → ((i : ℕ) → get_or bytes i 0 < 256) → IsBytes bytes
each_byte [] h = tt
each_byte (b ∷ bs) h = (h 0, each_byte bs (λ i. h (suc i)))

pub is_whole : (c : Cid) (bytes : List ℕ) → bytes ≡ cid_bytes c → length bytes ≡ 36 → IsBytes bytes → IsCid c
is_whole c bytes e size fits =
    let all : length (cid_bytes c) ≡ 36 = ap length (sym e) ∙ size in
    let small : IsBytes (cid_bytes c) = subst IsBytes e fits in
    record { size = omega (arith, all); bytes = small.1.1.1.1 }
