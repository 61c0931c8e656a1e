-- How a section begins: what its first bytes decide, and how many there are.
use Rattle.std.proofs.Common.{◌≡◌, ℕ, zero, suc, ◌+◌, ◌-◌, ◌≤◌, ◌<◌, List, [], ◌∷◌, ◌++◌, length, take, drop, Bool, true, false, ◌&&◌, refl, sym, ap, subst, ◌∙◌, arith, length-append, length-drop, Ok, Err, Result, ◌⊎◌, inl, inr, true≢false}
use Rattle.std.proofs.lemmas.List.{take-append-le, drop-append-le}
use Rattle.std.proofs.lemmas.Bool.Decides.{nat_tests}
use Rattle.std.specs.Prelude.{nat_lt, ◌==◌, if◌then◌else◌, min, IfOk}
use Rattle.uf_varint.specs.declared.varint.Var.{Var}
use Rattle.uf_varint.specs.declared.varint.Var.TheVariants.{Value, Short, Bad}
use Rattle.uf_varint.specs.Varint.{multi_within, read_multi_of, with_low}
use Rattle.uf_varint.proofs.Varints.{not_below, with_low_value}
use Rattle.uf_varint.proofs.Tables.{read_multi_is_short}
use Rattle.uf_cid.specs.Read.{cid_at, codec_at, multihash_at}
use Rattle.uf_cid.specs.declared.cid.Cid.{Cid}
use Rattle.uf_cid.specs.declared.cid.CidFault.{CidFault}
use Rattle.uf_cid.specs.declared.cid.CidFault.TheVariants as fault
use Rattle.uf_cid.specs.declared.cid.Codec.{Codec}
use Rattle.uf_cid.specs.declared.cid.Codec.TheVariants.{Raw, DagPb}
use Rattle.uf_car.specs.declared.section.Opening.{Opening}
use Rattle.uf_car.specs.declared.section.Opening.TheVariants.{Cut, End, Found, Wrong}
use Rattle.uf_car.specs.declared.fault.CarFault.TheVariants as car
use Rattle.uf_car.specs.Reading.{behind_length, opening_of, with_cid, with_section_length, within_section}

nat_lt-false : (n m : ℕ) → nat_lt n m ≡ false → m ≤ n
nat_lt-false n m e = grind (arith, nat_tests)

nat_eq-true : (n m : ℕ) → (n == m) ≡ true → n ≡ m
nat_eq-true n m e = grind (arith, nat_tests)

-- ---- a length

multi_used : (room : ℕ) (bytes : List ℕ) (n used : ℕ) → multi_within room bytes ≡ Value n used → used ≤ room + 1
unfolding multi_within
multi_used room [] n used e = cc
multi_used zero (b ∷ bytes) n used e = by (nat_lt b 128) (b == 0) e
  where
    by : (x y : Bool) → (if x then (if y then Bad else Value b 1) else Bad) ≡ Value n used → used ≤ 0 + 1
    by true true is = cc
    by true false is = let one : 1 ≡ used = cc in omega arith
    by false y is = cc
multi_used (suc room) (b ∷ bytes) n used e = by (nat_lt b 128) (b == 0) e (multi_used room bytes)
  where
    by : (x y : Bool) → (if x then (if y then Bad else Value b 1) else with_low b (multi_within room bytes)) ≡ Value n used
        → ((n used : ℕ) → multi_within room bytes ≡ Value n used → used ≤ room + 1) → used ≤ suc room + 1
    by true true is rest = cc
    by true false is rest = let one : 1 ≡ used = cc in omega arith
    by false y is rest = let low = with_low_value b n used (multi_within room bytes) is in let below : low.1 ≤ room + 1 = rest low.0 low.1 low.2 in omega (arith, below, low.3)

pub length_used : (bytes : List ℕ) (n used : ℕ) → read_multi_of bytes ≡ Value n used → used ≤ 9
unfolding read_multi_of
length_used [] n used e = cc
length_used (b ∷ bytes) n used e = by (nat_lt b 128) e
  where
    by : (x : Bool) → (if x then Value b 1 else with_low b (multi_within 7 bytes)) ≡ Value n used → used ≤ 9
    by true is = let one : 1 ≡ used = cc in omega arith
    by false is = let low = with_low_value b n used (multi_within 7 bytes) is in let below : low.1 ≤ 7 + 1 = multi_used 7 bytes low.0 low.1 low.2 in omega (arith, below, low.3)

multi_stable : (room : ℕ) (xs more : List ℕ) → (multi_within room xs ≡ Short → ⊥) → multi_within room (xs ++ more) ≡ multi_within room xs
unfolding multi_within
multi_stable room [] more miss = absurd (miss refl)
multi_stable zero (b ∷ xs) more miss = refl
multi_stable (suc room) (b ∷ xs) more miss = by (nat_lt b 128) (b == 0) miss (multi_stable room xs more)
  where
    by : (x y : Bool) → ((if x then (if y then Bad else Value b 1) else with_low b (multi_within room xs)) ≡ Short → ⊥)
        → ((multi_within room xs ≡ Short → ⊥) → multi_within room (xs ++ more) ≡ multi_within room xs)
        → (if x then (if y then Bad else Value b 1) else with_low b (multi_within room (xs ++ more))) ≡ (if x then (if y then Bad else Value b 1) else with_low b (multi_within room xs))
    by true y none rest = refl
    by false y none rest = ap (with_low b) (rest (λ e. none (ap (with_low b) e)))

-- what follows a length doesn't matter
pub length_stable : (xs more : List ℕ) → (read_multi_of xs ≡ Short → ⊥) → read_multi_of (xs ++ more) ≡ read_multi_of xs
unfolding read_multi_of
length_stable [] more miss = absurd (miss refl)
length_stable (b ∷ xs) more miss = by (nat_lt b 128) miss
  where
    by : (x : Bool) → ((if x then Value b 1 else with_low b (multi_within 7 xs)) ≡ Short → ⊥)
        → (if x then Value b 1 else with_low b (multi_within 7 (xs ++ more))) ≡ (if x then Value b 1 else with_low b (multi_within 7 xs))
    by true none = refl
    by false none = ap (with_low b) (multi_stable 7 xs more (λ e. none (ap (with_low b) e)))

pub long_enough : (xs : List ℕ) → 9 ≤ length xs → read_multi_of xs ≡ Short → ⊥
long_enough xs h e = let short : length xs < 9 = ((read_multi_is_short xs).0 e).0 in omega arith

-- ---- a CID

-- a CID has n bytes, and there are as many
abbrev Measures : ℕ → List ℕ → Type 0
Measures used bytes = (0 < used) × (used ≤ 36) × (used ≤ length bytes)

-- what bytes are as a CID
abbrev Answer : Type 0
Answer = Result (Cid × ℕ) CidFault

abbrev pick : Bool → Answer → Answer → Answer
pick b x y = if b then x else y

multihash_used : (codec : Codec) (before : ℕ) (bytes : List ℕ) (c : Cid) (used : ℕ) → multihash_at codec before bytes ≡ Ok (c, used) → (used ≡ before + 34) × (34 ≤ length bytes)
multihash_used codec before [] c used e = cc
multihash_used codec before (a ∷ []) c used e = by (a == 0x12) e
  where
    by : (x : Bool) → pick x (Err fault.Short) (Err fault.Hash) ≡ Ok (c, used) → (used ≡ before + 34) × (34 ≤ length (a ∷ []))
    by true is = cc
    by false is = cc
multihash_used codec before (a ∷ b ∷ rest) c used e = by ((a == 0x12) && (b == 0x20)) (nat_lt (length rest) 32) refl e
  where
    by : (x y : Bool) → nat_lt (length rest) 32 ≡ y → pick x (pick y (Err fault.Short) (Ok (record { codec = codec; digest = take 32 rest }, before + 34))) (Err fault.Hash) ≡ Ok (c, used)
        → (used ≡ before + 34) × (34 ≤ length (a ∷ b ∷ rest))
    by true true long is = cc
    by true false long is = let both : ◌≡◌ {A = Cid × ℕ} (record { codec = codec; digest = take 32 rest }, before + 34) (c, used) = cc in let size : before + 34 ≡ used = ap (λ (p : Cid × ℕ). p.1) both in let enough : 32 ≤ length rest = nat_lt-false (length rest) 32 long in (sym size, omega arith)
    by false y long is = cc

codec_used : (bytes : List ℕ) (c : Cid) (used : ℕ) → codec_at bytes ≡ Ok (c, used) → (used ≡ 36) × (35 ≤ length bytes)
codec_used [] c used e = cc
codec_used (a ∷ rest) c used e = by (a == 0x55) (a == 0x70) e
  where
    found : (codec : Codec) → multihash_at codec 2 rest ≡ Ok (c, used) → (used ≡ 36) × (35 ≤ length (a ∷ rest))
    found codec is = let m = multihash_used codec 2 rest c used is in (omega (arith, m.0), omega (arith, m.1))

    by : (x y : Bool) → pick x (multihash_at Raw 2 rest) (pick y (multihash_at DagPb 2 rest) (Err fault.Codec)) ≡ Ok (c, used) → (used ≡ 36) × (35 ≤ length (a ∷ rest))
    by true y is = found Raw is
    by false true is = found DagPb is
    by false false is = cc

pub cid_used : (bytes : List ℕ) (c : Cid) (used : ℕ) → cid_at bytes ≡ Ok (c, used) → (0 < used) × (used ≤ 36) × (used ≤ length bytes)
unfolding cid_at
cid_used [] c used e = cc
cid_used (a ∷ rest) c used e = by (a == 1) (a == 0x12) e
  where
    by : (x y : Bool) → pick x (codec_at rest) (pick y (multihash_at DagPb 0 (a ∷ rest)) (Err fault.Version)) ≡ Ok (c, used) → Measures used (a ∷ rest)
    by true y is = let m = codec_used rest c used is in (omega (arith, m.0), omega (arith, m.0), omega (arith, m.0, m.1))
    by false true is = let m = multihash_used DagPb 0 (a ∷ rest) c used is in (omega (arith, m.0), omega (arith, m.0), omega (arith, m.0, m.1))
    by false false is = cc

pub cid_fits : (bytes : List ℕ) (r : Result (Cid × ℕ) CidFault) → r ≡ cid_at bytes → IfOk r (λ (x : Cid × ℕ). (0 < x.1) × (x.1 ≤ 36) × (x.1 ≤ length bytes))
cid_fits bytes (Ok x) e = cid_used bytes x.0 x.1 (sym e)
cid_fits bytes (Err why) e = tt

-- ---- an opening

pub opening_some : (place : ℕ) (bytes : List ℕ) → 0 < length bytes → opening_of place bytes ≡ with_section_length place bytes (read_multi_of bytes)
unfolding opening_of
opening_some place [] h = absurd (omega arith)
opening_some place (b ∷ bytes) h = refl

pub opening_none : (place : ℕ) (bytes : List ℕ) → length bytes ≡ 0 → opening_of place bytes ≡ End
unfolding opening_of
opening_none place [] h = refl
opening_none place (b ∷ bytes) h = absurd (omega arith)

-- enough bytes for a CID stand behind the length
cid_behind : (place n used : ℕ) (ys : List ℕ) → 36 ≤ length ys → behind_length place n used ys ≡ with_cid place n used (cid_at (take (min n 36) ys))
cid_behind place n used ys h =
    let enough : min n 36 ≤ length ys = omega arith in
    ap (λ (b : Bool). if b then Cut else with_cid place n used (cid_at (take (min n 36) ys))) (not_below (length ys) (min n 36) enough)

-- the first 45 bytes decide how a section begins
pub opening_stable : (place : ℕ) (xs more : List ℕ) → 45 ≤ length xs → opening_of place (xs ++ more) ≡ opening_of place xs
opening_stable place xs more h =
    let size : length (xs ++ more) ≡ length xs + length more = length-append xs more in
    opening_some place (xs ++ more) (omega (arith, size))
    ∙ ap (with_section_length place (xs ++ more)) (length_stable xs more (long_enough xs (omega arith)))
    ∙ by (read_multi_of xs) refl
    ∙ sym (opening_some place xs (omega arith))
  where
    by : (r : Var) → read_multi_of xs ≡ r → with_section_length place (xs ++ more) r ≡ with_section_length place xs r
    by Short e = refl
    by Bad e = refl
    by (Value n used) e = value (length_used xs n used e)
      where
        value : used ≤ 9 → behind_length place n used (drop used (xs ++ more)) ≡ behind_length place n used (drop used xs)
        value few =
            let left : length (drop used xs) ≡ length xs - used = length-drop used xs in
            let both : length (drop used xs ++ more) ≡ length (drop used xs) + length more = length-append (drop used xs) more in
            let enough : min n 36 ≤ length (drop used xs) = omega (arith, left) in
            ap (behind_length place n used) (drop-append-le used xs more (omega arith))
            ∙ cid_behind place n used (drop used xs ++ more) (omega (arith, left, both))
            ∙ ap (λ (ys : List ℕ). with_cid place n used (cid_at ys)) (take-append-le (min n 36) (drop used xs) more enough)
            ∙ sym (cid_behind place n used (drop used xs) (omega (arith, left)))

-- bytes that aren't empty begin with a length
pub opening_here : (place : ℕ) (bytes : List ℕ) (r : Var) (empty : Bool) → empty ≡ (length bytes == 0) → empty ≡ false → r ≡ read_multi_of bytes → with_section_length place bytes r ≡ opening_of place bytes
opening_here place [] r empty says some is = absurd (true≢false (sym says ∙ some))
opening_here place (b ∷ bytes) r empty says some is = ap (with_section_length place (b ∷ bytes)) is ∙ sym (opening_some place (b ∷ bytes) (omega arith))

pub opening_empty : (place : ℕ) (bytes : List ℕ) (empty : Bool) → empty ≡ (length bytes == 0) → empty ≡ true → End ≡ opening_of place bytes
unfolding opening_of
opening_empty place [] empty says none = refl
opening_empty place (b ∷ bytes) empty says none = absurd (let n : length (b ∷ bytes) ≡ 0 = nat_eq-true (length (b ∷ bytes)) 0 (sym says ∙ none) in omega arith)

-- what a CID and a length take
within_cid : (place n used : ℕ) (bytes : List ℕ) (r : Result (Cid × ℕ) CidFault) → cid_at bytes ≡ r → used ≤ 9 → within_section (with_cid place n used r)
within_cid place n used bytes (Err why) e few = tt
within_cid place n used bytes (Ok found) e few = by (nat_lt 2097152 (n - found.1)) refl (cid_used bytes found.0 found.1 e)
  where
    by : (b : Bool) → nat_lt 2097152 (n - found.1) ≡ b → (0 < found.1) × (found.1 ≤ 36) × (found.1 ≤ length bytes)
        → within_section (if b then Wrong (car.TooBigBlock place (n - found.1)) else Found found.0 (used + found.1) (n - found.1))
    by true big m = tt
    by false small m = let size : n - found.1 ≤ 2097152 = nat_lt-false 2097152 (n - found.1) small in (omega (arith, m.0), omega (arith, m.1), size)

pub opening_within : (place : ℕ) (bytes : List ℕ) → within_section (opening_of place bytes)
opening_within place [] = subst within_section (sym (opening_none place [] refl)) tt
opening_within place (b ∷ bytes) = subst within_section (sym (opening_some place (b ∷ bytes) (omega arith))) (by (read_multi_of (b ∷ bytes)) refl)
  where
    by : (r : Var) → read_multi_of (b ∷ bytes) ≡ r → within_section (with_section_length place (b ∷ bytes) r)
    by Short e = tt
    by Bad e = tt
    by (Value n used) e = value (nat_lt (length (drop used (b ∷ bytes))) (min n 36))
      where
        value : (x : Bool) → within_section (if x then Cut else with_cid place n used (cid_at (take (min n 36) (drop used (b ∷ bytes)))))
        value true = tt
        value false = within_cid place n used (take (min n 36) (drop used (b ∷ bytes))) (cid_at (take (min n 36) (drop used (b ∷ bytes)))) refl (length_used (b ∷ bytes) n used e)

-- 45 bytes don't end where a section begins
not_open : (place n used : ℕ) (r : Result (Cid × ℕ) CidFault) → (with_cid place n used r ≡ End) ⊎ (with_cid place n used r ≡ Cut) → ⊥
not_open place n used (Err why) ends = elim ends [ inl e ↦ cc | inr e ↦ cc ]
not_open place n used (Ok found) ends = by (nat_lt 2097152 (n - found.1)) ends
  where
    by : (b : Bool) → ((if b then Wrong (car.TooBigBlock place (n - found.1)) else Found found.0 (used + found.1) (n - found.1)) ≡ End)
        ⊎ ((if b then Wrong (car.TooBigBlock place (n - found.1)) else Found found.0 (used + found.1) (n - found.1)) ≡ Cut) → ⊥
    by true (inl e) = cc
    by true (inr e) = cc
    by false (inl e) = cc
    by false (inr e) = cc

pub opening_long : (place : ℕ) (xs : List ℕ) (o : Opening) → 45 ≤ length xs → opening_of place xs ≡ o → (o ≡ End) ⊎ (o ≡ Cut) → ⊥
opening_long place xs o h e ends = by (read_multi_of xs) refl (elim ends [ inl is ↦ inl (said ∙ is) | inr is ↦ inr (said ∙ is) ])
  where
    said : with_section_length place xs (read_multi_of xs) ≡ o
    said = sym (opening_some place xs (omega arith)) ∙ e

    by : (r : Var) → read_multi_of xs ≡ r → (with_section_length place xs r ≡ End) ⊎ (with_section_length place xs r ≡ Cut) → ⊥
    by Short is w = long_enough xs (omega arith) is
    by Bad is (inl w) = cc
    by Bad is (inr w) = cc
    by (Value n used) is w =
        let few : used ≤ 9 = length_used xs n used is in
        let left : length (drop used xs) ≡ length xs - used = length-drop used xs in
        let said_cid = cid_behind place n used (drop used xs) (omega (arith, left)) in
        not_open place n used (cid_at (take (min n 36) (drop used xs))) (elim w [ inl q ↦ inl (sym said_cid ∙ q) | inr q ↦ inr (sym said_cid ∙ q) ])

-- bytes don't end where a section begins with some
pub opening_end : (place : ℕ) (xs : List ℕ) → 0 < length xs → opening_of place xs ≡ End → ⊥
opening_end place xs h e = by (read_multi_of xs) (sym (opening_some place xs h) ∙ e)
  where
    by : (r : Var) → with_section_length place xs r ≡ End → ⊥
    by Short is = cc
    by Bad is = cc
    by (Value n used) is = value (nat_lt (length (drop used xs)) (min n 36)) is
      where
        value : (x : Bool) → (if x then Cut else with_cid place n used (cid_at (take (min n 36) (drop used xs)))) ≡ End → ⊥
        value true q = cc
        value false q = not_open place n used (cid_at (take (min n 36) (drop used xs))) (inl q)
