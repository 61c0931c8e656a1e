-- What is written is read again, and no spelling begins another.
use Rattle.std.proofs.Common.{◌≡◌, ℕ, zero, suc, ◌+◌, ◌-◌, ◌*◌, ◌/◌, ◌%◌, ◌^◌, ◌<◌, ◌≤◌, List, [], ◌∷◌, ◌++◌, length, take, refl, ap, arith, sym, ◌∙◌, Bool, true, false, cond, ◌⊎◌, inl, inr}
use Rattle.std.specs.Prelude.{nat_lt, nat_le, ◌==◌}
use Rattle.std.proofs.lemmas.Bool.{cases_lt, cases_Bool}
use Rattle.std.proofs.lemmas.Bool.Decides.{nat_tests}
use Rattle.uf_varint.specs.declared.varint.Var.{Var}
use Rattle.uf_varint.specs.declared.varint.Var.TheVariants.{Value, Short, Bad}
use Rattle.uf_varint.specs.Varint.{varint, varint_within, read_proto_of, proto_within, read_multi_of, multi_within, with_low}

pub below : (n m : ℕ) → n < m → nat_lt n m ≡ true
below n m h = grind (arith, nat_tests)

pub not_below : (n m : ℕ) → m ≤ n → nat_lt n m ≡ false
not_below n m h = grind (arith, nat_tests)

whole : (n used : ℕ) → Value (128 + n % 128 - 128 + 128 * (n / 128)) (used + 1) ≡ Value n (suc used)
whole n used = let a : 128 + n % 128 - 128 + 128 * (n / 128) ≡ n = omega arith in let b : used + 1 ≡ suc used = omega arith in cc

pub proto-varint : (room n : ℕ) (rest : List ℕ) → n < 2 * 128 ^ room → proto_within room (varint_within room n ++ rest) ≡ Value n (length (varint_within room n))
unfolding proto_within varint_within
proto-varint zero n rest h = ap (λ b. cond b (Value n 1) Bad) (le n (omega arith))
  where
    le : (n : ℕ) → n < 2 → nat_le n 1 ≡ true
    le n h = grind (arith, nat_tests)
proto-varint (suc room) n rest h = by (cases_lt n 128) (proto-varint room (n / 128) rest (high n (128 ^ room) (omega (arith, h))))
  where
    high : (n p : ℕ) → n < 2 * (p * 128) → n / 128 < 2 * p
    high n p h = omega arith

    by : (n < 128) ⊎ (128 ≤ n) → proto_within room (varint_within room (n / 128) ++ rest) ≡ Value (n / 128) (length (varint_within room (n / 128))) → proto_within (suc room) (varint_within (suc room) n ++ rest) ≡ Value n (length (varint_within (suc room) n))
    by (inl low) later = rw (below n 128 low) (ap (λ b. cond b (Value n 1) (with_low n (proto_within room rest))) (below n 128 low))
    by (inr high) later =
        rw (not_below n 128 high)
        (ap (λ b. cond b (Value (128 + n % 128) 1) (with_low (128 + n % 128) (proto_within room (varint_within room (n / 128) ++ rest)))) (not_below (128 + n % 128) 128 (omega arith))
        ∙ ap (with_low (128 + n % 128)) later
        ∙ whole n (length (varint_within room (n / 128))))

not_zero : (n : ℕ) → 0 < n → (n == 0) ≡ false
not_zero n h = grind (arith, nat_tests)

-- a number that isn't 0, behind a byte with the high bit
multi-varint : (room n : ℕ) (rest : List ℕ) → 0 < n → n < 128 * 128 ^ room → multi_within room (varint_within room n ++ rest) ≡ Value n (length (varint_within room n))
unfolding multi_within varint_within
multi-varint zero n rest some h =
    ap (λ b. cond b (cond (n == 0) Bad (Value n 1)) Bad) (below n 128 (omega arith)) ∙ ap (λ b. cond b Bad (Value n 1)) (not_zero n some)
multi-varint (suc room) n rest some h = by (cases_lt n 128) (λ high. multi-varint room (n / 128) rest (omega arith) (smaller n (128 ^ room) (omega (arith, h))))
  where
    smaller : (n p : ℕ) → n < 128 * (p * 128) → n / 128 < 128 * p
    smaller n p h = omega arith

    by : (n < 128) ⊎ (128 ≤ n) → (128 ≤ n → multi_within room (varint_within room (n / 128) ++ rest) ≡ Value (n / 128) (length (varint_within room (n / 128)))) → multi_within (suc room) (varint_within (suc room) n ++ rest) ≡ Value n (length (varint_within (suc room) n))
    by (inl low) later =
        rw (below n 128 low)
        (ap (λ b. cond b (cond (n == 0) Bad (Value n 1)) (with_low n (multi_within room rest))) (below n 128 low) ∙ ap (λ b. cond b Bad (Value n 1)) (not_zero n some))
    by (inr high) later =
        rw (not_below n 128 high)
        (ap (λ b. cond b (cond ((128 + n % 128) == 0) Bad (Value (128 + n % 128) 1)) (with_low (128 + n % 128) (multi_within room (varint_within room (n / 128) ++ rest)))) (not_below (128 + n % 128) 128 (omega arith))
        ∙ ap (with_low (128 + n % 128)) (later high)
        ∙ whole n (length (varint_within room (n / 128))))

-- more room than is needed
more_room : (room n : ℕ) → n < 128 * 128 ^ room → varint_within (suc room) n ≡ varint_within room n
unfolding varint_within
more_room zero n h = ap (λ b. cond b (n ∷ []) ((128 + n % 128) ∷ n / 128 ∷ [])) (below n 128 (omega arith))
more_room (suc room) n h =
    ap (λ (later : List ℕ). cond (nat_lt n 128) (n ∷ []) ((128 + n % 128) ∷ later)) (more_room room (n / 128) (smaller n (128 ^ room) (omega (arith, h))))
  where
    smaller : (n p : ℕ) → n < 128 * (p * 128) → n / 128 < 128 * p
    smaller n p h = omega arith

pub read_proto_of-varint : (n : ℕ) (rest : List ℕ) → n < 2 ^ 64 → read_proto_of (varint n ++ rest) ≡ Value n (length (varint n))
unfolding read_proto_of varint
read_proto_of-varint n rest h = proto-varint 9 n rest h

-- the first byte, and the bytes behind it
abbrev pub first_and : ℕ → List ℕ → List ℕ
first_and n later = cond (nat_lt n 128) (n ∷ []) ((128 + n % 128) ∷ later)

pub varint_8 : (n : ℕ) → n < 2 ^ 63 → varint n ≡ first_and n (varint_within 7 (n / 128))
unfolding varint varint_within
varint_8 n h = more_room 8 n h

read_first : (n : ℕ) (rest later : List ℕ) → (128 ≤ n → multi_within 7 (later ++ rest) ≡ Value (n / 128) (length later)) → read_multi_of (first_and n later ++ rest) ≡ Value n (length (first_and n later))
unfolding read_multi_of
read_first n rest later h = by (cases_lt n 128)
  where
    by : (n < 128) ⊎ (128 ≤ n) → read_multi_of (first_and n later ++ rest) ≡ Value n (length (first_and n later))
    by (inl low) = rw (below n 128 low) (ap (λ b. cond b (Value n 1) (with_low n (multi_within 7 rest))) (below n 128 low))
    by (inr high) =
        rw (not_below n 128 high)
        (ap (λ b. cond b (Value (128 + n % 128) 1) (with_low (128 + n % 128) (multi_within 7 (later ++ rest)))) (not_below (128 + n % 128) 128 (omega arith))
        ∙ ap (with_low (128 + n % 128)) (h high)
        ∙ whole n (length later))

pub read_multi_of-varint : (n : ℕ) (rest : List ℕ) → n < 2 ^ 63 → read_multi_of (varint n ++ rest) ≡ Value n (length (varint n))
read_multi_of-varint n rest h = rw (varint_8 n h) (read_first n rest (varint_within 7 (n / 128)) (λ high. multi-varint 7 (n / 128) rest (omega arith) (omega arith)))

-- what stands behind a spelling doesn't matter
pub proto_ends_itself : (room : ℕ) (bytes rest : List ℕ) (n used : ℕ) → proto_within room bytes ≡ Value n used → proto_within room (take used bytes ++ rest) ≡ Value n used
unfolding proto_within
proto_ends_itself room [] rest n used h = absurd cc
proto_ends_itself zero (b ∷ bs) rest n used h = by (cases_Bool (nat_le b 1))
  where
    by : (nat_le b 1 ≡ true) ⊎ (nat_le b 1 ≡ false) → proto_within zero (take used (b ∷ bs) ++ rest) ≡ Value n used
    by (inl t) =
        let e : Value b 1 ≡ Value n used = sym (ap (λ x. cond x (Value b 1) Bad) t) ∙ h in
        let u : used ≡ 1 = cc in
        rw u (ap (λ x. cond x (Value b 1) Bad) t ∙ e ∙ ap (Value n) u)
    by (inr t) = let e : Bad ≡ Value n used = sym (ap (λ x. cond x (Value b 1) Bad) t) ∙ h in absurd cc
proto_ends_itself (suc room) (b ∷ bs) rest n used h = by (cases_Bool (nat_lt b 128)) (proto_ends_itself room bs rest)
  where
    more : (read : Var) → with_low b read ≡ Value n used → (high : ℕ) × (before : ℕ) × (read ≡ Value high before) × (Value (b - 128 + 128 * high) (before + 1) ≡ Value n used)
    more (Value high before) e = (high, before, refl, e)
    more Short e = absurd cc
    more Bad e = absurd cc

    by : (nat_lt b 128 ≡ true) ⊎ (nat_lt b 128 ≡ false) → ((n used : ℕ) → proto_within room bs ≡ Value n used → proto_within room (take used bs ++ rest) ≡ Value n used) → proto_within (suc room) (take used (b ∷ bs) ++ rest) ≡ Value n used
    by (inl t) again =
        let e : Value b 1 ≡ Value n used = sym (ap (λ x. cond x (Value b 1) (with_low b (proto_within room bs))) t) ∙ h in
        let u : used ≡ 1 = cc in
        rw u (ap (λ x. cond x (Value b 1) (with_low b (proto_within room rest))) t ∙ e ∙ ap (Value n) u)
    by (inr t) again =
        let e : with_low b (proto_within room bs) ≡ Value n used = sym (ap (λ x. cond x (Value b 1) (with_low b (proto_within room bs))) t) ∙ h in
        let m = more (proto_within room bs) e in
        let u : used ≡ suc m.1 = let v : m.1 + 1 ≡ suc m.1 = omega arith in cc in
        let later : proto_within room (take m.1 bs ++ rest) ≡ Value m.0 m.1 = again m.0 m.1 m.2 in
        rw u (ap (λ x. cond x (Value b 1) (with_low b (proto_within room (take m.1 bs ++ rest)))) t ∙ ap (with_low b) later ∙ m.3 ∙ ap (Value n) u)

pub read_proto_ends_itself : (bytes rest : List ℕ) (n used : ℕ) → read_proto_of bytes ≡ Value n used → read_proto_of (take used bytes ++ rest) ≡ Value n used
unfolding read_proto_of
read_proto_ends_itself bytes rest n used h = proto_ends_itself 9 bytes rest n used h

one_byte : (x : Bool) (b n used : ℕ) → cond x Bad (Value b 1) ≡ Value n used → used ≡ 1
one_byte true b n used h = absurd cc
one_byte false b n used h = cc

one_of_nine : (x y : Bool) (b n used : ℕ) → cond y (cond x Bad (Value b 1)) Bad ≡ Value n used → used ≡ 1
one_of_nine x true b n used h = one_byte x b n used h
one_of_nine x false b n used h = absurd cc

pub with_low_value : (b n used : ℕ) (read : Var) → with_low b read ≡ Value n used → (high : ℕ) × (before : ℕ) × (read ≡ Value high before) × (used ≡ suc before) × (Value (b - 128 + 128 * high) (before + 1) ≡ Value n used)
with_low_value b n used (Value high before) e = (high, before, refl, (let v : before + 1 ≡ suc before = omega arith in cc), e)
with_low_value b n used Short e = absurd cc
with_low_value b n used Bad e = absurd cc

-- a byte with the high bit, and a reader that ends itself
low_then_ends : (b n used : ℕ) (bs rest : List ℕ) (read : List ℕ → Var) → ((n used : ℕ) → read bs ≡ Value n used → read (take used bs ++ rest) ≡ Value n used)
    → with_low b (read bs) ≡ Value n used → (before : ℕ) × (used ≡ suc before) × (with_low b (read (take before bs ++ rest)) ≡ Value n used)
low_then_ends b n used bs rest read again h =
    let m = with_low_value b n used (read bs) h in
    (m.1, m.3, ap (with_low b) (again m.0 m.1 m.2) ∙ m.4)

multi_ends_itself : (room : ℕ) (bytes rest : List ℕ) (n used : ℕ) → multi_within room bytes ≡ Value n used → multi_within room (take used bytes ++ rest) ≡ Value n used
unfolding multi_within
multi_ends_itself zero [] rest n used h = absurd cc
multi_ends_itself (suc room) [] rest n used h = absurd cc
multi_ends_itself zero (b ∷ bs) rest n used h = let u : used ≡ 1 = one_of_nine (b == 0) (nat_lt b 128) b n used h in rw u (h ∙ ap (Value n) u)
multi_ends_itself (suc room) (b ∷ bs) rest n used h = by (cases_Bool (nat_lt b 128)) (multi_ends_itself room bs rest)
  where
    by : (nat_lt b 128 ≡ true) ⊎ (nat_lt b 128 ≡ false) → ((n used : ℕ) → multi_within room bs ≡ Value n used → multi_within room (take used bs ++ rest) ≡ Value n used) → multi_within (suc room) (take used (b ∷ bs) ++ rest) ≡ Value n used
    by (inl t) again =
        let e : cond (b == 0) Bad (Value b 1) ≡ Value n used = sym (ap (λ x. cond x (cond (b == 0) Bad (Value b 1)) (with_low b (multi_within room bs))) t) ∙ h in
        let u : used ≡ 1 = one_byte (b == 0) b n used e in
        rw u (ap (λ x. cond x (cond (b == 0) Bad (Value b 1)) (with_low b (multi_within room rest))) t ∙ e ∙ ap (Value n) u)
    by (inr t) again =
        let e : with_low b (multi_within room bs) ≡ Value n used = sym (ap (λ x. cond x (cond (b == 0) Bad (Value b 1)) (with_low b (multi_within room bs))) t) ∙ h in
        let m = low_then_ends b n used bs rest (multi_within room) again e in
        rw m.1 (ap (λ x. cond x (cond (b == 0) Bad (Value b 1)) (with_low b (multi_within room (take m.0 bs ++ rest)))) t ∙ m.2 ∙ ap (Value n) m.1)

pub read_multi_ends_itself : (bytes rest : List ℕ) (n used : ℕ) → read_multi_of bytes ≡ Value n used → read_multi_of (take used bytes ++ rest) ≡ Value n used
unfolding read_multi_of
read_multi_ends_itself [] rest n used h = absurd cc
read_multi_ends_itself (b ∷ bs) rest n used h = by (cases_Bool (nat_lt b 128))
  where
    by : (nat_lt b 128 ≡ true) ⊎ (nat_lt b 128 ≡ false) → read_multi_of (take used (b ∷ bs) ++ rest) ≡ Value n used
    by (inl t) =
        let e : Value b 1 ≡ Value n used = sym (ap (λ x. cond x (Value b 1) (with_low b (multi_within 7 bs))) t) ∙ h in
        let u : used ≡ 1 = cc in
        rw u (ap (λ x. cond x (Value b 1) (with_low b (multi_within 7 rest))) t ∙ e ∙ ap (Value n) u)
    by (inr t) =
        let e : with_low b (multi_within 7 bs) ≡ Value n used = sym (ap (λ x. cond x (Value b 1) (with_low b (multi_within 7 bs))) t) ∙ h in
        let m = low_then_ends b n used bs rest (multi_within 7) (multi_ends_itself 7 bs rest) e in
        rw m.1 (ap (λ x. cond x (Value b 1) (with_low b (multi_within 7 (take m.0 bs ++ rest)))) t ∙ m.2 ∙ ap (Value n) m.1)
