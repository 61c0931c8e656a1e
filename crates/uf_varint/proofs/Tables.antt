-- Which bytes each reader takes, and where it wants more of them.
use Rattle.std.proofs.Common.{◌≡◌, ℕ, zero, suc, ◌+◌, ◌-◌, ◌*◌, ◌/◌, ◌%◌, ◌^◌, ◌<◌, ◌≤◌, List, [], ◌∷◌, length, take, refl, ap, arith, sym, ◌∙◌, Bool, true, false, cond, ◌⊎◌, inl, inr}
use Rattle.std.specs.Prelude.{nat_lt, nat_le, ◌==◌}
use Rattle.std.specs.List.{AllByRecursion}
use Rattle.std.proofs.lemmas.Bool.{cases_Bool, leb-true, ltb-true, ltb-false, eqb-false}
use Rattle.uf_varint.specs.declared.varint.Var.{Var}
use Rattle.uf_varint.specs.declared.varint.Var.TheVariants.{Value, Short, Bad}
use Rattle.uf_varint.specs.Varint.{varint, varint_within, read_proto_of, proto_within, read_multi_of, multi_within, with_low, AreHigh}
use Rattle.uf_varint.proofs.Varints.{below, not_below, with_low_value, varint_8}

-- ---- the shortest spelling

-- a byte and the number behind it are the two parts of the whole number
parts : (b high room : ℕ) → b < 256 → 128 ≤ b → 0 < high → high < 128 * 128 ^ room → (b - 128 + 128 * high < 128 * (128 ^ room * 128)) × (128 ≤ b - 128 + 128 * high) × (128 + (b - 128 + 128 * high) % 128 ≡ b) × ((b - 128 + 128 * high) / 128 ≡ high)
parts b high room fits le some lt = (omega arith, omega arith, omega arith, omega arith)

abbrev IsShortest : ℕ → List ℕ → ℕ → ℕ → Type 0
IsShortest room bytes n used = (take used bytes ≡ varint_within room n) × (0 < n) × (n < 128 * 128 ^ room)

is_one : (room b n used : ℕ) (bs : List ℕ) → b < 128 → (b == 0) ≡ false → Value b 1 ≡ Value n used → 128 ≤ 128 * 128 ^ room → IsShortest room (b ∷ bs) n used
unfolding varint_within
is_one zero b n used bs low some e big =
    let u : used ≡ 1 = cc in
    let v : n ≡ b = cc in
    let s = eqb-false b 0 some in
    rw (u, v) (refl, omega arith, omega arith)
is_one (suc room) b n used bs low some e big =
    let u : used ≡ 1 = cc in
    let v : n ≡ b = cc in
    let s = eqb-false b 0 some in
    rw (u, v) (rw (below b 128 low) refl, omega arith, omega arith)

room_for_one : (room : ℕ) → 128 ≤ 128 * 128 ^ room
room_for_one zero = omega arith
room_for_one (suc room) = let h = room_for_one room in omega arith

later_high : (room b n used high before : ℕ) (bs : List ℕ) → b < 256 → 128 ≤ b → used ≡ suc before → n ≡ b - 128 + 128 * high → IsShortest room bs high before → IsShortest (suc room) (b ∷ bs) n used
unfolding varint_within
later_high room b n used high before bs fits le u v i =
    let p = parts b high room fits le i.1 i.2 in
    rw (u, v) (rw (not_below (b - 128 + 128 * high) 128 p.1, p.2, p.3) (ap (λ (later : List ℕ). b ∷ later) i.0), omega arith, omega (arith, p.0))

multi_shortest : (room : ℕ) (bytes : List ℕ) (n used : ℕ) → AllByRecursion (λ b. b < 256) bytes → multi_within room bytes ≡ Value n used → IsShortest room bytes n used
unfolding multi_within varint_within
multi_shortest zero [] n used fits h = absurd cc
multi_shortest (suc room) [] n used fits h = absurd cc
multi_shortest zero (b ∷ bs) n used fits h = by (cases_Bool (nat_lt b 128)) (cases_Bool (b == 0))
  where
    by : (nat_lt b 128 ≡ true) ⊎ (nat_lt b 128 ≡ false) → ((b == 0) ≡ true) ⊎ ((b == 0) ≡ false) → IsShortest zero (b ∷ bs) n used
    by (inr t) some = let e : Bad ≡ Value n used = sym (ap (λ x. cond x (cond (b == 0) Bad (Value b 1)) Bad) t) ∙ h in absurd cc
    by (inl t) (inl z) = let e : Bad ≡ Value n used = sym (ap (λ x. cond x (cond (b == 0) Bad (Value b 1)) Bad) t ∙ ap (λ x. cond x Bad (Value b 1)) z) ∙ h in absurd cc
    by (inl t) (inr z) = let e : Value b 1 ≡ Value n used = sym (ap (λ x. cond x (cond (b == 0) Bad (Value b 1)) Bad) t ∙ ap (λ x. cond x Bad (Value b 1)) z) ∙ h in is_one zero b n used bs (ltb-true _ _ t) z e (room_for_one zero)
multi_shortest (suc room) (b ∷ bs) n used fits h = by (cases_Bool (nat_lt b 128)) (cases_Bool (b == 0)) (λ n used. multi_shortest room bs n used fits.1)
  where
    by : (nat_lt b 128 ≡ true) ⊎ (nat_lt b 128 ≡ false) → ((b == 0) ≡ true) ⊎ ((b == 0) ≡ false) → ((n used : ℕ) → multi_within room bs ≡ Value n used → IsShortest room bs n used) → IsShortest (suc room) (b ∷ bs) n used
    by (inl t) (inl z) again = let e : Bad ≡ Value n used = sym (ap (λ x. cond x (cond (b == 0) Bad (Value b 1)) (with_low b (multi_within room bs))) t ∙ ap (λ x. cond x Bad (Value b 1)) z) ∙ h in absurd cc
    by (inl t) (inr z) again = let e : Value b 1 ≡ Value n used = sym (ap (λ x. cond x (cond (b == 0) Bad (Value b 1)) (with_low b (multi_within room bs))) t ∙ ap (λ x. cond x Bad (Value b 1)) z) ∙ h in is_one (suc room) b n used bs (ltb-true _ _ t) z e (room_for_one (suc room))
    by (inr t) z again =
        let e : with_low b (multi_within room bs) ≡ Value n used = sym (ap (λ x. cond x (cond (b == 0) Bad (Value b 1)) (with_low b (multi_within room bs))) t) ∙ h in
        let m = with_low_value b n used (multi_within room bs) e in
        let v : n ≡ b - 128 + 128 * m.0 = cc in
        later_high room b n used m.0 m.1 bs fits.0 (ltb-false _ _ t) m.3 v (again m.0 m.1 m.2)

first_low : (b n used : ℕ) (bs : List ℕ) → b < 128 → Value b 1 ≡ Value n used → (take used (b ∷ bs) ≡ varint n) × (n < 2 ^ 63)
unfolding varint varint_within
first_low b n used bs low e =
    let u : used ≡ 1 = cc in
    let v : n ≡ b = cc in
    rw (u, v) (rw (below b 128 low) refl, omega arith)

first_high : (b n used high before : ℕ) (bs : List ℕ) → b < 256 → 128 ≤ b → used ≡ suc before → n ≡ b - 128 + 128 * high → IsShortest 7 bs high before → (take used (b ∷ bs) ≡ varint n) × (n < 2 ^ 63)
first_high b n used high before bs fits le u v i =
    let p = parts b high 7 fits le i.1 i.2 in
    let lt : b - 128 + 128 * high < 2 ^ 63 = omega (arith, p.0) in
    rw (u, v) (rw (varint_8 (b - 128 + 128 * high) lt, not_below (b - 128 + 128 * high) 128 p.1, p.2, p.3) (ap (λ (later : List ℕ). b ∷ later) i.0), lt)

pub read_multi_is_shortest : (bytes : List ℕ) (n used : ℕ) → AllByRecursion (λ b. b < 256) bytes → read_multi_of bytes ≡ Value n used → (take used bytes ≡ varint n) × (n < 2 ^ 63)
unfolding read_multi_of
read_multi_is_shortest [] n used fits h = absurd cc
read_multi_is_shortest (b ∷ bs) n used fits h = by (cases_Bool (nat_lt b 128))
  where
    by : (nat_lt b 128 ≡ true) ⊎ (nat_lt b 128 ≡ false) → (take used (b ∷ bs) ≡ varint n) × (n < 2 ^ 63)
    by (inl t) = let e : Value b 1 ≡ Value n used = sym (ap (λ x. cond x (Value b 1) (with_low b (multi_within 7 bs))) t) ∙ h in first_low b n used bs (ltb-true _ _ t) e
    by (inr t) =
        let e : with_low b (multi_within 7 bs) ≡ Value n used = sym (ap (λ x. cond x (Value b 1) (with_low b (multi_within 7 bs))) t) ∙ h in
        let m = with_low_value b n used (multi_within 7 bs) e in
        let v : n ≡ b - 128 + 128 * m.0 = cc in
        first_high b n used m.0 m.1 bs fits.0 (ltb-false _ _ t) m.3 v (multi_shortest 7 bs m.0 m.1 fits.1 m.2)

-- ---- where more bytes are wanted

with_low_short : (b : ℕ) (read : Var) → with_low b read ≡ Short → read ≡ Short
with_low_short b (Value n used) e = absurd cc
with_low_short b Short e = refl
with_low_short b Bad e = absurd cc

proto_short : (room : ℕ) (bytes : List ℕ) → proto_within room bytes ≡ Short → (length bytes ≤ room) × AreHigh bytes
unfolding proto_within
proto_short zero [] h = (omega arith, tt)
proto_short (suc room) [] h = (omega arith, tt)
proto_short zero (b ∷ bs) h = by (nat_le b 1) h
  where
    by : (x : Bool) → cond x (Value b 1) Bad ≡ Short → (length (b ∷ bs) ≤ 0) × AreHigh (b ∷ bs)
    by true e = absurd cc
    by false e = absurd cc
proto_short (suc room) (b ∷ bs) h = by (cases_Bool (nat_lt b 128)) (proto_short room bs)
  where
    by : (nat_lt b 128 ≡ true) ⊎ (nat_lt b 128 ≡ false) → (proto_within room bs ≡ Short → (length bs ≤ room) × AreHigh bs) → (length (b ∷ bs) ≤ suc room) × AreHigh (b ∷ bs)
    by (inl t) again = let e : Value b 1 ≡ Short = sym (ap (λ x. cond x (Value b 1) (with_low b (proto_within room bs))) t) ∙ h in absurd cc
    by (inr t) again =
        let e : with_low b (proto_within room bs) ≡ Short = sym (ap (λ x. cond x (Value b 1) (with_low b (proto_within room bs))) t) ∙ h in
        let i = again (with_low_short b (proto_within room bs) e) in
        (omega (arith, i.0), (ltb-false _ _ t, i.1))

short_proto : (room : ℕ) (bytes : List ℕ) → length bytes ≤ room → AreHigh bytes → proto_within room bytes ≡ Short
unfolding proto_within
short_proto zero [] le high = refl
short_proto (suc room) [] le high = refl
short_proto zero (b ∷ bs) le high = absurd (omega arith)
short_proto (suc room) (b ∷ bs) le high = let i = short_proto room bs (omega arith) high.1 in rw (not_below b 128 high.0, i) refl

multi_short : (room : ℕ) (bytes : List ℕ) → multi_within room bytes ≡ Short → (length bytes ≤ room) × AreHigh bytes
unfolding multi_within
multi_short zero [] h = (omega arith, tt)
multi_short (suc room) [] h = (omega arith, tt)
multi_short zero (b ∷ bs) h = by (nat_lt b 128) (b == 0) h
  where
    by : (x y : Bool) → cond x (cond y Bad (Value b 1)) Bad ≡ Short → (length (b ∷ bs) ≤ 0) × AreHigh (b ∷ bs)
    by true true e = absurd cc
    by true false e = absurd cc
    by false y e = absurd cc
multi_short (suc room) (b ∷ bs) h = by (cases_Bool (nat_lt b 128)) (multi_short room bs)
  where
    never : (y : Bool) → cond y Bad (Value b 1) ≡ Short → ⊥
    never true e = cc
    never false e = cc

    by : (nat_lt b 128 ≡ true) ⊎ (nat_lt b 128 ≡ false) → (multi_within room bs ≡ Short → (length bs ≤ room) × AreHigh bs) → (length (b ∷ bs) ≤ suc room) × AreHigh (b ∷ bs)
    by (inl t) again = absurd (never (b == 0) (sym (ap (λ x. cond x (cond (b == 0) Bad (Value b 1)) (with_low b (multi_within room bs))) t) ∙ h))
    by (inr t) again =
        let e : with_low b (multi_within room bs) ≡ Short = sym (ap (λ x. cond x (cond (b == 0) Bad (Value b 1)) (with_low b (multi_within room bs))) t) ∙ h in
        let i = again (with_low_short b (multi_within room bs) e) in
        (omega (arith, i.0), (ltb-false _ _ t, i.1))

short_multi : (room : ℕ) (bytes : List ℕ) → length bytes ≤ room → AreHigh bytes → multi_within room bytes ≡ Short
unfolding multi_within
short_multi zero [] le high = refl
short_multi (suc room) [] le high = refl
short_multi zero (b ∷ bs) le high = absurd (omega arith)
short_multi (suc room) (b ∷ bs) le high = let i = short_multi room bs (omega arith) high.1 in rw (not_below b 128 high.0, i) refl

pub read_proto_is_short : (bytes : List ℕ) → (read_proto_of bytes ≡ Short → (length bytes < 10) × AreHigh bytes) × ((length bytes < 10) × AreHigh bytes → read_proto_of bytes ≡ Short)
unfolding read_proto_of
read_proto_is_short bytes =
    (λ e. let i = proto_short 9 bytes e in (omega (arith, i.0), i.1), λ h. short_proto 9 bytes (omega (arith, h.0)) h.1)

pub read_multi_is_short : (bytes : List ℕ) → (read_multi_of bytes ≡ Short → (length bytes < 9) × AreHigh bytes) × ((length bytes < 9) × AreHigh bytes → read_multi_of bytes ≡ Short)
unfolding read_multi_of
read_multi_is_short [] = (λ e. (omega arith, tt), λ h. refl)
read_multi_is_short (b ∷ bs) = (by (cases_Bool (nat_lt b 128)), λ h. rw (not_below b 128 h.1.0, short_multi 7 bs (omega (arith, h.0)) h.1.1) refl)
  where
    by : (nat_lt b 128 ≡ true) ⊎ (nat_lt b 128 ≡ false) → read_multi_of (b ∷ bs) ≡ Short → (length (b ∷ bs) < 9) × AreHigh (b ∷ bs)
    by (inl t) h = let e : Value b 1 ≡ Short = sym (ap (λ x. cond x (Value b 1) (with_low b (multi_within 7 bs))) t) ∙ h in absurd cc
    by (inr t) h =
        let e : with_low b (multi_within 7 bs) ≡ Short = sym (ap (λ x. cond x (Value b 1) (with_low b (multi_within 7 bs))) t) ∙ h in
        let i = multi_short 7 bs (with_low_short b (multi_within 7 bs) e) in
        (omega (arith, i.0), (ltb-false _ _ t, i.1))

-- ---- how large a number is

room_for_first : (room : ℕ) → 128 ≤ 2 * (128 ^ room * 128)
room_for_first zero = omega arith
room_for_first (suc room) = let h = room_for_first room in omega arith

high_fits : (b high room : ℕ) → b < 256 → high < 2 * 128 ^ room → b - 128 + 128 * high < 2 * (128 ^ room * 128)
high_fits b high room fits h = omega arith

proto_fits : (room : ℕ) (bytes : List ℕ) (n used : ℕ) → AllByRecursion (λ b. b < 256) bytes → proto_within room bytes ≡ Value n used → n < 2 * 128 ^ room
unfolding proto_within
proto_fits zero [] n used fits h = absurd cc
proto_fits (suc room) [] n used fits h = absurd cc
proto_fits zero (b ∷ bs) n used fits h = by (cases_Bool (nat_le b 1))
  where
    by : (nat_le b 1 ≡ true) ⊎ (nat_le b 1 ≡ false) → n < 2
    by (inl t) = let e : Value b 1 ≡ Value n used = sym (ap (λ x. cond x (Value b 1) Bad) t) ∙ h in let v : n ≡ b = cc in omega (arith, v, leb-true b 1 t)
    by (inr t) = let e : Bad ≡ Value n used = sym (ap (λ x. cond x (Value b 1) Bad) t) ∙ h in absurd cc
proto_fits (suc room) (b ∷ bs) n used fits h = by (cases_Bool (nat_lt b 128)) (λ n used. proto_fits room bs n used fits.1)
  where
    by : (nat_lt b 128 ≡ true) ⊎ (nat_lt b 128 ≡ false) → ((n used : ℕ) → proto_within room bs ≡ Value n used → n < 2 * 128 ^ room) → n < 2 * 128 ^ suc room
    by (inl t) again =
        let e : Value b 1 ≡ Value n used = sym (ap (λ x. cond x (Value b 1) (with_low b (proto_within room bs))) t) ∙ h in
        let v : n ≡ b = cc in
        omega (arith, v, ltb-true b 128 t, room_for_first room)
    by (inr t) again =
        let e : with_low b (proto_within room bs) ≡ Value n used = sym (ap (λ x. cond x (Value b 1) (with_low b (proto_within room bs))) t) ∙ h in
        let m = with_low_value b n used (proto_within room bs) e in
        let v : n ≡ b - 128 + 128 * m.0 = cc in
        omega (arith, v, high_fits b m.0 room fits.0 (again m.0 m.1 m.2))

pub read_proto_fits : (bytes : List ℕ) (n used : ℕ) → AllByRecursion (λ b. b < 256) bytes → read_proto_of bytes ≡ Value n used → n < 2 ^ 64
unfolding read_proto_of
read_proto_fits bytes n used fits h = omega (arith, proto_fits 9 bytes n used fits h)
