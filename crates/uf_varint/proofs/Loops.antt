-- The loops that read and write varints, one byte on.
use Rattle.std.proofs.Common.{◌≡◌, ℕ, zero, suc, ◌+◌, ◌-◌, ◌*◌, ◌/◌, ◌%◌, ◌^◌, ◌<◌, ◌≤◌, List, [], ◌∷◌, ◌++◌, length, get_or, set, take, drop, refl, ap, append_assoc, arith, sym, subst, nat_eq, ◌∙◌, false, cond, ◌⊎◌, inl, inr}
use Rattle.std.specs.Prelude.{nat_lt, nat_le}
use Rattle.std.proofs.lemmas.Bool.{le-leb, lt-leb, ne_eqb}
use Rattle.std.proofs.lemmas.Grind.{pow_more}
use Rattle.std.proofs.lemmas.List.{at_drop_more, at_drop_all, drop-drop, set_split, take_more_set, drop-set-lt, length-append, length-take}
use Rattle.std.proofs.Math.Nat.{pow-le-pow_right, mul-le-mul_left}
use Rattle.uf_varint.specs.declared.varint.Var.{Var}
use Rattle.uf_varint.specs.declared.varint.Var.TheVariants.{Value, Short, Bad}
use Rattle.uf_varint.specs.Varint.{varint_within, proto_within, read_multi_of, multi_within, with_low}
use Rattle.uf_varint.proofs.Varints.{below, not_below}

-- what is read behind some bytes with the high bit, whose groups stand for a value
abbrev pub behind : ℕ → ℕ → ℕ → Var → Var
behind value scale front (Value high used) = Value (value + scale * high) (front + used)
behind value scale front Short = Short
behind value scale front Bad = Bad

pub behind_none : (read : Var) → behind 0 1 0 read ≡ read
behind_none (Value n used) =
    let x : 0 + 1 * n ≡ n = omega arith in
    let y : 0 + used ≡ used = omega arith in
    cc
behind_none Short = refl
behind_none Bad = refl

pub behind_more : (value scale front b : ℕ) (read : Var) → 128 ≤ b → behind value scale front (with_low b read) ≡ behind (value + (b - 128) * scale) (scale * 128) (front + 1) read
behind_more value scale front b (Value high used) le =
    let x : value + scale * (b - 128 + 128 * high) ≡ value + (b - 128) * scale + scale * 128 * high = omega arith in
    let y : front + (used + 1) ≡ front + 1 + used = omega arith in
    cc
behind_more value scale front b Short le = refl
behind_more value scale front b Bad le = refl

pub proto_more : (bytes : List ℕ) (i : ℕ) → i < 9 → i < length bytes → 128 ≤ get_or bytes i 0
    → proto_within (9 - i) (drop i bytes) ≡ with_low (get_or bytes i 0) (proto_within (9 - (i + 1)) (drop (i + 1) bytes))
unfolding proto_within
proto_more bytes i room within high =
    let r : 9 - i ≡ suc (9 - (i + 1)) = omega arith in
    let d = at_drop_more (proto_within (9 - i)) bytes i 0 within in
    d ∙ rw (r, not_below (get_or bytes i 0) 128 high) refl

pub proto_ends : (bytes : List ℕ) (i : ℕ) → i < 9 → i < length bytes → get_or bytes i 0 < 128 → proto_within (9 - i) (drop i bytes) ≡ Value (get_or bytes i 0) 1
unfolding proto_within
proto_ends bytes i room within low =
    let r : 9 - i ≡ suc (9 - (i + 1)) = omega arith in
    let d = at_drop_more (proto_within (9 - i)) bytes i 0 within in
    d ∙ rw (r, below (get_or bytes i 0) 128 low) refl

pub proto_past : (bytes : List ℕ) (i room : ℕ) → length bytes ≤ i → proto_within room (drop i bytes) ≡ Short
unfolding proto_within
proto_past bytes i room h = at_drop_all (proto_within room) bytes i h ∙ nothing room
  where
    nothing : (room : ℕ) → proto_within room [] ≡ Short
    nothing zero = refl
    nothing (suc room) = refl

pub proto_tenth : (bytes : List ℕ) → 9 < length bytes → proto_within 0 (drop 9 bytes) ≡ cond (nat_le (get_or bytes 9 0) 1) (Value (get_or bytes 9 0) 1) Bad
unfolding proto_within
proto_tenth bytes h = at_drop_more (proto_within 0) bytes 9 0 h

-- how much the groups of at most nine bytes stand for
pub scale_fits : (i : ℕ) → i ≤ 9 → 128 ^ i ≤ 2 ^ 63
scale_fits i h = let p = pow-le-pow_right {n = 128} (omega arith) {i = i} {j = 9} h in omega (arith, p)

-- the last byte of a number below 128, and the number
pub ends : (value scale i b : ℕ) (read total : Var) → read ≡ Value b 1 → behind value scale i read ≡ total → Value (value + b * scale) (i + 1) ≡ total
ends value scale i b read total e so_far =
    let x : value + b * scale ≡ value + scale * b = omega arith in
    ap (λ (v : ℕ). Value v (i + 1)) x ∙ sym (ap (behind value scale i) e) ∙ so_far

pub is_short : (value scale i : ℕ) (read total : Var) → read ≡ Short → behind value scale i read ≡ total → Short ≡ total
is_short value scale i read total e so_far = sym (ap (behind value scale i) e) ∙ so_far

pub is_bad : (value scale i : ℕ) (read total : Var) → read ≡ Bad → behind value scale i read ≡ total → Bad ≡ total
is_bad value scale i read total e so_far = sym (ap (behind value scale i) e) ∙ so_far

pub proto_goes_on : (bytes : List ℕ) (value scale i : ℕ) (total : Var) → i < 9 → i < length bytes → 128 ≤ get_or bytes i 0
    → behind value scale i (proto_within (9 - i) (drop i bytes)) ≡ total
    → behind (value + (get_or bytes i 0 - 128) * scale) (scale * 128) (i + 1) (proto_within (9 - (i + 1)) (drop (i + 1) bytes)) ≡ total
proto_goes_on bytes value scale i total room within high so_far =
    sym (behind_more value scale i (get_or bytes i 0) (proto_within (9 - (i + 1)) (drop (i + 1) bytes)) high)
    ∙ sym (ap (behind value scale i) (proto_more bytes i room within high)) ∙ so_far

-- the loop's end
pub proto_at_nine : (bytes : List ℕ) (value scale i : ℕ) (total : Var) → i ≤ 9 → 9 ≤ i
    → behind value scale i (proto_within (9 - i) (drop i bytes)) ≡ total → behind value scale 9 (proto_within 0 (drop 9 bytes)) ≡ total
proto_at_nine bytes value scale i total le ge so_far =
    let e : i ≡ 9 = omega arith in
    subst (λ (k : ℕ). behind value scale k (proto_within (9 - k) (drop k bytes)) ≡ total) e so_far

pub proto_tenth_low : (bytes : List ℕ) → 9 < length bytes → get_or bytes 9 0 ≤ 1 → proto_within 0 (drop 9 bytes) ≡ Value (get_or bytes 9 0) 1
proto_tenth_low bytes within low = proto_tenth bytes within ∙ ap (λ b. cond b (Value (get_or bytes 9 0) 1) Bad) (le-leb _ _ low)

pub proto_tenth_high : (bytes : List ℕ) → 9 < length bytes → 1 < get_or bytes 9 0 → proto_within 0 (drop 9 bytes) ≡ Bad
proto_tenth_high bytes within high = proto_tenth bytes within ∙ ap (λ b. cond b (Value (get_or bytes 9 0) 1) Bad) (lt-leb _ _ high)

-- ---- the shortest spelling

-- what is still read behind i bytes with the high bit
unfoldable pub multi_from : ℕ → List ℕ → Var
multi_from zero bytes = read_multi_of bytes
multi_from (suc i) bytes = multi_within (7 - i) bytes

pub multi_more : (bytes : List ℕ) (i : ℕ) → i < 8 → i < length bytes → 128 ≤ get_or bytes i 0
    → multi_from i (drop i bytes) ≡ with_low (get_or bytes i 0) (multi_from (i + 1) (drop (i + 1) bytes))
unfolding multi_from multi_within read_multi_of
multi_more bytes zero room within high =
    at_drop_more read_multi_of bytes 0 0 within ∙ rw (not_below (get_or bytes 0 0) 128 high) refl
multi_more bytes (suc i) room within high =
    let r : 7 - i ≡ suc (7 - (i + 1)) = omega arith in
    let s : suc i + 1 ≡ suc (i + 1) = omega arith in
    at_drop_more (multi_within (7 - i)) bytes (suc i) 0 within ∙ rw (s, r, not_below (get_or bytes (suc i) 0) 128 high) refl

pub multi_ends : (bytes : List ℕ) (i : ℕ) → i < 8 → i < length bytes → get_or bytes i 0 < 128 → (get_or bytes i 0 ≡ 0 → i ≡ 0)
    → multi_from i (drop i bytes) ≡ Value (get_or bytes i 0) 1
unfolding multi_from multi_within read_multi_of
multi_ends bytes zero room within low last = at_drop_more read_multi_of bytes 0 0 within ∙ rw (below (get_or bytes 0 0) 128 low) refl
multi_ends bytes (suc i) room within low last =
    let r : 7 - i ≡ suc (7 - (i + 1)) = omega arith in
    let some : nat_eq (get_or bytes (suc i) 0) 0 ≡ false = ne_eqb _ _ (λ e. absurd (let z : suc i ≡ 0 = last e in omega arith)) in
    at_drop_more (multi_within (7 - i)) bytes (suc i) 0 within ∙ rw (r, below (get_or bytes (suc i) 0) 128 low, some) refl

pub multi_padded : (bytes : List ℕ) (i : ℕ) → i < 8 → i < length bytes → 0 < i → get_or bytes i 0 ≡ 0 → multi_from i (drop i bytes) ≡ Bad
unfolding multi_from multi_within
multi_padded bytes zero room within some is = absurd (omega arith)
multi_padded bytes (suc i) room within some is =
    let r : 7 - i ≡ suc (7 - (i + 1)) = omega arith in
    at_drop_more (multi_within (7 - i)) bytes (suc i) 0 within ∙ rw (r, is) refl

pub multi_past : (bytes : List ℕ) (i : ℕ) → length bytes ≤ i → multi_from i (drop i bytes) ≡ Short
unfolding multi_from multi_within read_multi_of
multi_past bytes zero h = at_drop_all read_multi_of bytes 0 h
multi_past bytes (suc i) h = at_drop_all (multi_within (7 - i)) bytes (suc i) h ∙ nothing (7 - i)
  where
    nothing : (room : ℕ) → multi_within room [] ≡ Short
    nothing zero = refl
    nothing (suc room) = refl

pub multi_goes_on : (bytes : List ℕ) (value scale i : ℕ) (total : Var) → i < 8 → i < length bytes → 128 ≤ get_or bytes i 0
    → behind value scale i (multi_from i (drop i bytes)) ≡ total
    → behind (value + (get_or bytes i 0 - 128) * scale) (scale * 128) (i + 1) (multi_from (i + 1) (drop (i + 1) bytes)) ≡ total
multi_goes_on bytes value scale i total room within high so_far =
    sym (behind_more value scale i (get_or bytes i 0) (multi_from (i + 1) (drop (i + 1) bytes)) high)
    ∙ sym (ap (behind value scale i) (multi_more bytes i room within high)) ∙ so_far

pub multi_at_eight : (bytes : List ℕ) (value scale i : ℕ) (total : Var) → i ≤ 8 → 8 ≤ i
    → behind value scale i (multi_from i (drop i bytes)) ≡ total → behind value scale 8 (multi_from 8 (drop 8 bytes)) ≡ total
multi_at_eight bytes value scale i total le ge so_far =
    let e : i ≡ 8 = omega arith in
    subst (λ (k : ℕ). behind value scale k (multi_from k (drop k bytes)) ≡ total) e so_far

multi_ninth : (bytes : List ℕ) → 8 < length bytes
    → multi_from 8 (drop 8 bytes) ≡ cond (nat_lt (get_or bytes 8 0) 128) (cond (nat_eq (get_or bytes 8 0) 0) Bad (Value (get_or bytes 8 0) 1)) Bad
unfolding multi_from multi_within
multi_ninth bytes h = at_drop_more (multi_within 0) bytes 8 0 h

pub multi_ninth_low : (bytes : List ℕ) → 8 < length bytes → 0 < get_or bytes 8 0 → get_or bytes 8 0 < 128 → multi_from 8 (drop 8 bytes) ≡ Value (get_or bytes 8 0) 1
multi_ninth_low bytes within some low =
    let s : nat_eq (get_or bytes 8 0) 0 ≡ false = ne_eqb _ _ (λ e. absurd (omega arith)) in
    multi_ninth bytes within ∙ rw (below (get_or bytes 8 0) 128 low, s) refl

pub multi_ninth_zero : (bytes : List ℕ) → 8 < length bytes → get_or bytes 8 0 ≡ 0 → multi_from 8 (drop 8 bytes) ≡ Bad
multi_ninth_zero bytes within is = multi_ninth bytes within ∙ rw is refl

pub multi_ninth_high : (bytes : List ℕ) → 8 < length bytes → 128 ≤ get_or bytes 8 0 → multi_from 8 (drop 8 bytes) ≡ Bad
multi_ninth_high bytes within high = multi_ninth bytes within ∙ rw (not_below (get_or bytes 8 0) 128 high) refl

-- ---- writing

pub written_more : (i rest : ℕ) → i < 9 → 128 ≤ rest → varint_within (9 - i) rest ≡ (128 + rest % 128) ∷ varint_within (9 - (i + 1)) (rest / 128)
unfolding varint_within
written_more i rest room high =
    let r : 9 - i ≡ suc (9 - (i + 1)) = omega arith in
    rw (r, not_below rest 128 high) refl

pub written_ends : (i rest : ℕ) → i < 9 → rest < 128 → varint_within (9 - i) rest ≡ rest ∷ []
unfolding varint_within
written_ends i rest room low =
    let r : 9 - i ≡ suc (9 - (i + 1)) = omega arith in
    rw (r, below rest 128 low) refl

pub written_last : (i rest : ℕ) → 9 ≤ i → varint_within (9 - i) rest ≡ rest ∷ []
unfolding varint_within
written_last i rest h = let r : 9 - i ≡ 0 = omega arith in rw r refl

put_more : (old out : List ℕ) (i : ℕ) → drop i out ≡ drop i old → drop (i + 1) out ≡ drop (i + 1) old
put_more old out i h = sym (drop-drop 1 i out) ∙ ap (λ (xs : List ℕ). drop 1 xs) h ∙ drop-drop 1 i old

-- the last byte is written
pub put_ends : (old out spelled : List ℕ) (i b : ℕ) → i < length out → take i out ++ (b ∷ []) ≡ spelled → drop i out ≡ drop i old → set out i b ≡ spelled ++ drop (i + 1) old
put_ends old out spelled i b within so_far behind =
    let s : suc i ≡ i + 1 = omega arith in
    set_split out i b within
    ∙ ap (λ (k : ℕ). take i out ++ b ∷ drop k out) s
    ∙ ap (λ (xs : List ℕ). take i out ++ b ∷ xs) (put_more old out i behind)
    ∙ sym (append_assoc (take i out) (b ∷ []) (drop (i + 1) old))
    ∙ ap (λ (xs : List ℕ). xs ++ drop (i + 1) old) so_far

pub put_len : (out spelled : List ℕ) (i b : ℕ) → i < length out → take i out ++ (b ∷ []) ≡ spelled → i + 1 ≡ length spelled
put_len out spelled i b within so_far = omega (arith, ap length so_far, length-append (take i out) (b ∷ []), length-take i out)

pub put_goes_on : (out spelled : List ℕ) (i rest : ℕ) → i < 9 → i < length out → 128 ≤ rest → take i out ++ varint_within (9 - i) rest ≡ spelled
    → take (i + 1) (set out i (128 + rest % 128)) ++ varint_within (9 - (i + 1)) (rest / 128) ≡ spelled
put_goes_on out spelled i rest room within high so_far =
    ap (λ (xs : List ℕ). xs ++ varint_within (9 - (i + 1)) (rest / 128)) (take_more_set out i (128 + rest % 128) within)
    ∙ append_assoc (take i out) ((128 + rest % 128) ∷ []) (varint_within (9 - (i + 1)) (rest / 128))
    ∙ ap (λ (xs : List ℕ). take i out ++ xs) (sym (written_more i rest room high))
    ∙ so_far

pub put_behind : (old out : List ℕ) (i b : ℕ) → drop i out ≡ drop i old → drop (i + 1) (set out i b) ≡ drop (i + 1) old
put_behind old out i b h = drop-set-lt (i + 1) out i b (omega arith) ∙ put_more old out i h

pub put_below : (i rest : ℕ) → i < 9 → rest < 2 * 128 ^ (9 - i) → rest / 128 < 2 * 128 ^ (9 - (i + 1))
put_below i rest room h =
    let r : 9 - i ≡ 9 - (i + 1) + 1 = omega arith in
    let e : 128 ^ (9 - i) ≡ 128 ^ (9 - (i + 1)) * 128 = ap (λ (k : ℕ). 128 ^ k) r ∙ pow_more 128 (9 - (i + 1)) in
    omega arith

pub put_last : (i rest : ℕ) → 9 ≤ i → rest < 2 * 128 ^ (9 - i) → rest < 2
put_last i rest le h =
    let r : 9 - i ≡ 0 = omega arith in
    let e : 128 ^ (9 - i) ≡ 1 = ap (λ (k : ℕ). 128 ^ k) r in
    omega arith

-- ---- numbers

pub scale_more : (scale i : ℕ) → scale ≡ 128 ^ i → scale * 128 ≡ 128 ^ (i + 1)
scale_more scale i h = ap (λ (s : ℕ). s * 128) h ∙ sym (pow_more 128 i)

pub below_more : (value scale b : ℕ) → value < scale → b < 256 → value + (b - 128) * scale < scale * 128
below_more value scale b h fits = by (b - 128) (omega arith)
  where
    by : (d : ℕ) → d ≤ 127 → value + d * scale < scale * 128
    by d le = omega (arith, mul-le-mul_left scale le)

pub put_done : (old out spelled : List ℕ) (i rest : ℕ) → i ≤ 9 → 9 ≤ i → i < length out → take i out ++ varint_within (9 - i) rest ≡ spelled → drop i out ≡ drop i old
    → (set out 9 rest ≡ spelled ++ drop 10 old) × (10 ≡ length spelled)
put_done old out spelled i rest le ge within so_far behind =
    let e : i ≡ 9 = omega arith in
    let last : take i out ++ (rest ∷ []) ≡ spelled = ap (λ (xs : List ℕ). take i out ++ xs) (sym (written_last i rest ge)) ∙ so_far in
    subst (λ (k : ℕ). (set out k rest ≡ spelled ++ drop (k + 1) old) × (k + 1 ≡ length spelled)) e
    (put_ends old out spelled i rest within last behind, put_len out spelled i rest within last)

pub last_of : (b i : ℕ) → ((b ≡ 0) × (i ≤ 0)) ⊎ (b ≡ 0 → ⊥) → b ≡ 0 → i ≡ 0
last_of b i (inl h) e = omega arith
last_of b i (inr h) e = absurd (h e)

pub width_goes_on : (i rest total : ℕ) → i < 9 → 128 ≤ rest → i + length (varint_within (9 - i) rest) ≡ total → i + 1 + length (varint_within (9 - (i + 1)) (rest / 128)) ≡ total
width_goes_on i rest total room high so_far = omega (arith, so_far, ap length (written_more i rest room high))

pub width_ends : (i rest total : ℕ) → i < 9 → rest < 128 → i + length (varint_within (9 - i) rest) ≡ total → i + 1 ≡ total
width_ends i rest total room low so_far = omega (arith, so_far, ap length (written_ends i rest room low))

pub width_last : (i rest total : ℕ) → i ≤ 9 → 9 ≤ i → i + length (varint_within (9 - i) rest) ≡ total → 10 ≡ total
width_last i rest total le ge so_far = omega (arith, so_far, ap length (written_last i rest ge))
