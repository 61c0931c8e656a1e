-- Letters of base32 read one after the other, with the bits that no whole byte has yet.
use Rattle.std.proofs.Common.{◌≡◌, ℕ, zero, suc, ◌+◌, ◌*◌, ◌/◌, ◌%◌, ◌^◌, ◌-◌, ◌<◌, ◌≤◌, Bool, true, false, List, [], ◌∷◌, ◌++◌, length, take, drop, get_or, refl, sym, ap, ◌∙◌, arith, append_assoc, Option, Some, None, drop-cons, drop_of_length-le, cond}
use Rattle.std.specs.Prelude.{◌==◌, ◌&&◌, flat_map, nat_lt, if◌then◌else◌}
use Rattle.std.specs.Option.{option_and_then, option_map}
use Rattle.std.proofs.lemmas.List.{append-nil, take-append-le, take_all, take_more_set, length-set, length-take}
use Rattle.std.proofs.Math.ListN.{set}
use Rattle.std.proofs.lemmas.Bool.Decides.{nat_tests}
use Rattle.uf_cid.specs.Read.{value_of, values_of, spare, is_padding, padded_bytes, unbase32}
use Rattle.uf_cid.specs.Unbase32.{bits5, eights, eight}

-- the low bits of a number, the high one first
abbrev pub low_bits : ℕ → ℕ → List ℕ
low_bits zero n = []
low_bits (suc k) n = (n / 2 ^ k % 2) ∷ low_bits k n

-- what bits spell behind bytes that were read before
abbrev pub judged : List ℕ → List ℕ → Option (List ℕ)
judged front bits = if is_padding (spare bits) then Some (take 37 (front ++ eights bits)) else None

-- what letters spell behind bytes and bits that were read before
abbrev pub read_on : ℕ → List ℕ → List ℕ → List ℕ → Option (List ℕ)
read_on a front bits letters = option_and_then (λ vs. judged front (bits ++ flat_map bits5 vs)) (values_of a letters)

judged_first : (bits : List ℕ) → judged [] bits ≡ option_map (take 37) (padded_bytes bits)
judged_first bits = elim (is_padding (spare bits)) as (λ (b : Bool). cond b (Some (take 37 (eights bits))) None ≡ option_map (take 37) (cond b (Some (eights bits)) None)) [ true ↦ refl | false ↦ refl ]

first_of : (o : Option (List ℕ)) → option_and_then (λ vs. judged [] (flat_map bits5 vs)) o ≡ option_map (take 37) (option_and_then (λ vs. padded_bytes (flat_map bits5 vs)) o)
first_of None = refl
first_of (Some vs) = judged_first (flat_map bits5 vs)

-- from the first letter on it is the whole reading
pub first_letters : (a : ℕ) (letters : List ℕ) → read_on a [] [] letters ≡ option_map (take 37) (unbase32 a letters)
first_letters a letters = first_of (values_of a letters)

with_value : (v : ℕ) (front bits : List ℕ) (o : Option (List ℕ)) → option_and_then (λ vs. judged front (bits ++ flat_map bits5 vs)) (option_map (λ vs. v ∷ vs) o) ≡ option_and_then (λ vs. judged front (bits ++ (bits5 v ++ flat_map bits5 vs))) o
with_value v front bits None = refl
with_value v front bits (Some vs) = refl

-- the first letter has the value v
takes : (a : ℕ) (front bits letters : List ℕ) (c v : ℕ) → value_of a c ≡ Some v → read_on a front bits (c ∷ letters) ≡ option_and_then (λ vs. judged front (bits ++ (bits5 v ++ flat_map bits5 vs))) (values_of a letters)
takes a front bits letters c v e = rw e (with_value v front bits (values_of a letters))

short : (held bits v : ℕ) (more : List ℕ) → held < 3 → bits < 2 ^ held → v < 32 → low_bits held bits ++ (bits5 v ++ more) ≡ low_bits (held + 5) (bits * 32 + v) ++ more
short zero bits v more h few small =
    let a : v / 16 % 2 ≡ (bits * 32 + v) / 16 % 2 = omega arith in
    let b : v / 8 % 2 ≡ (bits * 32 + v) / 8 % 2 = omega arith in
    let c : v / 4 % 2 ≡ (bits * 32 + v) / 4 % 2 = omega arith in
    let d : v / 2 % 2 ≡ (bits * 32 + v) / 2 % 2 = omega arith in
    let e : v % 2 ≡ (bits * 32 + v) / 1 % 2 = omega arith in
    λ i. a i ∷ b i ∷ c i ∷ d i ∷ e i ∷ more
short (suc zero) bits v more h few small =
    let x : bits / 1 % 2 ≡ (bits * 32 + v) / 32 % 2 = omega arith in
    let a : v / 16 % 2 ≡ (bits * 32 + v) / 16 % 2 = omega arith in
    let b : v / 8 % 2 ≡ (bits * 32 + v) / 8 % 2 = omega arith in
    let c : v / 4 % 2 ≡ (bits * 32 + v) / 4 % 2 = omega arith in
    let d : v / 2 % 2 ≡ (bits * 32 + v) / 2 % 2 = omega arith in
    let e : v % 2 ≡ (bits * 32 + v) / 1 % 2 = omega arith in
    λ i. x i ∷ a i ∷ b i ∷ c i ∷ d i ∷ e i ∷ more
short (suc (suc zero)) bits v more h few small =
    let y : bits / 2 % 2 ≡ (bits * 32 + v) / 64 % 2 = omega arith in
    let x : bits / 1 % 2 ≡ (bits * 32 + v) / 32 % 2 = omega arith in
    let a : v / 16 % 2 ≡ (bits * 32 + v) / 16 % 2 = omega arith in
    let b : v / 8 % 2 ≡ (bits * 32 + v) / 8 % 2 = omega arith in
    let c : v / 4 % 2 ≡ (bits * 32 + v) / 4 % 2 = omega arith in
    let d : v / 2 % 2 ≡ (bits * 32 + v) / 2 % 2 = omega arith in
    let e : v % 2 ≡ (bits * 32 + v) / 1 % 2 = omega arith in
    λ i. y i ∷ x i ∷ a i ∷ b i ∷ c i ∷ d i ∷ e i ∷ more
short (suc (suc (suc n))) bits v more h few small = absurd (omega arith)

-- a byte and the bits behind it
record Byte (held bits v : ℕ) (more : List ℕ) : Type 0 where
  byte : eights (low_bits (held + 3) bits ++ (bits5 v ++ more)) ≡ ((bits * 32 + v) / 2 ^ held) ∷ eights (low_bits held ((bits * 32 + v) % 2 ^ held) ++ more)
  rest : spare (low_bits (held + 3) bits ++ (bits5 v ++ more)) ≡ spare (low_bits held ((bits * 32 + v) % 2 ^ held) ++ more)

long : (held bits v : ℕ) (more : List ℕ) → held < 5 → bits < 2 ^ (held + 3) → v < 32 → Byte held bits v more
long zero bits v more h few small =
    let b : eight (bits / 4 % 2) (bits / 2 % 2) (bits / 1 % 2) (v / 16 % 2) (v / 8 % 2) (v / 4 % 2) (v / 2 % 2) (v % 2) ≡ (bits * 32 + v) / 1 = omega arith in
    record { byte = λ i. b i ∷ eights more; rest = refl }
long (suc zero) bits v more h few small =
    let b : eight (bits / 8 % 2) (bits / 4 % 2) (bits / 2 % 2) (bits / 1 % 2) (v / 16 % 2) (v / 8 % 2) (v / 4 % 2) (v / 2 % 2) ≡ (bits * 32 + v) / 2 = omega arith in
    let z : v % 2 ≡ (bits * 32 + v) % 2 / 1 % 2 = omega arith in
    record { byte = λ i. b i ∷ eights (z i ∷ more); rest = λ i. spare (z i ∷ more) }
long (suc (suc zero)) bits v more h few small =
    let b : eight (bits / 16 % 2) (bits / 8 % 2) (bits / 4 % 2) (bits / 2 % 2) (bits / 1 % 2) (v / 16 % 2) (v / 8 % 2) (v / 4 % 2) ≡ (bits * 32 + v) / 4 = omega arith in
    let y : v / 2 % 2 ≡ (bits * 32 + v) % 4 / 2 % 2 = omega arith in
    let z : v % 2 ≡ (bits * 32 + v) % 4 / 1 % 2 = omega arith in
    record { byte = λ i. b i ∷ eights (y i ∷ z i ∷ more); rest = λ i. spare (y i ∷ z i ∷ more) }
long (suc (suc (suc zero))) bits v more h few small =
    let b : eight (bits / 32 % 2) (bits / 16 % 2) (bits / 8 % 2) (bits / 4 % 2) (bits / 2 % 2) (bits / 1 % 2) (v / 16 % 2) (v / 8 % 2) ≡ (bits * 32 + v) / 8 = omega arith in
    let x : v / 4 % 2 ≡ (bits * 32 + v) % 8 / 4 % 2 = omega arith in
    let y : v / 2 % 2 ≡ (bits * 32 + v) % 8 / 2 % 2 = omega arith in
    let z : v % 2 ≡ (bits * 32 + v) % 8 / 1 % 2 = omega arith in
    record { byte = λ i. b i ∷ eights (x i ∷ y i ∷ z i ∷ more); rest = λ i. spare (x i ∷ y i ∷ z i ∷ more) }
long (suc (suc (suc (suc zero)))) bits v more h few small =
    let b : eight (bits / 64 % 2) (bits / 32 % 2) (bits / 16 % 2) (bits / 8 % 2) (bits / 4 % 2) (bits / 2 % 2) (bits / 1 % 2) (v / 16 % 2) ≡ (bits * 32 + v) / 16 = omega arith in
    let w : v / 8 % 2 ≡ (bits * 32 + v) % 16 / 8 % 2 = omega arith in
    let x : v / 4 % 2 ≡ (bits * 32 + v) % 16 / 4 % 2 = omega arith in
    let y : v / 2 % 2 ≡ (bits * 32 + v) % 16 / 2 % 2 = omega arith in
    let z : v % 2 ≡ (bits * 32 + v) % 16 / 1 % 2 = omega arith in
    record { byte = λ i. b i ∷ eights (w i ∷ x i ∷ y i ∷ z i ∷ more); rest = λ i. spare (w i ∷ x i ∷ y i ∷ z i ∷ more) }
long (suc (suc (suc (suc (suc n))))) bits v more h few small = absurd (omega arith)

-- all the same, whatever the values of the letters that follow
same_after : (f g : List ℕ → Option (List ℕ)) → ((vs : List ℕ) → f vs ≡ g vs) → (o : Option (List ℕ)) → option_and_then f o ≡ option_and_then g o
same_after f g same None = refl
same_after f g same (Some vs) = same vs

-- a letter that makes no byte whole
pub goes_on : (a : ℕ) (front letters : List ℕ) (c v held bits : ℕ) → value_of a c ≡ Some v → held < 3 → bits < 2 ^ held → v < 32
    → read_on a front (low_bits held bits) (c ∷ letters) ≡ read_on a front (low_bits (held + 5) (bits * 32 + v)) letters
goes_on a front letters c v held bits e h few small =
    takes a front (low_bits held bits) letters c v e
    ∙ same_after (λ vs. judged front (low_bits held bits ++ (bits5 v ++ flat_map bits5 vs))) (λ vs. judged front (low_bits (held + 5) (bits * 32 + v) ++ flat_map bits5 vs))
    (λ vs. ap (judged front) (short held bits v (flat_map bits5 vs) h few small)) (values_of a letters)

with_byte : (front front' bits bits' : List ℕ) → spare bits ≡ spare bits' → take 37 (front ++ eights bits) ≡ take 37 (front' ++ eights bits') → judged front bits ≡ judged front' bits'
with_byte front front' bits bits' s t = λ i. if is_padding (s i) then Some (t i) else None

-- a letter that makes a byte whole, for which there is room
pub adds : (a : ℕ) (front letters : List ℕ) (c v held bits : ℕ) → value_of a c ≡ Some v → held < 5 → bits < 2 ^ (held + 3) → v < 32
    → read_on a front (low_bits (held + 3) bits) (c ∷ letters) ≡ read_on a (front ++ ((bits * 32 + v) / 2 ^ held) ∷ []) (low_bits held ((bits * 32 + v) % 2 ^ held)) letters
adds a front letters c v held bits e h few small =
    let joined = bits * 32 + v in
    takes a front (low_bits (held + 3) bits) letters c v e
    ∙ same_after (λ vs. judged front (low_bits (held + 3) bits ++ (bits5 v ++ flat_map bits5 vs))) (λ vs. judged (front ++ (joined / 2 ^ held) ∷ []) (low_bits held (joined % 2 ^ held) ++ flat_map bits5 vs))
    (λ vs. let step = long held bits v (flat_map bits5 vs) h few small in
    with_byte front (front ++ (joined / 2 ^ held) ∷ []) (low_bits (held + 3) bits ++ (bits5 v ++ flat_map bits5 vs)) (low_bits held (joined % 2 ^ held) ++ flat_map bits5 vs) step.rest
    (ap (λ (t : List ℕ). take 37 (front ++ t)) step.byte ∙ ap (take 37) (sym (append_assoc front ((joined / 2 ^ held) ∷ []) (eights (low_bits held (joined % 2 ^ held) ++ flat_map bits5 vs)))))) (values_of a letters)

-- a letter that makes a byte whole, behind 37 of them
pub passes : (a : ℕ) (front letters : List ℕ) (c v held bits : ℕ) → value_of a c ≡ Some v → 37 ≤ length front → held < 5 → bits < 2 ^ (held + 3) → v < 32
    → read_on a front (low_bits (held + 3) bits) (c ∷ letters) ≡ read_on a front (low_bits held ((bits * 32 + v) % 2 ^ held)) letters
passes a front letters c v held bits e full h few small =
    let joined = bits * 32 + v in
    takes a front (low_bits (held + 3) bits) letters c v e
    ∙ same_after (λ vs. judged front (low_bits (held + 3) bits ++ (bits5 v ++ flat_map bits5 vs))) (λ vs. judged front (low_bits held (joined % 2 ^ held) ++ flat_map bits5 vs))
    (λ vs. let step = long held bits v (flat_map bits5 vs) h few small in
    with_byte front front (low_bits (held + 3) bits ++ (bits5 v ++ flat_map bits5 vs)) (low_bits held (joined % 2 ^ held) ++ flat_map bits5 vs) step.rest
    (take-append-le 37 front (eights (low_bits (held + 3) bits ++ (bits5 v ++ flat_map bits5 vs))) full
    ∙ sym (take-append-le 37 front (eights (low_bits held (joined % 2 ^ held) ++ flat_map bits5 vs)) full))) (values_of a letters)

-- where the loop stands
pub record Reading (a : ℕ) (all : List ℕ) (at : ℕ) (bytes : List ℕ) (len bits held : ℕ) : Type 0 where
  pub size : length bytes ≡ 37
  pub room : len ≤ 37
  pub few : held < 8
  pub small : bits < 2 ^ held
  pub so_far : read_on a (take len bytes) (low_bits held bits) (drop at all) ≡ read_on a [] [] all

pub below_128 : (held bits : ℕ) → held < 8 → bits < 2 ^ held → bits < 128
below_128 zero bits h s = omega arith
below_128 (suc zero) bits h s = omega arith
below_128 (suc (suc zero)) bits h s = omega arith
below_128 (suc (suc (suc zero))) bits h s = omega arith
below_128 (suc (suc (suc (suc zero)))) bits h s = omega arith
below_128 (suc (suc (suc (suc (suc zero))))) bits h s = omega arith
below_128 (suc (suc (suc (suc (suc (suc zero)))))) bits h s = omega arith
below_128 (suc (suc (suc (suc (suc (suc (suc zero))))))) bits h s = omega arith
below_128 (suc (suc (suc (suc (suc (suc (suc (suc n)))))))) bits h s = absurd (omega arith)

small_then : (held bits v : ℕ) → held < 3 → bits < 2 ^ held → v < 32 → bits * 32 + v < 2 ^ (held + 5)
small_then zero bits v h s t = omega arith
small_then (suc zero) bits v h s t = omega arith
small_then (suc (suc zero)) bits v h s t = omega arith
small_then (suc (suc (suc n))) bits v h s t = absurd (omega arith)

-- the rest of a division by a power of two, and the quotient of what three bits more have
pub small_rest : (held n : ℕ) → held < 5 → n % 2 ^ held < 2 ^ held
small_rest zero n h = omega arith
small_rest (suc zero) n h = omega arith
small_rest (suc (suc zero)) n h = omega arith
small_rest (suc (suc (suc zero))) n h = omega arith
small_rest (suc (suc (suc (suc zero)))) n h = omega arith
small_rest (suc (suc (suc (suc (suc k))))) n h = absurd (omega arith)

pub is_byte : (held bits v : ℕ) → held < 5 → bits < 2 ^ (held + 3) → v < 32 → (bits * 32 + v) / 2 ^ held < 256
is_byte zero bits v h s t = omega arith
is_byte (suc zero) bits v h s t = omega arith
is_byte (suc (suc zero)) bits v h s t = omega arith
is_byte (suc (suc (suc zero))) bits v h s t = omega arith
is_byte (suc (suc (suc (suc zero)))) bits v h s t = omega arith
is_byte (suc (suc (suc (suc (suc k))))) bits v h s t = absurd (omega arith)

at_letter : (all : List ℕ) (at : ℕ) → at < length all → drop at all ≡ get_or all at 0 ∷ drop (at + 1) all
at_letter all at h =
    let next : suc at ≡ at + 1 = omega arith in
    drop-cons all at 0 h ∙ ap (λ (k : ℕ). get_or all at 0 ∷ drop k all) next

pub next_bits : (a : ℕ) (all bytes : List ℕ) (at len bits held v : ℕ) → Reading a all at bytes len bits held → at < length all → value_of a (get_or all at 0) ≡ Some v → v < 32 → held < 3
    → Reading a all (at + 1) bytes len (bits * 32 + v) (held + 5)
next_bits a all bytes at len bits held v r h e t low =
    record {
      size = r.size;
      room = r.room;
      few = omega arith;
      small = small_then held bits v low r.small t;
      so_far = sym (goes_on a (take len bytes) (drop (at + 1) all) (get_or all at 0) v held bits e low r.small t)
          ∙ ap (read_on a (take len bytes) (low_bits held bits)) (sym (at_letter all at h)) ∙ r.so_far;
    }

pub two_power : (k : ℕ) → k < 5 → (1 * 2 ^ k) % 65536 ≡ 2 ^ k
two_power zero h = refl
two_power (suc zero) h = refl
two_power (suc (suc zero)) h = refl
two_power (suc (suc (suc zero))) h = refl
two_power (suc (suc (suc (suc zero)))) h = refl
two_power (suc (suc (suc (suc (suc k))))) h = absurd (omega arith)

pub next_byte : (a : ℕ) (all bytes : List ℕ) (at len bits held left v : ℕ) → Reading a all at bytes len bits held → at < length all → value_of a (get_or all at 0) ≡ Some v → v < 32 → held ≡ left + 3
    → len < 37 → Reading a all (at + 1) (set bytes len ((bits * 32 + v) / 2 ^ left)) (len + 1) ((bits * 32 + v) % ((1 * 2 ^ left) % 65536)) left
next_byte a all bytes at len bits held left v r h e t is room =
    let few : left < 5 = omega (arith, r.few) in
    let small : bits < 2 ^ (left + 3) = rw (← is) r.small in
    let so_far : read_on a (take len bytes) (low_bits (left + 3) bits) (drop at all) ≡ read_on a [] [] all = rw (← is) r.so_far in
    let fits : len < length bytes = omega (arith, r.size) in
    rw (two_power left few) record {
      size = length-set bytes len ((bits * 32 + v) / 2 ^ left) ∙ r.size;
      room = omega arith;
      few = omega arith;
      small = small_rest left (bits * 32 + v) few;
      so_far = ap (λ (front : List ℕ). read_on a front (low_bits left ((bits * 32 + v) % 2 ^ left)) (drop (at + 1) all)) (take_more_set bytes len ((bits * 32 + v) / 2 ^ left) fits)
          ∙ sym (adds a (take len bytes) (drop (at + 1) all) (get_or all at 0) v left bits e few small t)
          ∙ ap (read_on a (take len bytes) (low_bits (left + 3) bits)) (sym (at_letter all at h)) ∙ so_far;
    }

pub next_passed : (a : ℕ) (all bytes : List ℕ) (at len bits held left v : ℕ) → Reading a all at bytes len bits held → at < length all → value_of a (get_or all at 0) ≡ Some v → v < 32 → held ≡ left + 3
    → 37 ≤ len → Reading a all (at + 1) bytes len ((bits * 32 + v) % ((1 * 2 ^ left) % 65536)) left
next_passed a all bytes at len bits held left v r h e t is full =
    let few : left < 5 = omega (arith, r.few) in
    let small : bits < 2 ^ (left + 3) = rw (← is) r.small in
    let so_far : read_on a (take len bytes) (low_bits (left + 3) bits) (drop at all) ≡ read_on a [] [] all = rw (← is) r.so_far in
    let whole : 37 ≤ length (take len bytes) = rw (take_all len bytes (omega (arith, r.size))) (omega (arith, r.size)) in
    rw (two_power left few) record {
      size = r.size;
      room = r.room;
      few = omega arith;
      small = small_rest left (bits * 32 + v) few;
      so_far = sym (passes a (take len bytes) (drop (at + 1) all) (get_or all at 0) v left bits e whole few small t)
          ∙ ap (read_on a (take len bytes) (low_bits (left + 3) bits)) (sym (at_letter all at h)) ∙ so_far;
    }

padding_is : (held bits : ℕ) → held < 8 → bits < 2 ^ held → is_padding (spare (low_bits held bits)) ≡ (nat_lt held 5 && (bits == 0))
padding_is zero bits h s = grind (arith, nat_tests)
padding_is (suc zero) bits h s = grind (arith, nat_tests)
padding_is (suc (suc zero)) bits h s = grind (arith, nat_tests)
padding_is (suc (suc (suc zero))) bits h s = grind (arith, nat_tests)
padding_is (suc (suc (suc (suc zero)))) bits h s = grind (arith, nat_tests)
padding_is (suc (suc (suc (suc (suc zero))))) bits h s = refl
padding_is (suc (suc (suc (suc (suc (suc zero)))))) bits h s = refl
padding_is (suc (suc (suc (suc (suc (suc (suc zero))))))) bits h s = refl
padding_is (suc (suc (suc (suc (suc (suc (suc (suc n)))))))) bits h s = absurd (omega arith)

no_bytes : (held bits : ℕ) → held < 8 → eights (low_bits held bits) ≡ []
no_bytes zero bits h = refl
no_bytes (suc zero) bits h = refl
no_bytes (suc (suc zero)) bits h = refl
no_bytes (suc (suc (suc zero))) bits h = refl
no_bytes (suc (suc (suc (suc zero)))) bits h = refl
no_bytes (suc (suc (suc (suc (suc zero))))) bits h = refl
no_bytes (suc (suc (suc (suc (suc (suc zero)))))) bits h = refl
no_bytes (suc (suc (suc (suc (suc (suc (suc zero))))))) bits h = refl
no_bytes (suc (suc (suc (suc (suc (suc (suc (suc n)))))))) bits h = absurd (omega arith)

-- what is read when no letter is left
pub ends : (a : ℕ) (all bytes : List ℕ) (at len bits held : ℕ) (ended : Bool) → Reading a all at bytes len bits held → length all ≤ at → (nat_lt held 5 && (bits == 0)) ≡ ended
    → option_map (take 37) (unbase32 a all) ≡ (if ended then Some (take len bytes) else None)
ends a all bytes at len bits held ended r h e =
    let none : drop at all ≡ [] = drop_of_length-le all h in
    let left : judged (take len bytes) (low_bits held bits ++ []) ≡ (if nat_lt held 5 && (bits == 0) then Some (take len bytes) else None) =
    ap (judged (take len bytes)) (append-nil (low_bits held bits))
    ∙ ap (λ (b : Bool). if b then Some (take 37 (take len bytes ++ eights (low_bits held bits))) else None) (padding_is held bits r.few r.small)
    ∙ ap (λ (t : List ℕ). if nat_lt held 5 && (bits == 0) then Some (take 37 (take len bytes ++ t)) else None) (no_bytes held bits r.few)
    ∙ ap (λ (t : List ℕ). if nat_lt held 5 && (bits == 0) then Some (take 37 t) else None) (append-nil (take len bytes))
    ∙ ap (λ (t : List ℕ). if nat_lt held 5 && (bits == 0) then Some t else None) (take_all 37 (take len bytes) (omega (arith, length-take len bytes, r.size)))
    in
    sym (first_letters a all) ∙ sym r.so_far ∙ ap (read_on a (take len bytes) (low_bits held bits)) none ∙ left
    ∙ ap (λ (b : Bool). if b then Some (take len bytes) else None) e

pub cast_fits : (held bits v : ℕ) → 3 ≤ held → held < 8 → bits < 2 ^ held → v < 32 → (bits * 32 + v) / 2 ^ (held - 3) < 256
cast_fits held bits v h few small t =
    let is : held ≡ (held - 3) + 3 = omega arith in
    is_byte (held - 3) bits v (omega arith) (rw (← is) small) t
