-- The bitfield, byte by byte.
use Rattle.std.proofs.Common.{◌≡◌, ◌≢◌, ℕ, zero, suc, ◌+◌, ◌-◌, ◌*◌, ◌%◌, ◌^◌, ◌<◌, ◌≤◌, List, [], ◌∷◌, ◌++◌, length, get_or, set, replicate, map, take, refl, ap, arith, sym, ◌∙◌, Bool, true, false, cond, ◌⊎◌, inl, inr}
use Rattle.std.specs.Prelude.{◌==◌, ◌||◌}
use Rattle.std.specs.List.{list_any, range_with_len, sum_by}
use Rattle.std.proofs.lemmas.List.{get_or-replicate, get_or-set_same, get_or-set_other, take_all, take_more, map-append}
use Rattle.std.proofs.lemmas.List.Folds.{list_any-append}
use Rattle.std.proofs.lemmas.List.FromFn.{map-range_with_len_more}
use Rattle.std.proofs.lemmas.List.Sums.{sum_by-cons}
use Rattle.std.proofs.Math.Seq.{take-suc-set}
use Rattle.uf_tree.specs.Bits.{bit_from, byte_from}
use Rattle.uf_tree.specs.Nodes.{InSlot, bitfield, bitfield_byte, slot_bit, without_zeros}
use Rattle.uf_tree.proofs.Twins.{same_key, other_key}

-- ---- a byte

one_bit : (there : List Bool) (n j at weight bit : ℕ) → at ≡ 8 * n + j → j < 8 → weight ≡ 2 ^ j → bit ≡ cond (get_or there at false) weight 0 → bit_from there at ≡ bit
unfolding bit_from
one_bit there n j at weight bit e lt w is =
    let low : at % 8 ≡ j = omega arith in
    ap (λ k. cond (get_or there at false) (2 ^ k) 0) low ∙ ap (λ k. cond (get_or there at false) k 0) (sym w) ∙ sym is

pub byte_is : (there : List Bool) (n a b c d e f g h : ℕ)
    → a ≡ cond (get_or there (8 * n) false) 1 0 → b ≡ cond (get_or there (8 * n + 1) false) 2 0 → c ≡ cond (get_or there (8 * n + 2) false) 4 0 → d ≡ cond (get_or there (8 * n + 3) false) 8 0
    → e ≡ cond (get_or there (8 * n + 4) false) 16 0 → f ≡ cond (get_or there (8 * n + 5) false) 32 0 → g ≡ cond (get_or there (8 * n + 6) false) 64 0 → h ≡ cond (get_or there (8 * n + 7) false) 128 0
    → a + b + c + d + e + f + g + h ≡ byte_from there n
unfolding byte_from
byte_is there n a b c d e f g h p0 p1 p2 p3 p4 p5 p6 p7 =
    let q0 : bit_from there (8 * n) ≡ a = one_bit there n 0 (8 * n) 1 a (omega arith) (omega arith) refl p0 in
    let q1 : bit_from there (8 * n + 1) ≡ b = one_bit there n 1 (8 * n + 1) 2 b refl (omega arith) refl p1 in
    let q2 : bit_from there (8 * n + 1 + 1) ≡ c = ap (bit_from there) (omega arith) ∙ one_bit there n 2 (8 * n + 2) 4 c refl (omega arith) refl p2 in
    let q3 : bit_from there (8 * n + 1 + 1 + 1) ≡ d = ap (bit_from there) (omega arith) ∙ one_bit there n 3 (8 * n + 3) 8 d refl (omega arith) refl p3 in
    let q4 : bit_from there (8 * n + 1 + 1 + 1 + 1) ≡ e = ap (bit_from there) (omega arith) ∙ one_bit there n 4 (8 * n + 4) 16 e refl (omega arith) refl p4 in
    let q5 : bit_from there (8 * n + 1 + 1 + 1 + 1 + 1) ≡ f = ap (bit_from there) (omega arith) ∙ one_bit there n 5 (8 * n + 5) 32 f refl (omega arith) refl p5 in
    let q6 : bit_from there (8 * n + 1 + 1 + 1 + 1 + 1 + 1) ≡ g = ap (bit_from there) (omega arith) ∙ one_bit there n 6 (8 * n + 6) 64 g refl (omega arith) refl p6 in
    let q7 : bit_from there (8 * n + 1 + 1 + 1 + 1 + 1 + 1 + 1) ≡ h = ap (bit_from there) (omega arith) ∙ one_bit there n 7 (8 * n + 7) 128 h refl (omega arith) refl p7 in
    omega arith

-- ---- the bytes

pub bytes_go_on : (there : List Bool) (bytes : List ℕ) (k byte : ℕ) → k < length bytes → take k bytes ≡ map (λ k. byte_from there (31 - k)) (range_with_len 0 k) → byte ≡ byte_from there (31 - k)
    → take (k + 1) (set bytes k byte) ≡ map (λ k. byte_from there (31 - k)) (range_with_len 0 (k + 1))
bytes_go_on there bytes k byte lt so_far is =
    let more : k + 1 ≡ suc k = omega arith in
    ap (λ n. take n (set bytes k byte)) more ∙ take-suc-set bytes k byte lt
    ∙ ap (λ (x : List ℕ). x ++ byte ∷ []) so_far
    ∙ ap (λ n. map (λ k. byte_from there (31 - k)) (range_with_len 0 k) ++ n ∷ []) is
    ∙ sym (map-range_with_len_more (λ k. byte_from there (31 - k)) 0 k k (omega arith))

pub bytes_end : (there : List Bool) (bytes : List ℕ) (k : ℕ) → length bytes ≡ 32 → k ≡ 32 → take k bytes ≡ map (λ k. byte_from there (31 - k)) (range_with_len 0 k) → bytes ≡ map (λ k. byte_from there (31 - k)) (range_with_len 0 32)
bytes_end there bytes k long last so_far = sym (take_all k bytes (omega arith)) ∙ so_far ∙ ap (λ n. map (λ k. byte_from there (31 - k)) (range_with_len 0 n)) last

-- ---- which slots are there

pub none_there : (i : ℕ) → i < 256 → get_or (replicate 256 false) i false ≡ false
none_there i lt = get_or-replicate 256 i false false lt

or-true : (b : Bool) → (b || true) ≡ true
or-true true = refl
or-true false = refl

or-false : (b : Bool) → (b || false) ≡ b
or-false true = refl
or-false false = refl

abbrev has : List InSlot → ℕ → Bool
has items i = list_any (λ s. s == i) (map (λ (p : InSlot). p.0) items)

pub one_more_there : (there : List Bool) (items : List InSlot) (at slot : ℕ) (p : InSlot) → length there ≡ 256 → at < length items → p ≡ get_or items at p → slot ≡ p.0 → slot < 256
    → ((i : ℕ) → i < 256 → get_or there i false ≡ has (take at items) i) → (i : ℕ) → i < 256 → get_or (set there slot true) i false ≡ has (take (at + 1) items) i
one_more_there there items at slot p long lt is s small so_far i le = by (cases_eq i slot)
  where
    cases_eq : (i slot : ℕ) → (i ≡ slot) ⊎ (i ≢ slot)
    cases_eq i slot = grind arith

    taken : take (at + 1) items ≡ take at items ++ p ∷ []
    taken = take_more items at p lt ∙ ap (λ (x : InSlot). take at items ++ x ∷ []) (sym is)

    all : has (take (at + 1) items) i ≡ (has (take at items) i || (slot == i))
    all =
        ap (λ (l : List InSlot). has l i) taken
        ∙ ap (λ (l : List ℕ). list_any (λ s. s == i) l) (map-append (λ (p : InSlot). p.0) (take at items) (p ∷ []))
        ∙ list_any-append (λ s. s == i) (map (λ (p : InSlot). p.0) (take at items)) (p.0 ∷ [])
        ∙ ap (λ b. has (take at items) i || b) (or-false (p.0 == i))
        ∙ ap (λ n. has (take at items) i || (n == i)) (sym s)

    by : (i ≡ slot) ⊎ (i ≢ slot) → get_or (set there slot true) i false ≡ has (take (at + 1) items) i
    by (inl e) =
        ap (λ n. get_or (set there slot true) n false) e ∙ get_or-set_same there slot true false (omega arith)
        ∙ sym (all ∙ ap (λ b. has (take at items) i || b) (same_key slot i (sym e)) ∙ or-true (has (take at items) i))
    by (inr ne) =
        get_or-set_other there slot i true false ne ∙ so_far i le
        ∙ sym (all ∙ ap (λ b. has (take at items) i || b) (other_key slot i (λ e. ne (sym e))) ∙ or-false (has (take at items) i))

pub all_there : (there : List Bool) (items : List InSlot) (at : ℕ) → length items ≤ at → ((i : ℕ) → i < 256 → get_or there i false ≡ has (take at items) i) → (i : ℕ) → i < 256 → get_or there i false ≡ has items i
all_there there items at le so_far i lt = so_far i lt ∙ ap (λ (l : List InSlot). has l i) (take_all at items le)

-- ---- the whole

same_sums : (f g : ℕ → ℕ) (a n : ℕ) → ((i : ℕ) → a ≤ i → i < a + n → f i ≡ g i) → sum_by f (range_with_len a n) ≡ sum_by g (range_with_len a n)
same_sums f g a zero h = refl
same_sums f g a (suc n) h =
    let here : f a ≡ g a = h a (omega arith) (omega arith) in
    let later : sum_by f (range_with_len (a + 1) n) ≡ sum_by g (range_with_len (a + 1) n) = same_sums f g (a + 1) n (λ i le lt. h i (omega arith) (omega arith)) in
    sum_by-cons f a (range_with_len (a + 1) n) ∙ ap (λ x. x + sum_by f (range_with_len (a + 1) n)) here ∙ ap (λ x. g a + x) later ∙ sym (sum_by-cons g a (range_with_len (a + 1) n))

same_lists : (f g : ℕ → ℕ) (a n : ℕ) → ((i : ℕ) → a ≤ i → i < a + n → f i ≡ g i) → map f (range_with_len a n) ≡ map g (range_with_len a n)
same_lists f g a zero h = refl
same_lists f g a (suc n) h =
    let here : f a ≡ g a = h a (omega arith) (omega arith) in
    let later : map f (range_with_len (a + 1) n) ≡ map g (range_with_len (a + 1) n) = same_lists f g (a + 1) n (λ i le lt. h i (omega arith) (omega arith)) in
    λ i. here i ∷ later i

abbrev slots_of : List InSlot → List ℕ
slots_of items = map (λ (p : InSlot). p.0) items

same_byte : (there : List Bool) (items : List InSlot) → ((i : ℕ) → i < 256 → get_or there i false ≡ has items i) → (n : ℕ) → n < 32 → byte_from there n ≡ bitfield_byte (slots_of items) n
unfolding byte_from bit_from
same_byte there items h n lt = same_sums (bit_from there) (slot_bit (slots_of items)) (8 * n) 8 (λ i le less. ap (λ b. cond b (2 ^ (i % 8)) 0) (h i (omega arith)))

pub bitfield_is : (there : List Bool) (items : List InSlot) (bytes first out empty : List ℕ) → ((i : ℕ) → i < 256 → get_or there i false ≡ has items i) → bytes ≡ map (λ k. byte_from there (31 - k)) (range_with_len 0 32)
    → first ≡ without_zeros bytes → empty ≡ [] → out ≡ empty ++ first → out ≡ bitfield (slots_of items)
unfolding bitfield
bitfield_is there items bytes first out empty h is f e o =
    let all = same_lists (λ k. byte_from there (31 - k)) (λ k. bitfield_byte (slots_of items) (31 - k)) 0 32 (λ k le lt. same_byte there items h (31 - k) (omega arith)) in
    o ∙ ap (λ (x : List ℕ). x ++ first) e ∙ f ∙ ap without_zeros (is ∙ all)
