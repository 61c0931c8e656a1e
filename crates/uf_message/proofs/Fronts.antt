-- Fronts of bytes, one after the other.
use Rattle.std.proofs.Common.{◌≡◌, ℕ, suc, ◌+◌, ◌<◌, ◌≤◌, Bool, true, false, cond, eqb, List, [], ◌∷◌, ◌++◌, length, take, drop, get_or, refl, ap, append_assoc, sym, ◌∙◌, arith, Option, Some, None, drop-cons, drop_of_length-le}
use Rattle.std.specs.Prelude.{flat_map, nat_lt, if◌then◌else◌, ◌&&◌}
use Rattle.std.specs.Bool.{MatchBool}
use Rattle.std.specs.Int.{w64, cast_unsigned}
use Rattle.std.specs.Option.{option_and_then}
use Rattle.std.proofs.lemmas.Bool.{eqb-true, eq-eqb}
use Rattle.std.proofs.lemmas.Bool.Decides.{nat_tests}
use Rattle.std.proofs.lemmas.List.{length-append}
use lib.Pointwise.{pointwise}
use Rattle.uf_varint.specs.Fields.{content_field, number_field, optional}
use Rattle.uf_message.specs.declared.message.Message.{Message}
use Rattle.uf_message.specs.declared.message.Mtime.{Mtime}
use Rattle.uf_message.specs.Left.{left, message_left, is_all}
use Rattle.uf_message.specs.Spelling.{kind_number, fixed_field, mtime_bytes, message_bytes}

pub left_append : (a b bytes : List ℕ) → left (a ++ b) bytes ≡ option_and_then (λ rest. left b rest) (left a bytes)
left_append [] b bytes = refl
left_append (x ∷ xs) b [] = refl
left_append (x ∷ xs) b (y ∷ ys) =
    let later = left_append xs b ys in
    elim (eqb y x) as (λ (t : Bool). cond t (left (xs ++ b) ys) None ≡ option_and_then (λ rest. left b rest) (cond t (left xs ys) None)) [ true ↦ later | false ↦ refl ]

never_less : (n : ℕ) → nat_lt n 0 ≡ false
never_less n = grind (arith, nat_tests)

zero_less : (n : ℕ) → nat_lt 0 (suc n) ≡ true
zero_less n = grind (arith, nat_tests)

less_suc : (n m : ℕ) → nat_lt (suc n) (suc m) ≡ nat_lt n m
less_suc n m = grind (arith, nat_tests)

swapped : (a b c : Bool) (x : Option (List ℕ)) → cond b (cond a None (cond c x None)) None ≡ cond a None (cond (b && c) x None)
swapped true true c x = refl
swapped true false c x = refl
swapped false true c x = refl
swapped false false c x = refl

pub left_is : (f bytes : List ℕ) → left f bytes ≡ (if nat_lt (length bytes) (length f) then None else if pointwise eqb (take (length f) bytes) f then Some (drop (length f) bytes) else None)
left_is [] bytes = rw (never_less (length bytes)) refl
left_is (x ∷ xs) [] = rw (zero_less (length xs)) refl
left_is (x ∷ xs) (y ∷ ys) =
    ap (λ (r : Option (List ℕ)). cond (eqb y x) r None) (left_is xs ys)
    ∙ swapped (nat_lt (length ys) (length xs)) (eqb y x) (pointwise eqb (take (length xs) ys) xs) (Some (drop (length xs) ys))
    ∙ ap (λ (t : Bool). cond t None (cond (eqb y x && pointwise eqb (take (length xs) ys) xs) (Some (drop (length xs) ys)) None)) (sym (less_suc (length ys) (length xs)))

abbrev some : List ℕ → Option (List ℕ)
some xs = Some xs

left_next : (x y : ℕ) (xs ys : List ℕ) (t : Bool) → eqb y x ≡ t → cond t (left xs ys) None ≡ some [] → (left xs ys ≡ some [] → ys ≡ xs) → y ∷ ys ≡ x ∷ xs
left_next x y xs ys true is e later =
    let first : y ≡ x = eqb-true y x is in
    let rest : ys ≡ xs = later e in
    λ i. first i ∷ rest i
left_next x y xs ys false is e later = absurd cc

abbrev none : Option (List ℕ)
none = None

-- where nothing is left, the bytes are the front
left_nothing : (f bytes : List ℕ) → left f bytes ≡ some [] → bytes ≡ f
left_nothing [] [] e = refl
left_nothing [] (y ∷ ys) e = absurd cc
left_nothing (x ∷ xs) [] e = absurd cc
left_nothing (x ∷ xs) (y ∷ ys) e = left_next x y xs ys (eqb y x) refl e (left_nothing xs ys)

left_self : (f : List ℕ) → left f f ≡ some []
left_self [] = refl
left_self (x ∷ xs) = rw (eq-eqb x x refl) (left_self xs)

pub decides : (r : Bool) (f bytes : List ℕ) (found : Option (List ℕ)) → found ≡ left f bytes → r ≡ is_all found → MatchBool r (bytes ≡ f) (bytes ≡ f → ⊥)
decides true f bytes None told is = absurd cc
decides false f bytes None told is = λ e. let other : none ≡ some [] = told ∙ ap (left f) e ∙ left_self f in absurd cc
decides true f bytes (Some []) told is = left_nothing f bytes (sym told)
decides false f bytes (Some []) told is = absurd cc
decides true f bytes (Some (x ∷ xs)) told is = absurd (omega (arith, eqb-true (length (x ∷ xs)) 0 (sym is)))
decides false f bytes (Some (x ∷ xs)) told is = λ e. let other : some (x ∷ xs) ≡ some [] = told ∙ ap (left f) e ∙ left_self f in absurd cc

pub content_left : (content bytes : List ℕ) → left (content_field 0x12 content) bytes ≡ left (number_field 0x12 (length content) ++ content) bytes
content_left content bytes = refl

mtime_left : (t : Mtime) (bytes : List ℕ) → left (content_field 0x42 (mtime_bytes t)) bytes
    ≡ option_and_then (λ rest. left (optional (fixed_field 0x15) t.nanos) rest) (left (number_field 0x42 (length (mtime_bytes t)) ++ number_field 0x08 (cast_unsigned w64 t.seconds)) bytes)
unfolding mtime_bytes
mtime_left t bytes =
    let front = number_field 0x42 (length (mtime_bytes t)) in
    let seconds = number_field 0x08 (cast_unsigned w64 t.seconds) in
    let nanos = optional (fixed_field 0x15) t.nanos in
    ap (λ (xs : List ℕ). left xs bytes) (sym (append_assoc front seconds nanos)) ∙ left_append (front ++ seconds) nanos bytes

time_len : (t : Mtime) (seconds : List ℕ) (n : ℕ) → seconds ≡ number_field 0x08 (cast_unsigned w64 t.seconds) → n ≡ length (optional (fixed_field 0x15) t.nanos) → length seconds + n ≡ length (mtime_bytes t)
unfolding mtime_bytes
time_len t seconds n e k = omega (arith, ap length e, k, length-append (number_field 0x08 (cast_unsigned w64 t.seconds)) (optional (fixed_field 0x15) t.nanos))

-- the front of a time with what the code made of it
pub time_front : (t : Mtime) (front seconds bytes : List ℕ) (n : ℕ) (found : Option (List ℕ)) → seconds ≡ number_field 0x08 (cast_unsigned w64 t.seconds) → n ≡ length (optional (fixed_field 0x15) t.nanos)
    → front ≡ number_field 0x42 (length seconds + n) → found ≡ left (front ++ seconds) bytes
    → option_and_then (λ rest. left (optional (fixed_field 0x15) t.nanos) rest) found ≡ left (content_field 0x42 (mtime_bytes t)) bytes
time_front t front seconds bytes n found s k f e =
    let same : front ≡ number_field 0x42 (length (mtime_bytes t)) = f ∙ ap (number_field 0x42) (time_len t seconds n s k) in
    ap (option_and_then (λ rest. left (optional (fixed_field 0x15) t.nanos) rest)) (e ∙ (λ i. left (same i ++ s i) bytes)) ∙ sym (mtime_left t bytes)

abbrev sizes_bytes : List ℕ → List ℕ
sizes_bytes sizes = flat_map (number_field 0x20) sizes

sizes_next : (sizes : List ℕ) (i : ℕ) (rest : List ℕ) → i < length sizes → left (sizes_bytes (drop i sizes)) rest ≡ option_and_then (λ r. left (sizes_bytes (drop (i + 1) sizes)) r) (left (number_field 0x20 (get_or sizes i 0)) rest)
sizes_next sizes i rest h =
    let next : suc i ≡ i + 1 = omega arith in
    ap (λ (xs : List ℕ). left (sizes_bytes xs) rest) (drop-cons sizes i 0 h ∙ ap (λ (k : ℕ). get_or sizes i 0 ∷ drop k sizes) next)
    ∙ left_append (number_field 0x20 (get_or sizes i 0)) (sizes_bytes (drop (i + 1) sizes)) rest

pub sizes_go_on : (sizes : List ℕ) (i : ℕ) (slice made rest after : List ℕ) (total : Option (List ℕ)) → i < length sizes → slice ≡ made → made ≡ number_field 0x20 (get_or sizes i 0) → some after ≡ left slice rest
    → left (sizes_bytes (drop i sizes)) rest ≡ total → left (sizes_bytes (drop (i + 1) sizes)) after ≡ total
sizes_go_on sizes i slice made rest after total h s m e so_far =
    ap (option_and_then (λ r. left (sizes_bytes (drop (i + 1) sizes)) r)) (e ∙ ap (λ (xs : List ℕ). left xs rest) (s ∙ m)) ∙ sym (sizes_next sizes i rest h) ∙ so_far

pub sizes_break : (sizes : List ℕ) (i : ℕ) (slice made rest : List ℕ) (total : Option (List ℕ)) → i < length sizes → slice ≡ made → made ≡ number_field 0x20 (get_or sizes i 0) → none ≡ left slice rest
    → left (sizes_bytes (drop i sizes)) rest ≡ total → none ≡ total
sizes_break sizes i slice made rest total h s m e so_far =
    ap (option_and_then (λ r. left (sizes_bytes (drop (i + 1) sizes)) r)) (e ∙ ap (λ (xs : List ℕ). left xs rest) (s ∙ m)) ∙ sym (sizes_next sizes i rest h) ∙ so_far

pub sizes_end : (sizes : List ℕ) (i : ℕ) (rest : List ℕ) (total : Option (List ℕ)) → length sizes ≤ i → left (sizes_bytes (drop i sizes)) rest ≡ total → some rest ≡ total
sizes_end sizes i rest total h so_far = ap (λ (xs : List ℕ). left (sizes_bytes xs) rest) (sym (drop_of_length-le sizes h)) ∙ so_far

all_parts : (a b c d e f g h bytes : List ℕ) → left (a ++ (b ++ (c ++ (d ++ (e ++ (f ++ (g ++ h))))))) bytes
    ≡ option_and_then (λ r. option_and_then (λ s. option_and_then (λ t. option_and_then (λ u. option_and_then (λ v. option_and_then (λ w. option_and_then (λ x. left h x) (left g w)) (left f v)) (left e u)) (left d t)) (left c s)) (left b r)) (left a bytes)
all_parts a b c d e f g h bytes = simp left_append

pub message_parts : (m : Message) (bytes : List ℕ) → message_left m bytes ≡ left (message_bytes m) bytes
unfolding message_left message_bytes
message_parts m bytes = sym (all_parts (number_field 0x08 (kind_number m.kind)) (optional (content_field 0x12) m.content) (optional (number_field 0x18) m.filesize) (flat_map (number_field 0x20) m.blocksizes)
    (optional (number_field 0x28) m.hash_type) (optional (number_field 0x30) m.fanout) (optional (number_field 0x38) m.mode) (optional (λ t. content_field 0x42 (mtime_bytes t)) m.mtime) bytes)
