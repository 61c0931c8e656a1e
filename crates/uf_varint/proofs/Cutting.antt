-- Fields cut from bytes, one after the other.
use Rattle.std.proofs.Common.{◌≡◌, ℕ, zero, suc, ◌%◌, ◌^◌, ◌<◌, ◌≤◌, List, [], ◌∷◌, ◌++◌, length, take, drop, refl, ap, append_assoc, arith, sym, ◌∙◌, false, nat_eq, Ok, Err, Result}
use Rattle.std.specs.Prelude.{IfOk, nat_lt, nat_le}
use Rattle.std.proofs.lemmas.Bool.{le-ltb, cond_both}
use Rattle.std.proofs.lemmas.List.{length-append, length-drop, take_at, drop_at}
use Rattle.uf_varint.specs.declared.varint.Var.{Var}
use Rattle.uf_varint.specs.declared.varint.Var.TheVariants.{Value, Short, Bad}
use Rattle.uf_varint.specs.declared.fields.CutFault.{CutFault}
use Rattle.uf_varint.specs.declared.fields.CutFault.TheVariants.{Truncated}
use Rattle.uf_varint.specs.Varint.{varint, varint_within, read_proto_of, proto_within, with_low, IsWithin}
use Rattle.uf_varint.specs.Fields.{◌>>=◌, Content, Number, Bytes, Field, Keyed, number_after, number_at, piece_at, bytes_at, as_number, as_bytes, content_at, field_then, key_then, fields_within, fields, number_field, content_field}
use Rattle.uf_varint.proofs.Varints.{read_proto_of-varint, below}

with_low_within : (b most : ℕ) (read : Var) → IsWithin read most → IsWithin (with_low b read) (suc most)
with_low_within b most (Value n used) h = (omega (arith, h.0), omega (arith, h.1))
with_low_within b most Short h = tt
with_low_within b most Bad h = tt

proto_is_within : (room : ℕ) (bytes : List ℕ) → IsWithin (proto_within room bytes) (length bytes)
unfolding proto_within
proto_is_within zero [] = tt
proto_is_within (suc room) [] = tt
proto_is_within zero (b ∷ bs) = cond_both (nat_le b 1) (Value b 1) Bad (λ r. IsWithin r (suc (length bs))) (λ e. (omega arith, omega arith)) (λ e. tt)
proto_is_within (suc room) (b ∷ bs) =
    let later = proto_is_within room bs in
    cond_both (nat_lt b 128) (Value b 1) (with_low b (proto_within room bs)) (λ r. IsWithin r (suc (length bs))) (λ e. (omega arith, omega arith)) (λ e. with_low_within b (length bs) (proto_within room bs) later)

read_proto_is_within : (bytes : List ℕ) → IsWithin (read_proto_of bytes) (length bytes)
unfolding read_proto_of
read_proto_is_within bytes = proto_is_within 9 bytes

-- what stands behind what was cut is shorter
abbrev Leaves : {A : Type 0} → ℕ → Result (A × List ℕ) CutFault → Type 0
Leaves most r = IfOk r (λ x. length x.1 < most)

abbrev LeavesUpTo : {A : Type 0} → ℕ → Result (A × List ℕ) CutFault → Type 0
LeavesUpTo most r = IfOk r (λ x. length x.1 ≤ most)

number_after_leaves : (bytes : List ℕ) (read : Var) → IsWithin read (length bytes) → Leaves (length bytes) (number_after bytes read)
number_after_leaves bytes (Value n used) h = omega (arith, h.0, h.1, length-drop used bytes)
number_after_leaves bytes Short h = tt
number_after_leaves bytes Bad h = tt

pub number_leaves : (bytes : List ℕ) → Leaves (length bytes) (number_at bytes)
unfolding number_at
number_leaves bytes = number_after_leaves bytes (read_proto_of bytes) (read_proto_is_within bytes)

pub piece_leaves : (n : ℕ) (bytes : List ℕ) → LeavesUpTo (length bytes) (piece_at n bytes)
unfolding piece_at
piece_leaves n bytes =
    let P : Result (List ℕ × List ℕ) CutFault → Type 0 = λ r. LeavesUpTo (length bytes) r in
    cond_both (nat_lt (length bytes) n) (Err Truncated) (Ok (take n bytes, drop n bytes)) P (λ e. tt) (λ e. omega (arith, length-drop n bytes))

same_length : (n : ℕ) → n ≤ n
same_length n = omega arith

further : {A : Type 0} (most more : ℕ) (r : Result (A × List ℕ) CutFault) → most ≤ more → LeavesUpTo most r → LeavesUpTo more r
further most more (Err e) h k = tt
further most more (Ok y) h k = omega (arith, h, k)

bind_leaves : {A B : Type 0} (f : A × List ℕ → Result (B × List ℕ) CutFault) (most : ℕ) (r : Result (A × List ℕ) CutFault) → LeavesUpTo most r → ((x : A × List ℕ) → LeavesUpTo (length x.1) (f x)) → LeavesUpTo most (r >>= f)
bind_leaves f most (Err e) h g = tt
bind_leaves f most (Ok x) h g = further (length x.1) most (f x) h (g x)

up_to : {A : Type 0} (most : ℕ) (r : Result (A × List ℕ) CutFault) → Leaves most r → LeavesUpTo most r
up_to most (Err e) h = tt
up_to most (Ok x) h = omega (arith, h)

pub bytes_leave : (bytes : List ℕ) → LeavesUpTo (length bytes) (bytes_at bytes)
unfolding bytes_at
bytes_leave bytes = bind_leaves (λ n. piece_at n.0 n.1) (length bytes) (number_at bytes) (up_to (length bytes) (number_at bytes) (number_leaves bytes)) (λ n. piece_leaves n.0 n.1)

content_leaves : (wire : ℕ) (bytes : List ℕ) → LeavesUpTo (length bytes) (content_at wire bytes)
unfolding content_at
content_leaves wire bytes =
    let P : Result (Content × List ℕ) CutFault → Type 0 = λ r. LeavesUpTo (length bytes) r in
    let number : P (number_at bytes >>= as_number) = bind_leaves as_number (length bytes) (number_at bytes) (up_to (length bytes) (number_at bytes) (number_leaves bytes)) (λ n. same_length (length n.1)) in
    let eight : P (piece_at 8 bytes >>= as_bytes) = bind_leaves as_bytes (length bytes) (piece_at 8 bytes) (piece_leaves 8 bytes) (λ b. same_length (length b.1)) in
    let several : P (bytes_at bytes >>= as_bytes) = bind_leaves as_bytes (length bytes) (bytes_at bytes) (bytes_leave bytes) (λ b. same_length (length b.1)) in
    let four : P (piece_at 4 bytes >>= as_bytes) = bind_leaves as_bytes (length bytes) (piece_at 4 bytes) (piece_leaves 4 bytes) (λ b. same_length (length b.1)) in
    cond_both (nat_eq wire 0) _ _ P (λ e. number)
    (λ e. cond_both (nat_eq wire 1) _ _ P (λ e. eight)
    (λ e. cond_both (nat_eq wire 2) _ _ P (λ e. several)
    (λ e. cond_both (nat_eq wire 5) _ _ P (λ e. four) (λ e. tt))))

-- two ways to go on that agree on shorter bytes
field_same : (f g : List ℕ → List Field) (key most : ℕ) (r : Result (Content × List ℕ) CutFault) → LeavesUpTo most r → ((rest : List ℕ) → length rest ≤ most → f rest ≡ g rest) → field_then key f r ≡ field_then key g r
field_same f g key most (Err e) h same = refl
field_same f g key most (Ok c) h same = ap (λ (later : List Field). Keyed key (Ok c.0) ∷ later) (same c.1 h)

key_same : (f g : List ℕ → List Field) (most : ℕ) (r : Result (ℕ × List ℕ) CutFault) → Leaves most r → ((rest : List ℕ) → length rest < most → f rest ≡ g rest) → key_then f r ≡ key_then g r
key_same f g most (Err e) h same = refl
key_same f g most (Ok n) h same = field_same f g n.0 (length n.1) (content_at (n.0 % 8) n.1) (content_leaves (n.0 % 8) n.1) (λ rest le. same rest (omega (arith, h, le)))

-- more room for fields than there are bytes
enough : (n m : ℕ) (bytes : List ℕ) → length bytes ≤ n → length bytes ≤ m → fields_within n bytes ≡ fields_within m bytes
unfolding fields_within
enough zero zero [] p q = refl
enough zero (suc m) [] p q = refl
enough (suc n) zero [] p q = refl
enough (suc n) (suc m) [] p q = refl
enough zero m (b ∷ bs) p q = absurd (omega arith)
enough (suc n) zero (b ∷ bs) p q = absurd (omega arith)
enough (suc n) (suc m) (b ∷ bs) p q =
    let again = enough n in
    key_same (λ rest. fields_within n rest) (λ rest. fields_within m rest) (suc (length bs)) (number_at (b ∷ bs)) (number_leaves (b ∷ bs)) (λ rest lt. again m rest (omega (arith, lt, p)) (omega (arith, lt, q)))

pub fields-cons : (b : ℕ) (bytes : List ℕ) → fields (b ∷ bytes) ≡ key_then fields (number_at (b ∷ bytes))
unfolding fields fields_within
fields-cons b bytes =
    key_same (λ rest. fields_within (length bytes) rest) fields (suc (length bytes)) (number_at (b ∷ bytes)) (number_leaves (b ∷ bytes)) (λ rest lt. enough (length bytes) (length rest) rest (omega (arith, lt)) (same_length (length rest)))

-- ---- what was written is cut again

pub number_at-varint : (n : ℕ) (rest : List ℕ) → n < 2 ^ 64 → number_at (varint n ++ rest) ≡ Ok (n, rest)
unfolding number_at
number_at-varint n rest h =
    ap (number_after (varint n ++ rest)) (read_proto_of-varint n rest h)
    ∙ ap (λ (later : List ℕ). Ok (n, later)) (drop_at (varint n) rest (length (varint n)) refl)

one_byte_key : (key : ℕ) → key < 128 → varint key ≡ key ∷ []
unfolding varint varint_within
one_byte_key key h = rw (below key 128 h) refl

number_at_key : (key : ℕ) (rest : List ℕ) → key < 128 → number_at (key ∷ rest) ≡ Ok (key, rest)
number_at_key key rest h = ap (λ (front : List ℕ). number_at (front ++ rest)) (sym (one_byte_key key h)) ∙ number_at-varint key rest (omega arith)

-- the first field, from its key and its content
first_field : (key : ℕ) (bytes rest : List ℕ) (content : Content) → key < 128 → content_at (key % 8) bytes ≡ Ok (content, rest) → fields (key ∷ bytes) ≡ Keyed key (Ok content) ∷ fields rest
first_field key bytes rest content h c =
    fields-cons key bytes ∙ ap (key_then fields) (number_at_key key bytes h) ∙ ap (field_then key fields) c

pub fields-number_field : (key n : ℕ) (rest : List ℕ) → key < 128 → key % 8 ≡ 0 → n < 2 ^ 64 → fields (number_field key n ++ rest) ≡ Keyed key (Ok (Number n)) ∷ fields rest
unfolding content_at
fields-number_field key n rest small wire h =
    first_field key (varint n ++ rest) rest (Number n) small
    (ap (λ w. content_at w (varint n ++ rest)) wire ∙ ap (λ r. r >>= as_number) (number_at-varint n rest h))

piece_at_front : (bytes rest : List ℕ) → piece_at (length bytes) (bytes ++ rest) ≡ Ok (bytes, rest)
unfolding piece_at
piece_at_front bytes rest =
    let long : nat_lt (length (bytes ++ rest)) (length bytes) ≡ false = le-ltb _ _ (omega (arith, length-append bytes rest)) in
    rw (long, take_at bytes rest (length bytes) refl, drop_at bytes rest (length bytes) refl) refl

pub bytes_at_front : (bytes rest : List ℕ) → length bytes < 2 ^ 64 → bytes_at (varint (length bytes) ++ (bytes ++ rest)) ≡ Ok (bytes, rest)
unfolding bytes_at
bytes_at_front bytes rest h =
    ap (λ (r : Result (ℕ × List ℕ) CutFault). r >>= λ n. piece_at n.0 n.1) (number_at-varint (length bytes) (bytes ++ rest) h) ∙ piece_at_front bytes rest

pub fields-content_field : (key : ℕ) (bytes rest : List ℕ) → key < 128 → key % 8 ≡ 2 → length bytes < 2 ^ 64 → fields (content_field key bytes ++ rest) ≡ Keyed key (Ok (Bytes bytes)) ∷ fields rest
unfolding content_at
fields-content_field key bytes rest small wire h =
    ap fields (append_assoc (key ∷ varint (length bytes)) bytes rest)
    ∙ first_field key (varint (length bytes) ++ (bytes ++ rest)) rest (Bytes bytes) small
    (ap (λ w. content_at w (varint (length bytes) ++ (bytes ++ rest))) wire ∙ ap (λ (r : Result (List ℕ × List ℕ) CutFault). r >>= as_bytes) (bytes_at_front bytes rest h))
