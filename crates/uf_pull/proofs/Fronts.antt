-- What the first bytes of a frame decide: its size, and then all of it.
use Rattle.std.proofs.Common.{◌≡◌, ℕ, zero, suc, ◌+◌, ◌-◌, ◌≤◌, ◌<◌, List, [], ◌∷◌, ◌++◌, length, take, drop, Bool, true, false, ◌||◌, refl, sym, ap, subst, ◌∙◌, arith, length-append, length-drop, length-take-le, Result, Ok, Err}
use Rattle.std.proofs.lemmas.List.{take-append-le, drop-append-le, take-append-drop}
use Rattle.std.proofs.lemmas.Bool.Decides.{nat_tests}
use Rattle.std.specs.Prelude.{nat_lt, ◌==◌, if◌then◌else◌, Option, Some, None, ⊤}
use Rattle.uf_varint.specs.declared.varint.Var.{Var}
use Rattle.uf_varint.specs.declared.varint.Var.TheVariants.{Value, Short, Bad}
use Rattle.uf_varint.specs.Varint.{read_multi_of}
use Rattle.uf_cid.specs.Read.{cid_at}
use Rattle.uf_cid.specs.declared.cid.Cid.{Cid}
use Rattle.uf_pull.specs.Frames.{Begins, BreaksOff, Deviates, Frame, Giving, Lacking, Stands, all_of_36, begins, front_size, giving_at, giving_in, giving_with, lacking_in, lacking_with, size_by}
use Rattle.uf_pull.specs.Reading.{IsLength}
use Rattle.uf_pull.proofs.Lengths.{length_stable, length_used, long_enough}

pub nat_lt-true : (n m : ℕ) → nat_lt n m ≡ true → n < m
nat_lt-true n m e = grind (arith, nat_tests)

pub nat_lt-false : (n m : ℕ) → nat_lt n m ≡ false → m ≤ n
nat_lt-false n m e = grind (arith, nat_tests)

pub below : (n m : ℕ) → n < m → nat_lt n m ≡ true
below n m e = grind (arith, nat_tests)

pub not_below : (n m : ℕ) → m ≤ n → nat_lt n m ≡ false
not_below n m e = grind (arith, nat_tests)

-- a length that was read has nine bytes at most
pub is_length : (bytes : List ℕ) (v : Var) → v ≡ read_multi_of bytes → IsLength v
is_length bytes (Value n used) e = length_used bytes n used (sym e)
is_length bytes Short e = tt
is_length bytes Bad e = tt

-- a part of the first bytes, whatever follows
pub part : (from k : ℕ) (xs ys : List ℕ) → from + k ≤ length xs → take k (drop from (xs ++ ys)) ≡ take k (drop from xs)
part from k xs ys h =
    ap (take k) (drop-append-le from xs ys (omega arith))
    ∙ take-append-le k (drop from xs) ys (let size : length (drop from xs) ≡ length xs - from = length-drop from xs in omega (arith, size))

-- the first bytes say the same whatever follows them; where they say a frame, it is all of them, and they don't end inside one
abbrev pub OneSaid : Begins → Begins → ℕ → Type 0
OneSaid more said all = (more ≡ said) × ((frame : Frame) (n : ℕ) → said ≡ Stands frame n → n ≡ all) × (said ≡ BreaksOff → ⊥)

-- ---- a frame of 37 bytes

pub lacked : (frame : Frame) (n : ℕ) (t : Bool) (o : Option Cid) → (if t then BreaksOff else lacking_with o) ≡ Stands frame n → n ≡ 37
lacked frame n true o e = cc
lacked frame n false None e = cc
lacked frame n false (Some c) e = let size : 37 ≡ n = cc in sym size

same_lacking : (xs rest : List ℕ) → length xs ≡ 36 → lacking_in (xs ++ rest) ≡ lacking_in xs
same_lacking xs rest h =
    let size : length (xs ++ rest) ≡ length xs + length rest = length-append xs rest in
    let test : nat_lt (length (xs ++ rest)) 36 ≡ nat_lt (length xs) 36 = not_below (length (xs ++ rest)) 36 (omega (arith, size)) ∙ sym (not_below (length xs) 36 (omega arith)) in
    let front : take 36 (xs ++ rest) ≡ take 36 xs = take-append-le 36 xs rest (omega arith) in
    λ i. if test i then BreaksOff else lacking_with (all_of_36 (cid_at (front i)))

whole_lacking : (xs : List ℕ) → length xs ≡ 36 → lacking_in xs ≡ BreaksOff → ⊥
whole_lacking xs h e = by (nat_lt (length xs) 36) refl (all_of_36 (cid_at (take 36 xs))) e
  where
    by : (t : Bool) → nat_lt (length xs) 36 ≡ t → (o : Option Cid) → (if t then BreaksOff else lacking_with o) ≡ BreaksOff → ⊥
    by true small o is = let less : length xs < 36 = nat_lt-true (length xs) 36 small in omega arith
    by false small None is = cc
    by false small (Some c) is = cc

-- ---- a frame with a length

pub gave : (frame : Frame) (n front size : ℕ) (bytes : List ℕ) (t u : Bool) (o : Option Cid)
    → (if t then BreaksOff else elim o as (λ x. Begins) [ Some c ↦ (if u then BreaksOff else Stands (Giving c (take (size - 36) (drop (front + 36) bytes))) (front + size)) | None ↦ Deviates ]) ≡ Stands frame n
    → n ≡ front + size
gave frame n front size bytes true u o e = cc
gave frame n front size bytes false u None e = cc
gave frame n front size bytes false true (Some c) e = cc
gave frame n front size bytes false false (Some c) e = let is : front + size ≡ n = cc in sym is

module _ (got rest : List ℕ) (front size : ℕ) (least : 36 ≤ size) (all : front + size ≡ length got) where
  longer : (k : ℕ) → k ≤ length got → nat_lt (length (got ++ rest)) k ≡ nat_lt (length got) k
  longer k h =
      let size : length (got ++ rest) ≡ length got + length rest = length-append got rest in
      not_below (length (got ++ rest)) k (omega (arith, size)) ∙ sym (not_below (length got) k h)

  same_with : (o : Option Cid) → giving_with front size (got ++ rest) o ≡ giving_with front size got o
  same_with None = refl
  same_with (Some c) =
      let test = longer (front + size) (omega arith) in
      let block = part (front + 36) (size - 36) got rest (omega arith) in
      λ i. if test i then BreaksOff else Stands (Giving c (block i)) (front + size)

  same_giving : giving_at front size (got ++ rest) ≡ giving_at front size got
  same_giving =
      let test = longer (front + 36) (omega arith) in
      let cid = part front 36 got rest (omega arith) in
      (λ i. if test i then BreaksOff else giving_with front size (got ++ rest) (all_of_36 (cid_at (cid i))))
      ∙ ap (λ (x : Begins). if nat_lt (length got) (front + 36) then BreaksOff else x) (same_with (all_of_36 (cid_at (take 36 (drop front got)))))

  whole_with : (o : Option Cid) → giving_with front size got o ≡ BreaksOff → ⊥
  whole_with None e = cc
  whole_with (Some c) e = by (nat_lt (length got) (front + size)) refl e
    where
      by : (t : Bool) → nat_lt (length got) (front + size) ≡ t → (if t then BreaksOff else Stands (Giving c (take (size - 36) (drop (front + 36) got))) (front + size)) ≡ BreaksOff → ⊥
      by true small is = let less : length got < front + size = nat_lt-true (length got) (front + size) small in omega arith
      by false small is = cc

  whole_giving : giving_at front size got ≡ BreaksOff → ⊥
  whole_giving e = by (nat_lt (length got) (front + 36)) refl e
    where
      by : (t : Bool) → nat_lt (length got) (front + 36) ≡ t → (if t then BreaksOff else giving_with front size got (all_of_36 (cid_at (take 36 (drop front got))))) ≡ BreaksOff → ⊥
      by true small is = let less : length got < front + 36 = nat_lt-true (length got) (front + 36) small in omega arith
      by false small is = whole_with (all_of_36 (cid_at (take 36 (drop front got)))) is

-- what a length says of these bytes, and of more
one_with : (got rest : List ℕ) (v : Var) → (v ≡ Short → ⊥) → size_by v ≡ length got → OneSaid (giving_in (got ++ rest) v) (giving_in got v) (length got)
one_with got rest Short none all = absurd (none refl)
one_with got rest Bad none all = (refl, λ frame n e. cc, λ e. cc)
one_with got rest (Value size used) none all = by (nat_lt size 36) (nat_lt 2097188 size) refl all
  where
    by : (x y : Bool) → nat_lt size 36 ≡ x → (if x || y then 37 else used + 1 + size) ≡ length got
        → OneSaid (if x || y then Deviates else giving_at (used + 1) size (got ++ rest)) (if x || y then Deviates else giving_at (used + 1) size got) (length got)
    by true y small is = (refl, λ frame n e. cc, λ e. cc)
    by false true small is = (refl, λ frame n e. cc, λ e. cc)
    by false false small is = (
      same_giving got rest (used + 1) size (nat_lt-false size 36 small) is,
      λ frame n e. gave frame n (used + 1) size got _ _ _ e ∙ is,
      whole_giving got rest (used + 1) size (nat_lt-false size 36 small) is,
    )

-- the bytes are those of one frame, as far as its length tells: what follows them doesn't matter
pub one : (got rest : List ℕ) → 37 ≤ length got → front_size (take 37 got) ≡ length got → OneSaid (begins (got ++ rest)) (begins got) (length got)
unfolding begins front_size
one [] rest least all = absurd (omega arith)
one (b ∷ xs) rest least all = by (b == 0) (b == 1) refl refl all
  where
    enough : 36 ≤ length xs
    enough = omega arith

    whole : read_multi_of (xs ++ rest) ≡ read_multi_of xs
    whole = length_stable xs rest (long_enough xs (omega (arith, enough)))

    front : read_multi_of (take 36 xs) ≡ read_multi_of xs
    front =
        let size : length (take 36 xs) ≡ 36 = length-take-le 36 xs enough in
        sym (ap read_multi_of (sym (take-append-drop 36 xs)) ∙ length_stable (take 36 xs) (drop 36 xs) (long_enough (take 36 xs) (omega (arith, size))))

    by : (x y : Bool) → (b == 0) ≡ x → (b == 1) ≡ y → (if y then size_by (read_multi_of (take 36 xs)) else 37) ≡ length (b ∷ xs)
        → OneSaid (if x then lacking_in (xs ++ rest) else if y then giving_in (b ∷ xs ++ rest) (read_multi_of (xs ++ rest)) else Deviates)
        (if x then lacking_in xs else if y then giving_in (b ∷ xs) (read_multi_of xs) else Deviates) (length (b ∷ xs))
    by true true zero_is one_is is = absurd (grind (arith, nat_tests))
    by true false zero_is one_is is =
        let size : length xs ≡ 36 = omega arith in
        (same_lacking xs rest size, λ frame n e. lacked frame n _ _ e ∙ is, whole_lacking xs size)
    by false true zero_is one_is is =
        subst (λ (v : Var). OneSaid (giving_in (b ∷ xs ++ rest) v) (giving_in (b ∷ xs) (read_multi_of xs)) (length (b ∷ xs))) (sym whole)
        (one_with (b ∷ xs) rest (read_multi_of xs) (long_enough xs (omega (arith, enough))) (ap size_by (sym front) ∙ is))
    by false false zero_is one_is is = (refl, λ frame n e. cc, λ e. cc)
