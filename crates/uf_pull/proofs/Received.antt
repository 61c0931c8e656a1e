-- What begins the bytes of a source, from what was read of them.
use Rattle.std.proofs.Common.{◌≡◌, ℕ, ◌+◌, ◌-◌, ◌≤◌, ◌<◌, List, [], ◌∷◌, ◌++◌, length, take, drop, append-nil, append_assoc, length-drop, length-take-le, take-append-drop, refl, sym, ap, subst, ◌∙◌, arith, Bool, true, false, ◌||◌, ◌⊎◌, inl, inr}
use Rattle.std.proofs.Math.Seq.{take-add}
use Rattle.std.proofs.lemmas.List.{drop_all, drop_at, take-append-le, take-take}
use Rattle.std.specs.Prelude.{Option, Some, None, nat_lt, ◌==◌, if◌then◌else◌}
use Rattle.std.proofs.lemmas.Bool.Decides.{nat_tests}
use Rattle.uf_edge.specs.Streams.{EndsIn, IsAtEnd, Told, before as in_front}
use Rattle.uf_varint.specs.declared.varint.Var.{Var}
use Rattle.uf_varint.specs.declared.varint.Var.TheVariants.{Value, Short, Bad}
use Rattle.uf_varint.specs.Varint.{read_multi_of}
use Rattle.uf_pull.specs.declared.frame.FrameFront.{FrameFront}
use Rattle.uf_pull.specs.declared.frame.FrameFront.TheVariants as front
use Rattle.uf_pull.specs.Frames.{Begins, BreaksOff, Deviates, Frame, Giving, Stands, begins, front_size, giving_at, giving_in, lacking_in, size_by}
use Rattle.uf_pull.specs.Reading.{FitsFront, IsLeftBehind, ReadsFront, bytes_between, front_says}
use Rattle.uf_pull.proofs.Fronts.{gave, lacked, one, part}
use Rattle.uf_pull.proofs.Lengths.{length_stable, long_enough}
use Rattle.uf_pull.proofs.Listing.{frame_some}

-- what is left of a source that gave some bytes
pub record Left (bytes given : List ℕ) (left_now : Told) : Type 0 where
  pub rest : List ℕ
  pub is : left_now ≡ Some rest
  pub all : bytes ≡ given ++ rest

pub left_of : (bytes given : List ℕ) (left left_now : Told) → left ≡ Some bytes → left ≡ in_front given left_now → Left bytes given left_now
left_of bytes given left None is taken = absurd (let no : ◌≡◌ {A = Option (List ℕ)} (Some bytes) None = sym is ∙ taken in cc)
left_of bytes given left (Some rest) is taken =
    record { rest = rest; is = refl; all = let same : ◌≡◌ {A = Option (List ℕ)} (Some bytes) (Some (given ++ rest)) = sym is ∙ taken in cc }

pub none_left : (left_now : Told) (rest : List ℕ) → left_now ≡ Some rest → IsAtEnd left_now → rest ≡ []
none_left left_now rest is at = subst IsAtEnd is at

-- a front of these bytes is one of more
says_more : (xs ys : List ℕ) (f : FrameFront) → FitsFront (length xs) f → front_says (xs ++ ys) f ≡ front_says xs f
says_more xs ys front.Cut fits = refl
says_more xs ys front.Wrong fits = refl
says_more xs ys (front.Lacks c) fits = refl
says_more xs ys (front.Gives c from to) fits =
    ap (λ (block : List ℕ). Stands (Giving c block) to) (part from (to - from) xs ys (omega (arith, fits.0, fits.1)))

pub says_in : (n : ℕ) (buffer : List ℕ) (f : FrameFront) → FitsFront (length (take n buffer)) f → front_says buffer f ≡ front_says (take n buffer) f
says_in n buffer f fits = ap (λ (xs : List ℕ). front_says xs f) (sym (take-append-drop n buffer)) ∙ says_more (take n buffer) (drop n buffer) f fits

pub fits_in : (n size : ℕ) (f : FrameFront) → n ≤ size → FitsFront n f → FitsFront size f
fits_in n size front.Cut few fits = tt
fits_in n size front.Wrong few fits = tt
fits_in n size (front.Lacks c) few fits = tt
fits_in n size (front.Gives c from to) few fits = (fits.0, omega (arith, fits.1), fits.2, fits.3)

-- ---- a frame has as many bytes as its first ones tell

given_size : (frame : Frame) (n : ℕ) (bytes : List ℕ) (v : Var) → giving_in bytes v ≡ Stands frame n → n ≡ size_by v
given_size frame n bytes Short e = cc
given_size frame n bytes Bad e = cc
given_size frame n bytes (Value size used) e = by (nat_lt size 36) (nat_lt 2097188 size) e
  where
    by : (x y : Bool) → (if x || y then Deviates else giving_at (used + 1) size bytes) ≡ Stands frame n → n ≡ (if x || y then 37 else used + 1 + size)
    by true y is = cc
    by false true is = cc
    by false false is = gave frame n (used + 1) size bytes _ _ _ is

pub frame_size : (frame : Frame) (n : ℕ) (bytes : List ℕ) → 37 ≤ length bytes → begins bytes ≡ Stands frame n → n ≡ front_size (take 37 bytes)
unfolding begins front_size
frame_size frame n [] least e = absurd (omega arith)
frame_size frame n (b ∷ xs) least e = by (b == 0) (b == 1) refl refl e
  where
    enough : 36 ≤ length xs
    enough = omega arith

    same : read_multi_of (take 36 xs) ≡ read_multi_of xs
    same =
        let size : length (take 36 xs) ≡ 36 = length-take-le 36 xs enough in
        sym (ap read_multi_of (sym (take-append-drop 36 xs)) ∙ length_stable (take 36 xs) (drop 36 xs) (long_enough (take 36 xs) (omega (arith, size))))

    by : (x y : Bool) → (b == 0) ≡ x → (b == 1) ≡ y → (if x then lacking_in xs else if y then giving_in (b ∷ xs) (read_multi_of xs) else Deviates) ≡ Stands frame n
        → n ≡ (if y then size_by (read_multi_of (take 36 xs)) else 37)
    by true true zero_is one_is is = absurd (grind (arith, nat_tests))
    by true false zero_is one_is is = lacked frame n _ _ is
    by false true zero_is one_is is = given_size frame n (b ∷ xs) (read_multi_of xs) is ∙ ap size_by (sym same)
    by false false zero_is one_is is = cc

-- ---- all that was read

-- nothing stands behind
none_behind : (bytes : List ℕ) → ((frame : Frame) (n : ℕ) → begins bytes ≡ Stands frame n → length bytes ≤ n) → IsLeftBehind bytes (begins bytes) []
none_behind bytes all = by (begins bytes) refl
  where
    by : (x : Begins) → begins bytes ≡ x → IsLeftBehind bytes x []
    by (Stands frame n) is = sym (drop_all n bytes (all frame n is))
    by BreaksOff is = refl
    by Deviates is = tt

all_behind : (bytes rest : List ℕ) → ((frame : Frame) (n : ℕ) → begins bytes ≡ Stands frame n → drop n bytes ≡ rest) → (begins bytes ≡ BreaksOff → ⊥) → IsLeftBehind bytes (begins bytes) rest
all_behind bytes rest all whole = by (begins bytes) refl
  where
    by : (x : Begins) → begins bytes ≡ x → IsLeftBehind bytes x rest
    by (Stands frame n) is = sym (all frame n is)
    by BreaksOff is = absurd (whole is)
    by Deviates is = tt

-- the source has ended behind bytes that are fewer than a frame has that begins so
pub ends_front : (n : ℕ) (buffer bytes : List ℕ) (f : FrameFront) (left_now : Told) → bytes ≡ take n buffer → (length bytes < 37) ⊎ ((37 ≤ length bytes) × (length bytes < front_size (take 37 bytes)))
    → front_says (take n buffer) f ≡ begins (take n buffer) → FitsFront (length (take n buffer)) f → left_now ≡ Some [] → ReadsFront buffer bytes f left_now
ends_front n buffer bytes f left_now is few says fits left = record {
  rest = [];
  says = ap begins is ∙ sym says ∙ sym (says_in n buffer f fits);
  left = left;
  behind = none_behind bytes (λ frame k e. by frame k e few);
}
  where
    by : (frame : Frame) (k : ℕ) → begins bytes ≡ Stands frame k → (length bytes < 37) ⊎ ((37 ≤ length bytes) × (length bytes < front_size (take 37 bytes))) → length bytes ≤ k
    by frame k e (inl short) = let least = frame_some frame k bytes e in omega (arith, least, short)
    by frame k e (inr cut) = let size = frame_size frame k bytes cut.0 e in omega (arith, size, cut.1)

-- all bytes are there that a frame has that begins so
pub fills_front : (n : ℕ) (buffer bytes rest : List ℕ) (f : FrameFront) (left_now : Told) → bytes ≡ take n buffer ++ rest → n ≤ length buffer → 37 ≤ n → front_size (take 37 (take n buffer)) ≡ n
    → front_says (take n buffer) f ≡ begins (take n buffer) → FitsFront (length (take n buffer)) f → left_now ≡ Some rest → ReadsFront buffer bytes f left_now
fills_front n buffer bytes rest f left_now is fits least size says inside left =
    let all : length (take n buffer) ≡ n = length-take-le n buffer fits in
    let whole = one (take n buffer) rest (omega (arith, all)) (size ∙ sym all) in
    record {
      rest = rest;
      says = ap begins is ∙ whole.0 ∙ sym says ∙ sym (says_in n buffer f inside);
      left = left;
      behind = all_behind bytes rest (λ frame k e. by frame k whole.0 (whole.1 frame k) e) (λ e. whole.2 (sym whole.0 ∙ ap begins (sym is) ∙ e));
    }
  where
    by : (frame : Frame) (k : ℕ) → begins (take n buffer ++ rest) ≡ begins (take n buffer) → (begins (take n buffer) ≡ Stands frame k → k ≡ length (take n buffer)) → begins bytes ≡ Stands frame k → drop k bytes ≡ rest
    by frame k same used e =
        ap (drop k) is ∙ drop_at (take n buffer) rest k (sym (used (sym same ∙ ap begins (sym is) ∙ e)))

-- ---- in two readings

module _ (buffer : List ℕ) (f : FrameFront) (bytes : List ℕ) (left left_now : Told) (is : left ≡ Some bytes) (least : 37 ≤ length buffer) where
  -- the source ended before as many bytes came as a frame has at least
  pub first_ended : (slice : List ℕ) (got : ℕ) → slice ≡ buffer → EndsIn got (bytes_between 0 37 buffer) left left_now → front_says (take got slice) f ≡ begins (take got slice) → FitsFront (length (take got slice)) f
      → ReadsFront buffer bytes f left_now
  first_ended slice got same ends says fits =
      let size : length (take 37 buffer) ≡ 37 = length-take-le 37 buffer least in
      let few : got < length (take 37 buffer) = ends.fits in
      let there = left_of bytes (take got (take 37 buffer)) left left_now is ends.taken in
      let none : there.rest ≡ [] = none_left left_now there.rest there.is ends.nothing_left in
      let all : bytes ≡ take got buffer = there.all ∙ ap (λ (xs : List ℕ). take got (take 37 buffer) ++ xs) none ∙ append-nil (take got (take 37 buffer)) ∙ take-take got 37 buffer (omega (arith, few, size)) in
      let count : length (take got buffer) ≡ got = length-take-le got buffer (omega (arith, few, size)) in
      ends_front got buffer bytes f left_now all (inl (omega (arith, ap length all, count, few, size)))
      (subst (λ (xs : List ℕ). front_says (take got xs) f ≡ begins (take got xs)) same says) (subst (λ (xs : List ℕ). FitsFront (length (take got xs)) f) same fits)
      (there.is ∙ ap Some none)

  module _ (first : List ℕ) (size : ℕ) (kept : take 37 buffer ≡ take 37 first) (enough : 37 ≤ length first) (long : size ≤ length buffer) (some : 37 ≤ size) (tells : size ≡ front_size (take 37 first)) where
    front_of : (rest : List ℕ) → take 37 (take 37 first ++ rest) ≡ take 37 first
    front_of rest =
        let size : length (take 37 first) ≡ 37 = length-take-le 37 first enough in
        take-append-le 37 (take 37 first) rest (omega (arith, size)) ∙ take-take 37 37 first (omega arith)

    -- the source ended inside the frame
    pub second_ended : (slice : List ℕ) (got : ℕ) → slice ≡ buffer → EndsIn got (bytes_between 37 size buffer) left left_now → front_says (take (37 + got) slice) f ≡ begins (take (37 + got) slice)
        → FitsFront (length (take (37 + got) slice)) f → ReadsFront buffer (take 37 first ++ bytes) f left_now
    second_ended slice got same ends says fits =
        let rest : length (drop 37 buffer) ≡ length buffer - 37 = length-drop 37 buffer in
        let span : length (bytes_between 37 size buffer) ≡ size - 37 = length-take-le (size - 37) (drop 37 buffer) (omega (arith, rest, long)) in
        let few : got < length (bytes_between 37 size buffer) = ends.fits in
        let there = left_of bytes (take got (bytes_between 37 size buffer)) left left_now is ends.taken in
        let none : there.rest ≡ [] = none_left left_now there.rest there.is ends.nothing_left in
        let came : bytes ≡ take got (drop 37 buffer) =
        there.all ∙ ap (λ (xs : List ℕ). take got (bytes_between 37 size buffer) ++ xs) none ∙ append-nil (take got (bytes_between 37 size buffer)) ∙ take-take got (size - 37) (drop 37 buffer) (omega (arith, few, span)) in
        let all : take 37 first ++ bytes ≡ take (37 + got) buffer = (λ i. sym kept i ++ came i) ∙ sym (take-add 37 got buffer) in
        let count : length (take (37 + got) buffer) ≡ 37 + got = length-take-le (37 + got) buffer (omega (arith, few, span, long, some)) in
        ends_front (37 + got) buffer (take 37 first ++ bytes) f left_now all
        (inr (omega (arith, ap length all, count), omega (arith, ap length all, count, few, span, tells, some, ap front_size (front_of bytes))))
        (subst (λ (xs : List ℕ). front_says (take (37 + got) xs) f ≡ begins (take (37 + got) xs)) same says) (subst (λ (xs : List ℕ). FitsFront (length (take (37 + got) xs)) f) same fits)
        (there.is ∙ ap Some none)

    -- all of the frame came
    pub second_full : (slice : List ℕ) → slice ≡ buffer → left ≡ in_front (bytes_between 37 size buffer) left_now → front_says (take size slice) f ≡ begins (take size slice) → FitsFront (length (take size slice)) f
        → ReadsFront buffer (take 37 first ++ bytes) f left_now
    second_full slice same taken says fits =
        let there = left_of bytes (bytes_between 37 size buffer) left left_now is taken in
        let sum : 37 + (size - 37) ≡ size = omega (arith, some) in
        let whole : take 37 buffer ++ bytes_between 37 size buffer ≡ take size buffer = sym (take-add 37 (size - 37) buffer) ∙ ap (λ (n : ℕ). take n buffer) sum in
        let all : take 37 first ++ bytes ≡ take size buffer ++ there.rest =
        (λ i. sym kept i ++ there.all i) ∙ sym (append_assoc (take 37 buffer) (bytes_between 37 size buffer) there.rest) ∙ ap (λ (xs : List ℕ). xs ++ there.rest) whole in
        fills_front size buffer (take 37 first ++ bytes) there.rest f left_now all long some
        (ap front_size (take-take 37 size buffer some ∙ kept) ∙ sym tells)
        (subst (λ (xs : List ℕ). front_says (take size xs) f ≡ begins (take size xs)) same says) (subst (λ (xs : List ℕ). FitsFront (length (take size xs)) f) same fits) there.is
