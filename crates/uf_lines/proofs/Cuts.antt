-- How the lines of an input go on.
use Rattle.std.proofs.Common.{◌≡◌, ℕ, zero, suc, ◌+◌, ◌-◌, ◌≤◌, ◌<◌, List, [], ◌∷◌, ◌++◌, length, Bool, true, false, refl, sym, ap, ◌∙◌, arith, append_assoc, append-nil, length-append, ◌⊎◌, inl, inr}
use Rattle.std.proofs.lemmas.Bool.{cases_lt}
use Rattle.std.proofs.lemmas.Bool.Decides.{nat_tests}
use Rattle.std.proofs.lemmas.List.{length_push}
use Rattle.std.proofs.lemmas.List.Elements.{All-head, All-tail}
use Rattle.std.specs.List.{AllByRecursion}
use Rattle.std.specs.Prelude.{nat_lt, ◌==◌, if◌then◌else◌}
use Rattle.uf_lines.specs.LinesIn.{HasNoFeed, IsLine, LinesIn, last_line, lines_from, lines_in, text_of, long_lines, with_lines}

is_byte : (b : ℕ) → (b == 10) ≡ false → (t f : LinesIn) → (if b == 10 then t else f) ≡ f
is_byte b e t f = ap (λ (x : Bool). if x then t else f) e

step_byte : (most r b : ℕ) (line bs : List ℕ) → (b == 10) ≡ false → length line < most → lines_from most (suc r) line (b ∷ bs) ≡ lines_from most r (line ++ b ∷ []) bs
unfolding lines_from
step_byte most r b line bs byte fits =
    is_byte b byte _ _ ∙ ap (λ (x : Bool). if x then lines_from most r (line ++ b ∷ []) bs else long_lines) (let e : nat_lt (length line) most ≡ true = grind (arith, nat_tests) in e)

step_long : (most r b : ℕ) (line bs : List ℕ) → (b == 10) ≡ false → most ≤ length line → lines_from most (suc r) line (b ∷ bs) ≡ long_lines
unfolding lines_from
step_long most r b line bs byte long =
    is_byte b byte _ _ ∙ ap (λ (x : Bool). if x then lines_from most r (line ++ b ∷ []) bs else long_lines) (let e : nat_lt (length line) most ≡ false = grind (arith, nat_tests) in e)

step_feed : (most r : ℕ) (line bs : List ℕ) → lines_from most (suc r) line (10 ∷ bs) ≡ with_lines (line ∷ []) (lines_from most r [] bs)
unfolding lines_from
step_feed most r line bs = refl

pub no_room : (most b : ℕ) (line bs : List ℕ) → lines_from most 0 line (b ∷ bs) ≡ long_lines
unfolding lines_from
no_room most b line bs = refl

pub at_end : (most room : ℕ) (line : List ℕ) → lines_from most room line [] ≡ last_line line
unfolding lines_from
at_end most room line = refl

-- bytes without LF are put to the line
pub walk : (most room : ℕ) (line xs rest : List ℕ) → HasNoFeed xs → length line + length xs ≤ most → length xs ≤ room
    → lines_from most room line (xs ++ rest) ≡ lines_from most (room - length xs) (line ++ xs) rest
walk most room line [] rest none fits few =
    λ i. lines_from most ((let e : room ≡ room - 0 = omega arith in e) i) (sym (append-nil line) i) rest
walk most zero line (x ∷ xs) rest none fits few = absurd (omega arith)
walk most (suc r) line (x ∷ xs) rest none fits few =
    step_byte most r x line (xs ++ rest) (All-head (λ b. (b == 10) ≡ false) x xs none) (omega arith)
    ∙ walk most r (line ++ x ∷ []) xs rest (All-tail (λ b. (b == 10) ≡ false) x xs none) (let size : length (line ++ x ∷ []) ≡ length line + 1 = length_push line x in omega (arith, size)) (omega arith)
    ∙ (λ i. lines_from most ((let e : r - length xs ≡ suc r - length (x ∷ xs) = omega arith in e) i) (append_assoc line (x ∷ []) xs i) rest)

many_on : (most r x : ℕ) (line xs : List ℕ) → (most < length line + length (x ∷ xs)) ⊎ (suc r < length (x ∷ xs)) → (most < length (line ++ x ∷ []) + length xs) ⊎ (r < length xs)
many_on most r x line xs (inl long) = inl (let size : length (line ++ x ∷ []) ≡ length line + 1 = length_push line x in omega (arith, size))
many_on most r x line xs (inr over) = inr (omega arith)

short_or_long : (most r x : ℕ) (line xs rest : List ℕ) → (x == 10) ≡ false → (length line < most → lines_from most r (line ++ x ∷ []) (xs ++ rest) ≡ long_lines)
    → lines_from most (suc r) line (x ∷ (xs ++ rest)) ≡ long_lines
short_or_long most r x line xs rest byte on = by (cases_lt (length line) most)
  where
    by : (length line < most) ⊎ (most ≤ length line) → lines_from most (suc r) line (x ∷ (xs ++ rest)) ≡ long_lines
    by (inl less) = step_byte most r x line (xs ++ rest) byte less ∙ on less
    by (inr full) = step_long most r x line (xs ++ rest) byte full

-- too many of them, for the line or for the limit
pub too_many : (most room : ℕ) (line xs rest : List ℕ) → HasNoFeed xs → length line ≤ most → (most < length line + length xs) ⊎ (room < length xs)
    → lines_from most room line (xs ++ rest) ≡ long_lines
too_many most room line [] rest none short (inl long) = absurd (omega arith)
too_many most room line [] rest none short (inr over) = absurd (omega arith)
too_many most zero line (x ∷ xs) rest none short many = no_room most x line (xs ++ rest)
too_many most (suc r) line (x ∷ xs) rest none short many =
    let size : length (line ++ x ∷ []) ≡ length line + 1 = length_push line x in
    short_or_long most r x line xs rest (All-head (λ b. (b == 10) ≡ false) x xs none)
    (λ less. too_many most r (line ++ x ∷ []) xs rest (All-tail (λ b. (b == 10) ≡ false) x xs none) (omega (arith, size)) (many_on most r x line xs many))

-- a line that LF ends
pub ended_line : (most room : ℕ) (xs rest : List ℕ) → HasNoFeed xs → length xs ≤ most → length xs < room
    → lines_in most room (xs ++ 10 ∷ rest) ≡ with_lines (xs ∷ []) (lines_in most (room - (length xs + 1)) rest)
ended_line most room xs rest none fits few =
    walk most room [] xs (10 ∷ rest) none (omega arith) (omega arith)
    ∙ (λ i. lines_from most ((let e : room - length xs ≡ suc (room - (length xs + 1)) = omega arith in e) i) xs (10 ∷ rest))
    ∙ step_feed most (room - (length xs + 1)) xs rest

-- a line whose LF is behind the limit
pub ended_late : (most room : ℕ) (xs rest : List ℕ) → HasNoFeed xs → length xs ≤ most → length xs ≡ room → lines_in most room (xs ++ 10 ∷ rest) ≡ long_lines
ended_late most room xs rest none fits same =
    walk most room [] xs (10 ∷ rest) none (omega arith) (omega arith)
    ∙ (λ i. lines_from most ((let e : room - length xs ≡ 0 = omega arith in e) i) xs (10 ∷ rest))
    ∙ no_room most 10 xs rest

-- the last line
pub unended : (most room : ℕ) (xs : List ℕ) → HasNoFeed xs → length xs ≤ most → length xs ≤ room → lines_in most room xs ≡ last_line xs
unended most room xs none fits few =
    ap (lines_from most room []) (sym (append-nil xs)) ∙ walk most room [] xs [] none (omega arith) few ∙ at_end most (room - length xs) xs

-- ---- laws

pub of_nothing : (most limit : ℕ) → lines_in most limit [] ≡ record { lines = []; whole = true }
of_nothing most limit = at_end most limit []

pub goes_on : (all ahead rest : LinesIn) (given : List (List ℕ)) (line : List ℕ) → all ≡ with_lines given ahead → ahead ≡ with_lines (line ∷ []) rest → all ≡ with_lines (given ++ line ∷ []) rest
goes_on all ahead rest given line a b =
    a ∙ ap (with_lines given) b ∙ (λ i. record { lines = sym (append_assoc given (line ∷ []) rest.lines) i; whole = rest.whole })

pub written : (most limit : ℕ) (lines : List (List ℕ)) → AllByRecursion (IsLine most) lines → length (text_of lines) ≤ limit → lines_in most limit (text_of lines) ≡ record { lines = lines; whole = true }
written most limit [] each few = of_nothing most limit
written most limit (line ∷ lines) each few =
    let size : length (line ++ 10 ∷ text_of lines) ≡ length line + length (10 ∷ text_of lines) = length-append line (10 ∷ text_of lines) in
    ended_line most limit line (text_of lines) each.0.no_feed each.0.few (omega (arith, size))
    ∙ ap (with_lines (line ∷ [])) (written most (limit - (length line + 1)) lines each.1 (omega (arith, size)))
