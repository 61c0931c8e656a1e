-- The lines of an input: LF ends one, and after the last LF another may stand.
use Rattle.std.specs.Prelude.{◌≡◌, ◌≤◌, ℕ, zero, suc, Bool, true, false, List, [], ◌∷◌, ◌++◌, length, nat_lt, ◌==◌}
use Rattle.std.specs.Prelude.{if◌then◌else◌}
use Rattle.std.specs.List.{All}

-- the lines that are read, and whether the input ended after them, or else a line or the input is too long
pub record LinesIn : Type 0 where
  pub lines : List (List ℕ)
  pub whole : Bool

abbrev pub long_lines : LinesIn
long_lines = record { lines = []; whole = false }

-- what no LF ends is a line where it has bytes
abbrev pub last_line : List ℕ → LinesIn
last_line [] = record { lines = []; whole = true }
last_line (b ∷ bs) = record { lines = (b ∷ bs) ∷ []; whole = true }

-- these lines, and the others after them
abbrev pub with_lines : List (List ℕ) → LinesIn → LinesIn
with_lines given rest = record { lines = given ++ rest.lines; whole = rest.whole }

-- the lines of at most `most` bytes, within the first `room` bytes, after the beginning of one
unfoldable pub lines_from : ℕ → ℕ → List ℕ → List ℕ → LinesIn
lines_from most room line [] = last_line line
lines_from most zero line (b ∷ bs) = long_lines
lines_from most (suc room) line (b ∷ bs) =
    if b == 10 then with_lines (line ∷ []) (lines_from most room [] bs)
    else (if nat_lt (length line) most then lines_from most room (line ++ b ∷ []) bs else long_lines)

abbrev pub lines_in : ℕ → ℕ → List ℕ → LinesIn
lines_in most limit bytes = lines_from most limit [] bytes

-- lines as they are written
abbrev pub text_of : List (List ℕ) → List ℕ
text_of [] = []
text_of (line ∷ lines) = line ++ 10 ∷ text_of lines

-- no byte is LF
abbrev pub HasNoFeed : List ℕ → Type 0
HasNoFeed bytes = All (λ b. (b == 10) ≡ false) bytes

-- a line of at most n bytes
pub record IsLine (most : ℕ) (line : List ℕ) : Type 0 where
  pub few : length line ≤ most
  pub no_feed : HasNoFeed line
