-- What contracts see of an input's lines while they are read.
use Rattle.std.specs.Prelude.{◌≡◌, ℕ, ◌+◌, ◌-◌, ◌<◌, ◌≤◌, Bool, true, false, List, [], ◌∷◌, length, take, drop, Some}
use Rattle.std.specs.Prelude.{None, IfSome}
use Rattle.std.specs.declared.option.Option.{Option}
use Rattle.uf_edge.specs.Streams.{IsAtEnd, Told, before as in_front}
use Rattle.uf_lines.specs.LinesIn.{LinesIn, last_line, lines_in, long_lines, with_lines}
use Rattle.uf_lines.specs.Windows.{in_window}
use Rattle.uf_lines.specs.declared.lines.Line.{Line}
use Rattle.uf_lines.specs.declared.lines.Line.TheVariants.{Given, End, TooLong, Failed, Memory}
use Rattle.uf_lines.specs.declared.lines.Lines.{Lines}

-- the line that was given last
abbrev pub line_given : Lines → List ℕ
line_given w = take w.given (in_window w.window)

-- the bytes that were read and not yet given
abbrev pub bytes_ahead : Lines → List ℕ
bytes_ahead w = drop w.used (in_window w.window)

-- how many bytes of the limit are left
abbrev pub line_room : Lines → ℕ
line_room w = w.room

-- how many bytes a line has at most
abbrev pub line_most : Lines → ℕ
line_most w = w.most

-- how many bytes may still be read: one more than the limit, to see that there are more
abbrev pub may_read : Lines → ℕ
may_read w = line_room w + 1 - length (bytes_ahead w)

-- a source that has ended has nothing left
abbrev pub HasEnded : Lines → Told → Type 0
HasEnded w left = w.ended ≡ true → IsAtEnd left

-- all bytes that aren't given yet, where the source tells
abbrev pub all_ahead : Lines → Told → Told
all_ahead w left = in_front (bytes_ahead w) left

abbrev pub lines_told : ℕ → ℕ → Told → Option LinesIn
lines_told most room None = None
lines_told most room (Some bytes) = Some (lines_in most room bytes)

abbrev pub with_line_told : List ℕ → Option LinesIn → Option LinesIn
with_line_told line None = None
with_line_told line (Some rest) = Some (with_lines (line ∷ []) rest)

-- the lines that aren't given yet, where the source tells
abbrev pub lines_ahead : Lines → Told → Option LinesIn
lines_ahead w left = lines_told (line_most w) (line_room w) (all_ahead w left)

-- nothing was given
pub record GivesNone (before now : Lines) (left left_now : Told) : Type 0 where
  pub same_bytes : all_ahead now left_now ≡ all_ahead before left
  pub same_room : line_room now ≡ line_room before

-- the answer of `next`
abbrev pub AnswersNext : Line → Lines → Lines → Told → Told → Type 0
AnswersNext Given before now left left_now =
    lines_ahead before left ≡ with_line_told (line_given now) (lines_ahead now left_now)
AnswersNext End before now left left_now =
    IfSome (lines_ahead before left) (λ r. r ≡ last_line []) × (bytes_ahead now ≡ []) × IsAtEnd left_now
    × GivesNone before now left left_now
AnswersNext TooLong before now left left_now =
    IfSome (lines_ahead before left) (λ r. r ≡ long_lines) × GivesNone before now left left_now
AnswersNext Failed before now left left_now = GivesNone before now left left_now
AnswersNext Memory before now left left_now = GivesNone before now left left_now

abbrev pub is_failed_line : Line → Bool
is_failed_line Given = false
is_failed_line End = false
is_failed_line TooLong = false
is_failed_line Failed = true
is_failed_line Memory = false

-- the first bytes of the source were taken, no more than may be read
pub record TakesFew (before now : Lines) (left left_now : Told) : Type 0 where
  pub bytes : List ℕ
  pub taken : left ≡ in_front bytes left_now
  pub few : length bytes + may_read now ≤ may_read before

-- a line takes some of the limit, so there are only finitely many
abbrev pub IsShorter : Line → Lines → Lines → Type 0
IsShorter Given before now = line_room now < line_room before
IsShorter other before now = Unit {0}
