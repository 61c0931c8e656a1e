-- What the steps of a reading of lines leave.
use Rattle.std.specs.Prelude.{◌≡◌, ℕ, ◌+◌, ◌-◌, ◌<◌, ◌≤◌, Bool, true, false, length, get_or, Some, None, IfSome}
use Rattle.std.specs.declared.option.Option.{Option}
use Rattle.uf_edge.specs.Streams.{Told}
use Rattle.uf_lines.specs.LinesIn.{HasNoFeed}
use Rattle.uf_lines.specs.Reading.{AnswersNext, GivesNone, HasEnded, IsShorter, TakesFew, bytes_ahead, is_failed_line}
use Rattle.uf_lines.specs.Reading.{may_read}
use Rattle.uf_lines.specs.declared.lines.Line.{Line}
use Rattle.uf_lines.specs.declared.lines.Lines.{Lines}

-- the line that was given last isn't in the window any more
pub record IsPassed (before now : Lines) : Type 0 where
  pub passed : now.used ≡ 0
  pub same_bytes : bytes_ahead now ≡ bytes_ahead before
  pub same_room : now.room ≡ before.room
  pub same_most : now.most ≡ before.most
  pub same_end : now.ended ≡ before.ended

-- nothing but how far was searched has changed
pub record IsAsBefore (before now : Lines) : Type 0 where
  pub same_window : now.window ≡ before.window
  pub same_used : now.used ≡ before.used
  pub same_room : now.room ≡ before.room
  pub same_most : now.most ≡ before.most
  pub same_end : now.ended ≡ before.ended

-- LF stands after the bytes that were searched
pub record StandsAtFeed (w : Lines) : Type 0 where
  pub inside : w.seen < length (bytes_ahead w)
  pub feed : get_or (bytes_ahead w) w.seen 0 ≡ 10

-- whether the search has come to LF, or else to the end of what is there
abbrev pub Stops : Bool → Lines → Type 0
Stops true w = StandsAtFeed w
Stops false w = w.seen ≡ length (bytes_ahead w)

-- what was searched is the line, and with its LF it is n bytes
pub record Goes (used : ℕ) (before now : Lines) : Type 0 where
  pub same_window : now.window ≡ before.window
  pub given : now.given ≡ before.seen
  pub used_is : now.used ≡ used
  pub room : now.room ≡ before.room - used
  pub same_most : now.most ≡ before.most
  pub same_end : now.ended ≡ before.ended

-- the bytes that are there are the beginning of a line, and more may come
pub record NeedsMore (w : Lines) : Type 0 where
  pub passed : w.used ≡ 0
  pub open_yet : w.ended ≡ false
  pub no_feed : HasNoFeed (bytes_ahead w)
  pub fits : length (bytes_ahead w) ≤ w.most
  pub few : length (bytes_ahead w) ≤ w.room

-- an answer that the bytes give that are there
pub record Says (line : Line) (before now : Lines) : Type 0 where
  pub answer : (left : Told) → HasEnded before left → AnswersNext line before now left left
  pub no_fault : is_failed_line line ≡ false
  pub shorter : IsShorter line before now
  pub same_reads : may_read now ≡ may_read before

-- more bytes are wanted
pub record Wants (before now : Lines) : Type 0 where
  pub needs : NeedsMore now
  pub same_bytes : bytes_ahead now ≡ bytes_ahead before
  pub same_room : now.room ≡ before.room

-- the answer of `look`
abbrev pub LooksAt : Option Line → Lines → Lines → Type 0
LooksAt (Some line) before now = Says line before now
LooksAt None before now = Wants before now

pub record Looks (answer : Option Line) (before now : Lines) : Type 0 where
  pub says : LooksAt answer before now
  pub same_most : now.most ≡ before.most
  pub same_end : now.ended ≡ before.ended

-- how often it may still be read
abbrev pub readings : Lines → ℕ
readings w = elim w.ended as (λ b. ℕ) [ true ↦ 0 | false ↦ w.room + 1 - length (bytes_ahead w) + 1 ]

-- the answer of `read_more`, which is one where nothing came
abbrev pub LeadsTo : Option Line → Lines → Lines → Told → Told → Type 0
LeadsTo (Some line) before now left left_now = AnswersNext line before now left left_now
LeadsTo None before now left left_now = readings now < readings before

pub record Leads (answer : Option Line) (before now : Lines) (left left_now : Told) : Type 0 where
  pub leads : LeadsTo answer before now left left_now
  pub none : GivesNone before now left left_now
  pub shorter : IfSome answer (λ line. IsShorter line before now)
  pub few : TakesFew before now left left_now
  pub ended : HasEnded now left_now
  pub passed : now.used ≡ 0
  pub same_most : now.most ≡ before.most

abbrev pub is_fault : Option Line → Bool
is_fault (Some line) = is_failed_line line
is_fault None = false
