-- What a window on a source shows.
use Rattle.std.specs.Prelude.{◌≡◌, ℕ, ◌+◌, ◌-◌, ◌<◌, ◌≤◌, ◌⊎◌, nat_lt, Bool, true, false, List, ◌++◌, length, take}
use Rattle.std.specs.Prelude.{drop, None, Some, min}
use Rattle.std.specs.declared.option.Option.{Option}
use Rattle.uf_edge.specs.Streams.{IsAtEnd, Told}
use Rattle.uf_car.specs.declared.window.Fill.{Fill}
use Rattle.uf_car.specs.declared.window.Fill.TheVariants.{Enough, Short}
use Rattle.uf_car.specs.declared.window.Supply.{Supply}
use Rattle.uf_car.specs.declared.window.Supply.TheVariants.{Open, Ended, Over}
use Rattle.uf_car.specs.declared.window.Window.{Window}

-- the bytes that were read and not yet used
abbrev pub window_bytes : Window → List ℕ
window_bytes w = take (w.to - w.from) (drop w.from w.buffer.items)

-- bytes of which no more may be read, and whether there are more
abbrev pub Ahead : Type 0
Ahead = List ℕ × Bool

-- there were more bytes than may be read
abbrev pub is_over_at : Supply → Bool
is_over_at Open = false
is_over_at Ended = false
is_over_at Over = true

-- all bytes that may still be used, and whether the source has more, where it tells
abbrev pub ahead_with : List ℕ → ℕ → Supply → List ℕ → Ahead
ahead_with bytes room Open left = (bytes ++ take room left, nat_lt room (length left))
ahead_with bytes room Ended left = (bytes, false)
ahead_with bytes room Over left = (bytes, true)

abbrev pub ahead_of : List ℕ → ℕ → Supply → Told → Option Ahead
ahead_of bytes room supply None = None
ahead_of bytes room supply (Some left) = Some (ahead_with bytes room supply left)

abbrev pub ahead : Window → Told → Option Ahead
ahead w left = ahead_of (window_bytes w) w.room w.supply left

-- what may still be used is as before, and no more of it may be read
pub record KeepsAhead (before now : Window) (left left_now : Told) : Type 0 where
  pub same : ahead now left_now ≡ ahead before left
  pub few : length (window_bytes now) + now.room ≤ length (window_bytes before) + before.room

-- a source that has ended has nothing left
abbrev pub ComesTo : Supply → Told → Type 0
ComesTo Open left = Unit {0}
ComesTo Ended left = IsAtEnd left
ComesTo Over left = Unit {0}

-- a source that is open isn't read on
abbrev pub NoMoreComes : Supply → Type 0
NoMoreComes Open = ⊥
NoMoreComes Ended = Unit {0}
NoMoreComes Over = Unit {0}

-- more bytes are there, or no more come
pub record Progress (before now : Window) : Type 0 where
  pub later : before.to ≤ now.to
  pub more : now.supply ≡ Open → before.to < now.to

-- there are fewer bytes than were wanted, and no more come
pub record IsShort (count : ℕ) (now : Window) : Type 0 where
  pub few : length (window_bytes now) < count
  pub closed : NoMoreComes now.supply

-- the answer of `fill_to`
abbrev pub FillsTo : Fill → ℕ → Window → Type 0
FillsTo Enough count now = count ≤ length (window_bytes now)
FillsTo Short count now = IsShort count now

-- the same bytes are there, and as many more may be read
pub record KeepsBytes (before now : Window) : Type 0 where
  pub same_bytes : window_bytes now ≡ window_bytes before
  pub same_room : now.room ≡ before.room
  pub same_supply : now.supply ≡ before.supply

-- as many bytes are there as were wanted, or no more come
abbrev pub HasEnough : ℕ → Window → Type 0
HasEnough count now = (count ≤ length (window_bytes now)) ⊎ NoMoreComes now.supply

-- n bytes were read after those that are there, of which as many are taken as may be
pub record TakesIn (got : ℕ) (before now : Window) : Type 0 where
  pub same_from : now.from ≡ before.from
  pub to : now.to ≡ before.to + min got before.room
  pub room : now.room ≡ before.room - got
  pub same_buffer : now.buffer.items ≡ before.buffer.items
  pub supply : now.supply ≡ (elim (nat_lt before.room got) [ true ↦ Over | false ↦ before.supply ])

-- an open source may end without giving more
abbrev pub lag : Supply → ℕ
lag Open = 1
lag Ended = 0
lag Over = 0
