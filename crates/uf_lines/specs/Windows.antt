-- What a window on a source shows.
use Rattle.std.specs.Prelude.{◌≡◌, ℕ, ◌-◌, ◌<◌, ◌≤◌, Bool, false, List, ◌++◌, length, take, drop, Result, Ok, Err}
use Rattle.uf_cid.specs.declared.bytes.Memory.{Memory}
use Rattle.uf_edge.specs.Streams.{IsAtEnd, Told, before as in_front, is_read_fault}
use Rattle.uf_edge.specs.declared.streams.Read.{Read}
use Rattle.uf_edge.specs.declared.streams.Read.TheVariants.{Got, End, Failed}
use Rattle.uf_lines.specs.declared.window.SourceBuffer.{SourceBuffer}

-- the bytes that were read and not yet used
abbrev pub in_window : SourceBuffer → List ℕ
in_window w = take (w.to - w.from) (drop w.from w.buffer.items)

-- some bytes of the source, at most n, stand after those that were there
pub record TakesBehind (count : ℕ) (before now : List ℕ) (left left_now : Told) : Type 0 where
  pub given : List ℕ
  pub some : 0 < length given
  pub few : length given ≤ count
  pub behind : now ≡ before ++ given
  pub taken : left ≡ in_front given left_now

-- the answer of a reading of at most n bytes
abbrev pub ReadsBehind : ℕ → Result Read Memory → List ℕ → List ℕ → Told → Told → Type 0
ReadsBehind count (Ok (Got n)) before now left left_now = TakesBehind count before now left left_now
ReadsBehind count (Ok End) before now left left_now = (now ≡ before) × (left_now ≡ left) × IsAtEnd left
ReadsBehind count (Ok Failed) before now left left_now = (now ≡ before) × (left_now ≡ left)
ReadsBehind count (Err no_memory) before now left left_now = (now ≡ before) × (left_now ≡ left)

abbrev pub is_failed : Result Read Memory → Bool
is_failed (Ok read) = is_read_fault read
is_failed (Err no_memory) = false
