-- Blocks that were read ahead.
use Rattle.std.specs.Prelude.{◌≡◌, ◌≤◌, ◌+◌, ℕ, List, length, take, drop}
use Rattle.uf_cid.specs.declared.cid.Cid.{Cid}
use Rattle.uf_disk.specs.declared.ahead.Span.{Span}

-- the bytes of a span of a buffer
abbrev pub bytes_at : Span → List ℕ → List ℕ
bytes_at span buffer = take span.count (drop span.at buffer)

-- a span lies inside a buffer
abbrev pub IsInside : Span → List ℕ → Type 0
IsInside span buffer = span.at + span.count ≤ length buffer

-- bytes may be lent for a CID: they aren't too long, and their hash is its digest
pub record IsWholeFor (hash : List ℕ → List ℕ) (cid : Cid) (bytes : List ℕ) : Type 0 where
  pub size : length bytes ≤ 2097152
  pub digest : hash bytes ≡ cid.digest
