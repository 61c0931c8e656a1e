-- What a store on disk lends.
use Rattle.std.specs.Prelude.{ℕ, List, Some, None}
use Rattle.std.specs.declared.option.Option.{Option}
use Rattle.uf_cid.specs.declared.hash.BlockHash.{Ghosts as HashGhosts}
use Rattle.uf_disk.specs.Ahead.{bytes_at}
use Rattle.uf_disk.specs.declared.ahead.Span.{Span}
use Rattle.uf_disk.specs.declared.lending.Lending.{Lending}

-- the bytes of a span of one buffer, or all of the other
abbrev pub bytes_of : Option Span → List ℕ → List ℕ → List ℕ
bytes_of None ahead own = own
bytes_of (Some span) ahead own = bytes_at span ahead

-- the bytes that are lent
abbrev pub lent_by : {X : Type 0} {H : HashGhosts X} → Lending X H → List ℕ
lent_by s = bytes_of s.span s.ahead.bytes.items s.own.items
