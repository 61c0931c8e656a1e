-- Metadata of files and directories: a mode and an mtime (UnixFS v1, "Data Format"), each where it is known.
use Rattle.std.specs.Prelude.{ℕ, ◌^◌, ℤ, pos, negsuc, Bool, true, ◌&&◌, ◌||◌, not, is_some, nat_le, nat_lt}
use Rattle.std.specs.declared.option.Option.{Option}
use Rattle.std.specs.declared.option.Option.TheVariants.{None, Some}
use Rattle.uf_message.specs.declared.message.Mtime.{Mtime}
use Rattle.uf_tree.specs.declared.meta.Meta.{Meta}

-- no metadata
abbrev pub none : Meta
none = record { mode = None; mtime = None }

-- neither a mode nor an mtime is there
abbrev pub is_bare : Meta → Bool
is_bare m = not (is_some m.mode || is_some m.mtime)

-- a mode has 32 bits
abbrev pub is_mode : Option ℕ → Bool
is_mode None = true
is_mode (Some mode) = nat_lt mode (2 ^ 32)

-- nanoseconds are absent, or 1 to 999999999
abbrev pub is_nanos : Option ℕ → Bool
is_nanos None = true
is_nanos (Some nanos) = nat_le 1 nanos && nat_le nanos 999999999

-- seconds have 64 bits in two's complement: -2 ^ 63 to 2 ^ 63 - 1
abbrev pub is_seconds : ℤ → Bool
is_seconds (pos n) = nat_lt n (2 ^ 63)
is_seconds (negsuc n) = nat_lt n (2 ^ 63)

abbrev pub is_mtime : Option Mtime → Bool
is_mtime None = true
is_mtime (Some t) = is_seconds t.seconds && is_nanos t.nanos

-- a mode and an mtime that a tree may have
abbrev pub is_meta : Meta → Bool
is_meta m = is_mode m.mode && is_mtime m.mtime
