-- Varints (multiformats unsigned-varint; Protocol Buffers, "Encoding", "Base 128 Varints"): seven bits a byte, the
-- least significant group first, and the high bit set in each byte but the last.
use Rattle.std.specs.Prelude.{ℕ, zero, suc, ◌+◌, ◌-◌, ◌*◌, ◌/◌, ◌%◌, ◌<◌, ◌≤◌, List, [], ◌∷◌, nat_lt, nat_le, ◌==◌, if◌then◌else◌}
use Rattle.std.specs.List.{AllByRecursion}
use Rattle.uf_varint.specs.declared.varint.Var.{Var}
use Rattle.uf_varint.specs.declared.varint.Var.TheVariants.{Value, Short, Bad}

-- the shortest spelling, in at most room + 1 bytes
unfoldable pub varint_within : ℕ → ℕ → List ℕ
varint_within zero n = n ∷ []
varint_within (suc room) n = if nat_lt n 128 then n ∷ [] else ((128 + n % 128) ∷ varint_within room (n / 128))

-- the shortest spelling of a number below 2^64
unfoldable pub varint : ℕ → List ℕ
unfolding varint_within
varint n = varint_within 9 n

-- what a byte with the high bit and a number after it spell
abbrev pub with_low : ℕ → Var → Var
with_low b (Value high used) = Value (b - 128 + 128 * high) (used + 1)
with_low b Short = Short
with_low b Bad = Bad

-- what is spelled in at most room + 1 bytes, where the last one of them is 0 or 1
unfoldable pub proto_within : ℕ → List ℕ → Var
proto_within room [] = Short
proto_within zero (b ∷ bs) = if nat_le b 1 then Value b 1 else Bad
proto_within (suc room) (b ∷ bs) = if nat_lt b 128 then Value b 1 else with_low b (proto_within room bs)

-- any spelling of a number below 2^64, in at most ten bytes (Protocol Buffers)
unfoldable pub read_proto_of : List ℕ → Var
unfolding proto_within
read_proto_of bs = proto_within 9 bs

-- what is spelled in at most room + 1 bytes after a byte with the high bit: a last byte of 0 would spell nothing more
unfoldable pub multi_within : ℕ → List ℕ → Var
multi_within room [] = Short
multi_within zero (b ∷ bs) = if nat_lt b 128 then (if b == 0 then Bad else Value b 1) else Bad
multi_within (suc room) (b ∷ bs) = if nat_lt b 128 then (if b == 0 then Bad else Value b 1)
    else with_low b (multi_within room bs)

-- the shortest spelling, in at most nine bytes (multiformats unsigned-varint)
unfoldable pub read_multi_of : List ℕ → Var
unfolding multi_within
read_multi_of [] = Short
read_multi_of (b ∷ bs) = if nat_lt b 128 then Value b 1 else with_low b (multi_within 7 bs)

-- each byte has the high bit
abbrev pub AreHigh : List ℕ → Type 0
AreHigh bytes = AllByRecursion (λ b. 128 ≤ b) bytes

-- a spelling has a byte or more, and at most n
abbrev pub IsWithin : Var → ℕ → Type 0
IsWithin (Value n used) most = (0 < used) × (used ≤ most)
IsWithin Short most = Unit {0}
IsWithin Bad most = Unit {0}
