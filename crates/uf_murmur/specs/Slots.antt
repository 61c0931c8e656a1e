-- The slots that a name's hash chooses (UnixFS v1, "HAMTShard").
use Rattle.std.specs.Prelude.{ℕ, ◌-◌, ◌/◌, ◌%◌, ◌^◌, ◌<◌, List}
use Rattle.std.proofs.Common.{arith}
use Rattle.std.specs.Int.{w64, from_be_bytes}

-- byte k of a 64-bit hash, the highest first
abbrev pub slot : ℕ → ℕ → ℕ
slot hash k = hash / 256 ^ (7 - k) % 256

-- a hash for tests: the first eight bytes, filled up with zeros, as a word, the highest first
abbrev pub first_eight : List ℕ → ℕ
first_eight name = from_be_bytes w64 name % 2 ^ 64

below_word : (n : ℕ) → n % 2 ^ 64 < 2 ^ 64
below_word n = omega arith

pub first_eight-fits : (name : List ℕ) → first_eight name < 2 ^ 64
first_eight-fits name = below_word _
