-- MurmurHash3 x64 128 (Austin Appleby's public `MurmurHash3.cpp`), first half, seed 0. Words are numbers below 2 ^ 64.
use Rattle.std.specs.Prelude.{ℕ, zero, suc, ◌+◌, ◌*◌, ◌/◌, ◌%◌, ◌^◌, ◌<◌, List, [], ◌∷◌, length, slice_index, bit_xor}
use Rattle.std.specs.Int.{w64, rotate_left, from_le_bytes}
use Rattle.std.proofs.Common.{arith}

-- the sum of two words, without the carry
abbrev pub plus : ℕ → ℕ → ℕ
plus x y = (x + y) % 2 ^ 64

-- the product of two words, without what goes over
abbrev pub times : ℕ → ℕ → ℕ
times x y = (x * y) % 2 ^ 64

-- the eight bytes from a place on as a word, the lowest first; after the end there are zeros
abbrev pub word_at : List ℕ → ℕ → ℕ
word_at bytes at = from_le_bytes w64 (
    slice_index bytes at ∷ slice_index bytes (at + 1) ∷ slice_index bytes (at + 2) ∷ slice_index bytes (at + 3)
    ∷ slice_index bytes (at + 4) ∷ slice_index bytes (at + 5) ∷ slice_index bytes (at + 6)
    ∷ slice_index bytes (at + 7) ∷ [])

-- what a block's first word adds to the first half
abbrev pub first_part : ℕ → ℕ
first_part k = times (rotate_left w64 (times k 0x87c37b91114253d5) 31) 0x4cf5ad432745937f

-- what a block's second word adds to the second half
abbrev pub second_part : ℕ → ℕ
second_part k = times (rotate_left w64 (times k 0x4cf5ad432745937f) 33) 0x87c37b91114253d5

-- the first half after a block with this first word
abbrev pub next_first : ℕ → ℕ → ℕ → ℕ
next_first h1 h2 k = plus (times (plus (rotate_left w64 (bit_xor h1 (first_part k)) 27) h2) 5) 0x52dce729

-- the second half after a block with this second word; the first half is the new one
abbrev pub next_second : ℕ → ℕ → ℕ → ℕ
next_second h1 h2 k = plus (times (plus (rotate_left w64 (bit_xor h2 (second_part k)) 31) h1) 5) 0x38495ab5

-- both halves after a block of these two words
abbrev pub next_halves : ℕ × ℕ → ℕ → ℕ → ℕ × ℕ
next_halves h k1 k2 = let h1 = next_first h.0 h.1 k1 in (h1, next_second h1 h.1 k2)

-- both halves after the first n blocks of 16 bytes
unfoldable pub halves_after : List ℕ → ℕ → ℕ × ℕ
halves_after bytes zero = (0, 0)
halves_after bytes (suc n) = next_halves (halves_after bytes n) (word_at bytes (16 * n)) (word_at bytes (16 * n + 8))

-- the finalizer of a half (`fmix64`)
abbrev pub mix : ℕ → ℕ
mix k =
    let a = times (bit_xor k (k / 2 ^ 33)) 0xff51afd7ed558ccd in
    let b = times (bit_xor a (a / 2 ^ 33)) 0xc4ceb9fe1a85ec53 in
    bit_xor b (b / 2 ^ 33)

-- the first half of the hash, from the halves after the last block and the number of bytes
abbrev pub finished : ℕ → ℕ → ℕ → ℕ
finished h1 h2 n =
    let a = plus (bit_xor h1 n) (bit_xor h2 n) in
    let b = plus (bit_xor h2 n) a in
    plus (mix a) (mix b)

-- the hash: the whole blocks, what is left over filled up with zeros, and the number of bytes
unfoldable pub murmur3 : List ℕ → ℕ
unfolding halves_after
murmur3 bytes =
    let whole = length bytes / 16 in
    let h = halves_after bytes whole in
    finished (bit_xor h.0 (first_part (word_at bytes (16 * whole))))
    (bit_xor h.1 (second_part (word_at bytes (16 * whole + 8)))) (length bytes)

below_word : (n : ℕ) → n % 2 ^ 64 < 2 ^ 64
below_word n = omega arith

-- a hash has 64 bits
pub murmur3-fits : (name : List ℕ) → murmur3 name < 2 ^ 64
unfolding murmur3
murmur3-fits name = below_word _
