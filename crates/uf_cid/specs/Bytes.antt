-- Lists of bytes, as the digests of SHA-256 are.
use Rattle.std.specs.Prelude.{ℕ, zero, suc, ◌*◌, ◌<◌, List, [], ◌∷◌, ◌++◌, drop, slice_index, take}
use Rattle.std.specs.List.{AllByRecursion}
use Rattle.std.specs.Int.{w32, to_be_bytes, bytes_high_first, byte_at}
use Rattle.std.proofs.Common.{arith}
use Rattle.sha2.specs.Sha256.{sha256, digest_bytes, final_hash, initial_hash_256}

-- piece k of a buffer that is cut into pieces of `size` bytes
abbrev pub piece : List ℕ → ℕ → ℕ → List ℕ
piece buffer size k = take size (drop (k * size) buffer)

-- the block at the head of piece k, where `lengths` has the length of each
abbrev pub block_in : List ℕ → ℕ → List ℕ → ℕ → List ℕ
block_in buffer size lengths k = take (slice_index lengths k) (piece buffer size k)

-- every number is a byte
abbrev pub IsBytes : List ℕ → Type 0
IsBytes bytes = AllByRecursion (λ b. b < 256) bytes

pub IsBytes-append : (xs ys : List ℕ) → IsBytes xs → IsBytes ys → IsBytes (xs ++ ys)
IsBytes-append [] ys p q = q
IsBytes-append (x ∷ xs) ys p q = (p.0, IsBytes-append xs ys p.1 q)

byte_is_small : (k n : ℕ) → byte_at k n < 256
byte_is_small zero n = omega arith
byte_is_small (suc k) n = omega arith

high_first_bytes : (k n : ℕ) → IsBytes (bytes_high_first k n)
high_first_bytes zero n = tt
high_first_bytes (suc k) n = (byte_is_small k n, high_first_bytes k n)

digest_is_bytes : (h : List ℕ) (n : ℕ) → IsBytes (digest_bytes h n)
unfolding digest_bytes
digest_is_bytes h zero = tt
digest_is_bytes h (suc n) = IsBytes-append (digest_bytes h n) (to_be_bytes w32 (slice_index h n)) (digest_is_bytes h n) (high_first_bytes 4 (slice_index h n))

pub sha256_is_bytes : (m : List ℕ) → IsBytes (sha256 m)
unfolding sha256
sha256_is_bytes m = digest_is_bytes (final_hash initial_hash_256 m) 8
