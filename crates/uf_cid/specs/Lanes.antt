-- Eight messages side by side (SHA-256, FIPS 180-4 section 6.2): each word of the hash value is a vector, with one lane for
-- each message.
use Rattle.std.specs.Prelude.{◌≡◌, ℕ, ◌/◌, ◌%◌, ◌-◌, List, [], ◌∷◌, ◌+◌, ◌*◌, map, take, drop, slice_index, slice_index_or}
use Rattle.sha2.specs.Sha256.{padded_message}

-- lane j of vector k
abbrev pub lane_at : List (List ℕ) → ℕ → ℕ → ℕ
lane_at x k j = slice_index (slice_index_or x k []) j

-- the hash value, or the working variables, of message j
abbrev pub lane : ℕ → List (List ℕ) → List ℕ
lane j x =
    lane_at x 0 j ∷ lane_at x 1 j ∷ lane_at x 2 j ∷ lane_at x 3 j
    ∷ lane_at x 4 j ∷ lane_at x 5 j ∷ lane_at x 6 j ∷ lane_at x 7 j ∷ []

-- the words of message j, of any number of vectors
abbrev pub words : ℕ → List (List ℕ) → List ℕ
words j x = map (λ v. slice_index v j) x

-- n bytes of piece j of a buffer that is cut into pieces of `size` bytes, from byte `at` of the piece on
abbrev pub part_of : List ℕ → ℕ → ℕ → ℕ → ℕ → List ℕ
part_of d size j at n = take n (drop (j * size + at) d)

-- t begins with what follows the whole blocks of m, of length n, in its padded message (section 5.1.1)
abbrev pub IsTail : List ℕ → ℕ → List ℕ → Type 0
IsTail m n t = take (n % 64 + ((119 - n % 64) % 64 + 1) + 8) t ≡ drop (n / 64 * 64) (padded_message m)

-- how many blocks of 64 bytes a message of n bytes has, its padding included (section 5.1.1)
abbrev pub blocks_of : ℕ → ℕ
blocks_of n = (n + 8) / 64 + 1

-- the message in the first n bytes of t is followed by its padding (section 5.1.1)
abbrev pub IsPadded : ℕ → List ℕ → Type 0
IsPadded n t = take (64 * blocks_of n) t ≡ padded_message (take n t)
