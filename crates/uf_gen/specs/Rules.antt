-- The rules of the generated tree: the numbers, the names and the bytes of its files.
use Rattle.std.specs.Prelude.{ℕ, zero, suc, ◌+◌, ◌*◌, ◌/◌, ◌%◌, ◌==◌, List, [], ◌∷◌, ◌++◌, map, if◌then◌else◌}
use Rattle.std.specs.List.{range_with_len}
use Rattle.uf_tree.specs.Laying.{laid}

-- the number that a file has by a seed
abbrev pub mixed : (seed i : ℕ) → ℕ
mixed seed i = (40503 * (i % 65536) + 257 * (seed % 65536)) % 65536

-- the last n decimal digits of a number
unfoldable pub digits : (count i : ℕ) → List ℕ
digits zero i = []
digits (suc count) i = digits count (i / 10) ++ (48 + i % 10) ∷ []

-- the name of a file: `f` and eight digits
abbrev pub file_name : ℕ → List ℕ
file_name i = 102 ∷ digits 8 i

-- n bytes, each one more than the byte before
abbrev pub rising_bytes : (from count : ℕ) → List ℕ
rising_bytes from count = map (λ j. (from + j) % 256) (range_with_len 0 count)

-- the bytes with which a file is made
abbrev pub first_bytes : (seed i : ℕ) → List ℕ
first_bytes seed i = rising_bytes (mixed seed i) (mixed seed i % 4096)

-- where the byte `x` is written into a file later
abbrev pub late_offset : (seed i : ℕ) → ℕ
late_offset seed i = mixed seed i % 8192

-- that byte
abbrev pub late_piece : List ℕ
late_piece = 120 ∷ []

-- the bytes of a file in the end: of each third the byte was written into it
abbrev pub last_bytes : (seed i : ℕ) → List ℕ
last_bytes seed i =
    if i % 3 == 1 then laid (first_bytes seed i) (late_offset seed i) late_piece else first_bytes seed i
