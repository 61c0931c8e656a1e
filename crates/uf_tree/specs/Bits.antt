-- A byte of a bitfield, from which slots are there.
use Rattle.std.specs.Prelude.{ℕ, ◌*◌, ◌%◌, ◌^◌, List, Bool, false, slice_index_or, if◌then◌else◌}
use Rattle.std.specs.List.{sum_by, range_with_len}

-- what slot i adds to its byte
unfoldable pub bit_from : List Bool → ℕ → ℕ
bit_from there i = if slice_index_or there i false then 2 ^ (i % 8) else 0

-- byte n, counted from the last one
unfoldable pub byte_from : List Bool → ℕ → ℕ
byte_from there n = sum_by (bit_from there) (range_with_len (8 * n) 8)
