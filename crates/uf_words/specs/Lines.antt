-- The words of a line (percent-encoding, RFC 3986 section 2.1).
use Rattle.std.specs.Prelude.{◌==◌, ℕ, Bool, List, [], ◌∷◌}
use Rattle.std.specs.List.{flat_map, slice_split}
use Rattle.percent_encoding.specs.Percent.{percent_decode}

-- the byte is a space
abbrev pub is_space : ℕ → Bool
is_space b = b == 32

-- the word that a piece of a line is, decoded; an empty piece is none
abbrev pub word_in : List ℕ → List (List ℕ)
word_in [] = []
word_in (b ∷ bytes) = percent_decode (b ∷ bytes) ∷ []

-- the words of a line: what stands between its runs of spaces
unfoldable pub line_words : List ℕ → List (List ℕ)
line_words line = flat_map word_in (slice_split is_space line)
