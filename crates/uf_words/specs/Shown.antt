-- Texts as they are printed (percent-encoding, RFC 3986 section 2.1).
use Rattle.std.specs.Prelude.{ℕ, ◌+◌, ◌/◌, ◌%◌, ◌==◌, ◌&&◌, not, Bool, List, [], ◌∷◌, ◌++◌, nat_lt, if◌then◌else◌}

-- the byte is printed as it is: it stands for a character of ASCII that has ink, and isn't `%`
abbrev pub is_plain : ℕ → Bool
is_plain b = nat_lt 32 b && nat_lt b 127 && not (b == 37)

-- the upper case hexadecimal digit of a number below 16
abbrev pub upper_hex : ℕ → ℕ
upper_hex n = if nat_lt n 10 then 48 + n else 55 + n

-- a plain byte itself, and for another byte `%` and its two digits
abbrev pub shown_byte : ℕ → List ℕ
shown_byte b = if is_plain b then b ∷ [] else 37 ∷ upper_hex (b / 16) ∷ upper_hex (b % 16) ∷ []

-- the bytes of a text as they are printed
abbrev pub shown_bytes : List ℕ → List ℕ
shown_bytes [] = []
shown_bytes (b ∷ rest) = shown_byte b ++ shown_bytes rest
