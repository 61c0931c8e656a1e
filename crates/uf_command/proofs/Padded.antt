-- Digits with zeros in front of them.
use Rattle.std.proofs.Common.{◌≡◌, ◌∙◌, ℕ, ◌-◌, ◌^◌, List, [], ◌++◌, false, length, replicate, ap, append-nil, arith}
use Rattle.std.specs.Fmt.{char_count, format_spec, padded_integral}
use Rattle.uf_command.specs.Lines.{at_least}

no-less : (count : ℕ) (numeral : List ℕ) → count - length numeral - 0 - 0 ≡ count - length numeral
no-less count numeral = omega arith

-- as `{:04}` and `{:04o}` write them
pub four_at_least : (numeral : List ℕ) → padded_integral (format_spec 32 0 4 4 (2 ^ 64 - 1)) false [] numeral ≡ at_least 4 numeral
unfolding padded_integral char_count
four_at_least numeral = ap (λ k. replicate k 48 ++ (numeral ++ [])) (no-less 4 numeral) ∙ ap (λ l. replicate (4 - length numeral) 48 ++ l) (append-nil numeral)

-- as `{:09}` writes them
pub nine_at_least : (numeral : List ℕ) → padded_integral (format_spec 32 0 4 9 (2 ^ 64 - 1)) false [] numeral ≡ at_least 9 numeral
unfolding padded_integral char_count
nine_at_least numeral = ap (λ k. replicate k 48 ++ (numeral ++ [])) (no-less 9 numeral) ∙ ap (λ l. replicate (9 - length numeral) 48 ++ l) (append-nil numeral)
