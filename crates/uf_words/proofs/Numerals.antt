-- Numbers read from decimal digits.
use Rattle.std.proofs.Common.{◌≡◌, ℕ, ◌^◌, ◌<◌, true, Ok, Err, Some, None, List, length, sym, ap, ◌∙◌, arith, rules}
use Rattle.std.specs.List.{list_all}
use Rattle.std.specs.Char.{is_ascii_digit}
use Rattle.std.specs.Str.Parse.{ParsesUnsigned}
use Rattle.std.proofs.lemmas.Bool.Decides.{nat_tests}
use Rattle.std.proofs.lemmas.Str.Parse.{IsNumeralModel, IsDigitsTest, FoldsDigits, numerals_by_fold, parse_digits}
use Rattle.uf_words.specs.Options.{decimal_from, is_numeral, numeral_value}

digits : IsDigitsTest (λ ds. list_all is_ascii_digit ds ≡ true)
digits = search rules

folds : FoldsDigits decimal_from
folds = search rules

own : IsNumeralModel (λ ds. list_all is_ascii_digit ds ≡ true) (decimal_from 0)
own = numerals_by_fold _ digits decimal_from folds

all_digits : (word : List ℕ) → is_numeral word ≡ true → list_all is_ascii_digit word ≡ true
all_digits word h = grind (arith, nat_tests)

has_bytes : (word : List ℕ) → is_numeral word ≡ true → 0 < length word
has_bytes word h = grind (arith, nat_tests)

small_enough : (word : List ℕ) → is_numeral word ≡ true → decimal_from 0 word < 2 ^ 64 → numeral_value word ≡ Some (decimal_from 0 word)
unfolding numeral_value
small_enough word h small = grind (arith, nat_tests)

too_great : (word : List ℕ) → is_numeral word ≡ true → ¬ (decimal_from 0 word < 2 ^ 64) → numeral_value word ≡ None
unfolding numeral_value
too_great word h great = grind (arith, nat_tests)

pub number_read : (E : Type 0) (word : List ℕ) (value : ℕ) → is_numeral word ≡ true → ParsesUnsigned {E = E} 64 10 word (Ok value) → numeral_value word ≡ Some value
number_read E word value h parsed =
    let told = parse_digits own {E = E} 64 word (Ok value) parsed (all_digits word h) in
    small_enough word h told.0.1 ∙ ap (λ (n : ℕ). Some n) (sym told.1)

pub number_refused : (E : Type 0) (word : List ℕ) (e : E) → is_numeral word ≡ true → ParsesUnsigned {E = E} 64 10 word (Err e) → numeral_value word ≡ None
number_refused E word e h parsed =
    let told = parse_digits own {E = E} 64 word (Err e) parsed (all_digits word h) in
    too_great word h (λ small. told (has_bytes word h, small))
