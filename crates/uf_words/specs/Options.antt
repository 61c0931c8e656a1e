-- Options, arguments and numbers in the words of a command, by what the crate `clap` says it reads.
use Rattle.std.specs.Prelude.{◌≡◌, ℕ, ◌-◌, ◌*◌, ◌+◌, ◌^◌, ◌&&◌, Bool, true, false, List, [], ◌∷◌, length, codes, nat_le, nat_lt, if◌then◌else◌}
use Rattle.std.specs.List.{list_all}
use Rattle.std.specs.Str.{bytes_eq}
use Rattle.std.specs.Char.{is_ascii_digit}
use Rattle.std.specs.Option.{option_map_or}
use Rattle.std.specs.declared.option.Option.{Option}
use Rattle.std.specs.declared.option.Option.TheVariants.{None, Some}
use Rattle.clap.specs.declared.builder.action.ArgAction.TheVariants.{Set, SetTrue}
use Rattle.clap.specs.Walk.{Row, Rule, first_of, is_empty, rows_of}
use Rattle.clap.specs.Matches.{found_of}
use Rattle.clap.specs.declared.parser.matches.ArgMatches.{ArgMatches}
use Rattle.std.specs.declared.result.Result.{Result}
use Rattle.std.specs.declared.result.Result.TheVariants.{Ok, Err}
use Rattle.uf_words.specs.declared.command.WordFault.{WordFault}
use Rattle.uf_words.specs.declared.options.OptionRow.{OptionRow}
use Rattle.uf_words.specs.declared.options.OptionRow.TheVariants.{Flag, LongFlag, Valued, ValuedShort, Argument, Optional}
use Rattle.uf_words.specs.declared.command.WordFault.TheVariants as fault
use Rattle.clap.specs.Simple.{App, matches_of, new_rule, new_shape}
use Rattle.clap.specs.Faults.{fault_of}

-- a flag, by its name or by one letter
abbrev pub flag : List ℕ → ℕ → Rule
flag name letter = record (new_rule name) { long = Some name; short = Some letter; action = Some SetTrue }

-- a flag, by its name alone
abbrev pub long_flag : List ℕ → Rule
long_flag name = record (new_rule name) { long = Some name; action = Some SetTrue }

-- an option with a value, by its name alone
abbrev pub valued : List ℕ → Rule
valued name = record (new_rule name) { long = Some name; action = Some Set }

-- an option with a value, by its name or by one letter
abbrev pub valued_short : List ℕ → ℕ → Rule
valued_short name letter = record (valued name) { short = Some letter }

-- an argument that has to be there
abbrev pub argument : List ℕ → Rule
argument name = record (new_rule name) { required = true; action = Some Set }

-- an argument that may be absent
abbrev pub optional_argument : List ℕ → Rule
optional_argument name = record (new_rule name) { action = Some Set }

-- what `clap` reads by an option or an argument of the table
abbrev pub rule_in : OptionRow → Rule
rule_in (Flag name letter) = flag name.now letter
rule_in (LongFlag name) = long_flag name.now
rule_in (Valued name) = valued name.now
rule_in (ValuedShort name letter) = valued_short name.now letter
rule_in (Argument name) = argument name.now
rule_in (Optional name) = optional_argument name.now

-- the command of `clap` that has these options and arguments, and no flag for help
abbrev pub simple_command : List Rule → App
simple_command rules = record {
  top = record (new_shape (codes "unixfs")) { rules = rules; no_binary_name = true; disable_help_flag = true };
  subs = [];
}

-- what a command of `clap` finds in the words, where it refuses none of them
unfoldable pub found_by : App → List (List ℕ) → Option (List Row)
found_by app words = if is_empty (fault_of app words) then Some (matches_of app words) else None

-- what is found in the words by these options and arguments
abbrev pub found_in : List Rule → List (List ℕ) → Option (List Row)
found_in rules words = found_by (simple_command rules) words

-- the call finds this in the words, or refuses them, or is out of memory
abbrev pub FindsIn : Result ArgMatches WordFault → Option (List Row) → Type 0
FindsIn (Ok matches) told = told ≡ Some (rows_of (found_of matches))
FindsIn (Err fault.Usage) told = told ≡ None
FindsIn (Err fault.Memory) told = Unit {0}

-- the flag is given
abbrev pub is_flagged : List ℕ → List Row → Bool
is_flagged name found = option_map_or (λ value. bytes_eq value (codes "true")) (first_of name found) false

-- the number that decimal digits stand for, after the number `n` of the digits before them
abbrev pub decimal_from : ℕ → List ℕ → ℕ
decimal_from n [] = n
decimal_from n (digit ∷ digits) = decimal_from (n * 10 + (digit - 48)) digits

-- the word has 1 to 20 bytes, all decimal digits
abbrev pub is_numeral : List ℕ → Bool
is_numeral word = nat_le 1 (length word) && nat_le (length word) 20 && list_all is_ascii_digit word

-- the number of a word of 1 to 20 decimal digits, which is at most 2 ^ 64 - 1
unfoldable pub numeral_value : List ℕ → Option ℕ
numeral_value word =
    if is_numeral word && nat_lt (decimal_from 0 word) (2 ^ 64) then Some (decimal_from 0 word) else None

-- the byte is an octal digit
abbrev pub is_octal_digit : ℕ → Bool
is_octal_digit b = nat_le 48 b && nat_le b 55

-- the number that octal digits stand for, after the number `n` of the digits before them
abbrev pub octal_from : ℕ → List ℕ → ℕ
octal_from n [] = n
octal_from n (digit ∷ digits) = octal_from (n * 8 + (digit - 48)) digits

-- the word has one to four bytes, all octal digits
abbrev pub is_mode : List ℕ → Bool
is_mode word = nat_le 1 (length word) && nat_le (length word) 4 && list_all is_octal_digit word

-- the number of a word of one to four octal digits
unfoldable pub mode_value : List ℕ → Option ℕ
mode_value word = if is_mode word then Some (octal_from 0 word) else None

-- the number of a value, or the one that stands for none
abbrev pub number_or : ℕ → Option (List ℕ) → Option ℕ
number_or absent None = Some absent
number_or absent (Some word) = numeral_value word
