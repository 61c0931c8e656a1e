-- What a command of `clap` finds, and when it refuses.
use Rattle.std.proofs.Common.{◌≡◌, ◌&&◌, Bool, true, false, List, ℕ, [], ◌∷◌, Some, None, refl, sym, ap, ◌∙◌, arith, inl, inr, ◌⊎◌}
use Rattle.std.proofs.lemmas.Bool.Decides.{nat_tests}
use Rattle.std.specs.Prelude.{if◌then◌else◌}
use Rattle.clap.specs.Kinds.{IsAmong, Kinds}
use Rattle.clap.specs.Walk.{is_empty, rows_of}
use Rattle.clap.specs.Matches.{found_of}
use Rattle.clap.specs.Simple.{App, HasMatchesOf, is_simple, matches_of}
use Rattle.clap.specs.Faults.{fault_of, is_free_app, is_simple_and_free}
use Rattle.clap.specs.Simple.{built}
use Rattle.clap.specs.declared.error.kind.ErrorKind.{ErrorKind}
use Rattle.clap.specs.declared.parser.matches.ArgMatches.{ArgMatches}
use Rattle.uf_words.specs.Options.{found_by}

first : (a b : Bool) → (a && b) ≡ true → a ≡ true
first true b h = refl
first false b h = cc

pub simple_of : (app : App) → is_simple_and_free app ≡ true → is_simple app ≡ true
simple_of app h = first (is_simple app) (is_free_app (built app)) h

-- an answer Ok comes where no kind of fault does, with the rows of the words
pub found_rows : (app : App) (words : List (List ℕ)) (m : ArgMatches) → is_simple_and_free app ≡ true → fault_of app words ≡ [] → HasMatchesOf app words m
    → found_by app words ≡ Some (rows_of (found_of m))
unfolding found_by
found_rows app words m simple none matches =
    ap (λ (kinds : Kinds). if is_empty kinds then Some (matches_of app words) else None) none ∙ ap Some (sym (matches (simple_of app simple)).0)

some_kind : (kind : ErrorKind) (kinds : Kinds) → IsAmong kind kinds → is_empty kinds ≡ false
some_kind kind [] h = absurd h
some_kind kind (k ∷ kinds) h = grind (arith, nat_tests)

-- words that are refused by some kind of fault have no rows
pub no_rows : (app : App) (words : List (List ℕ)) (kind : ErrorKind) → IsAmong kind (fault_of app words) → found_by app words ≡ None
unfolding found_by
no_rows app words kind among = ap (λ (b : Bool). if b then Some (matches_of app words) else None) (some_kind kind (fault_of app words) among)

-- what is known of a kind that isn't want of memory
pub other_kind : (kind memory : ErrorKind) (kinds : Kinds) → (kind ≡ memory → ⊥) → (kind ≡ memory) ⊎ IsAmong kind kinds → IsAmong kind kinds
other_kind kind memory kinds other (inl same) = absurd (other same)
other_kind kind memory kinds other (inr among) = among
