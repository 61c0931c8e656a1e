-- What stands before some bytes.
use Rattle.std.specs.Borrow.{Bor}
use Rattle.std.specs.Prelude.{◌≡◌, ◌≢◌, ℕ, List, ◌++◌, MatchOption, Option}

-- a prefix is there with these bytes after it, or it isn't there
abbrev pub IsFront : List ℕ → List ℕ → Option (Bor (List ℕ)) → Type 0
IsFront front bytes found =
    MatchOption found ((rest : List ℕ) → bytes ≢ front ++ rest) (λ rest. bytes ≡ front ++ rest.now)
