-- Keys that strictly rise, seen at neighbours.
use Rattle.std.specs.Prelude.{List, [], ◌∷◌, Bool, true, ◌&&◌}
use Rattle.std.specs.Ordering.{is_lt}
use Rattle.std.specs.declared.cmp.Ordering.{Ordering}

-- each key is below the next one
abbrev pub rises : {K X : Type 0} → (K → K → Ordering) → List (K × X) → Bool
rises R [] = true
rises R (a ∷ []) = true
rises R (a ∷ b ∷ l) = is_lt (R a.0 b.0) && rises R (b ∷ l)
