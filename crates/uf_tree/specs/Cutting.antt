-- Lists that are cut into groups.
use Rattle.std.specs.Prelude.{ℕ, zero, suc, pred, List, [], ◌∷◌, ◌++◌}

-- the groups one after the other
abbrev pub joined : {A : Type 0} → List (List A) → List A
joined [] = []
joined (g ∷ gs) = g ++ joined gs

-- the room that is left in the last group
abbrev pub room_after : {A : Type 0} → ℕ → ℕ → List A → ℕ
room_after w r [] = r
room_after w zero (x ∷ xs) = room_after w (pred w) xs
room_after w (suc r) (x ∷ xs) = room_after w r xs

-- groups of which the last is open, and those that come of cutting on from there
abbrev pub glue : {A : Type 0} → List A → List (List A) → List A × List (List A) → List A × List (List A)
glue a [] t = (a ++ t.0, t.1)
glue a (g ∷ gs) t = (a, (glue g gs t).0 ∷ (glue g gs t).1)
