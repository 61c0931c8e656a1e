-- Pairs of one name that stand side by side.
use Rattle.std.specs.Prelude.{ℕ, List, [], ◌∷◌, ◌++◌, Bool, false, fold, if◌then◌else◌}
use Rattle.std.specs.Ordering.{eq_by_cmp}
use Rattle.uf_tree.specs.Names.{names_cmp}
use Rattle.uf_tree.specs.Nodes.{Named}

-- whether the last pair has this name
abbrev pub ends_with : List ℕ → List Named → Bool
ends_with name [] = false
ends_with name (e ∷ []) = eq_by_cmp names_cmp e.0 name
ends_with name (e ∷ f ∷ l) = ends_with name (f ∷ l)

-- a pair put after others, unless the last of them has its name
abbrev pub with_other : List Named → Named → List Named
with_other l e = if ends_with e.0 l then l else l ++ e ∷ []

-- of pairs of one name that stand side by side the first one
abbrev pub without_repeats : List Named → List Named
without_repeats l = fold with_other [] l
