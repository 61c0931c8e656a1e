-- The least of the names that have a twin.
use Rattle.std.specs.Prelude.{◌≡◌, ◌≢◌, ℕ, List, Bool, true}
use Rattle.std.specs.List.{AllByRecursion}
use Rattle.std.specs.declared.cmp.Ordering.TheVariants.{Less, Equal, Greater}
use Rattle.uf_tree.specs.Names.{names_cmp}
use Rattle.uf_tree.specs.Nodes.{Named}

-- a name doesn't come before another
abbrev pub NotBefore : List ℕ → List ℕ → Type 0
NotBefore name other = names_cmp other name ≢ Greater

-- of any two names of the list that are twins the lesser doesn't come before a, and where it is a the greater doesn't
-- come before b
abbrev pub Least : (List ℕ → List ℕ → Bool) → List ℕ → List ℕ → List Named → Type 0
Least same a b l = AllByRecursion (λ (e : Named). AllByRecursion (λ (f : Named).
    names_cmp e.0 f.0 ≡ Less → same e.0 f.0 ≡ true → NotBefore e.0 a × (names_cmp a e.0 ≡ Equal → NotBefore f.0 b)) l) l
