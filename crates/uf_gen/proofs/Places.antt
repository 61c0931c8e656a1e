-- Entries found, put and taken out at their place in a list.
use Rattle.std.proofs.Common.{◌≡◌, ℕ, List, [], ◌∷◌, ◌++◌, refl, ap, ◌∙◌, cond, Some, None, not}
use Rattle.std.specs.declared.cmp.Ordering.TheVariants.{Less, Greater}
use Rattle.std.specs.Cmp.{tied_itself}
use Rattle.std.specs.FinMap.Entries.{by_order, find, put}
use Rattle.std.specs.List.{AllByRecursion, filter}
use Rattle.std.specs.Ordering.{eq_by_cmp, is_eq, ordering_reverse}
use Rattle.uf_tree.specs.Changes.{with_name, without}
use Rattle.uf_tree.specs.Names.{names_cmp}
use Rattle.uf_tree.specs.Tree.{Tree}
use Rattle.uf_tree.proofs.ShardLaws.{names_total}

abbrev pub Row : Type 0
Row = List ℕ × Tree

-- each name is in front of this one
abbrev pub AreBefore : List ℕ → List Row → Type 0
AreBefore name l = AllByRecursion (λ (e : Row). names_cmp e.0 name ≡ Less) l

-- each name is behind this one
abbrev pub AreBehind : List ℕ → List Row → Type 0
AreBehind name l = AllByRecursion (λ (e : Row). names_cmp name e.0 ≡ Less) l

-- what is in front is behind the other way round
turned : (a b : List ℕ) → names_cmp a b ≡ Less → names_cmp b a ≡ Greater
turned a b less = names_total.antisymm b a ∙ ap ordering_reverse less

pub find-end : (name : List ℕ) (l : List Row) → AreBefore name l → find names_cmp name l ≡ None
find-end name [] before = refl
find-end name (e ∷ l) before =
    ap (λ r. cond (is_eq r) (Some e.1) (find names_cmp name l)) (turned e.0 name before.0) ∙ find-end name l before.1

pub find-there : (name : List ℕ) (t : Tree) (l rest : List Row) → AreBefore name l
    → find names_cmp name (l ++ (name, t) ∷ rest) ≡ Some t
find-there name t [] rest before = ap (λ r. cond (is_eq r) (Some t) (find names_cmp name rest)) (tied_itself names_total name)
find-there name t (e ∷ l) rest before =
    ap (λ r. cond (is_eq r) (Some e.1) (find names_cmp name (l ++ (name, t) ∷ rest))) (turned e.0 name before.0)
    ∙ find-there name t l rest before.1

pub put-end : (name : List ℕ) (t : Tree) (l : List Row) → AreBefore name l
    → with_name name t l ≡ l ++ (name, t) ∷ []
put-end name t [] before = refl
put-end name t (e ∷ l) before =
    ap (λ r. by_order r ((name, t) ∷ e ∷ l) ((e.0, t) ∷ l) (e ∷ put names_cmp name t l)) (turned e.0 name before.0)
    ∙ ap (λ rest. e ∷ rest) (put-end name t l before.1)

pub put-there : (name : List ℕ) (t u : Tree) (l rest : List Row) → AreBefore name l
    → with_name name u (l ++ (name, t) ∷ rest) ≡ l ++ (name, u) ∷ rest
put-there name t u [] rest before =
    ap (λ r. by_order r ((name, u) ∷ (name, t) ∷ rest) ((name, u) ∷ rest) ((name, t) ∷ put names_cmp name u rest)) (tied_itself names_total name)
put-there name t u (e ∷ l) rest before =
    ap (λ r. by_order r ((name, u) ∷ e ∷ (l ++ (name, t) ∷ rest)) ((e.0, u) ∷ (l ++ (name, t) ∷ rest))
    (e ∷ put names_cmp name u (l ++ (name, t) ∷ rest))) (turned e.0 name before.0)
    ∙ ap (λ rest. e ∷ rest) (put-there name t u l rest before.1)

abbrev keeps : List ℕ → List Row → List Row
keeps name l = filter (λ (e : Row). not (eq_by_cmp names_cmp name e.0)) l

without-behind : (name : List ℕ) (l : List Row) → AreBehind name l → without name l ≡ l
without-behind name [] behind = refl
without-behind name (e ∷ l) behind =
    ap (λ r. cond (not (is_eq r)) (e ∷ keeps name l) (keeps name l)) behind.0
    ∙ ap (λ rest. e ∷ rest) (without-behind name l behind.1)

pub without-there : (name : List ℕ) (t : Tree) (l rest : List Row) → AreBefore name l → AreBehind name rest
    → without name (l ++ (name, t) ∷ rest) ≡ l ++ rest
without-there name t [] rest before behind =
    ap (λ r. cond (not (is_eq r)) ((name, t) ∷ keeps name rest) (keeps name rest)) (tied_itself names_total name)
    ∙ without-behind name rest behind
without-there name t (e ∷ l) rest before behind =
    ap (λ r. cond (not (is_eq r)) (e ∷ keeps name (l ++ (name, t) ∷ rest)) (keeps name (l ++ (name, t) ∷ rest))) (turned e.0 name before.0)
    ∙ ap (λ rest. e ∷ rest) (without-there name t l rest before.1 behind)
