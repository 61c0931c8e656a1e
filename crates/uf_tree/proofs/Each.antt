-- What holds of each element of a list.
use Rattle.std.proofs.Common.{◌≡◌, ℕ, zero, suc, ◌+◌, ◌<◌, ◌≤◌, List, [], ◌∷◌, ◌++◌, map, arith, sym, subst, ◌⊎◌, inl, inr, ◌≢◌, Bool, true, false, cond, Option, Some, None}
use Rattle.std.proofs.lemmas.Bool.{cases_eq}
use Rattle.std.specs.Prelude.{IfSome}
use Rattle.std.specs.List.{AllByRecursion, filter, cons_option}
use Rattle.std.specs.Option.{option_map}
use Rattle.uf_tree.specs.ShardPlan.{tabulate, flat_tabulate}

module _ {A : Type 0} (P : A → Type 0) where
  pub both : (xs ys : List A) → AllByRecursion P xs → AllByRecursion P ys → AllByRecursion P (xs ++ ys)
  both [] ys a b = b
  both (x ∷ xs) ys a b = (a.0, both xs ys a.1 b)

  pub front : (xs ys : List A) → AllByRecursion P (xs ++ ys) → AllByRecursion P xs
  front [] ys a = tt
  front (x ∷ xs) ys a = (a.0, front xs ys a.1)

  pub back : (xs ys : List A) → AllByRecursion P (xs ++ ys) → AllByRecursion P ys
  back [] ys a = a
  back (x ∷ xs) ys a = back xs ys a.1

  pub each_filter : (test : A → Bool) (xs : List A) → AllByRecursion P xs → AllByRecursion P (filter test xs)
  each_filter test [] a = tt
  each_filter test (x ∷ xs) a = elim (test x) as (λ b. AllByRecursion P (cond b (x ∷ filter test xs) (filter test xs))) [
    | true ↦ (a.0, each_filter test xs a.1)
    | false ↦ each_filter test xs a.1
  ]

  pub each_flat_tabulate : (n a : ℕ) (f : ℕ → List A) → ((s : ℕ) → AllByRecursion P (f s)) → AllByRecursion P (flat_tabulate n a f)
  unfolding flat_tabulate
  each_flat_tabulate zero a f h = tt
  each_flat_tabulate (suc n) a f h = both (f a) (flat_tabulate n (suc a) f) (h a) (each_flat_tabulate n (suc a) f h)

  -- at one of the numbers
  pub at_flat_tabulate : (n a : ℕ) (f : ℕ → List A) (s : ℕ) → a ≤ s → s < a + n → AllByRecursion P (flat_tabulate n a f) → AllByRecursion P (f s)
  unfolding flat_tabulate
  at_flat_tabulate zero a f s h k all = absurd (omega arith)
  at_flat_tabulate (suc n) a f s h k all = by (cases_eq s a) (λ more. at_flat_tabulate n (suc a) f s more (omega arith) (back (f a) (flat_tabulate n (suc a) f) all))
    where
      by : (s ≡ a) ⊎ (s ≢ a) → (suc a ≤ s → AllByRecursion P (f s)) → AllByRecursion P (f s)
      by (inl e) later = subst (λ s. AllByRecursion P (f s)) (sym e) (front (f a) (flat_tabulate n (suc a) f) all)
      by (inr e) later = later (omega arith)

pub each_map : {A B : Type 0} (P : B → Type 0) (f : A → B) (xs : List A) → ((x : A) → P (f x)) → AllByRecursion P (map f xs)
each_map P f [] h = tt
each_map P f (x ∷ xs) h = (h x, each_map P f xs h)

-- of each number with what a function gives there
pub each_tabulate : {A : Type 0} (P : ℕ × A → Type 0) (n a m : ℕ) (f : ℕ → Option A) → a + n ≤ m → ((s : ℕ) → s < m → IfSome (f s) (λ x. P (s, x))) → AllByRecursion P (tabulate n a f)
unfolding tabulate
each_tabulate P zero a m f h each = tt
each_tabulate {A} P (suc n) a m f h each = by (f a) (each a (omega arith)) (each_tabulate P n (suc a) m f (omega arith) each)
  where
    by : (o : Option A) → IfSome o (λ x. P (a, x)) → AllByRecursion P (tabulate n (suc a) f) → AllByRecursion P (cons_option (option_map (λ x. (a, x)) o) (tabulate n (suc a) f))
    by None here later = later
    by (Some x) here later = (here, later)
