-- Sums over slots, and over the pairs of a list.
use Rattle.std.proofs.Common.{◌≡◌, ◌≢◌, ℕ, zero, suc, ◌+◌, ◌<◌, ◌≤◌, List, [], ◌∷◌, map, Bool, true, false, cond, Option, Some, None, refl, ap, sym, arith, ◌∙◌, ◌⊎◌, inl, inr, subst}
use Rattle.std.specs.Prelude.{◌==◌, not}
use Rattle.std.specs.List.{cons_option}
use Rattle.std.specs.Option.{option_map}
use Rattle.std.specs.Ordering.{eq_by_cmp}
use Rattle.std.specs.FinMap.Entries.{find, where_key}
use Rattle.std.proofs.lemmas.Bool.{cases_eq}
use Rattle.uf_tree.specs.Changes.{without}
use Rattle.uf_tree.specs.Names.{names_cmp}
use Rattle.uf_tree.specs.Nodes.{Named}
use Rattle.uf_tree.specs.ShardPlan.{tabulate}
use Rattle.uf_tree.specs.declared.nodes.Entry.{Entry}
use Rattle.uf_tree.proofs.Twins.{same_key}

-- the sum of what f gives at each of so many numbers from a on
unfoldable pub total : ℕ → ℕ → (ℕ → ℕ) → ℕ
total zero a f = 0
total (suc n) a f = f a + total n (suc a) f

pub total-mono : (n a : ℕ) (f g : ℕ → ℕ) → ((s : ℕ) → a ≤ s → s < a + n → f s ≤ g s) → total n a f ≤ total n a g
unfolding total
total-mono zero a f g h = omega arith
total-mono (suc n) a f g h =
    let here : f a ≤ g a = h a (omega arith) (omega arith) in
    let later : total n (suc a) f ≤ total n (suc a) g = total-mono n (suc a) f g (λ s le lt. h s (omega arith) (omega arith)) in
    omega arith

-- sums that differ at one number by d or more
pub total-less : (n a s d : ℕ) (f g : ℕ → ℕ) → a ≤ s → s < a + n → ((q : ℕ) → q ≢ s → f q ≤ g q) → f s + d ≤ g s → total n a f + d ≤ total n a g
unfolding total
total-less zero a s d f g le lt h k = absurd (omega arith)
total-less (suc n) a s d f g le lt h k = by (cases_eq s a) (λ more. total-less n (suc a) s d f g more (omega arith) h k)
  where
    by : (s ≡ a) ⊎ (s ≢ a) → (suc a ≤ s → total n (suc a) f + d ≤ total n (suc a) g) → f a + total n (suc a) f + d ≤ g a + total n (suc a) g
    by (inl e) later =
        let here : f a + d ≤ g a = subst (λ q. f q + d ≤ g q) e k in
        let rest : total n (suc a) f ≤ total n (suc a) g = total-mono n (suc a) f g (λ q more less. h q (λ same. above q more (same ∙ e))) in
        omega arith
      where
        above : (q : ℕ) → suc a ≤ q → q ≡ a → ⊥
        above q more same = omega arith
    by (inr e) later =
        let here : f a ≤ g a = h a (λ same. e (sym same)) in
        let rest : total n (suc a) f + d ≤ total n (suc a) g = later (omega arith) in
        omega arith

pub total-has : (n a s : ℕ) (f : ℕ → ℕ) → a ≤ s → s < a + n → f s ≤ total n a f
unfolding total
total-has zero a s f le lt = absurd (omega arith)
total-has (suc n) a s f le lt = by (cases_eq s a) (λ more. total-has n (suc a) s f more (omega arith))
  where
    by : (s ≡ a) ⊎ (s ≢ a) → (suc a ≤ s → f s ≤ total n (suc a) f) → f s ≤ f a + total n (suc a) f
    by (inl e) later = let same : f s ≡ f a = ap f e in omega arith
    by (inr e) later = let rest : f s ≤ total n (suc a) f = later (omega arith) in omega arith

-- the sum of c over a list
unfoldable pub adds : {A : Type 0} → (A → ℕ) → List A → ℕ
adds c [] = 0
adds c (x ∷ l) = c x + adds c l

-- of what there is, and nothing where it is absent
abbrev pub of_option : {A : Type 0} → (A → ℕ) → Option A → ℕ
of_option c None = 0
of_option c (Some x) = c x

pub adds-tabulate : {A : Type 0} (c : A → ℕ) (n a : ℕ) (f : ℕ → Option A) → adds (λ (p : ℕ × A). c p.1) (tabulate n a f) ≡ total n a (λ s. of_option c (f s))
unfolding total tabulate adds
adds-tabulate c zero a f = refl
adds-tabulate {A} c (suc n) a f = by (f a) (adds-tabulate c n (suc a) f)
  where
    by : (o : Option A) → adds (λ (p : ℕ × A). c p.1) (tabulate n (suc a) f) ≡ total n (suc a) (λ s. of_option c (f s))
        → adds (λ (p : ℕ × A). c p.1) (cons_option (option_map (λ x. (a, x)) o) (tabulate n (suc a) f)) ≡ of_option c o + total n (suc a) (λ s. of_option c (f s))
    by None later = let nothing : total n (suc a) (λ s. of_option c (f s)) ≡ 0 + total n (suc a) (λ s. of_option c (f s)) = omega arith in later ∙ nothing
    by (Some x) later = ap (λ m. c x + m) later

abbrev pub there : {A : Type 0} → Option A → Bool
there None = false
there (Some x) = true

-- what is there at the same numbers has the same numbers
pub tabulate-keys : {A : Type 0} (n a : ℕ) (f g : ℕ → Option A) → ((s : ℕ) → there (f s) ≡ there (g s)) → map (λ (p : ℕ × A). p.0) (tabulate n a f) ≡ map (λ (p : ℕ × A). p.0) (tabulate n a g)
unfolding tabulate
tabulate-keys zero a f g h = refl
tabulate-keys {A} (suc n) a f g h = by (f a) (g a) (h a) (tabulate-keys n (suc a) f g h)
  where
    by : (o p : Option A) → there o ≡ there p → map (λ (p : ℕ × A). p.0) (tabulate n (suc a) f) ≡ map (λ (p : ℕ × A). p.0) (tabulate n (suc a) g)
        → map (λ (p : ℕ × A). p.0) (cons_option (option_map (λ x. (a, x)) o) (tabulate n (suc a) f)) ≡ map (λ (p : ℕ × A). p.0) (cons_option (option_map (λ x. (a, x)) p) (tabulate n (suc a) g))
    by None None e later = later
    by None (Some y) e later = absurd cc
    by (Some x) None e later = absurd cc
    by (Some x) (Some y) e later = ap (λ l. a ∷ l) later

-- pairs that are told apart by a key below n are all counted
pub adds-parts : (c : Named → ℕ) (key : List ℕ → ℕ) (n : ℕ) → ((name : List ℕ) → key name < n) → (l : List Named) → adds c l ≤ total n 0 (λ s. adds c (where_key names_cmp (λ name. key name == s) l))
unfolding adds
adds-parts c key n less [] = omega arith
adds-parts c key n less (e ∷ l) =
    let rest : adds c l ≤ total n 0 (λ s. adds c (part s l)) = adds-parts c key n less l in
    let here : key e.0 < n = less e.0 in
    let more : total n 0 (λ s. adds c (part s l)) + c e ≤ total n 0 (λ s. adds c (part s (e ∷ l))) =
    total-less n 0 (key e.0) (c e) (λ s. adds c (part s l)) (λ s. adds c (part s (e ∷ l))) (omega arith) (omega arith) (λ q other. grows q) at in
    omega arith
  where
    part : ℕ → List Named → List Named
    part s l = where_key names_cmp (λ name. key name == s) l

    grows : (q : ℕ) → adds c (part q l) ≤ adds c (part q (e ∷ l))
    grows q = elim (key e.0 == q) as (λ b. adds c (part q l) ≤ adds c (cond b (e ∷ part q l) (part q l))) [ true ↦ omega arith | false ↦ omega arith ]

    at : adds c (part (key e.0) l) + c e ≤ adds c (part (key e.0) (e ∷ l))
    at = subst (λ b. adds c (part (key e.0) l) + c e ≤ adds c (cond b (e ∷ part (key e.0) l) (part (key e.0) l))) (sym (same_key (key e.0) (key e.0) refl)) (omega arith)

-- a removal takes away what the removed pair added
pub adds-without : (c : Named → ℕ) (m : ℕ) → ((e : Named) → m ≤ c e) → (name : List ℕ) (old : Entry) (l : List Named) → find names_cmp name l ≡ Some old → adds c (without name l) + m ≤ adds c l
unfolding adds
adds-without c m least name old [] h = absurd cc
adds-without c m least name old (e ∷ l) h = by (eq_by_cmp names_cmp name e.0) (λ k. adds-without c m least name old l k) h
  where
    fewer : (l : List Named) → adds c (without name l) ≤ adds c l
    fewer [] = omega arith
    fewer (f ∷ l) = elim (eq_by_cmp names_cmp name f.0) as (λ b. adds c (cond (not b) (f ∷ without name l) (without name l)) ≤ c f + adds c l) [ true ↦ omega (arith, fewer l) | false ↦ omega (arith, fewer l) ]

    by : (b : Bool) → (find names_cmp name l ≡ Some old → adds c (without name l) + m ≤ adds c l) → cond b (Some e.1) (find names_cmp name l) ≡ Some old
        → adds c (cond (not b) (e ∷ without name l) (without name l)) + m ≤ c e + adds c l
    by true later h = omega (arith, fewer l, least e)
    by false later h = omega (arith, later h)
