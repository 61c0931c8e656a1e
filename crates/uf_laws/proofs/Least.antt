-- The twins that a collision names are the least.
use Rattle.std.proofs.Common.{◌≡◌, ℕ, List, [], ◌∷◌, refl, ap, sym, ◌∙◌, subst, Bool, true, false, cond, Option, Some, None, Ordering}
use Rattle.std.specs.declared.cmp.Ordering.TheVariants.{Less, Equal, Greater}
use Rattle.std.specs.Cmp.{tied_itself}
use Rattle.std.specs.List.{AllByRecursion, find}
use Rattle.std.specs.Ordering.{is_lt}
use Rattle.std.specs.FinMap.Entries.{is_sorted, below_all}
use Rattle.uf_laws.specs.Least.{NotBefore, Least}
use Rattle.uf_tree.specs.Names.{names_cmp}
use Rattle.uf_tree.specs.Nodes.{Named}
use Rattle.uf_tree.specs.ShardPlan.{twins}
use Rattle.uf_tree.proofs.ShardLaws.{names_total}
use Rattle.uf_tree.proofs.Twins.{both_true, not_found}

less_is : (r : Ordering) → is_lt r ≡ true → r ≡ Less
less_is Less h = refl
less_is Equal h = absurd (no h)
  where
    no : false ≡ true → ⊥
    no e = cc
less_is Greater h = absurd (no h)
  where
    no : false ≡ true → ⊥
    no e = cc

-- each name of a list behind one is greater
each_above : (x : List ℕ) (l : List Named) → below_all names_cmp x l ≡ true → AllByRecursion (λ (f : Named). names_cmp x f.0 ≡ Less) l
each_above x [] h = tt
each_above x (f ∷ l) h = let parts = both_true (is_lt (names_cmp x f.0)) (below_all names_cmp x l) h in (less_is _ parts.0, each_above x l parts.1)

itself : (x : List ℕ) → names_cmp x x ≡ Equal
itself x = tied_itself names_total x

not_less_itself : (x : List ℕ) → names_cmp x x ≡ Less → ⊥
not_less_itself x h = no (sym h ∙ itself x)
  where
    no : Less ≡ Equal → ⊥
    no e = cc

not_both : (x y : List ℕ) → names_cmp x y ≡ Less → names_cmp y x ≡ Less → ⊥
not_both x y h k = not_less_itself x (names_total.trans x y x h k)

before_itself : (x : List ℕ) → NotBefore x x
before_itself x h = no (sym (itself x) ∙ h)
  where
    no : Equal ≡ Greater → ⊥
    no e = cc

before_less : (x y : List ℕ) → names_cmp x y ≡ Less → NotBefore y x
before_less x y h k = no (sym h ∙ k)
  where
    no : Less ≡ Greater → ⊥
    no e = cc

true_false : (b : Bool) → b ≡ true → b ≡ false → ⊥
true_false b h k = no (sym h ∙ k)
  where
    no : true ≡ false → ⊥
    no e = cc

-- each of what another fact gives
each : (P Q : Named → Type 0) → ((f : Named) → P f → Q f) → (l : List Named) → AllByRecursion P l → AllByRecursion Q l
each P Q h [] all = tt
each P Q h (f ∷ l) all = (h f all.0, each P Q h l all.1)

-- each of what two facts give
zipped : (P Q R : Named → Type 0) → ((f : Named) → P f → Q f → R f) → (l : List Named) → AllByRecursion P l → AllByRecursion Q l → AllByRecursion R l
zipped P Q R h [] a b = tt
zipped P Q R h (f ∷ l) a b = (h f a.0 b.0, zipped P Q R h l a.1 b.1)

module _ (same : List ℕ → List ℕ → Bool) where
  -- the first of a sorted list that passes the test is the least that does
  first_least : (x : List ℕ) (l : List Named) (g : Named) → is_sorted names_cmp l ≡ true → find (λ (f : Named). same x f.0) l ≡ Some g
      → AllByRecursion (λ (f : Named). same x f.0 ≡ true → NotBefore f.0 g.0) l
  first_least x [] g sorted h = tt
  first_least x (f ∷ l) g sorted h = by (same x f.0) refl (λ k. first_least x l g (both_true (below_all names_cmp f.0 l) (is_sorted names_cmp l) sorted).1 k)
    where
      above : AllByRecursion (λ (o : Named). names_cmp f.0 o.0 ≡ Less) l
      above = each_above f.0 l (both_true (below_all names_cmp f.0 l) (is_sorted names_cmp l) sorted).0

      by : (b : Bool) → same x f.0 ≡ b → (find (λ (f : Named). same x f.0) l ≡ Some g → AllByRecursion (λ (f : Named). same x f.0 ≡ true → NotBefore f.0 g.0) l)
          → AllByRecursion (λ (f : Named). same x f.0 ≡ true → NotBefore f.0 g.0) (f ∷ l)
      by true e later =
          let is : Some f ≡ Some g = sym (ap (λ b. cond b (Some f) (find (λ (f : Named). same x f.0) l)) e) ∙ h in
          let it : f ≡ g = cc in
          let name : f.0 ≡ g.0 = ap (λ (n : Named). n.0) it in (
            λ _. subst (NotBefore f.0) name (before_itself f.0),
            each (λ (o : Named). names_cmp f.0 o.0 ≡ Less) (λ (o : Named). same x o.0 ≡ true → NotBefore o.0 g.0) (λ o less _. subst (NotBefore o.0) name (before_less f.0 o.0 less)) l above,
          )
      by false e later = (λ k. absurd (true_false (same x f.0) k e), later (sym (ap (λ b. cond b (Some f) (find (λ (f : Named). same x f.0) l)) e) ∙ h))

  -- names that come first are not twins of one that has none
  alone_least : (a b : List ℕ) (e : Named) (f : Named) → same e.0 f.0 ≡ false → names_cmp e.0 f.0 ≡ Less → same e.0 f.0 ≡ true → NotBefore e.0 a × (names_cmp a e.0 ≡ Equal → NotBefore f.0 b)
  alone_least a b e f h less k = absurd (true_false (same e.0 f.0) k h)

  pub twins-least : (l : List Named) (a b : List ℕ) → is_sorted names_cmp l ≡ true → twins same l ≡ Some (a, b) → Least same a b l
  unfolding twins
  twins-least [] a b sorted h = tt
  twins-least (e ∷ l) a b sorted h = by (find (λ (f : Named). same e.0 f.0) l) refl (λ k. twins-least l a b parts.1 k)
    where
      parts : (below_all names_cmp e.0 l ≡ true) × (is_sorted names_cmp l ≡ true)
      parts = both_true (below_all names_cmp e.0 l) (is_sorted names_cmp l) sorted

      above : AllByRecursion (λ (f : Named). names_cmp e.0 f.0 ≡ Less) l
      above = each_above e.0 l parts.0

      -- a pair of which the second name comes first
      turned : (a b : List ℕ) (f : Named) → names_cmp e.0 f.0 ≡ Less → names_cmp f.0 e.0 ≡ Less → same f.0 e.0 ≡ true → NotBefore f.0 a × (names_cmp a f.0 ≡ Equal → NotBefore e.0 b)
      turned a b f h k s = absurd (not_both e.0 f.0 h k)

      by : (o : Option Named) → find (λ (f : Named). same e.0 f.0) l ≡ o → (twins same l ≡ Some (a, b) → Least same a b l) → Least same a b (e ∷ l)
      by None k later =
          let rest : Least same a b l = later (sym (ap (λ (o : Option Named). elim o [ None ↦ twins same l | Some f ↦ Some (e.0, f.0) ]) k) ∙ h) in (
            (
              λ less s. absurd (not_less_itself e.0 less),
              each (λ (f : Named). same e.0 f.0 ≡ false) (λ (f : Named). names_cmp e.0 f.0 ≡ Less → same e.0 f.0 ≡ true → NotBefore e.0 a × (names_cmp a e.0 ≡ Equal → NotBefore f.0 b))
                  (λ f h less s. alone_least a b e f h less s) l (not_found same e.0 l k),
            ),
            zipped (λ (f : Named). names_cmp e.0 f.0 ≡ Less)
                (λ (f : Named). AllByRecursion (λ (o : Named). names_cmp f.0 o.0 ≡ Less → same f.0 o.0 ≡ true → NotBefore f.0 a × (names_cmp a f.0 ≡ Equal → NotBefore o.0 b)) l)
                (λ (f : Named). AllByRecursion (λ (o : Named). names_cmp f.0 o.0 ≡ Less → same f.0 o.0 ≡ true → NotBefore f.0 a × (names_cmp a f.0 ≡ Equal → NotBefore o.0 b)) (e ∷ l))
                (λ f less all. (λ k s. turned a b f less k s, all)) l above rest,
          )
      by (Some g) k later =
          let is : ◌≡◌ {A = Option (List ℕ × List ℕ)} (Some (e.0, g.0)) (Some (a, b)) = sym (ap (λ (o : Option Named). elim o [ None ↦ twins same l | Some f ↦ Some (e.0, f.0) ]) k) ∙ h in
          let both : ◌≡◌ {A = List ℕ × List ℕ} (e.0, g.0) (a, b) = cc in
          let first : e.0 ≡ a = ap (λ (n : List ℕ × List ℕ). n.0) both in
          let second : g.0 ≡ b = ap (λ (n : List ℕ × List ℕ). n.1) both in
          let least : AllByRecursion (λ (f : Named). same e.0 f.0 ≡ true → NotBefore f.0 b) l
          = subst (λ x. AllByRecursion (λ (f : Named). same e.0 f.0 ≡ true → NotBefore f.0 x) l) second (first_least e.0 l g parts.1 k) in
          let here : NotBefore e.0 a = subst (NotBefore e.0) first (before_itself e.0) in (
            (
              λ less s. absurd (not_less_itself e.0 less),
              each (λ (f : Named). same e.0 f.0 ≡ true → NotBefore f.0 b) (λ (f : Named). names_cmp e.0 f.0 ≡ Less → same e.0 f.0 ≡ true → NotBefore e.0 a × (names_cmp a e.0 ≡ Equal → NotBefore f.0 b))
                  (λ f h less s. (here, λ _. h s)) l least,
            ),
            each (λ (f : Named). names_cmp e.0 f.0 ≡ Less)
                (λ (f : Named). AllByRecursion (λ (o : Named). names_cmp f.0 o.0 ≡ Less → same f.0 o.0 ≡ true → NotBefore f.0 a × (names_cmp a f.0 ≡ Equal → NotBefore o.0 b)) (e ∷ l))
                (λ f less. (λ k s. turned a b f less k s, later_ones first f less l)) l above,
          )
        where
          later_ones : e.0 ≡ a → (f : Named) → names_cmp e.0 f.0 ≡ Less → (m : List Named) → AllByRecursion (λ (o : Named). names_cmp f.0 o.0 ≡ Less → same f.0 o.0 ≡ true → NotBefore f.0 a × (names_cmp a f.0 ≡ Equal → NotBefore o.0 b)) m
          later_ones first f less [] = tt
          later_ones first f less (o ∷ m) =
              (λ k s. (subst (NotBefore f.0) first (before_less e.0 f.0 less), λ same_as. absurd (differ (sym (ap (λ x. names_cmp x f.0) first ∙ same_as) ∙ less))), later_ones first f less m)
            where
              differ : Equal ≡ Less → ⊥
              differ e = cc
