-- What a change of one name does to a shard.
use Rattle.std.proofs.Common.{◌≡◌, ℕ, zero, suc, ◌+◌, ◌<◌, ◌≤◌, ◌≢◌, List, refl, ap, arith, sym, ◌∙◌, Bool, true, false, cond, T, Option, Some, None, Ordering}
use Rattle.std.specs.Prelude.{◌==◌, ◌&&◌, not}
use Rattle.std.specs.declared.cmp.Ordering.TheVariants.{Less, Equal, Greater}
use Rattle.std.specs.Ordering.{nat_cmp, eq_by_cmp, is_lt, is_eq}
use Rattle.std.specs.Cmp.{IsTotalOrder, nat_cmp_total}
use Rattle.std.specs.Cmp.Lexicographic.{nat_list_cmp_total}
use Rattle.std.specs.FinMap.{IsAntisymmetric, nat_cmp-IsAntisymmetric, slice_cmp-IsAntisymmetric}
use Rattle.std.specs.FinMap.Entries.{find, put, is_sorted, where_key, below_all, find-put, find-where_key, is_sorted-put, is_sorted-where_key, same_entries}
use Rattle.std.specs.List.{cons_option}
use Rattle.std.specs.Option.{option_map}
use Rattle.std.proofs.Common.{◌⊎◌, inl, inr}
use Rattle.std.proofs.lemmas.Bool.Decides.{nat_tests}
use Rattle.std.proofs.lemmas.Bool.{cases_eq, cases_lt}
use Rattle.uf_murmur.specs.Slots.{slot}
use Rattle.uf_tree.specs.Names.{names_cmp}
use Rattle.uf_tree.specs.Nodes.{Named}
use Rattle.uf_tree.specs.ShardPlan.{bucket, tabulate, shard_items, slot_item}
use Rattle.uf_tree.specs.Changes.{without, set_at}
use Rattle.uf_tree.specs.FilePlan.{Plan}
use Rattle.uf_tree.specs.declared.nodes.Entry.{Entry}

-- names that compare alike are one
pub names_exact : IsAntisymmetric names_cmp
names_exact = slice_cmp-IsAntisymmetric nat_cmp-IsAntisymmetric

pub names_total : IsTotalOrder names_cmp
names_total = nat_list_cmp_total

inner_first : {A : Type 0} (a b : Bool) (x y z : A) → (b ≡ true → a ≡ true) → cond a (cond b x y) z ≡ cond b x (cond a y z)
inner_first true b x y z h = refl
inner_first false false x y z h = refl
inner_first false true x y z h = absurd (false_true (h refl))
  where
    false_true : false ≡ true → ⊥
    false_true e = cc

inner_never : {A : Type 0} (a b : Bool) (x y z : A) → (b ≡ true → a ≡ false) → cond a (cond b x y) z ≡ cond a y z
inner_never false b x y z h = refl
inner_never true false x y z h = refl
inner_never true true x y z h = absurd (true_false (h refl))
  where
    true_false : true ≡ false → ⊥
    true_false e = cc

either_way : {A : Type 0} (a b : Bool) (x z : A) → cond a (cond b x z) z ≡ cond b (cond a x z) z
either_way true true x z = refl
either_way true false x z = refl
either_way false true x z = refl
either_way false false x z = refl

only_outer : {A : Type 0} (a b : Bool) (x z : A) → (b ≡ false → a ≡ false) → cond a (cond b x z) z ≡ cond a x z
only_outer false b x z h = refl
only_outer true true x z h = refl
only_outer true false x z h = absurd (true_false (h refl))
  where
    true_false : true ≡ false → ⊥
    true_false e = cc

turned : (b : Bool) → not b ≡ false → b ≡ true
turned true e = refl
turned false e = cc

pub tied : (r : Ordering) → is_eq r ≡ true → r ≡ Equal
tied Less e = cc
tied Equal e = refl
tied Greater e = cc

module _ {K V : Type 0} {R : K → K → Ordering} (o : IsTotalOrder R) (exact : IsAntisymmetric R) where
  -- the part of the entries whose keys pass a test, after one entry is put
  pub where_key-put : (p : K → Bool) (k : K) (v : V) (es : List (K × V)) → T (is_sorted R es)
      → where_key R p (put R k v es) ≡ cond (p k) (put R k v (where_key R p es)) (where_key R p es)
  where_key-put p k v es h = same_entries R o exact _ _
      (is_sorted-where_key R p (put R k v es) (is_sorted-put R o k v es h))
      (sorted (p k))
      (λ q. find-where_key R p q (alike q) (put R k v es) ∙ ap (λ x. cond (p q) x None) (find-put R o q k v es) ∙ cases (p k) q refl)
    where
      alike : (q x : K) → R q x ≡ Equal → p x ≡ p q
      alike q x e = ap p (sym (exact q x e))

      sorted : (b : Bool) → T (is_sorted R (cond b (put R k v (where_key R p es)) (where_key R p es)))
      sorted true = is_sorted-put R o k v (where_key R p es) (is_sorted-where_key R p es h)
      sorted false = is_sorted-where_key R p es h

      same_test : (q : K) (b : Bool) → p k ≡ b → eq_by_cmp R q k ≡ true → p q ≡ b
      same_test q b e t = ap p (exact q k (tied (R q k) t)) ∙ e

      cases : (b : Bool) (q : K) → p k ≡ b → cond (p q) (cond (eq_by_cmp R q k) (Some v) (find R q es)) None ≡ find R q (cond b (put R k v (where_key R p es)) (where_key R p es))
      cases true q e = inner_first (p q) (eq_by_cmp R q k) _ _ _ (same_test q true e)
          ∙ sym (find-put R o q k v (where_key R p es) ∙ ap (cond (eq_by_cmp R q k) (Some v)) (find-where_key R p q (alike q) es))
      cases false q e = inner_never (p q) (eq_by_cmp R q k) _ _ _ (same_test q false e) ∙ sym (find-where_key R p q (alike q) es)

  -- the part of the entries whose keys pass a test, after one key is taken out
  pub where_key-remove : (p : K → Bool) (k : K) (es : List (K × V)) → T (is_sorted R es)
      → where_key R p (where_key R (λ x. not (eq_by_cmp R k x)) es) ≡ cond (p k) (where_key R (λ x. not (eq_by_cmp R k x)) (where_key R p es)) (where_key R p es)
  where_key-remove p k es h = same_entries R o exact _ _
      (is_sorted-where_key R p (where_key R out es) (is_sorted-where_key R out es h))
      (sorted (p k))
      (λ q. find-where_key R p q (alike p q) (where_key R out es) ∙ ap (λ x. cond (p q) x None) (find-where_key R out q (alike out q) es) ∙ cases (p k) q refl)
    where
      out : K → Bool
      out x = not (eq_by_cmp R k x)

      alike : (r : K → Bool) (q x : K) → R q x ≡ Equal → r x ≡ r q
      alike r q x e = ap r (sym (exact q x e))

      sorted : (b : Bool) → T (is_sorted R (cond b (where_key R out (where_key R p es)) (where_key R p es)))
      sorted true = is_sorted-where_key R out (where_key R p es) (is_sorted-where_key R p es h)
      sorted false = is_sorted-where_key R p es h

      cases : (b : Bool) (q : K) → p k ≡ b → cond (p q) (cond (out q) (find R q es) None) None ≡ find R q (cond b (where_key R out (where_key R p es)) (where_key R p es))
      cases true q e = either_way (p q) (out q) _ _ ∙ sym (find-where_key R out q (alike out q) (where_key R p es) ∙ ap (λ x. cond (out q) x None) (find-where_key R p q (alike p q) es))
      cases false q e = only_outer (p q) (out q) _ _ (λ gone. ap p (sym (exact k q (tied _ (turned (eq_by_cmp R k q) gone)))) ∙ e) ∙ sym (find-where_key R p q (alike p q) es)

-- a slot's pairs after a pair is put
pub bucket-put : (N : List ℕ → ℕ) (k s : ℕ) (name : List ℕ) (e : Entry) (l : List Named) → T (is_sorted names_cmp l)
    → bucket N k s (put names_cmp name e l) ≡ cond (slot (N name) k == s) (put names_cmp name e (bucket N k s l)) (bucket N k s l)
bucket-put N k s name e l h = where_key-put names_total names_exact (λ name. slot (N name) k == s) name e l h

-- orders of numbers as tests
pub lt_test : (x y : ℕ) → x < y → is_lt (nat_cmp x y) ≡ true
lt_test x y h = grind (arith, nat_tests)

pub eq_test : (x : ℕ) → eq_by_cmp nat_cmp x x ≡ true
eq_test x = grind (arith, nat_tests)

pub ne_test : (x y : ℕ) → x ≢ y → eq_by_cmp nat_cmp x y ≡ false
ne_test x y h = grind (arith, nat_tests)

holds_both : (a b : Bool) → a ≡ true → T b → T (a && b)
holds_both true b p q = q
holds_both false b p q = absurd (no p)
  where
    no : false ≡ true → ⊥
    no e = cc

-- everything that tabulate gives is at one of its numbers, in order
below-tabulate : {A : Type 0} (x n a : ℕ) (f : ℕ → Option A) → x < a → T (below_all nat_cmp x (tabulate n a f))
unfolding tabulate
below-tabulate x zero a f h = tt
below-tabulate x (suc n) a f h = elim (f a) as (λ o. T (below_all nat_cmp x (cons_option (option_map (λ y. (a, y)) o) (tabulate n (suc a) f)))) [
  | None ↦ below-tabulate x n (suc a) f (omega arith)
  | Some y ↦ holds_both _ _ (lt_test x a h) (below-tabulate x n (suc a) f (omega arith))
]

pub sorted-tabulate : {A : Type 0} (n a : ℕ) (f : ℕ → Option A) → T (is_sorted nat_cmp (tabulate n a f))
unfolding tabulate
sorted-tabulate zero a f = tt
sorted-tabulate (suc n) a f = elim (f a) as (λ o. T (is_sorted nat_cmp (cons_option (option_map (λ y. (a, y)) o) (tabulate n (suc a) f)))) [
  | None ↦ sorted-tabulate n (suc a) f
  | Some y ↦ and_holds _ _ (below-tabulate a n (suc a) f (omega arith)) (sorted-tabulate n (suc a) f)
]
  where
    and_holds : (a b : Bool) → T a → T b → T (a && b)
    and_holds true b p q = q
    and_holds false b p q = p

nothing_below : {A : Type 0} (n a : ℕ) (f : ℕ → Option A) (q : ℕ) → q < a → find nat_cmp q (tabulate n a f) ≡ None
unfolding tabulate
nothing_below zero a f q h = refl
nothing_below (suc n) a f q h = elim (f a) as (λ o. find nat_cmp q (cons_option (option_map (λ y. (a, y)) o) (tabulate n (suc a) f)) ≡ None) [
  | None ↦ nothing_below n (suc a) f q (omega arith)
  | Some y ↦ ap (λ b. cond b (Some y) (find nat_cmp q (tabulate n (suc a) f))) (ne_test q a (omega arith)) ∙ nothing_below n (suc a) f q (omega arith)
]

pub nothing_above : {A : Type 0} (n a : ℕ) (f : ℕ → Option A) (q : ℕ) → a + n ≤ q → find nat_cmp q (tabulate n a f) ≡ None
unfolding tabulate
nothing_above zero a f q h = refl
nothing_above (suc n) a f q h = elim (f a) as (λ o. find nat_cmp q (cons_option (option_map (λ y. (a, y)) o) (tabulate n (suc a) f)) ≡ None) [
  | None ↦ nothing_above n (suc a) f q (omega arith)
  | Some y ↦ ap (λ b. cond b (Some y) (find nat_cmp q (tabulate n (suc a) f))) (ne_test q a (omega arith)) ∙ nothing_above n (suc a) f q (omega arith)
]

pub find-tabulate : {A : Type 0} (n a : ℕ) (f : ℕ → Option A) (q : ℕ) → a ≤ q → q < a + n → find nat_cmp q (tabulate n a f) ≡ f q
unfolding tabulate
find-tabulate zero a f q h k = absurd (omega arith)
find-tabulate {A} (suc n) a f q h k = at (f a) refl (cases_eq q a) (λ other. find-tabulate n (suc a) f q (omega arith) (omega arith))
  where
    at : (o : Option A) → f a ≡ o → (q ≡ a) ⊎ (q ≢ a) → (q ≢ a → find nat_cmp q (tabulate n (suc a) f) ≡ f q) → find nat_cmp q (cons_option (option_map (λ y. (a, y)) o) (tabulate n (suc a) f)) ≡ f q
    at None e (inl same) later = nothing_below n (suc a) f q (omega arith) ∙ sym e ∙ ap f (sym same)
    at (Some y) e (inl same) later = ap (λ b. cond b (Some y) (find nat_cmp q (tabulate n (suc a) f))) (ap (λ z. eq_by_cmp nat_cmp q z) (sym same) ∙ eq_test q) ∙ sym e ∙ ap f (sym same)
    at None e (inr other) later = later other
    at (Some y) e (inr other) later = ap (λ b. cond b (Some y) (find nat_cmp q (tabulate n (suc a) f))) (ne_test q a other) ∙ later other

-- two functions that differ at one number give lists that differ there
pub tabulate-set : {A : Type 0} (n s : ℕ) (f g : ℕ → Option A) → s < n → ((q : ℕ) → q ≢ s → g q ≡ f q) → tabulate n 0 g ≡ set_at s (g s) (tabulate n 0 f)
tabulate-set {A} n s f g h same = same_entries nat_cmp nat_cmp_total nat_cmp-IsAntisymmetric _ _ (sorted-tabulate n 0 g) (sorted (g s)) (λ q. each q (cases_lt q n) (cases_eq q s))
  where
    sorted : (o : Option A) → T (is_sorted nat_cmp (set_at s o (tabulate n 0 f)))
    sorted None = is_sorted-where_key nat_cmp (λ k. not (k == s)) (tabulate n 0 f) (sorted-tabulate n 0 f)
    sorted (Some y) = is_sorted-put nat_cmp nat_cmp_total s y (tabulate n 0 f) (sorted-tabulate n 0 f)

    find-set : (o : Option A) (q : ℕ) → find nat_cmp q (set_at s o (tabulate n 0 f)) ≡ cond (eq_by_cmp nat_cmp q s) o (find nat_cmp q (tabulate n 0 f))
    find-set None q = find-where_key nat_cmp (λ k. not (k == s)) q (λ x e. ap (λ k. not (k == s)) (sym (nat_cmp-IsAntisymmetric q x e))) (tabulate n 0 f) ∙ turn (cases_eq q s)
      where
        turn : (q ≡ s) ⊎ (q ≢ s) → cond (not (q == s)) (find nat_cmp q (tabulate n 0 f)) None ≡ cond (eq_by_cmp nat_cmp q s) None (find nat_cmp q (tabulate n 0 f))
        turn (inl at) = grind (arith, nat_tests)
        turn (inr other) = grind (arith, nat_tests)
    find-set (Some y) q = find-put nat_cmp nat_cmp_total q s y (tabulate n 0 f)

    each : (q : ℕ) → (q < n) ⊎ (n ≤ q) → (q ≡ s) ⊎ (q ≢ s) → find nat_cmp q (tabulate n 0 g) ≡ find nat_cmp q (set_at s (g s) (tabulate n 0 f))
    each q (inl below) (inl at) = find-tabulate n 0 g q (omega arith) (omega arith) ∙ ap g at ∙ sym (find-set (g s) q ∙ ap (λ b. cond b (g s) (find nat_cmp q (tabulate n 0 f))) (ap (eq_by_cmp nat_cmp q) (sym at) ∙ eq_test q))
    each q (inl below) (inr other) = find-tabulate n 0 g q (omega arith) (omega arith) ∙ same q other ∙ sym (find-tabulate n 0 f q (omega arith) (omega arith))
        ∙ sym (find-set (g s) q ∙ ap (λ b. cond b (g s) (find nat_cmp q (tabulate n 0 f))) (ne_test q s other))
    each q (inr above) (inl at) = absurd (omega arith)
    each q (inr above) (inr other) = nothing_above n 0 g q (omega arith) ∙ sym (nothing_above n 0 f q (omega arith))
        ∙ sym (find-set (g s) q ∙ ap (λ b. cond b (g s) (find nat_cmp q (tabulate n 0 f))) (ne_test q s other))

-- a slot's pairs after a name is taken out
pub bucket-remove : (N : List ℕ → ℕ) (k s : ℕ) (name : List ℕ) (l : List Named) → T (is_sorted names_cmp l)
    → bucket N k s (without name l) ≡ cond (slot (N name) k == s) (without name (bucket N k s l)) (bucket N k s l)
bucket-remove N k s name l h = where_key-remove names_total names_exact (λ name. slot (N name) k == s) name l h

pub eqb_same : (s : ℕ) → (s == s) ≡ true
eqb_same s = grind (arith, nat_tests)

pub eqb_other : (s q : ℕ) → q ≢ s → (s == q) ≡ false
eqb_other s q h = grind (arith, nat_tests)

pub slot-bound : (hash k : ℕ) → slot hash k < 256
slot-bound hash k = omega arith

module _ (N : List ℕ → ℕ) (deeper : List Named → Plan) (k : ℕ) (name : List ℕ) (l : List Named) (h : T (is_sorted names_cmp l)) where
  -- the items of a shard after a pair is put: one slot changes
  pub items-put : (e : Entry) → shard_items N deeper k (put names_cmp name e l)
      ≡ set_at (slot (N name) k) (slot_item deeper (put names_cmp name e (bucket N k (slot (N name) k) l))) (shard_items N deeper k l)
  items-put e = tabulate-set 256 (slot (N name) k) (λ s. slot_item deeper (bucket N k s l)) (λ s. slot_item deeper (bucket N k s (put names_cmp name e l)))
      (slot-bound (N name) k)
      (λ q other. ap (slot_item deeper) (bucket-put N k q name e l h ∙ ap (λ b. cond b (put names_cmp name e (bucket N k q l)) (bucket N k q l)) (eqb_other (slot (N name) k) q other)))
      ∙ ap (λ b. set_at (slot (N name) k) (slot_item deeper b) (shard_items N deeper k l)) (bucket-put N k (slot (N name) k) name e l h ∙ ap (λ b. cond b (put names_cmp name e (bucket N k (slot (N name) k) l)) (bucket N k (slot (N name) k) l)) (eqb_same (slot (N name) k)))

  pub items-remove : shard_items N deeper k (without name l)
      ≡ set_at (slot (N name) k) (slot_item deeper (without name (bucket N k (slot (N name) k) l))) (shard_items N deeper k l)
  items-remove = tabulate-set 256 (slot (N name) k) (λ s. slot_item deeper (bucket N k s l)) (λ s. slot_item deeper (bucket N k s (without name l)))
      (slot-bound (N name) k)
      (λ q other. ap (slot_item deeper) (bucket-remove N k q name l h ∙ ap (λ b. cond b (without name (bucket N k q l)) (bucket N k q l)) (eqb_other (slot (N name) k) q other)))
      ∙ ap (λ b. set_at (slot (N name) k) (slot_item deeper b) (shard_items N deeper k l)) (bucket-remove N k (slot (N name) k) name l h ∙ ap (λ b. cond b (without name (bucket N k (slot (N name) k) l)) (bucket N k (slot (N name) k) l)) (eqb_same (slot (N name) k)))
