-- Pairs sorted by name.
use Rattle.std.proofs.Common.{◌≡◌, ℕ, suc, get_or, ◌+◌, ◌-◌, ◌<◌, ◌≤◌, List, [], ◌∷◌, ◌++◌, length, refl, ap, arith, sym, ◌∙◌, subst, Bool, true, false, cond, T, None, Ordering, Less, Equal, Greater, Result, Ok, Err}
use Rattle.std.specs.Prelude.{◌&&◌, not, fold, IfOk}
use Rattle.std.specs.Cmp.{eq_by_cmp_equiv}
use Rattle.std.specs.FinMap.Entries.{by_order, find, find-where_key, is_sorted, put, where_key}
use Rattle.std.specs.List.{AllByRecursion}
use Rattle.std.specs.List.Sorted.{IsSortedBy, IsStableBy}
use Rattle.std.specs.Ordering.{eq_by_cmp, is_eq, is_lt, ordering_reverse}
use Rattle.std.proofs.lemmas.Bool.{false≢true}
use Rattle.std.proofs.lemmas.List.{append_assoc}
use Rattle.uf_cid.specs.declared.bytes.Memory.{Memory}
use Rattle.uf_cid.specs.declared.cid.Codec.TheVariants.{Raw}
use Rattle.uf_tree.specs.declared.nodes.Entry.{Entry}
use Rattle.uf_tree.specs.Names.{names_cmp}
use Rattle.uf_tree.specs.Nodes.{Named}
use Rattle.uf_tree.specs.Validity.{IsDirectory, IsNamed}
use Rattle.uf_tree.proofs.ShardLaws.{names_exact, names_total, tied}
use Rattle.uf_shard.specs.Listing.{in_order}
use Rattle.uf_shard.specs.Sorting.{ends_with, with_other, without_repeats}
use Rattle.uf_shard.proofs.Rows.{found-in_order, one_order, sorted-in_order}

-- one pair comes before another by its name
abbrev pub before : Named → Named → Bool
before x y = is_lt (names_cmp x.0 y.0)

-- ---- the last pair

pub last_named : (name : List ℕ) (l : List Named) (x : Named) → 1 ≤ length l → x ≡ get_or l (length l - 1) x → ends_with name l ≡ eq_by_cmp names_cmp x.0 name
last_named name [] x some is = absurd (omega arith)
last_named name (e ∷ []) x some is = ap (λ (y : Named). eq_by_cmp names_cmp y.0 name) (sym is)
last_named name (e ∷ f ∷ l) x some is = last_named name (f ∷ l) x (one (length l)) (is ∙ ap (λ n. get_or (e ∷ f ∷ l) n x) (later (length l)))
  where
    one : (n : ℕ) → 1 ≤ suc n
    one n = omega arith

    later : (n : ℕ) → suc (suc n) - 1 ≡ suc (suc n - 1)
    later n = omega arith

ends_push : (name : List ℕ) (l : List Named) (e : Named) → ends_with name (l ++ e ∷ []) ≡ eq_by_cmp names_cmp e.0 name
ends_push name [] e = refl
ends_push name (f ∷ []) e = refl
ends_push name (f ∷ g ∷ l) e = ends_push name (g ∷ l) e

-- ---- what is left without repeats

-- the pairs behind one of this name, without repeats
abbrev others : List ℕ → List Named → List Named
others name [] = []
others name (e ∷ l) = cond (eq_by_cmp names_cmp name e.0) (others name l) (e ∷ others e.0 l)

fold_others : (kept : List Named) (e : Named) (l : List Named) → fold with_other (kept ++ e ∷ []) l ≡ kept ++ e ∷ others e.0 l
fold_others kept e [] = refl
fold_others kept e (f ∷ l) =
    ap (λ b. fold with_other (cond b (kept ++ e ∷ []) ((kept ++ e ∷ []) ++ f ∷ [])) l) (ends_push f.0 kept e)
    ∙ by (eq_by_cmp names_cmp e.0 f.0) (fold_others kept e l) (fold_others (kept ++ e ∷ []) f l)
  where
    by : (b : Bool) → fold with_other (kept ++ e ∷ []) l ≡ kept ++ e ∷ others e.0 l → fold with_other ((kept ++ e ∷ []) ++ f ∷ []) l ≡ (kept ++ e ∷ []) ++ f ∷ others f.0 l
        → fold with_other (cond b (kept ++ e ∷ []) ((kept ++ e ∷ []) ++ f ∷ [])) l ≡ kept ++ e ∷ cond b (others e.0 l) (f ∷ others f.0 l)
    by true same more = same
    by false same more = more ∙ append_assoc kept (e ∷ []) (f ∷ others f.0 l)

-- no pair comes before the one in front of it
abbrev Weak : List Named → Type 0
Weak [] = Unit {0}
Weak (e ∷ []) = Unit {0}
Weak (e ∷ f ∷ l) = (before f e ≡ false) × Weak (f ∷ l)

weak_of : (l : List Named) → IsSortedBy before l → Weak l
weak_of [] h = tt
weak_of (e ∷ []) h = tt
weak_of (e ∷ f ∷ l) h = (h 0 e (omega arith) (two (length l)), weak_of (f ∷ l) (λ k d low high. subst (λ n. before (get_or (e ∷ f ∷ l) n d) (get_or (f ∷ l) k d) ≡ false) (later k) (h (suc k) d (omega arith) (omega arith))))
  where
    two : (n : ℕ) → 0 + 1 < suc (suc n)
    two n = omega arith

    later : (k : ℕ) → suc k + 1 ≡ suc (k + 1)
    later k = omega arith

ordered_others : (e : Named) (l : List Named) → Weak (e ∷ l) → in_order (e ∷ l) ≡ e ∷ others e.0 l
ordered_others e [] h = refl
ordered_others e (f ∷ l) h = ap (put names_cmp e.0 e.1) (ordered_others f l h.1) ∙ by (names_cmp e.0 f.0) refl
  where
    by : (r : Ordering) → names_cmp e.0 f.0 ≡ r → by_order r (e ∷ f ∷ others f.0 l) ((f.0, e.1) ∷ others f.0 l) (f ∷ put names_cmp e.0 e.1 (others f.0 l)) ≡ e ∷ cond (is_eq r) (others e.0 l) (f ∷ others f.0 l)
    by Less p = refl
    by Equal p = let same : f.0 ≡ e.0 = sym (names_exact e.0 f.0 p) in λ i. (same i, e.1) ∷ others (same i) l
    by Greater p = absurd (false≢true (sym h.0 ∙ ap is_lt (names_total.antisymm f.0 e.0 ∙ ap ordering_reverse p)))

kept_in_order : (l : List Named) → Weak l → without_repeats l ≡ in_order l
kept_in_order [] h = refl
kept_in_order (e ∷ l) h = fold_others [] e l ∙ sym (ordered_others e l h)

-- ---- a stable sort

no_entry : Entry
no_entry = record { cid = record { codec = Raw; digest = [] }; tsize = 0 }

ties_with : List ℕ → List ℕ → Bool
ties_with q name = not (is_lt (names_cmp q name)) && not (is_lt (names_cmp name q))

-- the names that tie with one decide what is found under it
found_ties : (q : List ℕ) (l : List Named) → find names_cmp q (where_key names_cmp (ties_with q) l) ≡ find names_cmp q l
unfolding ties_with
found_ties q l = find-where_key names_cmp (ties_with q) q (λ x e. ap (ties_with q) (sym (names_exact q x e))) l ∙ ap (λ b. cond b (find names_cmp q l) None) (by (names_cmp q q) (tied (names_cmp q q) ((eq_by_cmp_equiv names_total).refl q)))
  where
    by : (r : Ordering) → r ≡ Equal → not (is_lt r) && not (is_lt r) ≡ true
    by r e = ap (λ r. not (is_lt r) && not (is_lt r)) e

found_stable : (xs ys : List Named) → IsStableBy before xs ys → (q : List ℕ) → find names_cmp q ys ≡ find names_cmp q xs
unfolding ties_with no_entry
found_stable xs ys stable q = sym (found_ties q ys) ∙ ap (find names_cmp q) (stable (q, no_entry)) ∙ found_ties q xs

pub ordered-is : (r : Result (List Named) Memory) (xs ys : List Named) → IsSortedBy before ys → IsStableBy before xs ys → IfOk r (λ l. l ≡ without_repeats ys) → IfOk r (λ l. l ≡ in_order xs)
ordered-is (Err f) xs ys sorted stable is = tt
ordered-is (Ok l) xs ys sorted stable is =
    is ∙ kept_in_order ys (weak_of ys sorted) ∙ one_order ys (in_order xs) (sorted-in_order xs) (λ q. found_stable xs ys stable q ∙ sym (found-in_order q xs))

from_T : (b : Bool) → T b → b ≡ true
from_T true t = refl
from_T false t = absurd t

pub ordered-valid : (r : Result (List Named) Memory) (xs : List Named) → IfOk r (λ l. l ≡ in_order xs) → IfOk r (AllByRecursion IsNamed) → IfOk r IsDirectory
ordered-valid (Err f) xs is named = tt
ordered-valid (Ok l) xs is named = record { sorted = from_T _ (subst (λ (m : List Named). T (is_sorted names_cmp m)) (sym is) (sorted-in_order xs)); each = named }
