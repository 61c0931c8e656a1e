-- What is taken away and put back where it was leaves the tree as it was.
use Rattle.std.proofs.Common.{◌≡◌, ◌∙◌, ℕ, ◌+◌, List, [], ◌∷◌, Bool, true, false, cond, T, refl, sym, ap, Option, None, Some, Result, Ok, Err}
use Rattle.std.specs.Prelude.{not}
use Rattle.std.specs.Cmp.{eq_by_cmp_equiv}
use Rattle.std.specs.declared.cmp.Ordering.{Ordering}
use Rattle.std.specs.declared.cmp.Ordering.TheVariants.{Less, Equal, Greater}
use Rattle.std.specs.Ordering.{eq_by_cmp, is_eq}
use Rattle.std.specs.FinMap.Entries.{find, put, is_sorted, find-put, find-where_key, is_sorted-put, is_sorted-where_key, same_entries}
use Rattle.uf_plain.specs.Edits.{at, child, with_child, without_child}
use Rattle.uf_plain.specs.declared.rule.Refused.{Refused}
use Rattle.uf_plain.specs.declared.rule.Refused.TheVariants.{NotFound}
use Rattle.uf_plain.proofs.Edited.{child-tree, with-same}
use Rattle.uf_tree.specs.Changes.{without}
use Rattle.uf_tree.specs.Names.{names_cmp}
use Rattle.uf_tree.specs.Tree.{Tree, File, Dir, Entries, entries, is_tree, own_meta, pairs}
use Rattle.uf_tree.proofs.ShardLaws.{names_exact, names_total}
use Rattle.uf_tree.proofs.Told.{as_T}
use Rattle.uf_tree.proofs.TreeLaws.{entries-pairs, meta-entries, pairs-entries}
use Rattle.uf_tree.proofs.Twins.{both_true}
use Rattle.uf_headline.specs.Made.{changed_at, folder_of, remade}

abbrev Row : Type 0
Row = List ℕ × Tree

pub same-name : (q name : List ℕ) → eq_by_cmp names_cmp q name ≡ true → q ≡ name
same-name q name e = names_exact q name (by (names_cmp q name) e)
  where
    by : (r : Ordering) → is_eq r ≡ true → r ≡ Equal
    by Less e = cc
    by Equal e = refl
    by Greater e = cc

other-name : (q name : List ℕ) → eq_by_cmp names_cmp q name ≡ false → not (eq_by_cmp names_cmp name q) ≡ true
other-name q name e = ap not ((eq_by_cmp_equiv names_total).symm name q ∙ e)

-- ---- rows in order

module _ (name : List ℕ) (l : List Row) (sorted : T (is_sorted names_cmp l)) where
  left-sorted : T (is_sorted names_cmp (without name l))
  left-sorted = is_sorted-where_key names_cmp (λ other. not (eq_by_cmp names_cmp name other)) l sorted

  found-left : (q : List ℕ) → eq_by_cmp names_cmp q name ≡ false → find names_cmp q (without name l) ≡ find names_cmp q l
  found-left q other =
      find-where_key names_cmp (λ x. not (eq_by_cmp names_cmp name x)) q (λ x same. ap (λ (y : List ℕ). not (eq_by_cmp names_cmp name y)) (sym (names_exact q x same))) l
      ∙ ap (λ b. cond b (find names_cmp q l) None) (other-name q name other)

  put-back : (t : Tree) → find names_cmp name l ≡ Some t → put names_cmp name t (without name l) ≡ l
  put-back t there = same_entries names_cmp names_total names_exact (put names_cmp name t (without name l)) l (is_sorted-put names_cmp names_total name t (without name l) left-sorted) sorted
      (λ q. find-put names_cmp names_total q name t (without name l) ∙ by q (eq_by_cmp names_cmp q name) refl)
    where
      by : (q : List ℕ) (b : Bool) → eq_by_cmp names_cmp q name ≡ b → cond b (Some t) (find names_cmp q (without name l)) ≡ find names_cmp q l
      by q true e = sym there ∙ ap (λ k. find names_cmp k l) (sym (same-name q name e))
      by q false e = found-left q e

  put-twice : (t u : Tree) → put names_cmp name t (put names_cmp name u l) ≡ put names_cmp name t l
  put-twice t u = same_entries names_cmp names_total names_exact (put names_cmp name t (put names_cmp name u l)) (put names_cmp name t l)
      (is_sorted-put names_cmp names_total name t (put names_cmp name u l) (is_sorted-put names_cmp names_total name u l sorted)) (is_sorted-put names_cmp names_total name t l sorted)
      (λ q. find-put names_cmp names_total q name t (put names_cmp name u l)
      ∙ ap (λ o. cond (eq_by_cmp names_cmp q name) (Some t) o) (find-put names_cmp names_total q name u l)
      ∙ by (eq_by_cmp names_cmp q name) (find names_cmp q l)
      ∙ sym (find-put names_cmp names_total q name t l))
    where
      by : (b : Bool) (o : Option Tree) → cond b (Some t) (cond b (Some u) o) ≡ cond b (Some t) o
      by true o = refl
      by false o = refl

-- ---- folders

sorted-of : (es : Entries) → is_tree (Dir es) ≡ true → T (is_sorted names_cmp (pairs es))
unfolding is_tree
sorted-of es h = as_T _ (both_true _ _ h).0

child-back : (name : List ℕ) (t : Tree) (es : Entries) → is_tree (Dir es) ≡ true → child name es ≡ Some t → with_child name t (without_child name es) ≡ es
child-back name t es tree there =
    let m = own_meta es in let left = without name (pairs es) in
    ap (λ n. entries n (put names_cmp name t (pairs (entries m left)))) (meta-entries m left)
    ∙ ap (λ l. entries m (put names_cmp name t l)) (pairs-entries m left)
    ∙ ap (entries m) (put-back name (pairs es) (sorted-of es tree) t there) ∙ entries-pairs es

child-twice : (name : List ℕ) (t u : Tree) (es : Entries) → is_tree (Dir es) ≡ true → with_child name t (with_child name u es) ≡ with_child name t es
child-twice name t u es tree =
    let m = own_meta es in let first = put names_cmp name u (pairs es) in
    ap (λ n. entries n (put names_cmp name t (pairs (entries m first)))) (meta-entries m first)
    ∙ ap (λ l. entries m (put names_cmp name t l)) (pairs-entries m first)
    ∙ ap (entries m) (put-twice name (pairs es) (sorted-of es tree) t u)

child-there : (name : List ℕ) (t : Tree) (es : Entries) → child name (with_child name t es) ≡ Some t
child-there name t es =
    ap (find names_cmp name) (pairs-entries (own_meta es) (put names_cmp name t (pairs es))) ∙ find-put names_cmp names_total name name t (pairs es)
    ∙ ap (λ (b : Bool). cond b (Some t) (find names_cmp name (pairs es))) ((eq_by_cmp_equiv names_total).refl name)

same-ok : (t u : Tree) → ◌≡◌ {A = Result Tree Refused} (Ok t) (Ok u) → t ≡ u
same-ok t u e = cc

abbrev IsBack : Tree → List (List ℕ) → Entries → Type 0
IsBack t names es = remade (λ o. t) names (changed_at without_child names es) ≡ es

pub goes-back : (led : ℕ) (name : List ℕ) (names : List (List ℕ)) (t : Tree) (es : Entries) → is_tree (Dir es) ≡ true → at led (name ∷ names) (Dir es) ≡ Ok t → IsBack t (name ∷ names) es
goes-back led name [] t es tree there = by (child name es) refl there
  where
    by : (o : Option Tree) → child name es ≡ o → elim o as (λ o. Result Tree Refused) [ None ↦ Err (NotFound (led + 1)) | Some u ↦ at (led + 1) [] u ] ≡ Ok t → IsBack t (name ∷ []) es
    by None e k = absurd cc
    by (Some u) e k = child-back name t es tree (e ∙ ap Some (same-ok u t k))
goes-back led name (next ∷ names) t es tree there = by (λ fs deeper found. goes-back (led + 1) next names t fs deeper found) (child name es) refl there
  where
    by : ((fs : Entries) → is_tree (Dir fs) ≡ true → at (led + 1) (next ∷ names) (Dir fs) ≡ Ok t → IsBack t (next ∷ names) fs) → (o : Option Tree) → child name es ≡ o
        → elim o as (λ o. Result Tree Refused) [ None ↦ Err (NotFound (led + 1)) | Some u ↦ at (led + 1) (next ∷ names) u ] ≡ Ok t → IsBack t (name ∷ next ∷ names) es
    by rec None e k = absurd cc
    by rec (Some (File m bytes)) e k = absurd cc
    by rec (Some (Dir fs)) e k =
        ap (λ (o : Option Tree). remade (λ o. t) (name ∷ next ∷ names) (with_child name (Dir (changed_at without_child (next ∷ names) (folder_of o))) es)) e
        ∙ ap (λ (o : Option Tree). with_child name (Dir (remade (λ o. t) (next ∷ names) (folder_of o))) (with_child name (Dir mid) es)) (child-there name (Dir mid) es)
        ∙ ap (λ (gs : Entries). with_child name (Dir gs) (with_child name (Dir mid) es)) (rec fs (child-tree name (Dir fs) es tree e) k)
        ∙ child-twice name (Dir fs) (Dir mid) es tree ∙ with-same name (Dir fs) es tree e
      where
        mid : Entries
        mid = changed_at without_child (next ∷ names) fs
