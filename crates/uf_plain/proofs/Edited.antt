-- The plain tree after an edit.
use Rattle.std.proofs.Common.{◌≡◌, ℕ, ◌+◌, List, [], ◌∷◌, refl, ap, sym, ◌∙◌, subst, Bool, true, false, cond, Option, Some, None, Result, Ok, Err, T}
use Rattle.std.specs.Prelude.{◌&&◌, IsTrue}
use Rattle.std.specs.declared.cmp.Ordering.{Ordering}
use Rattle.std.specs.declared.cmp.Ordering.TheVariants.{Less, Equal, Greater}
use Rattle.std.specs.List.{AllByRecursion}
use Rattle.std.specs.Ordering.{eq_by_cmp, is_eq}
use Rattle.std.specs.FinMap.Entries.{find, put, where_key, by_order, is_sorted, find-put, is_sorted-put, is_sorted-where_key, same_entries}
use Rattle.uf_tree.specs.Changes.{without}
use Rattle.uf_tree.specs.Names.{names_cmp, is_name}
use Rattle.uf_tree.specs.Tree.{Tree, File, Dir, Entries, Nothing, With, own_meta, pairs, entries, is_tree, are_trees}
use Rattle.uf_tree.proofs.ShardLaws.{names_exact, names_total}
use Rattle.uf_tree.proofs.Told.{as_T, as_true}
use Rattle.uf_tree.proofs.TreeLaws.{entries-pairs, pairs-entries}
use Rattle.uf_tree.proofs.Twins.{both_true}
use Rattle.uf_plain.specs.declared.rule.Refused.{Refused}
use Rattle.uf_plain.specs.declared.rule.Refused.TheVariants as why
use Rattle.uf_plain.specs.Edits.{and_then, at, child, is_folder_at, made, made_all, or_new, with_child, with_folder, without_child}
use Rattle.uf_plain.proofs.Plans.{each-find}

equal_of : (r : Ordering) → is_eq r ≡ true → r ≡ Equal
equal_of Less e = cc
equal_of Equal e = refl
equal_of Greater e = cc

both : (a b : Bool) → a ≡ true → b ≡ true → a && b ≡ true
both true b g h = h
both false b g h = g

abbrev Row : Type 0
Row = List ℕ × Tree

trees-put : (name : List ℕ) (u : Tree) (es : Entries) → is_name name ≡ true → is_tree u ≡ true → are_trees es ≡ true → are_trees (entries (own_meta es) (put names_cmp name u (pairs es))) ≡ true
unfolding is_tree
trees-put name u (Nothing m) n t h = both _ _ (both _ _ n t) h
trees-put name u (With other v es) n t h =
    let parts = both_true _ _ h in
    let rest = subst (λ fs. are_trees fs ≡ true) (sym (entries-pairs es)) parts.1 in
    elim (names_cmp name other) as (λ r. are_trees (entries (own_meta es) (by_order r ((name, u) ∷ (other, v) ∷ pairs es) ((other, u) ∷ pairs es) ((other, v) ∷ put names_cmp name u (pairs es)))) ≡ true) [
      | Less ↦ both _ _ (both _ _ n t) (both _ _ parts.0 rest)
      | Equal ↦ both _ _ (both _ _ (both_true _ _ parts.0).0 t) rest
      | Greater ↦ both _ _ parts.0 (trees-put name u es n t parts.1)
    ]

trees-where : (test : List ℕ → Bool) (es : Entries) → are_trees es ≡ true → are_trees (entries (own_meta es) (where_key names_cmp test (pairs es))) ≡ true
unfolding is_tree
trees-where test (Nothing m) h = h
trees-where test (With other v es) h =
    let parts = both_true _ _ h in
    elim (test other) as (λ b. are_trees (entries (own_meta es) (cond b ((other, v) ∷ where_key names_cmp test (pairs es)) (where_key names_cmp test (pairs es)))) ≡ true) [
      | true ↦ both _ _ parts.0 (trees-where test es parts.1)
      | false ↦ trees-where test es parts.1
    ]

pub tree-with : (name : List ℕ) (u : Tree) (es : Entries) → IsTrue (is_name name) → IsTrue (is_tree u) → IsTrue (is_tree (Dir es)) → IsTrue (is_tree (Dir (with_child name u es)))
unfolding is_tree
tree-with name u es n t h =
    let parts = both_true _ _ h in
    both _ _ (ap (is_sorted names_cmp) (pairs-entries (own_meta es) (put names_cmp name u (pairs es))) ∙ as_true _ (is_sorted-put names_cmp names_total name u (pairs es) (as_T _ parts.0))) (trees-put name u es n t parts.1)

pub tree-without : (name : List ℕ) (es : Entries) → IsTrue (is_tree (Dir es)) → IsTrue (is_tree (Dir (without_child name es)))
unfolding is_tree
tree-without name es h =
    let parts = both_true _ _ h in
    both _ _ (ap (is_sorted names_cmp) (pairs-entries (own_meta es) (without name (pairs es))) ∙ as_true _ (is_sorted-where_key names_cmp _ (pairs es) (as_T _ parts.0))) (trees-where _ es parts.1)

put-same : (name : List ℕ) (t : Tree) (l : List Row) → T (is_sorted names_cmp l) → find names_cmp name l ≡ Some t → put names_cmp name t l ≡ l
put-same name t l sorted h = same_entries names_cmp names_total names_exact (put names_cmp name t l) l (is_sorted-put names_cmp names_total name t l sorted) sorted
    (λ q. find-put names_cmp names_total q name t l ∙ by q (eq_by_cmp names_cmp q name) refl)
  where
    by : (q : List ℕ) (b : Bool) → eq_by_cmp names_cmp q name ≡ b → cond b (Some t) (find names_cmp q l) ≡ find names_cmp q l
    by q true e = sym h ∙ ap (λ k. find names_cmp k l) (sym (names_exact q name (equal_of (names_cmp q name) e)))
    by q false e = refl

trees-each : (es : Entries) → are_trees es ≡ true → AllByRecursion (λ (m : Row). is_tree m.1 ≡ true) (pairs es)
unfolding is_tree
trees-each (Nothing m) h = tt
trees-each (With name t es) h = (let parts = both_true _ _ h in ((both_true _ _ parts.0).1, trees-each es parts.1))

pub child-tree : (name : List ℕ) (t : Tree) (es : Entries) → is_tree (Dir es) ≡ true → child name es ≡ Some t → is_tree t ≡ true
unfolding is_tree
child-tree name t es h e = each-find (λ t. is_tree t ≡ true) name t (pairs es) (trees-each es (both_true _ _ h).1) e

-- a member put in its own place changes nothing
pub with-same : (name : List ℕ) (t : Tree) (es : Entries) → is_tree (Dir es) ≡ true → child name es ≡ Some t → with_child name t es ≡ es
unfolding is_tree
with-same name t es h e = ap (entries (own_meta es)) (put-same name t (pairs es) (as_T _ (both_true _ _ h).0) e) ∙ entries-pairs es

pub all-there : (led : ℕ) (names : List (List ℕ)) (es : Entries) → IsTrue (is_tree (Dir es)) → true ≡ is_folder_at (at led names (Dir es)) → made_all led names es ≡ Ok es
all-there led [] es tree h = refl
all-there led (name ∷ names) es tree h = by (λ fs deeper found. all-there (led + 1) names fs deeper found) (child name es) refl h
  where
    by : ((fs : Entries) → IsTrue (is_tree (Dir fs)) → true ≡ is_folder_at (at (led + 1) names (Dir fs)) → made_all (led + 1) names fs ≡ Ok fs) → (o : Option Tree) → child name es ≡ o → true ≡ is_folder_at (elim o as (λ o. Result Tree Refused) [ None ↦ Err (why.NotFound (led + 1)) | Some t ↦ at (led + 1) names t ])
        → with_folder name es (and_then (or_new (led + 1) o) (λ below. made_all (led + 1) names below)) ≡ Ok es
    by rec None e h = absurd cc
    by rec (Some (File m bytes)) e h = absurd (file names h)
      where
        file : (names : List (List ℕ)) → true ≡ is_folder_at (at (led + 1) names (File m bytes)) → ⊥
        file [] h = cc
        file (next ∷ names) h = cc
    by rec (Some (Dir fs)) e h =
        ap (with_folder name es) (rec fs (child-tree name (Dir fs) es tree e) h)
        ∙ ap (λ (es : Entries). Ok es) (with-same name (Dir fs) es tree e)

pub made-true : (names : List (List ℕ)) (es : Entries) → made true names es ≡ made_all 0 names es
made-true [] es = refl
made-true (name ∷ names) es = refl
