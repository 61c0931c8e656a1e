-- Trees that show the same at every path are one tree.
use Rattle.std.proofs.Common.{◌≡◌, ◌∙◌, ℕ, ◌+◌, List, [], ◌∷◌, true, false, cond, refl, sym, ap, subst, Option, None, Some, Ok, Err}
use Rattle.std.specs.Prelude.{◌&&◌, IsTrue}
use Rattle.std.specs.FinMap.Entries.{is_sorted, same_entries}
use Rattle.std.specs.Ordering.{eq_by_cmp}
use Rattle.uf_plain.specs.Edits.{at, child}
use Rattle.uf_plain.specs.declared.rule.Refused.TheVariants.{NotFound}
use Rattle.uf_tree.proofs.ShardLaws.{names_exact, names_total}
use Rattle.uf_tree.proofs.TreeLaws.{entries-pairs}
use Rattle.uf_tree.proofs.Told.{as_T}
use Rattle.uf_tree.proofs.Twins.{both_true}
use Rattle.uf_tree.specs.Metas.{none}
use Rattle.uf_tree.specs.Names.{is_name, names_cmp}
use Rattle.uf_tree.specs.Tree.{Tree, File, Dir, Entries, Nothing, With, entries, pairs, is_tree, are_trees, own_meta}
use Rattle.uf_tree.specs.declared.meta.Meta.{Meta}
use Rattle.uf_headline.specs.Places.{Place, Bytes, Folder, place_at, place_of}

-- two trees show the same at every path below them
abbrev Alike : Tree → Tree → Type 0
Alike t u = (names : List (List ℕ)) → place_of (at 0 names t) ≡ place_of (at 0 names u)

abbrev bytes_of : Option Place → List ℕ
bytes_of None = []
bytes_of (Some (Folder m)) = []
bytes_of (Some (Bytes m bytes)) = bytes

abbrev meta_in : Option Place → Meta
meta_in None = none
meta_in (Some (Folder m)) = m
meta_in (Some (Bytes m bytes)) = m

-- what a lookup finds behind a member
abbrev below : ℕ → List (List ℕ) → Option Tree → Option Place
below led names None = None
below led names (Some t) = place_of (at led names t)

below-is : (led : ℕ) (name : List ℕ) (names : List (List ℕ)) (es : Entries) → place_of (at led (name ∷ names) (Dir es)) ≡ below (led + 1) names (child name es)
below-is led name names es = by (child name es)
  where
    by : (o : Option Tree) → place_of (elim o [ None ↦ Err (NotFound (led + 1)) | Some t ↦ at (led + 1) names t ]) ≡ below (led + 1) names o
    by None = refl
    by (Some t) = refl

-- how many names led there changes only how a refusal is told
led-apart : (led other : ℕ) (names : List (List ℕ)) (t : Tree) → place_of (at led names t) ≡ place_of (at other names t)
led-apart led other [] t = refl
led-apart led other (name ∷ names) (File m bytes) = refl
led-apart led other (name ∷ names) (Dir es) =
    below-is led name names es
    ∙ elim (child name es) as (λ o. below (led + 1) names o ≡ below (other + 1) names o) [ None ↦ refl | Some t ↦ led-apart (led + 1) (other + 1) names t ]
    ∙ sym (below-is other name names es)

below-apart : (led other : ℕ) (names : List (List ℕ)) (o : Option Tree) → below led names o ≡ below other names o
below-apart led other names None = refl
below-apart led other names (Some t) = led-apart led other names t

-- below a name that both have, they show the same
members-alike : (es fs : Entries) → Alike (Dir es) (Dir fs) → (name : List ℕ) (names : List (List ℕ)) → below 0 names (child name es) ≡ below 0 names (child name fs)
members-alike es fs is name names = below-apart 0 1 names (child name es) ∙ sym (below-is 0 name names es) ∙ is (name ∷ names) ∙ below-is 0 name names fs ∙ below-apart 1 0 names (child name fs)

some-place : (t : Tree) → place_of (Ok t) ≡ None → ⊥
some-place (File m bytes) e = cc
some-place (Dir es) e = cc

same-some : (t u : Tree) → Some t ≡ Some u → t ≡ u
same-some t u e = cc

member-tree : (es : Entries) (name : List ℕ) (t : Tree) → are_trees es ≡ true → child name es ≡ Some t → is_tree t ≡ true
unfolding is_tree
member-tree (Nothing m) name t h e = cc
member-tree (With other v es) name t h e =
    let parts = both_true (is_name other && is_tree v) (are_trees es) h in
    elim (eq_by_cmp names_cmp name other) as (λ b. cond b (Some v) (child name es) ≡ Some t → is_tree t ≡ true) [
      | true ↦ λ e. subst (λ x. is_tree x ≡ true) (same-some v t e) (both_true (is_name other) (is_tree v) parts.0).1
      | false ↦ λ e. member-tree es name t parts.1 e
    ] e

-- what is found under a name on both sides is one, where trees that show the same are
both-found : (es fs : Entries) (name : List ℕ) (o p : Option Tree) → child name es ≡ o → child name fs ≡ p → ((names : List (List ℕ)) → below 0 names o ≡ below 0 names p)
    → ((t u : Tree) → child name es ≡ Some t → child name fs ≡ Some u → Alike t u → t ≡ u) → o ≡ p
both-found es fs name None None e f like same = refl
both-found es fs name None (Some u) e f like same = absurd (some-place u (sym (like [])))
both-found es fs name (Some t) None e f like same = absurd (some-place t (like []))
both-found es fs name (Some t) (Some u) e f like same = ap Some (same t u e f like)

mutual
  unfolding is_tree

  same-tree : (t u : Tree) → is_tree t ≡ true → is_tree u ≡ true → Alike t u → t ≡ u
  same-tree (File m a) (File n b) g h is = ap (λ o. File (meta_in o) (bytes_of o)) (is [])
  same-tree (File m a) (Dir fs) g h is = absurd (let e : Some (Bytes m a) ≡ Some (Folder (own_meta fs)) = is [] in cc)
  same-tree (Dir es) (File n b) g h is = absurd (let e : Some (Folder (own_meta es)) ≡ Some (Bytes n b) = is [] in cc)
  same-tree (Dir es) (Dir fs) g h is =
      let one = both_true (is_sorted names_cmp (pairs es)) (are_trees es) g in
      let other = both_true (is_sorted names_cmp (pairs fs)) (are_trees fs) h in
      let same : pairs es ≡ pairs fs = same_entries names_cmp names_total names_exact (pairs es) (pairs fs) (as_T (is_sorted names_cmp (pairs es)) one.0) (as_T (is_sorted names_cmp (pairs fs)) other.0)
      (λ name. both-found es fs name (child name es) (child name fs) refl refl (members-alike es fs is name)
      (λ t u e f like. same-member es name t u e one.1 (member-tree fs name u other.1 f) like)) in
      let metas : own_meta es ≡ own_meta fs = ap meta_in (is []) in
      ap Dir (sym (entries-pairs es) ∙ ap (λ m. entries m (pairs es)) metas ∙ ap (entries (own_meta fs)) same ∙ entries-pairs fs)

  same-member : (es : Entries) (name : List ℕ) (t u : Tree) → child name es ≡ Some t → are_trees es ≡ true → is_tree u ≡ true → Alike t u → t ≡ u
  same-member (Nothing m) name t u e g h is = cc
  same-member (With key v es) name t u e g h is =
      let parts = both_true (is_name key && is_tree v) (are_trees es) g in
      let good = (both_true (is_name key) (is_tree v) parts.0).1 in
      elim (eq_by_cmp names_cmp name key) as (λ b. cond b (Some v) (child name es) ≡ Some t → t ≡ u) [
        | true ↦ λ e. (let same : v ≡ t = same-some v t e in sym same ∙ same-tree v u good h (subst (λ x. Alike x u) (sym same) is))
        | false ↦ λ e. same-member es name t u e parts.1 h is
      ] e

pub places-decide : (es fs : Entries) → IsTrue (is_tree (Dir es)) → IsTrue (is_tree (Dir fs)) → ((names : List (List ℕ)) → place_at names es ≡ place_at names fs) → es ≡ fs
places-decide es fs g h is = same-entries (same-tree (Dir es) (Dir fs) g h is)
  where
    same-entries : Dir es ≡ Dir fs → es ≡ fs
    same-entries e = cc
