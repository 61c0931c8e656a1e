-- The plain tree after a change of the metadata of what is at some names.
use Rattle.std.proofs.Common.{◌≡◌, ℕ, ◌+◌, List, [], ◌∷◌, length, refl, ap, sym, ◌∙◌, arith, Bool, true, false, cond, Option, Some, None, Result, Ok, Err}
use Rattle.std.specs.Prelude.{◌&&◌, IsTrue, fold, nat_lt}
use Rattle.std.specs.declared.cmp.Ordering.TheVariants.{Less, Equal, Greater}
use Rattle.std.specs.FinMap.Entries.{by_order, is_sorted, put}
use Rattle.uf_tree.specs.declared.meta.Meta.{Meta}
use Rattle.uf_tree.specs.declared.nodes.Entry.{Entry}
use Rattle.uf_tree.specs.declared.profile.Profile.{Profile}
use Rattle.uf_tree.specs.DirPlan.{weight}
use Rattle.uf_tree.specs.Metas.{is_meta, none}
use Rattle.uf_tree.specs.Names.{names_cmp}
use Rattle.uf_tree.specs.Nodes.{Named}
use Rattle.uf_tree.specs.Tree.{Tree, File, Dir, Entries, Nothing, With, entries, is_tree, are_trees, meta_of, own_meta, pairs}
use Rattle.uf_tree.specs.TreePlan.{Refusal, entry, named_entries, refusal}
use Rattle.uf_tree.proofs.TreeLaws.{entries-pairs, meta-entries, named_entries-with, pairs-entries}
use Rattle.uf_tree.proofs.Twins.{both_true}
use Rattle.uf_dir.specs.Bounds.{crossing, splitting}
use Rattle.uf_plain.specs.declared.meta_edit.MetaEdit.{MetaEdit}
use Rattle.uf_plain.specs.declared.rule.Refused.{Refused}
use Rattle.uf_plain.specs.declared.rule.Refused.TheVariants as why
use Rattle.uf_plain.specs.Edits.{and_then, as_folder, at, child, edited, with_child, with_folder}
use Rattle.uf_plain.specs.Metas.{as_there, meta_after, meta_edited, remade, with_meta, with_remade}
use Rattle.uf_plain.specs.Moves.{put_over}
use Rattle.uf_plain.proofs.Edited.{with-same}
use Rattle.uf_plain.proofs.Plans.{each-find}
use Rattle.uf_mfs.specs.Standing.{IsPlanOf}
use Rattle.uf_mfs.specs.Touches.{crossings, entries_at, entries_in}
use Rattle.uf_mfs.proofs.Agreed.{Own, members-own}
use Rattle.uf_mfs.proofs.Moving.{refused-above}
use Rattle.uf_mfs.proofs.Touching.{entries-put}

-- ---- the metadata of a tree

with-meta-of : (m : Meta) (t : Tree) → meta_of (with_meta m t) ≡ m
with-meta-of m (File old bytes) = refl
with-meta-of m (Dir es) = meta-entries m (pairs es)

-- a tree that a change leaves as it is keeps its metadata
pub remade-same : (what : MetaEdit) (t : Tree) → remade what t ≡ t → meta_after what (meta_of t) ≡ meta_of t
remade-same what t is = sym (with-meta-of (meta_after what (meta_of t)) t) ∙ ap (λ (t : Tree). meta_of t) is

-- and the other way round
pub with-own : (t : Tree) → with_meta (meta_of t) t ≡ t
with-own (File m bytes) = refl
with-own (Dir es) = ap (λ (es : Entries). Dir es) (entries-pairs es)

both : {s t : Bool} → s ≡ true → t ≡ true → s && t ≡ true
both {s = true} g h = h
both {s = false} g h = g

trees-meta : (m : Meta) (es : Entries) → is_meta m ≡ true → are_trees es ≡ true → are_trees (entries m (pairs es)) ≡ true
unfolding is_tree
trees-meta m (Nothing old) good h = good
trees-meta m (With name t es) good h = (let parts = both_true _ _ h in both parts.0 (trees-meta m es good parts.1))

-- a tree with other good metadata is one
pub tree-with-meta : (m : Meta) (t : Tree) → IsTrue (is_meta m) → IsTrue (is_tree t) → IsTrue (is_tree (with_meta m t))
unfolding is_tree
tree-with-meta m (File old bytes) good h = both good (both_true (is_meta old) _ h).1
tree-with-meta m (Dir es) good h =
    let parts = both_true (is_sorted names_cmp (pairs es)) (are_trees es) h in
    both (ap (λ (l : List (List ℕ × Tree)). is_sorted names_cmp l) (pairs-entries m (pairs es)) ∙ parts.0) (trees-meta m es good parts.1)

-- ---- what is at the names

-- where the lookup is refused, so is the change
abbrev found : ℕ → List (List ℕ) → Option Tree → Result Tree Refused
found led names o = elim o as (λ o. Result Tree Refused) [ None ↦ Err (why.NotFound led) | Some t ↦ at led names t ]

refused-edit : (what : MetaEdit) (led : ℕ) (name : List ℕ) (names : List (List ℕ)) (es : Entries) (given : Refused) → at led (name ∷ names) (Dir es) ≡ Err given
    → edited (with_remade what) led name names es ≡ Err given
refused-edit what led name [] es given is = by (child name es) is
  where
    by : (o : Option Tree) → found (led + 1) [] o ≡ Err given → and_then (as_there (led + 1) o) (λ t. Ok (with_child name (remade what t) es)) ≡ Err given
    by None is = ap (λ (w : Result Tree Refused). and_then w (λ (t : Tree). Ok (with_child name t es))) is
    by (Some t) is = absurd cc
refused-edit what led name (next ∷ names) es given is = by (λ fs is. refused-edit what (led + 1) next names fs given is) (child name es) is
  where
    by : ((fs : Entries) → at (led + 1) (next ∷ names) (Dir fs) ≡ Err given → edited (with_remade what) (led + 1) next names fs ≡ Err given)
        → (o : Option Tree) → found (led + 1) (next ∷ names) o ≡ Err given
        → with_folder name es (and_then (as_folder (led + 1) o) (λ below. edited (with_remade what) (led + 1) next names below)) ≡ Err given
    by rec None is = ap (λ (w : Result Tree Refused). and_then w (λ (t : Tree). Ok (with_child name t es))) is
    by rec (Some (File m bytes)) is = ap (λ (w : Result Tree Refused). and_then w (λ (t : Tree). Ok (with_child name t es))) is
    by rec (Some (Dir fs)) is = ap (with_folder name es) (rec fs is)

pub edit-refused : (what : MetaEdit) (names : List (List ℕ)) (es : Entries) (given : Refused) → at 0 names (Dir es) ≡ Err given → meta_edited what names es ≡ Err given
edit-refused what [] es given is = absurd cc
edit-refused what (name ∷ names) es given is = refused-edit what 0 name names es given is

-- where something is there, it has other metadata then
there-edit : (what : MetaEdit) (led : ℕ) (name : List ℕ) (names : List (List ℕ)) (es : Entries) (t : Tree) → at led (name ∷ names) (Dir es) ≡ Ok t
    → edited (with_remade what) led name names es ≡ edited (put_over (remade what t)) led name names es
there-edit what led name [] es t is = by (child name es) is
  where
    by : (o : Option Tree) → found (led + 1) [] o ≡ Ok t → and_then (as_there (led + 1) o) (λ t. Ok (with_child name (remade what t) es)) ≡ Ok (with_child name (remade what t) es)
    by None is = absurd cc
    by (Some u) is = ap (λ (w : Result Tree Refused). and_then w (λ (t : Tree). Ok (with_child name (remade what t) es))) is
there-edit what led name (next ∷ names) es t is = by (λ fs is. there-edit what (led + 1) next names fs t is) (child name es) is
  where
    by : ((fs : Entries) → at (led + 1) (next ∷ names) (Dir fs) ≡ Ok t → edited (with_remade what) (led + 1) next names fs ≡ edited (put_over (remade what t)) (led + 1) next names fs)
        → (o : Option Tree) → found (led + 1) (next ∷ names) o ≡ Ok t
        → with_folder name es (and_then (as_folder (led + 1) o) (λ below. edited (with_remade what) (led + 1) next names below))
        ≡ with_folder name es (and_then (as_folder (led + 1) o) (λ below. edited (put_over (remade what t)) (led + 1) next names below))
    by rec None is = absurd cc
    by rec (Some (File m bytes)) is = absurd cc
    by rec (Some (Dir fs)) is = ap (with_folder name es) (rec fs is)

pub edit-there : (what : MetaEdit) (name : List ℕ) (names : List (List ℕ)) (es : Entries) (t : Tree) → at 0 (name ∷ names) (Dir es) ≡ Ok t
    → meta_edited what (name ∷ names) es ≡ edited (put_over (remade what t)) 0 name names es
edit-there what name names es t is = there-edit what 0 name names es t is

-- ---- a tree put in the place of one that is there

abbrev under : Option Tree → Entries
under o = elim o as (λ o. Entries) [ None ↦ Nothing none | Some t ↦ entries_in t ]

-- the names alone are weighed
weighs-same : (sum : ℕ) (name : List ℕ) (e f : Entry) (l : List Named)
    → fold (λ a (x : Named). a + (length x.0 + 36)) sum (put names_cmp name e l) ≡ fold (λ a (x : Named). a + (length x.0 + 36)) sum (put names_cmp name f l)
weighs-same sum name e f [] = refl
weighs-same sum name e f (x ∷ l) = elim (names_cmp name x.0) as (λ r.
    fold (λ a (x : Named). a + (length x.0 + 36)) sum (by_order r ((name, e) ∷ x ∷ l) ((x.0, e) ∷ l) (x ∷ put names_cmp name e l))
    ≡ fold (λ a (x : Named). a + (length x.0 + 36)) sum (by_order r ((name, f) ∷ x ∷ l) ((x.0, f) ∷ l) (x ∷ put names_cmp name f l))) [
      | Less ↦ refl
      | Equal ↦ refl
      | Greater ↦ weighs-same (sum + (length x.0 + 36)) name e f l
    ]

no-crossing : (b c : Bool) (n k : ℕ) → b ≡ c → cond b (cond c 0 n) (cond c k 0) ≡ 0
no-crossing true true n k is = refl
no-crossing true false n k is = absurd cc
no-crossing false true n k is = absurd cc
no-crossing false false n k is = refl

module _ (X : List ℕ → List ℕ) (N : List ℕ → ℕ) (p : Profile) where
  weight-same : (name : List ℕ) (u t : Tree) (es : Entries) → IsTrue (is_tree (Dir es)) → child name es ≡ Some t
      → weight (named_entries X N p (with_child name u es)) ≡ weight (named_entries X N p es)
  weight-same name u t es tree there =
      ap (λ (l : List Named). weight l) (named_entries-with X N p (own_meta es) name u es)
      ∙ weighs-same 0 name (entry X N p u) (entry X N p t) (named_entries X N p es)
      ∙ ap (λ (l : List Named). weight l) (sym (named_entries-with X N p (own_meta es) name t es))
      ∙ ap (λ (es : Entries). weight (named_entries X N p es)) (with-same name t es tree there)

  -- so no directory becomes sharded or basic
  crossing-none : (name : List ℕ) (u t : Tree) (es : Entries) → IsTrue (is_tree (Dir es)) → child name es ≡ Some t
      → crossing X N p (named_entries X N p es) (named_entries X N p (with_child name u es)) ≡ 0
  crossing-none name u t es tree there =
      no-crossing _ _ (splitting X N (named_entries X N p es)) (splitting X N (named_entries X N p (with_child name u es)))
      (ap (λ (n : ℕ). nat_lt p.threshold n) (sym (weight-same name u t es tree there)))

  -- this tree is put there: it is refused as its member is, and no directory becomes sharded or basic
  pub record PutThere (u : Tree) (led : ℕ) (name : List ℕ) (names : List (List ℕ)) (es : Entries) : Type 0 where
    pub next : Entries
    pub is : edited (put_over u) led name names es ≡ Ok next
    pub refused : (x : Refusal) → refusal X N p u ≡ Some x → refusal X N p (Dir next) ≡ Some x
    pub crossed : crossings X N p (name ∷ names) es next ≡ 0

  pub put-there : (u t : Tree) (led : ℕ) (name : List ℕ) (names : List (List ℕ)) (folder : Entry) (es : Entries) → IsPlanOf X N p folder (Dir es) → at led (name ∷ names) (Dir es) ≡ Ok t
      → PutThere u led name names es
  put-there u t led name [] folder es plan is = by (child name es) refl is
    where
      by : (o : Option Tree) → child name es ≡ o → found (led + 1) [] o ≡ Ok t → PutThere u led name [] es
      by None there is = absurd cc
      by (Some old) there is = record {
        next = with_child name u es;
        is = refl;
        refused = λ x h. refused-above X N p folder es name u x plan h;
        crossed = (let here = crossing-none name u old es plan.tree there in omega (arith, here));
      }
  put-there u t led name (next ∷ names) folder es plan is = by (λ e fs plan is. put-there u t (led + 1) next names e fs plan is) (child name es) refl is
    where
      by : ((e : Entry) (fs : Entries) → IsPlanOf X N p e (Dir fs) → at (led + 1) (next ∷ names) (Dir fs) ≡ Ok t → PutThere u (led + 1) next names fs)
          → (o : Option Tree) → child name es ≡ o → found (led + 1) (next ∷ names) o ≡ Ok t → PutThere u led name (next ∷ names) es
      by rec None there is = absurd cc
      by rec (Some (File m bytes)) there is = absurd cc
      by rec (Some (Dir fs)) there is =
          let own : Own X N p (Dir fs) = each-find (Own X N p) name (Dir fs) (pairs es) (members-own X N p folder es plan) there in
          let below = rec (entry X N p (Dir fs)) fs own is in
          record {
            next = with_child name (Dir below.next) es;
            is = ap (λ (o : Option Tree). with_folder name es (and_then (as_folder (led + 1) o) (λ below. edited (put_over u) (led + 1) next names below))) there ∙ ap (with_folder name es) below.is;
            refused = λ x h. refused-above X N p folder es name (Dir below.next) x plan (below.refused x h);
            crossed =
                (let here = crossing-none name (Dir below.next) (Dir fs) es plan.tree there in
                let rest : crossings X N p (next ∷ names) (entries_at name es) (entries_at name (with_child name (Dir below.next) es)) ≡ 0 =
                ap (λ (gs : Entries). crossings X N p (next ∷ names) (entries_at name es) gs) (entries-put name below.next es)
                ∙ ap (λ (o : Option Tree). crossings X N p (next ∷ names) (under o) below.next) there ∙ below.crossed
                in omega (arith, here, rest));
          }
