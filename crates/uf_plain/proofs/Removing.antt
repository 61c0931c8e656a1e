-- A tree after `rm` has a plan where it had one, and its Tsize is no greater.
use Rattle.std.proofs.Common.{◌≡◌, ℕ, ◌+◌, ◌<◌, ◌≤◌, ◌^◌, List, [], ◌∷◌, refl, ap, sym, ◌∙◌, subst, arith, Bool, Option, Some, None, Result, Ok, Err}
use Rattle.std.specs.Prelude.{IsTrue}
use Rattle.std.specs.Option.{option_map}
use Rattle.std.specs.FinMap.Entries.{find, put}
use Rattle.uf_tree.specs.declared.meta.Meta.{Meta}
use Rattle.uf_tree.specs.declared.nodes.Entry.{Entry}
use Rattle.uf_tree.specs.declared.profile.Profile.{Profile}
use Rattle.uf_tree.specs.Changes.{with_name, without}
use Rattle.uf_tree.specs.DirPlan.{own_plan}
use Rattle.uf_tree.specs.Names.{names_cmp}
use Rattle.uf_tree.specs.Nodes.{Named}
use Rattle.uf_tree.specs.Profiles.{is_profile}
use Rattle.uf_tree.specs.Tree.{Tree, File, Dir, Entries, own_meta, pairs, is_tree}
use Rattle.uf_tree.specs.TreePlan.{dir_refusal, entry, first_refusal, named_entries, or_else, refusal}
use Rattle.uf_tree.specs.Validity.{IsDirectory, IsHash}
use Rattle.uf_tree.proofs.TreeLaws.{meta-entries, named_entries-with, named_entries-without, pairs-entries}
use Rattle.uf_tree.proofs.Valid.{directory-valid, entry-valid}
use Rattle.uf_laws.proofs.Removed.{removed-less, removed-plan}
use Rattle.uf_laws.proofs.Replaced.{replaced-plan, replaced-tsize}
use Rattle.uf_plain.specs.declared.rule.Refused.{Refused}
use Rattle.uf_plain.specs.Edits.{and_then, as_folder, as_removable, child, edited, removed, taken, with_child, with_folder, without_child}
use Rattle.uf_plain.proofs.Plans.{Each, each-find, each-where, entry-is, find-child, first-none, first-put, none-first, none-second, plans, refusal-is}
use Rattle.uf_plain.proofs.Edited.{child-tree}

-- what a step that isn't refused gives
given : {A : Type 0} (w : Result A Refused) (es next : Entries) → and_then w (λ a. Ok es) ≡ Ok next → es ≡ next
given (Ok a) es next h = cc
given (Err why) es next h = absurd cc

module _ (X : List ℕ → List ℕ) (N : List ℕ → ℕ) (hash : IsHash X) (fits : (name : List ℕ) → N name < 2 ^ 64) (p : Profile) (ok : IsTrue (is_profile p)) where
  -- the next folder has a plan, and a Tsize that is no greater than this one's
  pub record KeepsPlan (es next : Entries) : Type 0 where
    pub planned : refusal X N p (Dir next) ≡ None
    pub tsize : (entry X N p (Dir next)).tsize ≤ (entry X N p (Dir es)).tsize

  abbrev HasPlan : Tree → Type 0
  HasPlan t = refusal X N p t ≡ None

  none-each : (l : List (List ℕ × Tree)) → first_refusal (plans X N p l) ≡ None → Each HasPlan l
  none-each [] h = tt
  none-each (m ∷ l) h = (none-first _ _ h, none-each l (none-second _ _ h))

  -- the members of a folder that has a plan have one, and so has the directory of their entries
  members-planned : (es : Entries) → HasPlan (Dir es) → Each HasPlan (pairs es)
  members-planned es h = none-each (pairs es) (none-first _ _ (sym (refusal-is X N p es) ∙ h))

  own-planned : (es : Entries) → HasPlan (Dir es) → dir_refusal X N p (own_meta es) (named_entries X N p es) ≡ None
  own-planned es h = none-second _ _ (sym (refusal-is X N p es) ∙ h)

  planned-by : (es : Entries) → first_refusal (plans X N p (pairs es)) ≡ None → dir_refusal X N p (own_meta es) (named_entries X N p es) ≡ None → HasPlan (Dir es)
  planned-by es members own = refusal-is X N p es ∙ ap (λ o. or_else o (dir_refusal X N p (own_meta es) (named_entries X N p es))) members ∙ own

  tsize-by : (es : Entries) (m : Meta) (l : List Named) → own_meta es ≡ m → named_entries X N p es ≡ l → (entry X N p (Dir es)).tsize ≡ (own_plan X N p m l).entry.tsize
  tsize-by es m l meta is = ap (λ (e : Entry). e.tsize) (entry-is X N p es) ∙ ap (λ m. (own_plan X N p m (named_entries X N p es)).entry.tsize) meta ∙ ap (λ l. (own_plan X N p m l).entry.tsize) is

  -- the directory of other entries with the same metadata has a plan
  own-by : (es : Entries) (m : Meta) (l : List Named) → own_meta es ≡ m → named_entries X N p es ≡ l → dir_refusal X N p m l ≡ None → dir_refusal X N p (own_meta es) (named_entries X N p es) ≡ None
  own-by es m l meta is h = ap (λ m. dir_refusal X N p m (named_entries X N p es)) meta ∙ ap (dir_refusal X N p m) is ∙ h

  module _ (es : Entries) (tree : IsTrue (is_tree (Dir es))) (planned : HasPlan (Dir es)) (name : List ℕ) (t : Tree) (there : child name es ≡ Some t) where
    abbrev l : List Named
    l = named_entries X N p es

    abbrev m : Meta
    m = own_meta es

    valid : IsDirectory l
    valid = directory-valid X hash N p ok es tree

    old : find names_cmp name l ≡ Some (entry X N p t)
    old = find-child X N p es name ∙ ap (option_map (λ t. entry X N p t)) there

    -- a member is taken away
    taken-keeps : KeepsPlan es (without_child name es)
    taken-keeps =
        let next = without_child name es in
        let list : named_entries X N p next ≡ without name l = named_entries-without X N p m name es in
        let meta : own_meta next ≡ m = meta-entries m (without name (pairs es)) in
        let members : first_refusal (plans X N p (pairs next)) ≡ None =
        ap (λ l. first_refusal (plans X N p l)) (pairs-entries m (without name (pairs es))) ∙ first-none X N p (without name (pairs es)) (each-where HasPlan _ (pairs es) (members-planned es planned)) in
        let own = own-by next m (without name l) meta list (removed-plan X N m name (entry X N p t) l hash fits valid old p (own-planned es planned)) in
        let less = removed-less X N m name (entry X N p t) l hash fits valid old p (own-planned es planned) in
        record { planned = planned-by next members own; tsize = omega (arith, tsize-by next m (without name l) meta list, tsize-by es m l refl refl, less) }

    -- a member is put in the place of one whose Tsize is no less
    put-keeps : (u : Tree) → HasPlan u → (entry X N p u).tsize ≤ (entry X N p t).tsize → KeepsPlan es (with_child name u es)
    put-keeps u new le =
        let next = with_child name u es in
        let list : named_entries X N p next ≡ with_name name (entry X N p u) l = named_entries-with X N p m name u es in
        let meta : own_meta next ≡ m = meta-entries m (put names_cmp name u (pairs es)) in
        let members : first_refusal (plans X N p (pairs next)) ≡ None =
        ap (λ l. first_refusal (plans X N p l)) (pairs-entries m (put names_cmp name u (pairs es))) ∙ first-put X N p name u (pairs es) (members-planned es planned) ∙ new in
        let own = own-by next m (with_name name (entry X N p u) l) meta list
        (replaced-plan X N p m name (entry X N p t) (entry X N p u) l hash valid old (entry-valid X hash N p ok u) le (own-planned es planned)) in
        let least = replaced-tsize X N p m name (entry X N p t) (entry X N p u) l hash valid old (entry-valid X hash N p ok u) le in
        record { planned = planned-by next members own; tsize = omega (arith, tsize-by next m (with_name name (entry X N p u) l) meta list, tsize-by es m l refl refl, least) }

  -- along the path
  edited-keeps : (recursive : Bool) (led : ℕ) (name : List ℕ) (names : List (List ℕ)) (es next : Entries) → IsTrue (is_tree (Dir es)) → HasPlan (Dir es) → edited (taken recursive) led name names es ≡ Ok next → KeepsPlan es next
  edited-keeps recursive led name [] es next tree planned is = by (child name es) refl is
    where
      by : (o : Option Tree) → child name es ≡ o → and_then (as_removable recursive (led + 1) o) (λ may. Ok (without_child name es)) ≡ Ok next → KeepsPlan es next
      by None there is = absurd cc
      by (Some t) there is = subst (KeepsPlan es) (given (as_removable recursive (led + 1) (Some t)) (without_child name es) next is) (taken-keeps es tree planned name t there)
  edited-keeps recursive led name (more ∷ names) es next tree planned is =
      by (λ below after tree planned is. edited-keeps recursive (led + 1) more names below after tree planned is) (child name es) refl is
    where
      step : (below : Entries) → child name es ≡ Some (Dir below) → (w : Result Entries Refused) → ((after : Entries) → w ≡ Ok after → KeepsPlan below after) → with_folder name es w ≡ Ok next → KeepsPlan es next
      step below there (Err why) keeps is = absurd cc
      step below there (Ok after) keeps is =
          let k = keeps after refl in
          let same : with_child name (Dir after) es ≡ next = cc in
          subst (KeepsPlan es) same (put-keeps es tree planned name (Dir below) there (Dir after) k.planned k.tsize)

      by : ((below after : Entries) → IsTrue (is_tree (Dir below)) → HasPlan (Dir below) → edited (taken recursive) (led + 1) more names below ≡ Ok after → KeepsPlan below after) → (o : Option Tree) → child name es ≡ o
          → with_folder name es (and_then (as_folder (led + 1) o) (λ below. edited (taken recursive) (led + 1) more names below)) ≡ Ok next → KeepsPlan es next
      by rec None there is = absurd cc
      by rec (Some (File m bytes)) there is = absurd cc
      by rec (Some (Dir below)) there is =
          step below there (edited (taken recursive) (led + 1) more names below)
          (λ after e. rec below after (child-tree name (Dir below) es tree there) (each-find HasPlan name (Dir below) (pairs es) (members-planned es planned) there) e) is

  -- what `rm` leaves
  pub removed-keeps : (recursive : Bool) (names : List (List ℕ)) (es next : Entries) → IsTrue (is_tree (Dir es)) → HasPlan (Dir es) → removed recursive names es ≡ Ok next → KeepsPlan es next
  removed-keeps recursive [] es next tree planned is = absurd cc
  removed-keeps recursive (name ∷ names) es next tree planned is = edited-keeps recursive 0 name names es next tree planned is
