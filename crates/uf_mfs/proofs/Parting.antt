-- A folder that lies apart from what is taken away is still there.
use Rattle.std.proofs.Common.{◌≡◌, ◌∙◌, ℕ, ◌+◌, List, [], ◌∷◌, ◌++◌, Bool, true, false, cond, length, refl, sym, ap, subst, Option, None, Some, Result, Ok, Err}
use Rattle.std.specs.Prelude.{not}
use Rattle.std.specs.Cmp.{eq_by_cmp_equiv}
use Rattle.std.specs.declared.cmp.Ordering.{Ordering}
use Rattle.std.specs.declared.cmp.Ordering.TheVariants.{Less, Equal, Greater}
use Rattle.std.specs.Ordering.{eq_by_cmp, is_eq}
use Rattle.std.specs.FinMap.Entries.{find, find-put, find-where_key}
use Rattle.uf_tree.specs.Names.{names_cmp}
use Rattle.uf_tree.specs.Tree.{Tree, File, Dir, Entries, pairs}
use Rattle.uf_tree.proofs.ShardLaws.{names_exact, names_total}
use Rattle.uf_plain.specs.declared.rule.Refused.{Refused}
use Rattle.uf_plain.specs.declared.rule.Refused.TheVariants as why
use Rattle.uf_plain.specs.declared.spot.Lie.TheVariants.{Apart}
use Rattle.uf_plain.specs.declared.spot.Spot.{Spot}
use Rattle.uf_plain.specs.Edits.{and_then, as_folder, as_removable, at, child, edited, removed, taken, with_child, with_folder, without_child}
use Rattle.uf_plain.specs.Moves.{edited_at, folder_at, lie_of, placed_at, put_over, shifted, spot_names, then_go, told_of}
use Rattle.uf_plain.proofs.Kept.{pairs-with, pairs-without}
use Rattle.uf_mfs.proofs.Touching.{child-put}

same-name : (q name : List ℕ) → eq_by_cmp names_cmp q name ≡ true → q ≡ name
same-name q name e = names_exact q name (by (names_cmp q name) e)
  where
    by : (r : Ordering) → is_eq r ≡ true → r ≡ Equal
    by Less e = cc
    by Equal e = refl
    by Greater e = cc

-- ---- other members stay

turned : (a b : List ℕ) → eq_by_cmp names_cmp a b ≡ false → eq_by_cmp names_cmp b a ≡ false
turned a b other = (eq_by_cmp_equiv names_total).symm b a ∙ other

child-with : (a b : List ℕ) (t : Tree) (es : Entries) → eq_by_cmp names_cmp a b ≡ false → child b (with_child a t es) ≡ child b es
child-with a b t es other =
    ap (find names_cmp b) (pairs-with a t es) ∙ find-put names_cmp names_total b a t (pairs es)
    ∙ ap (λ (c : Bool). cond c (Some t) (find names_cmp b (pairs es))) (turned a b other)

child-without : (a b : List ℕ) (es : Entries) → eq_by_cmp names_cmp a b ≡ false → child b (without_child a es) ≡ child b es
child-without a b es other =
    ap (find names_cmp b) (pairs-without a es)
    ∙ find-where_key names_cmp (λ x. not (eq_by_cmp names_cmp a x)) b (λ x same. ap (λ (y : List ℕ). not (eq_by_cmp names_cmp a y)) (sym (names_exact b x same))) (pairs es)
    ∙ ap (λ (c : Bool). cond (not c) (find names_cmp b (pairs es)) None) other

-- what a lookup says of a member
abbrev met : ℕ → List (List ℕ) → Option Tree → Result Tree Refused
met led names o = elim o as (λ o. Result Tree Refused) [ None ↦ Err (why.NotFound led) | Some t ↦ at led names t ]

-- a folder below a member is below a folder
member-folder : (led : ℕ) (folder : List (List ℕ)) (o : Option Tree) (fs : Entries) → met led folder o ≡ Ok (Dir fs) → (es : Entries) × (o ≡ Some (Dir es)) × (at led folder (Dir es) ≡ Ok (Dir fs))
member-folder led folder None fs there = absurd cc
member-folder led [] (Some (File m bytes)) fs there = absurd cc
member-folder led (name ∷ folder) (Some (File m bytes)) fs there = absurd cc
member-folder led folder (Some (Dir es)) fs there = (es, refl, there)

-- ---- what lies apart

-- a source of one name, and a target of more than none, lie apart where their first names differ
lie-one : (b : Bool) (folder : List (List ℕ)) (n : List ℕ) → cond b (lie_of [] (folder ++ n ∷ [])) Apart ≡ Apart → b ≡ false
lie-one false folder n lie = refl
lie-one true [] n lie = absurd cc
lie-one true (x ∷ folder) n lie = absurd cc

taken-is : (o : Option Tree) (led : ℕ) (a : List ℕ) (es left : Entries) → and_then (as_removable true led o) (λ may. Ok (without_child a es)) ≡ Ok left → without_child a es ≡ left
taken-is None led a es left gone = absurd cc
taken-is (Some (File m bytes)) led a es left gone = cc
taken-is (Some (Dir below)) led a es left gone = cc

-- a removal below a folder
record IsBelow (led : ℕ) (a : List ℕ) (go : Entries → Result Entries Refused) (es left : Entries) : Type 0 where
  old : Entries
  new : Entries
  there : child a es ≡ Some (Dir old)
  gone : go old ≡ Ok new
  is : with_child a (Dir new) es ≡ left

below-is : (led : ℕ) (a : List ℕ) (go : Entries → Result Entries Refused) (es left : Entries) → with_folder a es (and_then (as_folder led (child a es)) go) ≡ Ok left → IsBelow led a go es left
below-is led a go es left gone = by (child a es) refl gone
  where
    two : (old : Entries) → child a es ≡ Some (Dir old) → (w : Result Entries Refused) → go old ≡ w → with_folder a es w ≡ Ok left → IsBelow led a go es left
    two old there (Err given) went gone = absurd cc
    two old there (Ok new) went gone = record { old = old; new = new; there = there; gone = went; is = cc }

    by : (o : Option Tree) → child a es ≡ o → with_folder a es (and_then (as_folder led o) go) ≡ Ok left → IsBelow led a go es left
    by None there gone = absurd cc
    by (Some (File m bytes)) there gone = absurd cc
    by (Some (Dir old)) there gone = two old there (go old) refl gone

-- a folder that lies apart is there after the removal
still : (led k : ℕ) (a : List ℕ) (source folder : List (List ℕ)) (n : List ℕ) (es left fs : Entries) → lie_of (a ∷ source) (folder ++ n ∷ []) ≡ Apart → at led folder (Dir es) ≡ Ok (Dir fs)
    → edited (taken true) k a source es ≡ Ok left → (gs : Entries) × (at led folder (Dir left) ≡ Ok (Dir gs))
still led k a source [] n es left fs lie there gone = (left, refl)
still led k a [] (b ∷ folder) n es left fs lie there gone =
    let other = lie-one (eq_by_cmp names_cmp a b) folder n lie in
    (fs, ap (met (led + 1) folder) (ap (child b) (sym (taken-is (child a es) (k + 1) a es left gone)) ∙ child-without a b es other) ∙ there)
still led k a (next ∷ source) (b ∷ folder) n es left fs lie there gone = by (λ old new lie there gone. still (led + 1) (k + 1) next source folder n old new fs lie there gone) (eq_by_cmp names_cmp a b) refl lie
  where
    below : IsBelow (k + 1) a (λ below. edited (taken true) (k + 1) next source below) es left
    below = below-is (k + 1) a (λ below. edited (taken true) (k + 1) next source below) es left gone

    by : ((old new : Entries) → lie_of (next ∷ source) (folder ++ n ∷ []) ≡ Apart → at (led + 1) folder (Dir old) ≡ Ok (Dir fs) → edited (taken true) (k + 1) next source old ≡ Ok new
        → (gs : Entries) × (at (led + 1) folder (Dir new) ≡ Ok (Dir gs)))
        → (c : Bool) → eq_by_cmp names_cmp a b ≡ c → cond c (lie_of (next ∷ source) (folder ++ n ∷ [])) Apart ≡ Apart → (gs : Entries) × (at led (b ∷ folder) (Dir left) ≡ Ok (Dir gs))
    by rec false other lie = (fs, ap (met (led + 1) folder) (ap (child b) (sym below.is) ∙ child-with a b (Dir below.new) es other) ∙ there)
    by rec true same lie =
        let one : a ≡ b = same-name a b same in
        let under = member-folder (led + 1) folder (child b es) fs there in
        let twice : Some (Dir under.0) ≡ Some (Dir below.old) = sym under.1 ∙ ap (λ (x : List ℕ). child x es) (sym one) ∙ below.there in
        let old : under.0 ≡ below.old = cc in
        let deep = rec below.old below.new lie (subst (λ (es : Entries). at (led + 1) folder (Dir es) ≡ Ok (Dir fs)) old under.2) below.gone in
        let put : child b left ≡ Some (Dir below.new) = ap (child b) (sym below.is) ∙ ap (λ (x : List ℕ). child x (with_child a (Dir below.new) es)) (sym one) ∙ child-put a (Dir below.new) es in
        (deep.0, ap (met (led + 1) folder) put ∙ deep.1)

-- ---- a put into a folder that is there

puts-below : (led k : ℕ) (b : List ℕ) (folder : List (List ℕ)) (n : List ℕ) (t : Tree) (es gs : Entries) → at led (b ∷ folder) (Dir es) ≡ Ok (Dir gs)
    → (next : Entries) × (edited (put_over t) k b (folder ++ n ∷ []) es ≡ Ok next)
puts-below led k b [] n t es gs there =
    let under = member-folder (led + 1) [] (child b es) gs there in
    (with_child b (Dir (with_child n t under.0)) es, ap (λ (o : Option Tree). with_folder b es (and_then (as_folder (k + 1) o) (λ below. edited (put_over t) (k + 1) n [] below))) under.1)
puts-below led k b (c ∷ folder) n t es gs there =
    let under = member-folder (led + 1) (c ∷ folder) (child b es) gs there in
    let deep = puts-below (led + 1) (k + 1) c folder n t under.0 gs under.2 in (
      with_child b (Dir deep.0) es,
      ap (λ (o : Option Tree). with_folder b es (and_then (as_folder (k + 1) o) (λ below. edited (put_over t) (k + 1) c (folder ++ n ∷ []) below))) under.1 ∙ ap (with_folder b es) deep.1,
    )

puts-there : (folder : List (List ℕ)) (n : List ℕ) (t : Tree) (es gs : Entries) → at 0 folder (Dir es) ≡ Ok (Dir gs) → (next : Entries) × (edited_at (put_over t) (folder ++ n ∷ []) es ≡ Ok next)
puts-there [] n t es gs there = (with_child n t es, refl)
puts-there (b ∷ folder) n t es gs there = puts-below 0 0 b folder n t es gs there

folder-is : (led : ℕ) (w : Result Tree Refused) (fs : Entries) → and_then w (λ t. as_folder led (Some t)) ≡ Ok fs → w ≡ Ok (Dir fs)
folder-is led (Ok (File m bytes)) fs is = absurd cc
folder-is led (Ok (Dir es)) fs is = (let same : es ≡ fs = cc in ap (λ (es : Entries). Ok (Dir es)) same)
folder-is led (Err given) fs is = absurd cc

-- what is taken away can be put at a spot that lies apart, in a folder that is there
pub shifts : (source : List (List ℕ)) (spot : Spot) (t : Tree) (es left fs : Entries) → lie_of source (spot_names spot) ≡ Apart → folder_at spot.folder es ≡ Ok fs → removed true source es ≡ Ok left
    → (next : Entries) × (shifted source spot t es ≡ Ok next)
shifts [] spot t es left fs lie there gone = absurd cc
shifts (a ∷ source) spot t es left fs lie there gone =
    let rest = still 0 0 a source spot.folder spot.name es left fs lie (folder-is (length spot.folder) (at 0 spot.folder (Dir es)) fs there) gone in
    let put = puts-there spot.folder spot.name t left rest.0 rest.1 in
    (put.0, ap (λ (w : Result Entries Refused). then_go (told_of (a ∷ source) w) (λ left. placed_at spot t left)) gone ∙ ap (told_of (spot_names spot)) put.1)
