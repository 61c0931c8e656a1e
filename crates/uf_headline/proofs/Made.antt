-- What an edit that no rule refuses makes of the plain tree.
use Rattle.std.proofs.Common.{◌≡◌, ◌∙◌, ℕ, ◌+◌, ◌-◌, List, [], ◌∷◌, ◌++◌, Bool, true, false, arith, cond, refl, sym, ap, subst, Option, None, Some, Result, Ok, Err}
use Rattle.std.specs.Prelude.{◌||◌, length, slice_get, take}
use Rattle.std.specs.Ordering.{eq_by_cmp}
use Rattle.uf_tree.specs.Laying.{cut_to, laid}
use Rattle.uf_path.specs.declared.path.Path.{Path}
use Rattle.uf_plain.specs.Edits.{and_then, as_folder, as_free, as_removable, at, child, edited, is_folder_at, made, made_all, or_new, put_free, removed, taken, with_child, with_folder, without_child}
use Rattle.uf_plain.specs.Files.{as_file_or_new, as_file_there, begun, kept_meta, new_bytes, truncated, with_bytes, written}
use Rattle.uf_plain.specs.Metas.{as_there, meta_edited, remade as remade_tree, with_remade}
use Rattle.uf_plain.specs.Moves.{allowed_move, as_replaceable, as_vacant, carried, copied, edited_at, folder_at, landing, lie_of, moved_along, moved_to, name_of, placed_at, put_at_spot, put_over, shifted, spot_in, spot_names, spotted, target, then_go, told_of}
use Rattle.uf_plain.specs.Rules.{allowed, unless}
use Rattle.uf_plain.specs.declared.file.FileEdit.TheVariants as file
use Rattle.uf_plain.specs.declared.file.WriteHow.{WriteHow}
use Rattle.uf_plain.specs.declared.meta_edit.MetaEdit.{MetaEdit}
use Rattle.uf_plain.specs.declared.rule.Refused.{Refused}
use Rattle.uf_plain.specs.declared.rule.Rule.{Rule}
use Rattle.uf_plain.specs.declared.spot.Lie.{Lie}
use Rattle.uf_plain.specs.declared.spot.Lie.TheVariants.{Itself, Below, Apart}
use Rattle.uf_plain.specs.declared.spot.Spot.{Spot}
use Rattle.uf_command.specs.declared.types.Edit.{Edit}
use Rattle.uf_command.specs.declared.types.Edit.TheVariants.{Mkdir, Rm, Write, Truncate, Cp, Mv, SetMeta}
use Rattle.uf_edits.specs.Edits.{edited_by}
use Rattle.uf_tree.specs.TreePlan.{refusal, Refusal}
use Rattle.uf_tree.specs.Metas.{none}
use Rattle.uf_tree.specs.Names.{names_cmp}
use Rattle.uf_tree.specs.Tree.{Tree, File, Dir, Entries, Nothing, is_tree}
use Rattle.uf_tree.specs.declared.profile.Profile.{Profile}
use Rattle.uf_headline.specs.Made.{after_edit, bytes_of, changed_at, folder_of, lands, meta_changed, put_there, remade, with_meta_at}
use Rattle.uf_headline.proofs.Back.{goes-back, same-name}

-- ---- answers

same-ok : {A E : Type 0} (a b : A) → ◌≡◌ {A = Result A E} (Ok a) (Ok b) → a ≡ b
same-ok a b e = cc

-- an answer that is Ok is so with this
abbrev pub IsOnly : {A E : Type 0} → A → Result A E → Type 0
IsOnly a r = (b : _) → r ≡ Ok b → b ≡ a

only-ok : {A E : Type 0} (a : A) → IsOnly {E = E} a (Ok a)
only-ok a = λ b e. sym (same-ok a b e)

told-only : {A : Type 0} (names : List (List ℕ)) (a : A) (r : Result A Refused) → IsOnly a r → IsOnly a (told_of names r)
told-only names a (Ok b) h = λ c e. sym (same-ok b c e) ∙ h b refl
told-only names a (Err why) h = λ c e. cc

allowed-only : (X : List ℕ → List ℕ) (N : List ℕ → ℕ) (p : Profile) (es : Entries) (r : Result Entries Refused) → IsOnly es r → IsOnly es (allowed X N p r)
allowed-only X N p es (Ok fs) h = by (refusal X N p (Dir fs))
  where
    by : (o : Option Refusal) → IsOnly es (unless fs o)
    by None = λ c e. sym (same-ok fs c e) ∙ h fs refl
    by (Some why) = λ c e. cc
allowed-only X N p es (Err why) h = λ c e. cc

allowed-move-only : (X : List ℕ → List ℕ) (N : List ℕ → ℕ) (p : Profile) (es : Entries) (r : Result Entries Rule) → IsOnly es r → IsOnly es (allowed_move X N p r)
allowed-move-only X N p es (Ok fs) h = by (refusal X N p (Dir fs))
  where
    by : (o : Option Refusal) → IsOnly es (told_of [] (unless fs o))
    by None = λ c e. sym (same-ok fs c e) ∙ h fs refl
    by (Some why) = λ c e. cc
allowed-move-only X N p es (Err why) h = λ c e. cc

-- what follows two answers in turn
then-only : {A B : Type 0} (b : B) (r : Result A Refused) (go : A → Result B Refused) → ((a : A) → r ≡ Ok a → IsOnly b (go a)) → IsOnly b (and_then r go)
then-only b (Ok a) go h = h a refl
then-only b (Err why) go h = λ c e. cc

go-only : {A B : Type 0} (b : B) (r : Result A Rule) (go : A → Result B Rule) → ((a : A) → r ≡ Ok a → IsOnly b (go a)) → IsOnly b (then_go r go)
go-only b (Ok a) go h = h a refl
go-only b (Err why) go h = λ c e. cc

told-ok : {A : Type 0} (names : List (List ℕ)) (r : Result A Refused) (a : A) → told_of names r ≡ Ok a → r ≡ Ok a
told-ok names (Ok b) a e = ap Ok (same-ok b a e)
told-ok names (Err why) a e = cc

-- ---- edits of a folder

-- the folder whose member has become a folder
folder-only : (name : List ℕ) (es new : Entries) (r : Result Entries Refused) → IsOnly new r → IsOnly (with_child name (Dir new) es) (with_folder name es r)
folder-only name es new (Ok below) h = λ c e. sym (same-ok (with_child name (Dir below) es) c e) ∙ ap (λ b. with_child name (Dir b) es) (h below refl)
folder-only name es new (Err why) h = λ c e. cc

module _ (change : ℕ → List ℕ → Entries → Result Entries Refused) (does : List ℕ → Entries → Entries) (h : (led : ℕ) (name : List ℕ) (es : Entries) → IsOnly (does name es) (change led name es)) where
  edited-only : (led : ℕ) (name : List ℕ) (names : List (List ℕ)) (es : Entries) → IsOnly (changed_at does (name ∷ names) es) (edited change led name names es)
  edited-only led name [] es = h (led + 1) name es
  edited-only led name (next ∷ names) es = by (child name es) (λ fs. edited-only (led + 1) next names fs)
    where
      by : (o : Option Tree) → ((fs : Entries) → IsOnly (changed_at does (next ∷ names) fs) (edited change (led + 1) next names fs)) → IsOnly (with_child name (Dir (changed_at does (next ∷ names) (folder_of o))) es) (with_folder name es (and_then (as_folder (led + 1) o) (λ below. edited change (led + 1) next names below)))
      by None below = λ c e. cc
      by (Some (File m bytes)) below = λ c e. cc
      by (Some (Dir fs)) below = folder-only name es (changed_at does (next ∷ names) fs) (edited change (led + 1) next names fs) (below fs)

  edited-at-only : (names : List (List ℕ)) (es : Entries) → IsOnly (changed_at does names es) (edited_at change names es)
  edited-at-only [] es = λ c e. cc
  edited-at-only (name ∷ names) es = edited-only 0 name names es

-- ---- folders

-- a folder gets what a member has, or nothing
abbrev a_folder : List ℕ → Entries → Entries
a_folder name es = with_child name (Dir (folder_of (child name es))) es

free-only : (led : ℕ) (name : List ℕ) (es : Entries) → IsOnly (a_folder name es) (put_free (Dir (Nothing none)) led name es)
free-only led name es = by (child name es)
  where
    by : (o : Option Tree) → IsOnly (with_child name (Dir (folder_of o)) es) (and_then (as_free led o) (λ free. Ok (with_child name (Dir (Nothing none)) es)))
    by None = only-ok (with_child name (Dir (Nothing none)) es)
    by (Some t) = λ c e. cc

all-only : (led : ℕ) (name : List ℕ) (names : List (List ℕ)) (es : Entries) → IsOnly (changed_at a_folder (name ∷ names) es) (made_all led (name ∷ names) es)
all-only led name [] es = by (child name es)
  where
    by : (o : Option Tree) → IsOnly (with_child name (Dir (folder_of o)) es) (with_folder name es (and_then (or_new (led + 1) o) (λ below. made_all (led + 1) [] below)))
    by None = only-ok (with_child name (Dir (Nothing none)) es)
    by (Some (File m bytes)) = λ c e. cc
    by (Some (Dir fs)) = only-ok (with_child name (Dir fs) es)
all-only led name (next ∷ names) es = by (child name es) (λ fs. all-only (led + 1) next names fs)
  where
    by : (o : Option Tree) → ((fs : Entries) → IsOnly (changed_at a_folder (next ∷ names) fs) (made_all (led + 1) (next ∷ names) fs)) → IsOnly (with_child name (Dir (changed_at a_folder (next ∷ names) (folder_of o))) es) (with_folder name es (and_then (or_new (led + 1) o) (λ below. made_all (led + 1) (next ∷ names) below)))
    by None below = folder-only name es (changed_at a_folder (next ∷ names) (Nothing none)) (made_all (led + 1) (next ∷ names) (Nothing none)) (below (Nothing none))
    by (Some (File m bytes)) below = λ c e. cc
    by (Some (Dir fs)) below = folder-only name es (changed_at a_folder (next ∷ names) fs) (made_all (led + 1) (next ∷ names) fs) (below fs)

made-only : (parents : Bool) (names : List (List ℕ)) (es : Entries) → IsOnly (remade (λ o. Dir (folder_of o)) names es) (made parents names es)
made-only false [] es = λ c e. cc
made-only true [] es = only-ok es
made-only false (name ∷ names) es = edited-only (put_free (Dir (Nothing none))) a_folder free-only 0 name names es
made-only true (name ∷ names) es = all-only 0 name names es

taken-only : (recursive : Bool) (led : ℕ) (name : List ℕ) (es : Entries) → IsOnly (without_child name es) (taken recursive led name es)
taken-only recursive led name es = then-only (without_child name es) (as_removable recursive led (child name es)) (λ may. Ok (without_child name es)) (λ may e. only-ok (without_child name es))

removed-only : (recursive : Bool) (names : List (List ℕ)) (es : Entries) → IsOnly (changed_at without_child names es) (removed recursive names es)
removed-only recursive [] es = λ c e. cc
removed-only recursive (name ∷ names) es = edited-only (taken recursive) without_child (taken-only recursive) 0 name names es

-- ---- files

there-only : (led : ℕ) (o : Option Tree) → IsOnly (bytes_of o) (as_file_there led o)
there-only led None = λ c e. cc
there-only led (Some (File m bytes)) = only-ok bytes
there-only led (Some (Dir es)) = λ c e. cc

or-new-only : (create : Bool) (led : ℕ) (o : Option Tree) → IsOnly (bytes_of o) (as_file_or_new create led o)
or-new-only true led None = only-ok []
or-new-only false led None = there-only led None
or-new-only true led (Some t) = there-only led (Some t)
or-new-only false led (Some t) = there-only led (Some t)

-- an answer's value, and something made of it
with-only : {A B : Type 0} (a : A) (r : Result A Refused) (make : A → B) → IsOnly a r → IsOnly (make a) (and_then r (λ a. Ok (make a)))
with-only a (Ok b) make h = λ c e. sym (same-ok (make b) c e) ∙ ap make (h b refl)
with-only a (Err why) make h = λ c e. cc

write-only : (how : WriteHow) (piece : List ℕ) (led : ℕ) (name : List ℕ) (es : Entries)
    → IsOnly (with_child name (File (kept_meta (child name es)) (laid (cond how.cut [] (bytes_of (child name es))) how.offset piece)) es) (with_bytes (file.Write how) piece led name es)
write-only how piece led name es = by (child name es)
  where
    by : (o : Option Tree) → IsOnly (with_child name (File (kept_meta o) (laid (cond how.cut [] (bytes_of o)) how.offset piece)) es) (and_then (new_bytes (file.Write how) piece led o) (λ bytes. Ok (with_child name (File (kept_meta o) bytes) es)))
    by o = with-only (laid (cond how.cut [] (bytes_of o)) how.offset piece) (new_bytes (file.Write how) piece led o) (λ bytes. with_child name (File (kept_meta o) bytes) es)
        (with-only (cond how.cut [] (bytes_of o)) (begun (file.Write how) led o) (λ bytes. laid bytes how.offset piece)
        (with-only (bytes_of o) (as_file_or_new how.create led o) (λ bytes. cond how.cut [] bytes) (or-new-only how.create led o)))

truncate-only : (size led : ℕ) (name : List ℕ) (es : Entries) → IsOnly (with_child name (File (kept_meta (child name es)) (cut_to (bytes_of (child name es)) size)) es) (with_bytes (file.Truncate size) [] led name es)
truncate-only size led name es = by (child name es)
  where
    by : (o : Option Tree) → IsOnly (with_child name (File (kept_meta o) (cut_to (bytes_of o) size)) es) (and_then (new_bytes (file.Truncate size) [] led o) (λ bytes. Ok (with_child name (File (kept_meta o) bytes) es)))
    by o = with-only (cut_to (bytes_of o) size) (new_bytes (file.Truncate size) [] led o) (λ bytes. with_child name (File (kept_meta o) bytes) es)
        (with-only (bytes_of o) (as_file_there led o) (λ bytes. cut_to bytes size) (there-only led o))

written-only : (how : WriteHow) (piece : List ℕ) (names : List (List ℕ)) (es : Entries) → IsOnly (remade (λ o. File (kept_meta o) (laid (cond how.cut [] (bytes_of o)) how.offset piece)) names es) (written how piece names es)
written-only how piece [] es = λ c e. cc
written-only how piece (name ∷ names) es = edited-only (with_bytes (file.Write how) piece) (λ name es. with_child name (File (kept_meta (child name es)) (laid (cond how.cut [] (bytes_of (child name es))) how.offset piece)) es) (write-only how piece) 0 name names es

truncated-only : (size : ℕ) (names : List (List ℕ)) (es : Entries) → IsOnly (remade (λ o. File (kept_meta o) (cut_to (bytes_of o) size)) names es) (truncated size names es)
truncated-only size [] es = λ c e. cc
truncated-only size (name ∷ names) es = edited-only (with_bytes (file.Truncate size) []) (λ name es. with_child name (File (kept_meta (child name es)) (cut_to (bytes_of (child name es)) size)) es) (truncate-only size) 0 name names es

-- ---- metadata

one-only : (what : MetaEdit) (led : ℕ) (name : List ℕ) (es : Entries) → IsOnly (with_child name (meta_changed what (child name es)) es) (with_remade what led name es)
one-only what led name es = by (child name es)
  where
    by : (o : Option Tree) → IsOnly (with_child name (meta_changed what o) es) (and_then (as_there led o) (λ t. Ok (with_child name (remade_tree what t) es)))
    by None = λ c e. cc
    by (Some t) = only-ok (with_child name (remade_tree what t) es)

meta-only : (what : MetaEdit) (names : List (List ℕ)) (es : Entries) → IsOnly (with_meta_at what names es) (meta_edited what names es)
meta-only what [] es = only-ok (with_meta_at what [] es)
meta-only what (name ∷ names) es = edited-only (with_remade what) (λ name es. with_child name (meta_changed what (child name es)) es) (one-only what) 0 name names es

-- ---- where a destination leads

-- a list of one more than n names, all but the last of them and that
front-by : (n : ℕ) (xs : List (List ℕ)) (last : List ℕ) → length xs ≡ n + 1 → slice_get xs n ≡ Some last → take n xs ++ last ∷ [] ≡ xs
front-by n [] last many e = absurd (omega (arith, many))
front-by ℕ.zero (y ∷ []) last many e = (let same : y ≡ last = cc in ap (λ z. z ∷ []) (sym same))
front-by ℕ.zero (y ∷ z ∷ xs) last many e = absurd (let two : length (y ∷ z ∷ xs) ≡ 1 = many in let more : length (y ∷ z ∷ xs) ≡ length xs + 2 = omega arith in omega (arith, two, more))
front-by (ℕ.suc n) (y ∷ xs) last many e = ap (λ l. y ∷ l) (front-by n xs last (omega (arith, many)) e)

front-last : (xs : List (List ℕ)) (last : List ℕ) → slice_get xs (length xs - 1) ≡ Some last → take (length xs - 1) xs ++ last ∷ [] ≡ xs
front-last [] last e = cc
front-last (x ∷ xs) last e = front-by (length (x ∷ xs) - 1) (x ∷ xs) last (let many : length (x ∷ xs) ≡ length xs + 1 = omega arith in omega (arith, many)) e

in-only : (folder : List (List ℕ)) (name : Option (List ℕ)) (fs : Entries) (to : List (List ℕ)) → ((last : List ℕ) → name ≡ Some last → folder ++ last ∷ [] ≡ to) → (found : Spot × Entries) → spot_in folder name fs ≡ Ok found → spot_names found.0 ≡ to
in-only folder None fs to h found e = cc
in-only folder (Some last) fs to h found e = ap (λ (f : Spot × Entries). spot_names f.0) (sym (same-ok (record { folder = folder; name = last }, fs) found e)) ∙ h last refl

landed : (r : Result Entries Refused) (folder : List (List ℕ)) (name : Option (List ℕ)) (to : List (List ℕ)) → ((last : List ℕ) → name ≡ Some last → folder ++ last ∷ [] ≡ to)
    → (found : Spot × Entries) → and_then r (spot_in folder name) ≡ Ok found → spot_names found.0 ≡ to
landed (Ok fs) folder name to h found e = in-only folder name fs to h found e
landed (Err why) folder name to h found e = cc

lands-under : (dest : List (List ℕ)) (name : Option (List ℕ)) (last : List ℕ) → name ≡ Some last → dest ++ last ∷ [] ≡ lands true dest name
lands-under dest None last e = cc
lands-under dest (Some given) last e = (let same : given ≡ last = cc in ap (λ n. dest ++ n ∷ []) (sym same))

landing-lands : (into : Bool) (dest : List (List ℕ)) (name : Option (List ℕ)) (es : Entries) (found : Spot × Entries) → landing into dest name es ≡ Ok found → spot_names found.0 ≡ lands into dest name
landing-lands true dest name es found e = landed (folder_at dest es) dest name (lands true dest name) (lands-under dest name) found e
landing-lands false dest name es found e = landed (folder_at (take (length dest - 1) dest) es) (take (length dest - 1) dest) (name_of dest) dest (front-last dest) found e

vacant-same : (spot found : Spot) (o : Option Tree) → as_vacant spot o ≡ Ok found → found ≡ spot
vacant-same spot found None e = sym (same-ok spot found e)
vacant-same spot found (Some t) e = cc

spotted-by : (names : List (List ℕ)) (r : Result (Spot × Entries) Refused) (to : List (List ℕ)) → ((found : Spot × Entries) → r ≡ Ok found → spot_names found.0 ≡ to)
    → (spot : Spot) → then_go (told_of names r) (λ (found : Spot × Entries). told_of (spot_names found.0) (as_vacant found.0 (child found.0.name found.1))) ≡ Ok spot → spot_names spot ≡ to
spotted-by names (Ok found) to h spot e =
    ap spot_names (vacant-same found.0 spot (child found.0.name found.1) (told-ok (spot_names found.0) (as_vacant found.0 (child found.0.name found.1)) spot e)) ∙ h found refl
spotted-by names (Err why) to h spot e = cc

pub spotted-lands : (dest : Path) (name : Option (List ℕ)) (es : Entries) (spot : Spot) → spotted dest name es ≡ Ok spot → spot_names spot ≡ lands dest.into dest.names name
spotted-lands dest name es spot e = spotted-by dest.names (landing dest.into dest.names name es) (lands dest.into dest.names name) (landing-lands dest.into dest.names name es) spot e

-- ---- copies and moves

over-only : (t : Tree) (led : ℕ) (name : List ℕ) (es : Entries) → IsOnly (with_child name t es) (put_over t led name es)
over-only t led name es = only-ok (with_child name t es)

placed-only : (spot : Spot) (to : List (List ℕ)) (t : Tree) (es : Entries) → spot_names spot ≡ to → IsOnly (remade (λ o. t) to es) (placed_at spot t es)
placed-only spot to t es is =
    subst (λ names. IsOnly (remade (λ o. t) names es) (placed_at spot t es)) is
    (told-only (spot_names spot) (remade (λ o. t) (spot_names spot) es) (put_at_spot spot t es) (edited-at-only (put_over t) (λ name es. with_child name t es) (over-only t) (spot_names spot) es))

copied-only : (source : List (List ℕ)) (dest : Path) (es : Entries) → IsOnly (put_there (at 0 source (Dir es)) (lands dest.into dest.names (name_of source)) es) (copied source dest es)
copied-only source dest es = by (at 0 source (Dir es))
  where
    to : List (List ℕ)
    to = lands dest.into dest.names (name_of source)

    by : (r : Result Tree Refused) → IsOnly (put_there r to es) (then_go (told_of source r) (λ t. then_go (spotted dest (name_of source) es) (λ spot. placed_at spot t es)))
    by (Ok t) = go-only (remade (λ o. t) to es) (spotted dest (name_of source) es) (λ spot. placed_at spot t es) (λ spot e. placed-only spot to t es (spotted-lands dest (name_of source) es spot e))
    by (Err why) = λ c e. cc

shifted-only : (source : List (List ℕ)) (spot : Spot) (t : Tree) (es : Entries) → IsOnly (remade (λ o. t) (spot_names spot) (changed_at without_child source es)) (shifted source spot t es)
shifted-only source spot t es = go-only (remade (λ o. t) (spot_names spot) (changed_at without_child source es)) (told_of source (removed true source es)) (λ left. placed_at spot t left)
    (λ left e. subst (λ l. IsOnly (remade (λ o. t) (spot_names spot) l) (placed_at spot t left)) (removed-only true source es left (told-ok source (removed true source es) left e)) (placed-only spot (spot_names spot) t left refl))

-- a target that is the source itself
lie-same : (a b : List (List ℕ)) → lie_of a b ≡ Itself → a ≡ b
lie-same [] [] e = refl
lie-same [] (y ∷ b) e = cc
lie-same (x ∷ a) [] e = cc
lie-same (x ∷ a) (y ∷ b) e = by (eq_by_cmp names_cmp x y) refl e (λ k. lie-same a b k)
  where
    by : (c : Bool) → eq_by_cmp names_cmp x y ≡ c → cond c (lie_of a b) Apart ≡ Itself → (lie_of a b ≡ Itself → a ≡ b) → x ∷ a ≡ y ∷ b
    by true same k rec = ap (λ z. z ∷ a) (same-name x y same) ∙ ap (λ l. y ∷ l) (rec k)
    by false same k rec = cc

along-only : (lie : Lie) (source : List (List ℕ)) (spot : Spot) (fs : Entries) (t : Tree) (es : Entries) → (lie ≡ Itself → es ≡ remade (λ o. t) (spot_names spot) (changed_at without_child source es))
    → IsOnly (remade (λ o. t) (spot_names spot) (changed_at without_child source es)) (moved_along lie source spot fs t es)
along-only Itself source spot fs t es h = λ c e. sym (same-ok es c e) ∙ h refl
along-only Below source spot fs t es h = λ c e. cc
along-only Apart source spot fs t es h =
    go-only (remade (λ o. t) (spot_names spot) (changed_at without_child source es)) (told_of (spot_names spot) (as_replaceable (length (spot_names spot)) t (child spot.name fs))) (λ may. shifted source spot t es)
    (λ may e. shifted-only source spot t es)

to-only : (source to : List (List ℕ)) (t : Tree) (found : Spot × Entries) (es : Entries) → (lie_of source to ≡ Itself → es ≡ remade (λ o. t) to (changed_at without_child source es)) → spot_names found.0 ≡ to
    → IsOnly (remade (λ o. t) to (changed_at without_child source es)) (moved_to source t found es)
to-only source to t found es h is = subst (λ names. (lie_of source names ≡ Itself → es ≡ remade (λ o. t) names (changed_at without_child source es)) → IsOnly (remade (λ o. t) names (changed_at without_child source es)) (moved_to source t found es))
    is (λ k. along-only (lie_of source (spot_names found.0)) source found.0 found.1 t es k) h

carried-only : (source : List (List ℕ)) (dest : Path) (es : Entries) → is_tree (Dir es) ≡ true
    → IsOnly (put_there (at 0 source (Dir es)) (lands (dest.into || is_folder_at (at 0 dest.names (Dir es))) dest.names (name_of source)) (changed_at without_child source es)) (carried source dest es)
carried-only [] dest es tree = λ c e. cc
carried-only (name ∷ names) dest es tree =
    go-only (put_there (at 0 source (Dir es)) to left) (told_of source (at 0 source (Dir es))) (λ t. then_go (target dest (name_of source) es) (λ found. moved_to source t found es))
    (λ t there. go-only (put_there (at 0 source (Dir es)) to left) (target dest (name_of source) es) (λ found. moved_to source t found es) (λ found e. moved t found (told-ok source (at 0 source (Dir es)) t there) e))
  where
    source : List (List ℕ)
    source = name ∷ names

    left : Entries
    left = changed_at without_child source es

    into : Bool
    into = dest.into || is_folder_at (at 0 dest.names (Dir es))

    to : List (List ℕ)
    to = lands into dest.names (name_of source)

    itself : (t : Tree) → at 0 source (Dir es) ≡ Ok t → lie_of source to ≡ Itself → es ≡ remade (λ o. t) to left
    itself t there lies = subst (λ l. es ≡ remade (λ o. t) l left) (lie-same source to lies) (sym (goes-back 0 name names t es tree there))

    moved : (t : Tree) (found : Spot × Entries) → at 0 source (Dir es) ≡ Ok t → target dest (name_of source) es ≡ Ok found → IsOnly (put_there (at 0 source (Dir es)) to left) (moved_to source t found es)
    moved t found there e = subst (λ r. IsOnly (put_there r to left) (moved_to source t found es)) (sym there)
        (to-only source to t found es (itself t there) (landing-lands into dest.names (name_of source) es found (told-ok dest.names (landing into dest.names (name_of source) es) found e)))

-- ---- all edits

module _ (X : List ℕ → List ℕ) (N : List ℕ → ℕ) where
  pub edit-only : (edit : Edit) (names : List (List ℕ)) (p : Profile) (es : Entries) → is_tree (Dir es) ≡ true → IsOnly (after_edit edit names es) (edited_by X N edit names p es)
  edit-only (Mkdir parents) names p es tree = told-only names _ (allowed X N p (made parents names es)) (allowed-only X N p _ (made parents names es) (made-only parents names es))
  edit-only (Rm recursive) names p es tree = told-only names _ (removed recursive names es) (removed-only recursive names es)
  edit-only (Write how piece) names p es tree = told-only names _ (allowed X N p (written how piece names es)) (allowed-only X N p _ (written how piece names es) (written-only how piece names es))
  edit-only (Truncate size) names p es tree = told-only names _ (allowed X N p (truncated size names es)) (allowed-only X N p _ (truncated size names es) (truncated-only size names es))
  edit-only (Cp dest) names p es tree = allowed-move-only X N p _ (copied names dest es) (copied-only names dest es)
  edit-only (Mv dest) names p es tree = allowed-move-only X N p _ (carried names dest es) (carried-only names dest es tree)
  edit-only (SetMeta what) names p es tree = told-only names _ (allowed X N p (meta_edited what names es)) (allowed-only X N p _ (meta_edited what names es) (meta-only what names es))

  -- a tree put at a spot
  pub put-only : (spot : Spot) (to : List (List ℕ)) (t : Tree) (p : Profile) (es : Entries) → spot_names spot ≡ to → IsOnly (remade (λ o. t) to es) (allowed_move X N p (placed_at spot t es))
  put-only spot to t p es is = allowed-move-only X N p _ (placed_at spot t es) (placed-only spot to t es is)
