-- Copies and moves in the plain tree. A refusal is reported with the path that it is about.
use Rattle.std.specs.Prelude.{ℕ, ◌-◌, List, [], ◌∷◌, ◌++◌, length, take, slice_get, Bool, true, false, ◌||◌}
use Rattle.std.specs.Prelude.{if◌then◌else◌}
use Rattle.std.specs.declared.option.Option.{Option}
use Rattle.std.specs.declared.option.Option.TheVariants.{None, Some}
use Rattle.std.specs.declared.result.Result.{Result}
use Rattle.std.specs.declared.result.Result.TheVariants.{Ok, Err}
use Rattle.std.specs.Ordering.{eq_by_cmp}
use Rattle.uf_path.specs.declared.path.Path.{Path}
use Rattle.uf_tree.specs.declared.profile.Profile.{Profile}
use Rattle.uf_tree.specs.Names.{names_cmp}
use Rattle.uf_tree.specs.Tree.{Tree, File, Dir, Entries}
use Rattle.uf_tree.specs.TreePlan.{refusal}
use Rattle.uf_plain.specs.declared.rule.Refused.{Refused}
use Rattle.uf_plain.specs.declared.rule.Refused.TheVariants.{Exists, RootRefused}
use Rattle.uf_plain.specs.declared.rule.Rule.{Rule}
use Rattle.uf_plain.specs.declared.rule.Rule.TheVariants as rule
use Rattle.uf_plain.specs.declared.spot.Lie.{Lie}
use Rattle.uf_plain.specs.declared.spot.Lie.TheVariants.{Itself, Below, Apart}
use Rattle.uf_plain.specs.declared.spot.Spot.{Spot}
use Rattle.uf_plain.specs.Edits.{and_then, as_folder, at, child, edited, is_folder_at, removed, with_child}
use Rattle.uf_plain.specs.Rules.{path_text, rule_of, unless}

-- a refusal reported with its path
abbrev pub told_of : {A : Type 0} → List (List ℕ) → Result A Refused → Result A Rule
told_of names (Ok a) = Ok a
told_of names (Err why) = Err (rule_of names why)

-- what follows a step that no rule refuses
abbrev pub then_go : {A B : Type 0} → Result A Rule → (A → Result B Rule) → Result B Rule
then_go (Ok a) go = go a
then_go (Err rule) go = Err rule

-- the last name of a path: the root has none
abbrev pub name_of : List (List ℕ) → Option (List ℕ)
name_of names = slice_get names (length names - 1)

-- the names that lead to a spot
abbrev pub spot_names : Spot → List (List ℕ)
spot_names spot = spot.folder ++ spot.name ∷ []

-- the directory at these names
abbrev pub folder_at : List (List ℕ) → Entries → Result Entries Refused
folder_at names es = and_then (at 0 names (Dir es)) (λ t. as_folder (length names) (Some t))

-- the spot of this name in a folder, and that folder; the root has no name
abbrev pub spot_in : List (List ℕ) → Option (List ℕ) → Entries → Result (Spot × Entries) Refused
spot_in folder None fs = Err RootRefused
spot_in folder (Some name) fs = Ok (record { folder = folder; name = name }, fs)

-- the spot that a destination leads to: of a name in it where it is entered, else of its own last name in its parent
abbrev pub landing : Bool → List (List ℕ) → Option (List ℕ) → Entries → Result (Spot × Entries) Refused
landing true dest name es = and_then (folder_at dest es) (spot_in dest name)
landing false dest name es =
    let parent = take (length dest - 1) dest in and_then (folder_at parent es) (spot_in parent (name_of dest))

-- a spot where nothing is
abbrev pub as_vacant : Spot → Option Tree → Result Spot Refused
as_vacant spot None = Ok spot
as_vacant spot (Some t) = Err (Exists (length (spot_names spot)))

-- what `spot` gives
abbrev pub spotted : Path → Option (List ℕ) → Entries → Result Spot Rule
spotted dest name es = then_go (told_of dest.names (landing dest.into dest.names name es)) (λ (found : Spot × Entries).
    told_of (spot_names found.0) (as_vacant found.0 (child found.0.name found.1)))

-- a tree put under a name, in the place of an older one
abbrev pub put_over : Tree → ℕ → List ℕ → Entries → Result Entries Refused
put_over t led name es = Ok (with_child name t es)

-- the tree after an edit of the folder that all names but the last lead to; the root has no such folder
abbrev pub edited_at : (ℕ → List ℕ → Entries → Result Entries Refused) → List (List ℕ) → Entries
    → Result Entries Refused
edited_at change [] es = Err RootRefused
edited_at change (name ∷ names) es = edited change 0 name names es

-- the tree after `place`, before its plan is looked at
abbrev pub put_at_spot : Spot → Tree → Entries → Result Entries Refused
put_at_spot spot t es = edited_at (put_over t) (spot_names spot) es

-- the same, reported with the spot's path
abbrev pub placed_at : Spot → Tree → Entries → Result Entries Rule
placed_at spot t es = told_of (spot_names spot) (put_at_spot spot t es)

-- the tree after `cp`
abbrev pub copied : List (List ℕ) → Path → Entries → Result Entries Rule
copied source dest es = then_go (told_of source (at 0 source (Dir es))) (λ t.
    then_go (spotted dest (name_of source) es) (λ spot. placed_at spot t es))

-- how a target lies to a source
abbrev pub lie_of : List (List ℕ) → List (List ℕ) → Lie
lie_of [] [] = Itself
lie_of [] (name ∷ names) = Below
lie_of (name ∷ names) [] = Apart
lie_of (a ∷ source) (b ∷ target) = if eq_by_cmp names_cmp a b then lie_of source target else Apart

-- a file may be put over a file, and anything where nothing is
abbrev pub as_replaceable : ℕ → Tree → Option Tree → Result Unit Refused
as_replaceable led t None = Ok tt
as_replaceable led (File m bytes) (Some (File n old)) = Ok tt
as_replaceable led t (Some old) = Err (Exists led)

-- where a move goes: a directory that is there is entered
abbrev pub target : Path → Option (List ℕ) → Entries → Result (Spot × Entries) Rule
target dest name es =
    told_of dest.names (landing (dest.into || is_folder_at (at 0 dest.names (Dir es))) dest.names name es)

-- the source taken away, and then its tree put at the spot
abbrev pub shifted : List (List ℕ) → Spot → Tree → Entries → Result Entries Rule
shifted source spot t es = then_go (told_of source (removed true source es)) (λ left. placed_at spot t left)

-- a move to a spot in this folder, by how the spot lies to the source
abbrev pub moved_along : Lie → List (List ℕ) → Spot → Entries → Tree → Entries → Result Entries Rule
moved_along Itself source spot fs t es = Ok es
moved_along Below source spot fs t es = Err (rule.Inside (path_text source) (path_text (spot_names spot)))
moved_along Apart source spot fs t es =
    let names = spot_names spot in
    then_go (told_of names (as_replaceable (length names) t (child spot.name fs))) (λ may. shifted source spot t es)

-- a move of this tree to what was found as its target
abbrev pub moved_to : List (List ℕ) → Tree → Spot × Entries → Entries → Result Entries Rule
moved_to source t found es =
    moved_along (lie_of source (spot_names found.0)) source found.0 found.1 t es

-- the tree after `mv`
abbrev pub carried : List (List ℕ) → Path → Entries → Result Entries Rule
carried [] dest es = Err rule.RootRefused
carried (name ∷ names) dest es =
    let source = name ∷ names in
    then_go (told_of source (at 0 source (Dir es))) (λ t.
    then_go (target dest (name_of source) es) (λ found. moved_to source t found es))

-- the edited folder, unless it has no plan
abbrev pub allowed_move : (List ℕ → List ℕ) → (List ℕ → ℕ) → Profile → Result Entries Rule → Result Entries Rule
allowed_move X N p (Ok es) = told_of [] (unless es (refusal X N p (Dir es)))
allowed_move X N p (Err rule) = Err rule
