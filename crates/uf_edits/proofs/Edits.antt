-- How the tree in memory is edited, by the calls on it.
use Rattle.std.proofs.Common.{◌≡◌, ℕ, List, [], ◌∷◌, Bool, true, false, refl, sym, subst, inl, inr, Some, Result, Ok, Err}
use Rattle.std.specs.Prelude.{◌&&◌, not}
use Rattle.uf_edge.specs.Counts.{Stood}
use Rattle.uf_mfs.specs.Answers as tree
use Rattle.uf_mfs.specs.Answers.{ShownInTree}
use Rattle.uf_cid.specs.declared.cid.Cid.{Cid}
use Rattle.uf_mfs.specs.Bad.{IsBadInTree}
use Rattle.uf_mfs.specs.Moving.{GivesOr, IsOntoItself}
use Rattle.uf_mfs.specs.Reading.{AreHeights}
use Rattle.uf_mfs.specs.Saving.{SavesForEdit}
use Rattle.uf_mfs.specs.Showing.{KeepsMfs}
use Rattle.uf_mfs.specs.Standing.{StandsAfter, StandsAt, StandsOver}
use Rattle.uf_mfs.specs.Remade.{IsBadRemadeIn}
use Rattle.uf_mfs.specs.Steps.{MovesTree, tree_fault}
use Rattle.uf_mfs.specs.Touches.{CountsUp, TouchesFolder}
use Rattle.uf_mfs.specs.Writes.{IsBadWrittenIn}
use Rattle.uf_mfs.specs.declared.fault.MfsFault.{MfsFault}
use Rattle.uf_mfs.specs.declared.fault.MfsFault.TheVariants as mfs
use Rattle.uf_mfs.specs.declared.mfs.Mfs.{Mfs}
use Rattle.uf_mfs.proofs.Carrying.{answers-gives}
use Rattle.uf_path.specs.declared.path.Path.{Path}
use Rattle.uf_plain.specs.Edits.{at, is_folder_at}
use Rattle.uf_plain.specs.Moves.{lie_of, name_of, spot_names, target, told_of}
use Rattle.uf_plain.specs.declared.file.WriteHow.{WriteHow}
use Rattle.uf_plain.specs.declared.rule.Refused.{Refused}
use Rattle.uf_plain.specs.declared.rule.Rule.{Rule}
use Rattle.uf_plain.specs.declared.spot.Lie.{Lie}
use Rattle.uf_plain.specs.declared.spot.Lie.TheVariants.{Itself, Below, Apart}
use Rattle.uf_plain.specs.declared.spot.Spot.{Spot}
use Rattle.uf_store.specs.Keeping.{KeepsGood}
use Rattle.uf_store.specs.Lost.{IsLossOf}
use Rattle.uf_store.specs.Seen.{Seen}
use Rattle.uf_store.specs.declared.store.Role.{Role}
use Rattle.uf_store.specs.Writing.{SavesOnly}
use Rattle.uf_store.specs.declared.store.StoreFault.TheVariants.{Memory}
use Rattle.uf_store.proofs.Calls.{shown-by}
use Rattle.uf_tree.specs.Tree.{Tree, File, Dir, Entries}
use Rattle.uf_tree.specs.TreePlan.{blocks}
use Rattle.uf_tree.specs.declared.meta.Meta.{Meta}
use Rattle.uf_tree.specs.declared.profile.Profile.{Profile}
use Rattle.uf_command.specs.Commands.{has_nothing_to_do, is_file_at, is_itself, is_onto_itself}
use Rattle.uf_edits.specs.Edits.{edited_blocks, edited_by, touches_of_edit, EditsInMemory, IsBadAsked}
use Rattle.uf_command.specs.declared.types.Edit.{Edit}
use Rattle.uf_command.specs.declared.types.Edit.TheVariants.{Mkdir, Write}

-- ---- edits that have nothing to do

both-true : (a b : Bool) → (a && b) ≡ true → (a ≡ true) × (b ≡ true)
both-true true true h = (refl, refl)
both-true true false h = absurd cc
both-true false true h = absurd cc
both-true false false h = absurd cc

not-true : (a : Bool) → not a ≡ true → a ≡ false
not-true true h = absurd cc
not-true false h = refl

folder-at : (r : Result Tree Refused) → is_folder_at r ≡ true → (below : Entries) × (r ≡ Ok (Dir below))
folder-at (Ok (File m bytes)) is = absurd cc
folder-at (Ok (Dir below)) is = (below, refl)
folder-at (Err why) is = absurd cc

file-at : (r : Result Tree Refused) → is_file_at r ≡ true → (m : Meta) × (bytes : List ℕ) × (r ≡ Ok (File m bytes))
file-at (Ok (File m bytes)) is = (m, bytes, refl)
file-at (Ok (Dir below)) is = absurd cc
file-at (Err why) is = absurd cc

pub idle-mkdir : (parents : Bool) (names : List (List ℕ)) (es : Entries) → has_nothing_to_do (Mkdir parents) names es ≡ true
    → (below : Entries) × (parents ≡ true) × (at 0 names (Dir es) ≡ Ok (Dir below))
idle-mkdir parents names es is =
    let b = both-true parents (is_folder_at (at 0 names (Dir es))) is in
    let f = folder-at (at 0 names (Dir es)) b.1 in (f.0, b.0, f.1)

pub idle-write : (how : WriteHow) (piece : List ℕ) (names : List (List ℕ)) (es : Entries) → has_nothing_to_do (Write how piece) names es ≡ true
    → (m : Meta) × (bytes : List ℕ) × (piece ≡ []) × (how.cut ≡ false) × (at 0 names (Dir es) ≡ Ok (File m bytes))
idle-write how [] names es is =
    let b = both-true (not how.cut) (is_file_at (at 0 names (Dir es))) is in
    let f = file-at (at 0 names (Dir es)) b.1 in (f.0, f.1, refl, not-true how.cut b.0, f.2)
idle-write how (x ∷ piece) names es is = absurd cc

itself-of : (lie : Lie) → is_itself lie ≡ true → lie ≡ Itself
itself-of Itself is = refl
itself-of Below is = absurd cc
itself-of Apart is = absurd cc

pub idle-move : (source : List (List ℕ)) (dest : Path) (es : Entries) → is_onto_itself source dest es ≡ true → IsOntoItself source dest es
idle-move source dest es is = by (target dest (name_of source) es) is where
  by : (w : Result (Spot × Entries) Rule) → (elim w as (λ w. Bool) [ Ok found ↦ is_itself (lie_of source (spot_names found.0)) | Err rule ↦ false ]) ≡ true
      → elim w as (λ w. Type 0) [ Ok found ↦ lie_of source (spot_names found.0) ≡ Itself | Err rule ↦ ⊥ ]
  by (Ok found) is = itself-of (lie_of source (spot_names found.0)) is
  by (Err rule) is = absurd cc

-- what is bad on a way in the tree is bad where a file is edited
shown-tree-by : (X : List ℕ → List ℕ) (P Q : Role → List ℕ → Type 0) (more : (role : Role) (bytes : List ℕ) → P role bytes → Q role bytes) (r : Result (Unit {0}) MfsFault) (a b : Seen)
    → ShownInTree X P r a b → ShownInTree X Q r a b
shown-tree-by X P Q more (Ok done) a b h = h
shown-tree-by X P Q more (Err (mfs.Rule rule)) a b h = h
shown-tree-by X P Q more (Err (mfs.Ready why)) a b h = h
shown-tree-by X P Q more (Err mfs.Sink) a b h = h
shown-tree-by X P Q more (Err (mfs.Store f)) a b h = shown-by X P Q (Some f) a b more h

module _ (X : List ℕ → List ℕ) (N : List ℕ → ℕ) (p : Profile) (r : Result (Unit {0}) MfsFault) (a b : Seen) where
  pub way-shown : (root : Cid) → ShownInTree X (IsBadInTree X N (Some p) root) r a b → ShownInTree X (IsBadAsked X N p b.told root) r a b
  way-shown root h = shown-tree-by X (IsBadInTree X N (Some p) root) (IsBadAsked X N p b.told root) (λ role bytes bad. inl (inl bad)) r a b h

  -- and so is what is bad in a file that is edited
  pub file-shown : (root : Cid) → ShownInTree X (IsBadWrittenIn X N p b.told root) r a b → ShownInTree X (IsBadAsked X N p b.told root) r a b
  file-shown root h = shown-tree-by X (IsBadWrittenIn X N p b.told root) (IsBadAsked X N p b.told root) (λ role bytes bad. inl bad) r a b h

  -- or as the root of a file whose metadata is changed
  pub root-shown : (root : Cid) → ShownInTree X (IsBadRemadeIn X N p root) r a b → ShownInTree X (IsBadAsked X N p b.told root) r a b
  root-shown root h = shown-tree-by X (IsBadRemadeIn X N p root) (IsBadAsked X N p b.told root) by r a b h
    where
      by : (role : Role) (bytes : List ℕ) → IsBadRemadeIn X N p root role bytes → IsBadAsked X N p b.told root role bytes
      by role bytes (inl way) = inl (inl way)
      by role bytes (inr first) = inr first

module _ (X : List ℕ → List ℕ) (N : List ℕ → ℕ) (was is : Mfs) (path : Path) (a b : Seen) (t0 t1 : ℕ) (r : Result (Unit {0}) MfsFault)
    (cause : ShownInTree X (IsBadAsked X N was.profile b.told was.root.cid) r a b) (up : CountsUp (tree_fault r) t0 t1)
    (good : KeepsGood X a.told b.told) (saves : SavesOnly X a.told b.told) (stays : KeepsMfs was is r) where
  -- an edit that is told with its path
  pub told-edit : (edit : Edit) (next : Profile → Entries → Result Entries Refused)
      → ((p : Profile) (es : Entries) → edited_by X N edit path.names p es ≡ told_of path.names (next p es))
      → ((p : Profile) (es : Entries) → StandsAt X N a.told was p es → Stood a.faults b.faults → Stood a.clashes b.clashes
      → tree.MovesTo X N b.told p path.names is (next p es) r)
      → MovesTree X N a b [] was is path.names next r
      → ((p : Profile) (es : Entries) → StandsOver X N a.told was p es → Stood a.faults b.faults → has_nothing_to_do edit path.names es ≡ true → (b.told ≡ a.told) × (is ≡ was))
      → ((p : Profile) (rows : ℕ → ℕ) → was.profile ≡ p → AreHeights p rows → TouchesFolder X N p a b [] was.root (λ es. touches_of_edit X N rows edit path.names p es) t0 t1)
      → SavesForEdit X N a b was (edited_blocks X N edit path.names)
      → EditsInMemory X N was is edit path r a b t0 t1
  told-edit edit next same answer lost idle touches no_other = record {
    answers = λ p es at_tree calm. subst (λ w. GivesOr (λ f. f ≡ Memory) (λ fs done. StandsAt X N b.told is p fs) w r) (sym (same p es))
        (answers-gives (λ f. f ≡ Memory) (λ fs done. StandsAt X N b.told is p fs) path.names (next p es) r (answer p es at_tree calm.faults calm.clashes));
    lost = λ p es profile over. subst (λ w. GivesOr (IsLossOf a.told (blocks X N p (Dir es))) (λ fs done. StandsAfter X N a.told b.told (blocks X N p (Dir es)) is p fs) w r) (sym (same p es))
        (answers-gives (IsLossOf a.told (blocks X N p (Dir es))) (λ fs done. StandsAfter X N a.told b.told (blocks X N p (Dir es)) is p fs) path.names (next p es) r (lost p es profile over));
    idle = idle;
    cause = cause;
    touches = touches;
    touched = up;
    stays = stays;
    good = good;
    saves = saves;
    no_other = no_other;
  }
