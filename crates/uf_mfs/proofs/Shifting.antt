-- Something taken away in the tree and put elsewhere.
use Rattle.std.proofs.Common.{◌≡◌, ℕ, ◌+◌, ◌*◌, ◌≤◌, List, [], ◌∷◌, ◌++◌, length, refl, ap, arith, sym, subst, true, Option, Some, None, Result, Ok, Err}
use Rattle.uf_cid.specs.Blocks.{Held}
use Rattle.uf_store.specs.declared.store.Role.{Role}
use Rattle.uf_store.specs.declared.store.StoreFault.{StoreFault}
use Rattle.uf_store.specs.Calls.{OnlySaves}
use Rattle.uf_store.specs.Contents.{Told}
use Rattle.uf_store.specs.Seen.{Seen}
use Rattle.uf_tree.specs.declared.nodes.Entry.{Entry}
use Rattle.uf_tree.specs.declared.profile.Profile.{Profile}
use Rattle.uf_tree.specs.Metas.{none}
use Rattle.uf_tree.specs.Tree.{Tree, File, Dir, Entries, Nothing}
use Rattle.uf_tree.specs.TreePlan.{Refusal, FileTooLong as IsTooLong, Collision as Collides, TooBig as IsTooBig, blocks, refusal}
use Rattle.uf_plain.specs.declared.change.Change.TheVariants.{Put, Remove}
use Rattle.uf_plain.specs.declared.rule.Refused.{Refused}
use Rattle.uf_plain.specs.declared.rule.Rule.{Rule}
use Rattle.uf_plain.specs.declared.spot.Spot.{Spot}
use Rattle.uf_plain.specs.Edits.{at, removed}
use Rattle.uf_plain.specs.Moves.{allowed_move, edited_at, placed_at, put_at_spot, put_over, shifted, spot_names, then_go, told_of}
use Rattle.uf_plain.specs.Rules.{allowed, unless}
use Rattle.uf_mfs.specs.declared.fault.MfsFault.{MfsFault}
use Rattle.uf_mfs.specs.declared.fault.MfsFault.TheVariants as fault
use Rattle.uf_mfs.specs.declared.fault.Stop.{Stop}
use Rattle.uf_mfs.specs.declared.thing.Thing.{Thing}
use Rattle.uf_mfs.specs.declared.thing.Thing.TheVariants.{File as FileAt, Folder as FolderAt}
use Rattle.uf_mfs.specs.Answers.{EditsAfter}
use Rattle.uf_mfs.specs.Moving.{GivesOr, entry_in, put_crossings, shift_crossings}
use Rattle.uf_mfs.specs.Standing.{IsAgreedThing, IsPlanOf}
use Rattle.uf_mfs.specs.Acts.{acted_at}
use Rattle.uf_mfs.specs.declared.editing.Act.TheVariants.{Change}
use Rattle.uf_mfs.specs.Steps.{EditsFolder, GivesFolder, IsFolderOver}
use Rattle.uf_mfs.specs.Touches.{crossings_of, weighing_at, where_done}
use Rattle.uf_mfs.proofs.After.{after-both, after-kept, after-some}
use Rattle.uf_mfs.proofs.Folders.{on-over, over-first, over-then}
use Rattle.uf_mfs.proofs.Hinge.{are-good}
use Rattle.uf_mfs.proofs.Needed.{at-among}
use Rattle.uf_mfs.proofs.Removing.{removes-at}
use Rattle.uf_mfs.proofs.Spots.{gives-fault}

-- what stops a call stops it whatever would follow
pub allowed-stop : (X : List ℕ → List ℕ) (N : List ℕ → ℕ) (p : Profile) {B C : Type 0} (May : StoreFault → Type 0) (P : Entries → B → Type 0) (Q : Entries → C → Type 0) (w : Result Entries Rule) (f : MfsFault)
    → GivesOr May P w (Err f) → GivesOr May Q (allowed_move X N p w) (Err f)
allowed-stop X N p May P Q (Ok es) (fault.Rule rule) h = absurd h
allowed-stop X N p May P Q (Ok es) (fault.Ready ready) h = absurd h
allowed-stop X N p May P Q (Ok es) fault.Sink h = absurd h
allowed-stop X N p May P Q (Ok es) (fault.Store f) h = gives-fault May Q (allowed_move X N p (Ok es)) f h
allowed-stop X N p May P Q (Err rule) (fault.Rule given) h = h
allowed-stop X N p May P Q (Err rule) (fault.Ready ready) h = h
allowed-stop X N p May P Q (Err rule) fault.Sink h = h
allowed-stop X N p May P Q (Err rule) (fault.Store f) h = h

-- a put at names
pub puts-at : (p : Profile) (e : Entry) (t : Tree) (names : List (List ℕ)) (es : Entries) → acted_at p (Change (Put e)) [] t names es ≡ edited_at (put_over t) names es
puts-at p e t [] es = refl
puts-at p e t (name ∷ names) es = refl

module _ (X : List ℕ → List ℕ) (N : List ℕ → ℕ) (p : Profile) where
  pub put-after : (a b : Told) (old : List Held) (e : Entry) (t : Tree) (names : List (List ℕ)) (es : Entries) (r : Result Entry Stop) → EditsAfter X N a b old p (allowed X N p (acted_at p (Change (Put e)) [] t names es)) r
      → EditsAfter X N a b old p (allowed X N p (edited_at (put_over t) names es)) r
  put-after a b old e t names es r h = subst (λ w. EditsAfter X N a b old p (allowed X N p w) r) (puts-at p e t names es) h

  pub put-crossed : (e : Entry) (t : Tree) (names : List (List ℕ)) (es : Entries) (t0 t1 : ℕ) → t1 ≤ t0 + (40 * length names + crossings_of X N p names es (acted_at p (Change (Put e)) [] t names es) + 0)
      → t1 ≤ t0 + (40 * length names + crossings_of X N p names es (edited_at (put_over t) names es))
  put-crossed e t names es t0 t1 h = subst (λ w. t1 ≤ t0 + (40 * length names + crossings_of X N p names es w)) (puts-at p e t names es) (omega (arith, h))

  pub taken-crossed : (names : List (List ℕ)) (es : Entries) (t0 t1 : ℕ) → t1 ≤ t0 + (40 * length names + crossings_of X N p names es (acted_at p (Change (Remove true)) [] (Dir (Nothing none)) names es) + where_done (acted_at p (Change (Remove true)) [] (Dir (Nothing none)) names es) (weighing_at X N p names es))
      → t1 ≤ t0 + (40 * length names + crossings_of X N p names es (removed true names es) + where_done (removed true names es) (weighing_at X N p names es))
  taken-crossed names es t0 t1 h = subst (λ w. t1 ≤ t0 + (40 * length names + crossings_of X N p names es w + where_done w (weighing_at X N p names es))) (removes-at p true names es) h

  -- that a tree has no plan is told without a path
  pub told-allowed : (names : List (List ℕ)) (w : Result Entries Refused) → allowed_move X N p (told_of names w) ≡ told_of names (allowed X N p w)
  told-allowed names (Err why) = refl
  told-allowed names (Ok es) = by (refusal X N p (Dir es))
    where
      by : (o : Option Refusal) → told_of [] (unless es o) ≡ told_of names (unless es o)
      by None = refl
      by (Some IsTooLong) = refl
      by (Some (Collides first second)) = refl
      by (Some IsTooBig) = refl

  -- what is put at the spot of what is left
  pub shift-told : {B : Type 0} (May : StoreFault → Type 0) (P : Entries → B → Type 0) (source names : List (List ℕ)) (spot : Spot) (t : Tree) (es left : Entries) (r : Result B MfsFault)
      → names ≡ spot_names spot → removed true source es ≡ Ok left → GivesOr May P (told_of names (allowed X N p (edited_at (put_over t) names left))) r
      → GivesOr May P (allowed_move X N p (shifted source spot t es)) r
  shift-told May P source names spot t es left r same is h =
      subst (λ w. GivesOr May P (allowed_move X N p (then_go (told_of source w) (λ left. placed_at spot t left))) r) (sym is)
      (subst (λ w. GivesOr May P w r) (sym (told-allowed (spot_names spot) (put_at_spot spot t left)))
      (subst (λ ns. GivesOr May P (told_of ns (allowed X N p (edited_at (put_over t) ns left))) r) same h))

  -- the entry of what was found is that of its tree
  pub thing-plan : (told : Told) (t : Tree) (thing : Thing) → IsAgreedThing X N told p t thing → IsPlanOf X N p (entry_in thing) t
  thing-plan told (File m bytes) (FileAt e size) h = h.0.plan
  thing-plan told (File m bytes) (FolderAt e root) h = absurd h
  thing-plan told (Dir es) (FileAt e size) h = absurd h
  thing-plan told (Dir es) (FolderAt e links) h = h.0.plan

  -- how often the store is touched for both
  pub shift-touches : (source names : List (List ℕ)) (spot : Spot) (t : Tree) (es left : Entries) (t0 t1 t2 : ℕ) → names ≡ spot_names spot → removed true source es ≡ Ok left
      → t1 ≤ t0 + (40 * length source + crossings_of X N p source es (removed true source es) + where_done (removed true source es) (weighing_at X N p source es))
      → t2 ≤ t1 + (40 * length names + crossings_of X N p names left (edited_at (put_over t) names left))
      → t2 ≤ t0 + (40 * (length source + length names) + shift_crossings X N p source spot t es)
  shift-touches source names spot t es left t0 t1 t2 same is first second =
      let here = subst (λ ns. t2 ≤ t1 + (40 * length names + crossings_of X N p ns left (edited_at (put_over t) ns left))) same second in
      let rest = ap (λ (w : Result Entries Refused). elim w as (λ w. ℕ) [ Ok left ↦ put_crossings X N p spot t left | Err why ↦ 0 ]) is in
      omega (arith, first, here, rest)

  module _ {Bad Other : Role → List ℕ → Type 0} {fault : Option StoreFault} {a b c : Seen} (before : OnlySaves X Bad None a b) (after : OnlySaves X Other fault b c) where
    -- a removal, and a put of what was there into what is left
    pub shift-moves : (Q : Type 0) (root left : Entry) (source names : List (List ℕ)) (t : Tree) (thing : Thing) (es : Entries) (r : Result Entry Stop) → IsFolderOver X N p a c [] root es → at 0 source (Dir es) ≡ Ok t
        → IsPlanOf X N p (entry_in thing) t → GivesFolder X N p a b [] root (removed true source) (Ok left)
        → ((u : Tree) → IsPlanOf X N p (entry_in thing) u → EditsFolder X N p b c (blocks X N p u) left (edited_at (put_over u) names) r)
        → ((fs : Entries) → removed true source es ≡ Ok fs → IsFolderOver X N p b c (blocks X N p t) left fs
        → EditsAfter X N a.told c.told (blocks X N p (Dir es)) p (allowed X N p (edited_at (put_over t) names fs)) r → Q) → Q
    shift-moves Q root left source names t thing es r o there plan takes puts go = by (removed true source es) refl (takes es (over-first X N p before after [] root es o))
      where
        by : (w : Result Entries Refused) → removed true source es ≡ w → EditsAfter X N a.told b.told (blocks X N p (Dir es)) p w (Ok left) → Q
        by (Err why) is h = absurd h
        by (Ok fs) is h =
            let first = over-first X N p before after [] root es o in
            let kept = after-kept X a.told b.told _ (are-good X N p (Dir es)) before.good first.stays in
            let both = after-both a.told b.told _ (blocks X N p t) (blocks X N p (Dir fs)) (after-some a.told b.told _ _ _ (λ P k. at-among X N p 0 source (Dir es) t there P k) kept) h.after in
            let then = over-then X N p before after [] (blocks X N p t) root left es fs (are-good X N p t) h.plan o both in
            go fs is then (on-over X N p before after [] (blocks X N p t ++ blocks X N p (Dir fs)) root es (allowed X N p (edited_at (put_over t) names fs)) r o both (puts t plan fs then))
