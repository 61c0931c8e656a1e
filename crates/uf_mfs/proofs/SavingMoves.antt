-- What is saved by a move, a copy or a put.
use Rattle.std.proofs.Common.{◌≡◌, ℕ, List, [], ◌++◌, refl, ap, sym, ◌∙◌, subst, Bool, true, false, Option, Some, None, Result, Ok, Err}
use Rattle.uf_cid.specs.Blocks.{Held}
use Rattle.uf_path.specs.declared.path.Path.{Path}
use Rattle.uf_store.specs.declared.store.Role.{Role}
use Rattle.uf_store.specs.declared.store.StoreFault.{StoreFault}
use Rattle.uf_store.specs.Among.{SavesAmong}
use Rattle.uf_store.specs.Calls.{OnlySaves}
use Rattle.uf_store.specs.Contents.{Told}
use Rattle.uf_store.specs.Faults.{StaysCalm}
use Rattle.uf_store.specs.Seen.{Seen}
use Rattle.uf_tree.specs.declared.nodes.Entry.{Entry}
use Rattle.uf_tree.specs.declared.profile.Profile.{Profile}
use Rattle.uf_tree.specs.Tree.{Tree, File, Dir, Entries}
use Rattle.uf_tree.specs.TreePlan.{blocks}
use Rattle.uf_plain.specs.declared.rule.Refused.{Refused}
use Rattle.uf_plain.specs.declared.rule.Rule.{Rule}
use Rattle.uf_plain.specs.declared.spot.Lie.{Lie}
use Rattle.uf_plain.specs.declared.spot.Lie.TheVariants.{Apart}
use Rattle.uf_plain.specs.declared.spot.Spot.{Spot}
use Rattle.uf_plain.specs.Edits.{and_then, at, child, removed}
use Rattle.uf_plain.specs.Moves.{as_replaceable, copied, edited_at, folder_at, landing, lie_of, moved_along, moved_to, name_of, placed_at, put_at_spot, put_over, shifted, spot_in, spot_names, spotted, then_go, told_of}
use Rattle.uf_mfs.specs.declared.thing.Thing.{Thing}
use Rattle.uf_mfs.specs.declared.thing.Thing.TheVariants.{File as FileAt, Folder as FolderAt}
use Rattle.uf_mfs.specs.Answers.{EditsAfter}
use Rattle.uf_mfs.specs.Moving.{entry_in, replaces}
use Rattle.uf_mfs.specs.Saving.{AgreesThroughout, SavesPut, moved_blocks, next_blocks, removed_blocks, saved_for, shifted_blocks, taken_blocks}
use Rattle.uf_mfs.specs.Standing.{IsAgreedMember, IsAgreedThing, IsPlanOf}
use Rattle.uf_mfs.specs.Steps.{GivesFolder}
use Rattle.uf_mfs.proofs.After.{Among, after-both, after-some}
use Rattle.uf_mfs.proofs.Hinge.{are-good}
use Rattle.uf_mfs.proofs.Moving.{good-both}
use Rattle.uf_mfs.proofs.Needed.{at-among}
use Rattle.uf_mfs.proofs.Parting.{shifts}
use Rattle.uf_mfs.proofs.Saving.{both-among, kept-all, none-among, saved-more, throughout-first, throughout-over, throughout-since, throughout-some, throughout-then}

-- where a move goes, its folder is there
pub landed : (b : Bool) (names dest : List (List ℕ)) (name : Option (List ℕ)) (es : Entries) (found : Spot × Entries) → told_of names (landing b dest name es) ≡ Ok found → folder_at found.0.folder es ≡ Ok found.1
landed b names dest name es found is = by b is
  where
    in-folder : (folder : List (List ℕ)) (o : Option (List ℕ)) (w : Result Entries Refused) → folder_at folder es ≡ w → told_of names (and_then w (spot_in folder o)) ≡ Ok found → folder_at found.0.folder es ≡ Ok found.1
    in-folder folder o (Err why) there is = absurd cc
    in-folder folder None (Ok fs) there is = absurd cc
    in-folder folder (Some n) (Ok fs) there is =
        let same : (record { folder = folder; name = n }, fs) ≡ found = cc in
        subst (λ (x : Spot × Entries). folder_at x.0.folder es ≡ Ok x.1) same there

    by : (b : Bool) → told_of names (landing b dest name es) ≡ Ok found → folder_at found.0.folder es ≡ Ok found.1
    by true is = in-folder dest name (folder_at dest es) refl is
    by false is = in-folder _ (name_of dest) (folder_at _ es) refl is

-- what may take the place of what is there
pub replaced : (X : List ℕ → List ℕ) (N : List ℕ → ℕ) (told : Told) (p : Profile) (led : ℕ) (t : Tree) (thing : Thing) (o : Option Tree) (there : Option Thing) → IsAgreedThing X N told p t thing → IsAgreedMember X N told p o there
    → replaces thing there ≡ true → as_replaceable led t o ≡ Ok tt
replaced X N told p led t thing None there is found may = refl
replaced X N told p led (File m bytes) (FileAt e size) (Some (File n old)) there is found may = refl
replaced X N told p led (File m bytes) (FolderAt e root) (Some u) there is found may = absurd is
replaced X N told p led (Dir es) (FileAt e size) (Some u) there is found may = absurd is
replaced X N told p led (File m bytes) (FileAt e size) (Some (Dir old)) None is found may = absurd found
replaced X N told p led (File m bytes) (FileAt e size) (Some (Dir old)) (Some (FileAt f n)) is found may = absurd found
replaced X N told p led (File m bytes) (FileAt e size) (Some (Dir old)) (Some (FolderAt f root)) is found may = absurd cc
replaced X N told p led (Dir es) (FolderAt e root) (Some u) None is found may = absurd found
replaced X N told p led (Dir es) (FolderAt e root) (Some u) (Some other) is found may = absurd cc

module _ (X : List ℕ → List ℕ) (N : List ℕ → ℕ) (p : Profile) where
  -- the path that a refusal is reported with makes no difference
  pub told-among : (names : List (List ℕ)) (w : Result Entries Refused) → Among (next_blocks X N p w) (next_blocks X N p (told_of names w))
  told-among names (Ok fs) = λ P h. h
  told-among names (Err why) = none-among []

  -- the tree beside something that it has at these names, after calls that save nothing
  pub throughout-beside : (a d e : Seen) (es : Entries) (names : List (List ℕ)) (t : Tree) → at 0 names (Dir es) ≡ Ok t → d.told ≡ a.told → StaysCalm a d → AgreesThroughout a e (blocks X N p (Dir es))
      → AgreesThroughout d e (blocks X N p t ++ blocks X N p (Dir es))
  throughout-beside a d e es names t there same calm h =
      throughout-since X N p a d e _ same calm (throughout-some a e _ _ (both-among _ _ _ (λ P j. at-among X N p 0 names (Dir es) t there P j) (λ P j. j)) h)

  -- a source and a spot that were found
  pub copied-among : (source : List (List ℕ)) (dest : Path) (es : Entries) (t : Tree) (spot : Spot) → at 0 source (Dir es) ≡ Ok t → spotted dest (name_of source) es ≡ Ok spot
      → Among (next_blocks X N p (put_at_spot spot t es)) (next_blocks X N p (copied source dest es))
  copied-among source dest es t spot there at-spot =
      let is : copied source dest es ≡ placed_at spot t es = ap (λ w. then_go (told_of source w) (λ t. then_go (spotted dest (name_of source) es) (λ spot. placed_at spot t es))) there
      ∙ ap (λ w. then_go w (λ spot. placed_at spot t es)) at-spot in
      subst (λ (w : Result Entries Rule). Among (next_blocks X N p (put_at_spot spot t es)) (next_blocks X N p w)) (sym is) (told-among (spot_names spot) (put_at_spot spot t es))

  -- ---- a removal, and a put of what was there into what is left

  module _ {Bad Other : Role → List ℕ → Type 0} {fault : Option StoreFault} {a b c : Seen} (before : OnlySaves X Bad None a b) (after : OnlySaves X Other fault b c) where
    pub shift-saves : (root left : Entry) (source names : List (List ℕ)) (spot : Spot) (t : Tree) (thing : Thing) (es : Entries) → IsPlanOf X N p root (Dir es) → AgreesThroughout a c (blocks X N p (Dir es)) → at 0 source (Dir es) ≡ Ok t
        → IsPlanOf X N p (entry_in thing) t → names ≡ spot_names spot → GivesFolder X N p a b [] root (removed true source) (Ok left)
        → SavesPut X N b c p (entry_in thing) left (λ t es. next_blocks X N p (edited_at (put_over t) names es))
        → SavesAmong X (next_blocks X N p (shifted source spot t es)) b.told c.told
    shift-saves root left source names spot t thing es plan h there entry same takes puts = by (removed true source es) (takes es (throughout-over X N p before after [] root es plan h))
      where
        by : (w : Result Entries Refused) → EditsAfter X N a.told b.told (blocks X N p (Dir es)) p w (Ok left)
            → SavesAmong X (next_blocks X N p (then_go (told_of source w) (λ left. placed_at spot t left))) b.told c.told
        by (Err why) k = absurd k
        by (Ok fs) k =
            let kept = kept-all X N p [] es tt before (throughout-first X N p before after _ h).stays in
            let both = after-both a.told b.told _ (blocks X N p t) (blocks X N p (Dir fs)) (after-some a.told b.told _ _ _ (λ P j. at-among X N p 0 source (Dir es) t there P j) kept) k.after in
            saved-more X _ _ b.told c.told (told-among (spot_names spot) (put_at_spot spot t fs))
            (subst (λ (ns : List (List ℕ)). SavesAmong X (next_blocks X N p (edited_at (put_over t) ns fs)) b.told c.told) same
            (puts t entry fs k.plan (throughout-then X N p before after _ _ (good-both X N p (blocks X N p t) _ (are-good X N p t) (are-good X N p (Dir fs))) both h)))

  -- ---- a move to what was found as its target

  pub moved-among : (source : List (List ℕ)) (t : Tree) (found : Spot × Entries) (es : Entries) → lie_of source (spot_names found.0) ≡ Apart → folder_at found.0.folder es ≡ Ok found.1
      → ((led : ℕ) → as_replaceable led t (child found.0.name found.1) ≡ Ok tt)
      → Among (shifted_blocks X N p source found.0 t es) (moved_blocks X N p source es (moved_to source t found es))
  moved-among source t found es apart there may =
      let at-lie : moved_to source t found es ≡ moved_along Apart source found.0 found.1 t es = ap (λ (lie : Lie). moved_along lie source found.0 found.1 t es) apart in
      let at-may = ap (λ (w : Result (Unit {0}) Refused). then_go (told_of (spot_names found.0) w) (λ may. shifted source found.0 t es)) (may _) in
      subst (λ (w : Result Entries Rule). Among (shifted_blocks X N p source found.0 t es) (moved_blocks X N p source es w)) (sym (at-lie ∙ at-may)) (by (removed true source es) refl)
    where
      done : (left next : Entries) → shifted source found.0 t es ≡ Ok next → Among (removed_blocks X N p true source es ++ next_blocks X N p (shifted source found.0 t es)) (moved_blocks X N p source es (shifted source found.0 t es))
      done left next is =
          subst (λ (w : Result Entries Rule). Among (removed_blocks X N p true source es ++ next_blocks X N p w) (moved_blocks X N p source es w)) (sym is) (λ P h. h)

      by : (w : Result Entries Refused) → removed true source es ≡ w → Among (shifted_blocks X N p source found.0 t es) (moved_blocks X N p source es (shifted source found.0 t es))
      by (Ok left) gone = (let put = shifts source found.0 t es left found.1 apart there gone in done left put.0 put.1)
      by (Err why) gone =
          let none : shifted_blocks X N p source found.0 t es ≡ [] = ap (λ (w : Result Entries Refused). saved_for X N p (taken_blocks X N p source es) w ++ next_blocks X N p (then_go (told_of source w) (λ left. placed_at found.0 t left))) gone in
          subst (λ (l : List Held). Among l (moved_blocks X N p source es (shifted source found.0 t es))) (sym none) (none-among _)
