-- Which blocks an edit saves: those of the tree that it gives, and those that a removal makes in between. So it is
-- however the edit ends.
use Rattle.std.specs.Prelude.{◌≡◌, ◌+◌, ◌++◌, ℕ, List, [], ◌∷◌, Bool, true}
use Rattle.std.specs.declared.option.Option.{Option}
use Rattle.std.specs.declared.option.Option.TheVariants.{None, Some}
use Rattle.std.specs.declared.result.Result.{Result}
use Rattle.std.specs.declared.result.Result.TheVariants.{Ok, Err}
use Rattle.uf_cid.specs.Blocks.{Held}
use Rattle.uf_dir.specs.Left.{CanRise}
use Rattle.uf_dir.specs.Planned.{removal_blocks}
use Rattle.uf_store.specs.Among.{SavesAmong}
use Rattle.uf_store.specs.Contents.{Told}
use Rattle.uf_store.specs.Keeping.{StaysAgreed}
use Rattle.uf_store.specs.Seen.{Seen}
use Rattle.uf_tree.specs.declared.meta.Meta.{Meta}
use Rattle.uf_tree.specs.declared.nodes.Entry.{Entry}
use Rattle.uf_tree.specs.declared.profile.Profile.{Profile}
use Rattle.uf_tree.specs.Metas.{none}
use Rattle.uf_tree.specs.Tree.{Tree, File, Dir, Entries, Nothing, own_meta}
use Rattle.uf_tree.specs.TreePlan.{blocks, named_entries}
use Rattle.uf_plain.specs.declared.change.Change.TheVariants.{Make, Put, Remove}
use Rattle.uf_plain.specs.declared.file.FileEdit.{FileEdit}
use Rattle.uf_plain.specs.declared.file.FileEdit.TheVariants.{Write}
use Rattle.uf_plain.specs.declared.file.WriteHow.{WriteHow}
use Rattle.uf_plain.specs.declared.meta_edit.MetaEdit.{MetaEdit}
use Rattle.uf_plain.specs.declared.rule.Refused.{Refused}
use Rattle.uf_plain.specs.declared.rule.Rule.{Rule}
use Rattle.uf_plain.specs.declared.spot.Spot.{Spot}
use Rattle.uf_plain.specs.Edits.{at, child, removed}
use Rattle.uf_plain.specs.Files.{fitting, kept_meta, rewritten}
use Rattle.uf_plain.specs.Metas.{remade}
use Rattle.uf_plain.specs.Moves.{folder_at, moved_to, put_at_spot, shifted, spot_names}
use Rattle.uf_mfs.specs.declared.editing.Act.{Act}
use Rattle.uf_mfs.specs.declared.editing.Act.TheVariants.{Change, Remake, Rewrite}
use Rattle.uf_mfs.specs.declared.editing.EditSite.{EditSite}
use Rattle.uf_mfs.specs.declared.fault.MfsFault.{MfsFault}
use Rattle.uf_mfs.specs.declared.mfs.Mfs.{Mfs}
use Rattle.uf_mfs.specs.declared.target.MoveTarget.{MoveTarget}
use Rattle.uf_mfs.specs.declared.thing.Thing.{Thing}
use Rattle.uf_mfs.specs.Acts.{IsActMeant, act_brought, acted_at, acted_by, edited_along}
use Rattle.uf_mfs.specs.Moving.{IsFound}
use Rattle.uf_mfs.specs.Remade.{member_blocks}
use Rattle.uf_mfs.specs.Standing.{Commits, IsAgreedMember, IsAgreedThing, IsPlanOf, LeavesHead, StandsOver}
use Rattle.uf_mfs.specs.Touches.{entries_at}
use Rattle.uf_mfs.specs.Writes.{fitting_bytes}

-- the store agrees with these blocks before a call and after it, and a failure or a clash in between would show
pub record AgreesThroughout (before now : Seen) (l : List Held) : Type 0 where
  pub stays : StaysAgreed before.told now.told l
  pub can : CanRise before

-- no blocks but these were saved, and then this was done
pub record SavesAmongThen (hash : List ℕ → List ℕ) (l : List Held) (Last : Told → Told → Type 0)
    (before now : Told) : Type 0 where
  pub between : Told
  pub saves : SavesAmong hash l before between
  pub last : Last between now

module _ (X : List ℕ → List ℕ) (N : List ℕ → ℕ) (p : Profile) where
  -- what an edit that gives this may save: the blocks of its tree, and these in between; nothing where a rule refuses
  -- it before the plan of that tree is looked at
  abbrev pub saved_for : {E : Type 0} → List Held → Result Entries E → List Held
  saved_for between (Ok fs) = between ++ blocks X N p (Dir fs)
  saved_for between (Err why) = []

  -- the same of an edit that saves none in between: the blocks of the tree that it gives
  abbrev pub next_blocks : {E : Type 0} → Result Entries E → List Held
  next_blocks next = saved_for [] next

  -- the blocks of the file of this metadata and these bytes, none where a rule refuses them
  abbrev pub file_blocks : Meta → Result (List ℕ) Refused → List Held
  file_blocks m (Ok bytes) = blocks X N p (File m bytes)
  file_blocks m (Err why) = []

  -- those of the empty directory, where nothing is under a name yet
  abbrev pub opened_blocks : Option Tree → List Held
  opened_blocks None = blocks X N p (Dir (Nothing none))
  opened_blocks (Some t) = []

  -- those of what is under a name with its metadata changed
  abbrev pub remade_blocks : MetaEdit → Option Tree → List Held
  remade_blocks what None = []
  remade_blocks what (Some t) = blocks X N p (remade what t)

  -- what a removal may save in the directory that loses the last of these names: the shards that are weighed, and the
  -- own blocks of what is left
  abbrev pub taken_blocks : List (List ℕ) → Entries → List Held
  taken_blocks [] es = []
  taken_blocks (name ∷ []) es = removal_blocks X N p (own_meta es) name (named_entries X N p es)
  taken_blocks (name ∷ next ∷ names) es = taken_blocks (next ∷ names) (entries_at name es)

  -- what an edit may save in between: only a removal saves there
  abbrev pub between_blocks : Act → List (List ℕ) → Entries → List Held
  between_blocks (Change Make) names es = []
  between_blocks (Change (Put e)) names es = []
  between_blocks (Change (Remove recursive)) names es = taken_blocks names es
  between_blocks (Rewrite what) names es = []
  between_blocks (Remake what) names es = []

  -- what an edit at these names that gives this may save
  abbrev pub act_blocks : Act → List (List ℕ) → Entries → Result Entries Refused → List Held
  act_blocks what names es next = saved_for (between_blocks what names es) next

  -- what a removal of what is at these names may save: the blocks of the tree without it, and those in between
  abbrev pub removed_blocks : Bool → List (List ℕ) → Entries → List Held
  removed_blocks recursive names es = saved_for (taken_blocks names es) (removed recursive names es)

  -- what may be saved where a source is taken away, and then its tree is put at the spot
  abbrev pub shifted_blocks : List (List ℕ) → Spot → Tree → Entries → List Held
  shifted_blocks source spot t es = removed_blocks true source es ++ next_blocks (shifted source spot t es)

  -- what a move that gives this may save: the blocks of the moved tree, and what the removal of its source may save;
  -- nothing where a rule refuses it
  abbrev pub moved_blocks : List (List ℕ) → Entries → Result Entries Rule → List Held
  moved_blocks source es next = saved_for (removed_blocks true source es) next

module _ (X : List ℕ → List ℕ) (N : List ℕ → ℕ) (before now : Seen) where
  -- where the entry is that of a folder, and the store agrees with its blocks and with these others throughout, each
  -- block that is saved is one of these
  abbrev pub SavesFolder : Profile → List Held → Entry → (Entries → List Held) → Type 0
  SavesFolder p more folder may_save = (es : Entries) → IsPlanOf X N p folder (Dir es)
      → AgreesThroughout before now (more ++ blocks X N p (Dir es)) → SavesAmong X (may_save es) before.told now.told

  -- the same where this entry is put into it, by the tree that the entry stands for
  abbrev pub SavesPut : Profile → (entry folder : Entry) → (Tree → Entries → List Held) → Type 0
  SavesPut p entry folder may_save = (t : Tree) → IsPlanOf X N p entry t
      → SavesFolder p (blocks X N p t) folder (may_save t)

  -- over the tree in memory, with whose blocks the store agrees throughout, each block that an edit saves is one of
  -- these
  abbrev pub SavesForEdit : Mfs → (Profile → Entries → List Held) → Type 0
  SavesForEdit mfs may_save = (p : Profile) (es : Entries) → StandsOver X N before.told mfs p es
      → AgreesThroughout before now (blocks X N p (Dir es)) → SavesAmong X (may_save p es) before.told now.told

  -- over the tree in memory and that of this entry, with whose blocks the store agrees throughout, each block that is
  -- saved where the entry is put at a spot is one of the tree that this gives
  abbrev pub SavesForPut : Mfs → Entry → Spot → Type 0
  SavesForPut mfs entry spot = (p : Profile) (t : Tree) (es : Entries) → IsPlanOf X N p entry t
      → StandsOver X N before.told mfs p es → AgreesThroughout before now (blocks X N p t ++ blocks X N p (Dir es))
      → SavesAmong X (next_blocks X N p (put_at_spot spot t es)) before.told now.told

  -- of the tree in memory this edit at the names saves no other blocks than its own
  abbrev pub SavesOnRoot : Mfs → Act → List ℕ → List (List ℕ) → Type 0
  SavesOnRoot mfs what piece names = (t : Tree) → IsActMeant X N mfs.profile what t
      → SavesFolder mfs.profile (act_brought X N mfs.profile what t) mfs.root
      (λ es. act_blocks X N mfs.profile what names es (acted_at mfs.profile what piece t names es))

  -- the same of an edit along these names from this folder
  abbrev pub SavesAlong : EditSite → Entry → List ℕ → List (List ℕ) → Type 0
  SavesAlong site folder name names = (t : Tree) → IsActMeant X N site.profile site.what t
      → SavesFolder site.profile (act_brought X N site.profile site.what t) folder
      (λ es. act_blocks X N site.profile site.what (name ∷ names) es (edited_along site t name names es))

  -- the same of an edit of this name, under which this was found
  abbrev pub SavesHere : EditSite → Entry → List ℕ → Option Thing → Type 0
  SavesHere site folder name found = (t : Tree) (es : Entries) → IsActMeant X N site.profile site.what t
      → IsAgreedMember X N before.told site.profile (child name es) found → IsPlanOf X N site.profile folder (Dir es)
      → AgreesThroughout before now (act_brought X N site.profile site.what t ++ blocks X N site.profile (Dir es))
      → SavesAmong X (act_blocks X N site.profile site.what (name ∷ []) es (acted_by site t (site.led + 1) name es))
      before.told now.told

  -- where this was met, and the store agrees with its blocks throughout, each block that is saved is one of these
  abbrev pub SavesThing : Profile → Thing → (Tree → List Held) → Type 0
  SavesThing p thing may_save = (t : Tree) → IsAgreedThing X N before.told p t thing
      → AgreesThroughout before now (blocks X N p t) → SavesAmong X (may_save t) before.told now.told

  -- the same of what was found under a name
  abbrev pub SavesMember : Profile → Option Thing → (Option Tree → List Held) → Type 0
  SavesMember p found may_save = (o : Option Tree) → IsAgreedMember X N before.told p o found
      → AgreesThroughout before now (member_blocks X N p o) → SavesAmong X (may_save o) before.told now.told

  -- of a tree in memory of which this holds, a move of what is at these names, which was found as this thing, saves no
  -- other blocks than these
  abbrev pub SavesSource : Mfs → List (List ℕ) → Tree → Thing → (Entries → Type 0) → (Entries → List Held) → Type 0
  SavesSource mfs source t thing Q may_save = (es : Entries) → Q es → IsPlanOf X N mfs.profile mfs.root (Dir es)
      → AgreesThroughout before now (blocks X N mfs.profile (Dir es)) → at 0 source (Dir es) ≡ Ok t
      → IsAgreedThing X N before.told mfs.profile t thing → SavesAmong X (may_save es) before.told now.told

  -- the same where it goes to the spot of these names
  abbrev pub SavesToSpot : Mfs → List (List ℕ) → Thing → List (List ℕ) → Type 0
  SavesToSpot mfs source thing names = (t : Tree) (spot : Spot) → names ≡ spot_names spot
      → SavesSource mfs source t thing (λ es. Unit {0}) (shifted_blocks X N mfs.profile source spot t)

  -- the same where it goes to what was found as its target, a name in a folder that is there
  abbrev pub SavesFound : Mfs → List (List ℕ) → Thing → MoveTarget → Type 0
  SavesFound mfs source thing target = (t : Tree) (found : Spot × Entries)
      → IsFound X N before.told mfs.profile found target
      → SavesSource mfs source t thing (λ es. folder_at found.0.folder es ≡ Ok found.1)
      (λ es. moved_blocks X N mfs.profile source es (moved_to source t found es))

-- of the file that an edit makes of what was found under its name, no other block is saved than those of the new file
module _ (X : List ℕ → List ℕ) (before now : Seen) (site : EditSite) where
  abbrev pub SavesNewFile : FileEdit → Option Thing → Type 0
  SavesNewFile what found = (N : List ℕ → ℕ) → SavesMember X N before now site.profile found (λ o.
      file_blocks X N site.profile (kept_meta o) (fitting_bytes site.profile what site.piece.now (site.led + 1) o))

  -- the same of the file of this entry
  abbrev pub SavesRewritten : FileEdit → Entry → Type 0
  SavesRewritten what old = (N : List ℕ → ℕ) (m : Meta) (bytes : List ℕ) → IsPlanOf X N site.profile old (File m bytes)
      → AgreesThroughout before now (blocks X N site.profile (File m bytes))
      → SavesAmong X (file_blocks X N site.profile m (fitting site.profile (rewritten what site.piece.now bytes)))
      before.told now.told

-- the same of the file of this metadata that a write makes of no bytes
abbrev pub SavesCreated : (List ℕ → List ℕ) → Told → Told → EditSite → WriteHow → Meta → Type 0
SavesCreated X before now site how m = (N : List ℕ → ℕ) → SavesAmong X
    (file_blocks X N site.profile m (fitting site.profile (rewritten (Write how) site.piece.now []))) before now

-- no blocks but those of the empty directory were saved, and then the Head came to name it, or stayed as it was
abbrev pub SavesEmpty : (List ℕ → List ℕ) → (List ℕ → ℕ) → Profile → Told → Told → Result Mfs MfsFault → Type 0
SavesEmpty X N p before now (Ok mfs) = SavesAmongThen X (blocks X N p (Dir (Nothing none)))
    (Commits mfs.profile mfs.root.cid) before now
SavesEmpty X N p before now (Err fault) = SavesAmongThen X (blocks X N p (Dir (Nothing none))) LeavesHead before now
