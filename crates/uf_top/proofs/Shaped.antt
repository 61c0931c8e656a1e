-- What is written in an opened tree, and what its Head says.
use Rattle.std.proofs.Common.{◌≡◌, ◌∙◌, ℕ, List, Bool, true, false, None, Some, Ok, ap}
use Rattle.std.specs.Prelude.{Option}
use Rattle.uf_command.specs.Natures.{WriteShape, NoWrites, SyncsBlocks, MakesHead, MovesHead, NotesPins, SyncsPins}
use Rattle.uf_mfs.specs.Standing.{ReadsHead}
use Rattle.uf_mfs.specs.declared.mfs.Mfs.{Mfs}
use Rattle.uf_store.specs.Contents.{Told}
use Rattle.uf_tree.specs.HeadReading.{head_reads}
use Rattle.uf_tree.specs.declared.profile.Profile.{Profile}
use Rattle.uf_top.specs.Causes.{HeadSays, IsProfileOf}
use Rattle.uf_top.specs.Shapes.{HeadAfter, HeadMoved, WritesAs, WritesInTree}

-- a tree that was opened has the profile of the Head
pub profile-said : (told : Told) (tree : Mfs) → ReadsHead told (Ok tree) → IsProfileOf told tree.profile
profile-said None tree h = tt
profile-said (Some t) tree h = by t.notes.head h.1
  where
    by : (head : Option (List ℕ)) → head ≡ Some h.0 → HeadSays head tree.profile
    by None e = absurd cc
    by (Some text) e = (tree.root.cid, (let same : text ≡ h.0 = cc in ap head_reads same ∙ h.2))

module _ (X : List ℕ → List ℕ) where
  pub head-after : (a b : Told) → HeadMoved X a b → HeadAfter X a b
  head-after a b h = (h.0, h.2.0, h.2.1)

  -- what is written in such a tree
  pub tree-wrote : (p : Profile) (shape : WriteShape) (done : Bool) (a b : Told) → IsProfileOf a p → WritesInTree X p shape done a b → WritesAs X shape done a b
  tree-wrote p NoWrites done a b says h = h
  tree-wrote p SyncsBlocks done a b says h = h
  tree-wrote p MakesHead done a b says h = h
  tree-wrote p MovesHead true a b says h = (p, says, h)
  tree-wrote p MovesHead false a b says h = h
  tree-wrote p SyncsPins done a b says h = h
  tree-wrote p NotesPins done a b says h = h
