-- What becomes of a source that is read as a file.
use Rattle.std.specs.Prelude.{◌≡◌, ℕ, ◌<◌, ◌≤◌, List, length}
use Rattle.std.specs.declared.result.Result.{Result}
use Rattle.std.specs.declared.result.Result.TheVariants.{Ok, Err}
use Rattle.uf_cid.specs.Bytes.{IsBytes}
use Rattle.uf_edge.specs.Streams.{Told, before, IsAtEnd}
use Rattle.uf_store.specs.Contents as store
use Rattle.uf_store.specs.Keeping.{Holds}
use Rattle.uf_store.specs.Among.{SavesAmong}
use Rattle.uf_tree.specs.FilePlan.{file_plan}
use Rattle.uf_tree.specs.Metas.{none}
use Rattle.uf_tree.specs.Profiles.{most_bytes}
use Rattle.uf_tree.specs.declared.nodes.Entry.{Entry}
use Rattle.uf_tree.specs.declared.profile.Profile.{Profile}
use Rattle.uf_build.specs.Faults.{IsStoppedBy}
use Rattle.uf_build.specs.declared.intake_fault.IntakeFault.{IntakeFault}

-- more bytes were given than a file of this profile may have
pub record PassesMost (p : Profile) (left left_now : Told) : Type 0 where
  pub bytes : List ℕ
  pub taken : left ≡ before bytes left_now
  pub many : most_bytes p < length bytes

-- these are all bytes of the source, no more than a file may have, and this is their file's entry, whose blocks are
-- held
pub record IsWholeFile (hash : List ℕ → List ℕ) (p : Profile) (told_now : store.Told) (entry : Entry)
    (left left_now : Told) : Type 0 where
  pub bytes : List ℕ
  pub taken : left ≡ before bytes left_now
  pub nothing_left : IsAtEnd left_now
  pub few : length bytes ≤ most_bytes p
  pub is : entry ≡ (file_plan hash p none bytes).entry
  pub held : Holds told_now (file_plan hash p none bytes).blocks
  pub are_bytes : IsBytes bytes

-- the file of a source, or why there is none
abbrev pub IsFileOf : (List ℕ → List ℕ) → Profile → store.Told → Result Entry IntakeFault → Told → Told → Type 0
IsFileOf hash p told_now (Ok entry) left left_now = IsWholeFile hash p told_now entry left left_now
IsFileOf hash p told_now (Err fault) left left_now = IsStoppedBy (PassesMost p left left_now) fault

-- nothing was written but blocks of the plan of the file of all bytes that the source gave, whose entry this is
pub record SavesWhole (hash : List ℕ → List ℕ) (p : Profile) (entry : Entry) (told told_now : store.Told)
    (left left_now : Told) : Type 0 where
  pub bytes : List ℕ
  pub taken : left ≡ before bytes left_now
  pub nothing_left : IsAtEnd left_now
  pub is : entry ≡ (file_plan hash p none bytes).entry
  pub no_other : SavesAmong hash (file_plan hash p none bytes).blocks told told_now

-- nothing was written but blocks of the plan of the file of all bytes that the source had, where it tells, and else of
-- some
pub record SavesPart (hash : List ℕ → List ℕ) (p : Profile) (told told_now : store.Told) (left : Told) : Type 0 where
  pub bytes : List ℕ
  pub rest : Told
  pub taken : left ≡ before bytes rest
  pub nothing_left : IsAtEnd rest
  pub no_other : SavesAmong hash (file_plan hash p none bytes).blocks told told_now

-- what is saved of the file of a source, also where there is none in the end
abbrev pub SavesOfFile : (List ℕ → List ℕ) → Profile → Result Entry IntakeFault → store.Told → store.Told → Told → Told
    → Type 0
SavesOfFile hash p (Ok entry) told told_now left left_now = SavesWhole hash p entry told told_now left left_now
SavesOfFile hash p (Err fault) told told_now left left_now = SavesPart hash p told told_now left
