-- What a builder is fed of a source, one reading after another.
use Rattle.std.specs.Prelude.{◌≡◌, ℕ, ◌+◌, ◌<◌, ◌≤◌, List, ◌++◌, length, Bool, true, false}
use Rattle.std.specs.declared.result.Result.{Result}
use Rattle.std.specs.declared.result.Result.TheVariants.{Ok, Err}
use Rattle.uf_build.specs.Building.{Building, HasFed, HoldsFed, SavesForFront}
use Rattle.uf_cid.specs.Bytes.{IsBytes}
use Rattle.uf_edge.specs.Streams.{Told, before, IsAtEnd}
use Rattle.uf_store.specs.Contents as store
use Rattle.uf_store.specs.Keeping.{Holds}
use Rattle.uf_tree.specs.FilePlan.{file_plan}
use Rattle.uf_tree.specs.Metas.{none}
use Rattle.uf_tree.specs.Profiles.{most_bytes}
use Rattle.uf_tree.specs.declared.nodes.Entry.{Entry}
use Rattle.uf_tree.specs.declared.profile.Profile.{Profile}
use Rattle.uf_build.specs.Faults.{IsStoppedBy}
use Rattle.uf_build.specs.declared.intake_fault.IntakeFault.{IntakeFault}

-- a builder by this profile that has not given up was fed these bytes, and what it saved of their plan is held
pub record IsFedBy (hash : List ℕ → List ℕ) (p : Profile) (told : store.Told) (bytes : List ℕ) (b : Building)
    : Type 0 where
  pub fed : HasFed hash bytes b
  pub held : HoldsFed hash bytes told b
  pub count : b.fed ≡ length bytes
  pub few : length bytes ≤ most_bytes p
  pub profile : b.profile ≡ p
  pub are_bytes : IsBytes bytes

-- the builder was fed these bytes, which the source gave, after what it was fed before, and has not given up
pub record FeedsFrom (hash : List ℕ → List ℕ) (p : Profile) (bytes : List ℕ) (told told_now : store.Told)
    (b now : Building) (left left_now : Told) : Type 0 where
  pub taken : left ≡ before bytes left_now
  pub fed : (front : List ℕ) → IsFedBy hash p told front b → IsFedBy hash p told_now (front ++ bytes) now
  pub ready : now.is_spent ≡ false
  pub no_other : (front : List ℕ) → IsFedBy hash p told front b → SavesForFront hash p (front ++ bytes) told told_now

-- the source gave bytes with which the file would be too long
pub record PassesLimit (hash : List ℕ → List ℕ) (p : Profile) (told : store.Told) (b : Building)
    (left left_now : Told) : Type 0 where
  pub bytes : List ℕ
  pub taken : left ≡ before bytes left_now
  pub many : (front : List ℕ) → IsFedBy hash p told front b → most_bytes p < length (front ++ bytes)

-- nothing was written but blocks of the plan of every file that begins with what was fed before and with the first
-- bytes of the source
pub record SavesBehind (hash : List ℕ → List ℕ) (p : Profile) (told told_now : store.Told) (b : Building) (left : Told)
    : Type 0 where
  pub bytes : List ℕ
  pub rest : Told
  pub taken : left ≡ before bytes rest
  pub no_other : (front : List ℕ) → IsFedBy hash p told front b → SavesForFront hash p (front ++ bytes) told told_now

-- the readings stopped: the fault has its cause, and no other blocks were saved
pub record StopsFeeding (hash : List ℕ → List ℕ) (p : Profile) (fault : IntakeFault) (told told_now : store.Told)
    (b : Building) (left left_now : Told) : Type 0 where
  pub cause : IsStoppedBy (PassesLimit hash p told b left left_now) fault
  pub saves : SavesBehind hash p told told_now b left

-- more may follow what was fed
pub record FeedsPart (hash : List ℕ → List ℕ) (p : Profile) (told told_now : store.Told) (b now : Building)
    (left left_now : Told) : Type 0 where
  pub bytes : List ℕ
  pub feeds : FeedsFrom hash p bytes told told_now b now left left_now

-- nothing follows what was fed
pub record FeedsLast (hash : List ℕ → List ℕ) (p : Profile) (told told_now : store.Told) (b now : Building)
    (left left_now : Told) : Type 0 where
  pub bytes : List ℕ
  pub feeds : FeedsFrom hash p bytes told told_now b now left left_now
  pub nothing_left : IsAtEnd left_now

-- the answer of one reading: whether more may follow
abbrev pub FeedsNext : (List ℕ → List ℕ) → Profile → Result Bool IntakeFault → store.Told → store.Told → Building
    → Building → Told → Told → Type 0
FeedsNext hash p (Ok true) told told_now b now left left_now = FeedsPart hash p told told_now b now left left_now
FeedsNext hash p (Ok false) told told_now b now left left_now = FeedsLast hash p told told_now b now left left_now
FeedsNext hash p (Err fault) told told_now b now left left_now = StopsFeeding hash p fault told told_now b left left_now

-- the builder was fed n bytes more, and not too many, and has not given up
pub record GrowsBy (more : ℕ) (b now : Building) : Type 0 where
  pub count : now.fed ≡ b.fed + more
  pub most : now.fed ≤ most_bytes b.profile
  pub profile : now.profile ≡ b.profile
  pub ready : now.is_spent ≡ false

-- the answer where one piece is fed
abbrev pub FeedsPiece : (List ℕ → List ℕ) → Profile → List ℕ → Result (Unit {0}) IntakeFault → store.Told
    → store.Told → Building → Building → Type 0
FeedsPiece hash p piece (Ok done) told told_now b now =
    (front : List ℕ) → IsFedBy hash p told front b → IsFedBy hash p told_now (front ++ piece) now
FeedsPiece hash p piece (Err fault) told told_now b now =
    IsStoppedBy ((front : List ℕ) → IsFedBy hash p told front b → most_bytes p < length (front ++ piece)) fault

-- the answer of the readings up to the end
abbrev pub FeedsRest : (List ℕ → List ℕ) → Profile → Result (Unit {0}) IntakeFault → store.Told → store.Told
    → Building → Building → Told → Told → Type 0
FeedsRest hash p (Ok done) told told_now b now left left_now = FeedsLast hash p told told_now b now left left_now
FeedsRest hash p (Err fault) told told_now b now left left_now = StopsFeeding hash p fault told told_now b left left_now

-- the file of what the builder was fed is its plan's, whose blocks are held
pub record IsClosed (hash : List ℕ → List ℕ) (entry : Entry) (told told_now : store.Told) (b : Building) : Type 0 where
  pub entry_is : (bytes : List ℕ) → HasFed hash bytes b → entry ≡ (file_plan hash b.profile none bytes).entry
  pub held : (bytes : List ℕ) → HoldsFed hash bytes told b → Holds told_now (file_plan hash b.profile none bytes).blocks
