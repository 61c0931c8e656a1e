-- What becomes of a host's file that is read.
use Rattle.std.specs.Prelude.{◌≡◌, ℕ, ◌+◌, ◌<◌, ◌≤◌, List, ◌++◌, length, take, drop, Some, IfSome, false}
use Rattle.std.specs.declared.result.Result.{Result}
use Rattle.std.specs.declared.result.Result.TheVariants.{Ok, Err}
use Rattle.std.specs.FinMap.{get}
use Rattle.uf_cid.specs.Bytes.{IsBytes}
use Rattle.uf_edge.specs.Host.{HostTold}
use Rattle.uf_edge.specs.declared.host.Place.TheVariants.{File}
use Rattle.uf_build.specs.Building.{Building, HasFed, HoldsFed, SavesForFront}
use Rattle.uf_store.specs.Among.{SavesAmong}
use Rattle.uf_store.specs.Contents.{Told}
use Rattle.uf_store.specs.Keeping.{Holds}
use Rattle.uf_tree.specs.Metas.{none}
use Rattle.uf_tree.specs.FilePlan.{file_plan}
use Rattle.uf_tree.specs.Profiles.{most_bytes}
use Rattle.uf_tree.specs.declared.nodes.Entry.{Entry}
use Rattle.uf_tree.specs.declared.profile.Profile.{Profile}
use Rattle.uf_host.specs.Faults.{IsSaidOr}
use Rattle.uf_host.specs.declared.fault.HostFault.{HostFault}
use Rattle.uf_host.specs.declared.fault.HostFault.TheVariants.{FileTooLong}

-- where the host tells, this holds of the bytes of the file at a path
abbrev pub OfFileAt : HostTold → List ℕ → (List ℕ → Type 0) → Type 0
OfFileAt host path P = IfSome host (λ tree. (bytes : List ℕ) → get tree path ≡ Some (File bytes) → P bytes)

-- a builder by this profile has taken these bytes and no others, and what it saved of their plan is held
pub record TookBytes (X : List ℕ → List ℕ) (p : Profile) (told : Told) (bytes : List ℕ) (b : Building) : Type 0 where
  pub fed : HasFed X bytes b
  pub held : HoldsFed X bytes told b
  pub count : b.fed ≡ length bytes
  pub few : length bytes ≤ most_bytes p
  pub profile : b.profile ≡ p
  pub ready : b.is_spent ≡ false
  pub are_bytes : IsBytes bytes

-- more bytes are too many, and that is the fault
pub record IsTooMuch (p : Profile) (path : List ℕ) (bytes piece : List ℕ) (fault : HostFault) : Type 0 where
  pub is : fault ≡ FileTooLong path
  pub many : most_bytes p < length bytes + length piece

-- the answer where a builder that has taken these bytes is given a piece
abbrev pub TakesPiece : (List ℕ → List ℕ) → Profile → Told → List ℕ → List ℕ → List ℕ → Building
    → Result (Unit {0}) HostFault → Type 0
TakesPiece X p told path bytes piece b (Ok done) = TookBytes X p told (bytes ++ piece) b
TakesPiece X p told path bytes piece b (Err fault) = IsSaidOr (IsTooMuch p path bytes piece) fault

-- the file is longer than its profile allows, and that is the fault
pub record IsLongFile (p : Profile) (host : HostTold) (path : List ℕ) (fault : HostFault) : Type 0 where
  pub is : fault ≡ FileTooLong path
  pub many : OfFileAt host path (λ whole. most_bytes p < length whole)

-- n bytes of the file after those that the builder has taken were given to it; with none the file has ended
pub record TakesNext (X : List ℕ → List ℕ) (p : Profile) (before told : Told) (host : HostTold) (path bytes : List ℕ)
    (b : Building) (count : ℕ) : Type 0 where
  pub piece : List ℕ
  pub size : length piece ≡ count
  pub taken : TookBytes X p told (bytes ++ piece) b
  pub is : OfFileAt host path (λ whole. piece ≡ take count (drop (length bytes) whole))
  pub ends : count ≡ 0 → OfFileAt host path (λ whole. length whole ≤ length bytes)
  pub no_other : SavesForFront X p (bytes ++ piece) before told

-- the answer of one reading
abbrev pub ReadsNext : (List ℕ → List ℕ) → Profile → (before told : Told) → HostTold → List ℕ → List ℕ → Building
    → Result ℕ HostFault → Type 0
ReadsNext X p before told host path bytes b (Ok count) = TakesNext X p before told host path bytes b count
ReadsNext X p before told host path bytes b (Err fault) = IsSaidOr (IsLongFile p host path) fault

-- some bytes of the file after those that the builder has taken were read, and nothing was written but blocks for the
-- prefix that ends with them
pub record StopsNext (X : List ℕ → List ℕ) (p : Profile) (before told : Told) (host : HostTold) (path bytes : List ℕ)
    : Type 0 where
  pub piece : List ℕ
  pub is : OfFileAt host path (λ whole. piece ≡ take (length piece) (drop (length bytes) whole))
  pub no_other : SavesForFront X p (bytes ++ piece) before told

-- the builder has taken n bytes, those before the file
pub record FedFront (X : List ℕ → List ℕ) (p : Profile) (before told : Told) (host : HostTold) (path : List ℕ)
    (b : Building) (offset : ℕ) : Type 0 where
  pub bytes : List ℕ
  pub taken : TookBytes X p told bytes b
  pub size : offset ≡ length bytes
  pub is : OfFileAt host path (λ whole. bytes ≡ take (length bytes) whole)
  pub no_other : SavesForFront X p bytes before told

-- the builder has taken the whole file
pub record TakesAll (X : List ℕ → List ℕ) (p : Profile) (before told : Told) (host : HostTold) (path : List ℕ)
    (b : Building) : Type 0 where
  pub bytes : List ℕ
  pub taken : TookBytes X p told bytes b
  pub is : OfFileAt host path (λ whole. whole ≡ bytes)
  pub no_other : SavesForFront X p bytes before told

-- the answer of the readings up to the end
abbrev pub ReadsAll : (List ℕ → List ℕ) → Profile → (before told : Told) → HostTold → List ℕ → Building
    → Result (Unit {0}) HostFault → Type 0
ReadsAll X p before told host path b (Ok done) = TakesAll X p before told host path b
ReadsAll X p before told host path b (Err fault) = IsSaidOr (IsLongFile p host path) fault

-- nothing was written but blocks of the plan of the file at a path, where the host tells it, and else of some file
pub record SavesFileAt (X : List ℕ → List ℕ) (p : Profile) (before told : Told) (host : HostTold) (path : List ℕ)
    : Type 0 where
  pub bytes : List ℕ
  pub is : OfFileAt host path (λ whole. whole ≡ bytes)
  pub no_other : SavesAmong X (file_plan X p none bytes).blocks before told

-- the file has these bytes, not too many, and this is its entry, whose blocks are held and alone were saved
pub record IsAddedFile (X : List ℕ → List ℕ) (p : Profile) (before told : Told) (host : HostTold) (path : List ℕ)
    (e : Entry) : Type 0 where
  pub bytes : List ℕ
  pub are_bytes : IsBytes bytes
  pub few : length bytes ≤ most_bytes p
  pub is : OfFileAt host path (λ whole. whole ≡ bytes)
  pub entry_is : e ≡ (file_plan X p none bytes).entry
  pub held : Holds told (file_plan X p none bytes).blocks
  pub no_other : SavesAmong X (file_plan X p none bytes).blocks before told

-- the file at a path, or why there is none
abbrev pub AddsFile : (List ℕ → List ℕ) → Profile → (before told : Told) → HostTold → List ℕ → Result Entry HostFault
    → Type 0
AddsFile X p before told host path (Ok e) = IsAddedFile X p before told host path e
AddsFile X p before told host path (Err fault) = IsSaidOr (IsLongFile p host path) fault

-- what a builder has taken is a file: its entry, whose blocks are held
pub record ClosesHostFile (X : List ℕ → List ℕ) (told told_now : Told) (b : Building) (e : Entry) : Type 0 where
  pub entry_is : (bytes : List ℕ) → HasFed X bytes b → e ≡ (file_plan X b.profile none bytes).entry
  pub held : (bytes : List ℕ) → HoldsFed X bytes told b → Holds told_now (file_plan X b.profile none bytes).blocks
