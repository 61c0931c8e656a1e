-- A file that is adopted: what it denotes is fed to a builder, piece by piece.
use Rattle.std.specs.Prelude.{◌≡◌, ℕ, ◌<◌, ◌≤◌, List, ◌++◌, length, false, Some, None}
use Rattle.std.specs.declared.result.Result.{Result}
use Rattle.std.specs.declared.result.Result.TheVariants.{Ok, Err}
use Rattle.uf_cid.specs.Blocks.{Lookup}
use Rattle.uf_cid.specs.Bytes.{IsBytes}
use Rattle.uf_cid.specs.declared.cid.Cid.{Cid}
use Rattle.uf_store.specs.Clashes.{IsSaving}
use Rattle.uf_store.specs.Contents.{Told, held_at}
use Rattle.uf_store.specs.Keeping.{Holds}
use Rattle.uf_tree.specs.FilePlan.{file_plan}
use Rattle.uf_tree.specs.Profiles.{most_bytes}
use Rattle.uf_tree.specs.declared.meta.Meta.{Meta}
use Rattle.uf_tree.specs.declared.nodes.Entry.{Entry}
use Rattle.uf_tree.specs.declared.profile.Profile.{Profile}
use Rattle.uf_build.specs.Building.{Building, HasFed, HoldsFed}
use Rattle.uf_lenient.specs.Steps.{Rest}
use Rattle.uf_lenient.specs.Visited.{GaveOfFile, pieces_of}
use Rattle.uf_lenient.specs.declared.shapes.Limits.{Limits}
use Rattle.uf_adopt.specs.Faults.{IsStoreFailing}
use Rattle.uf_adopt.specs.declared.fault.AdoptFault.{AdoptFault}
use Rattle.uf_adopt.specs.declared.fault.AdoptFault.TheVariants.{FileTooLong, Store}

-- the store tells, and holds all of this map, whose blocks have their CIDs' digests: calls that save keep them
abbrev pub HoldsGoodMap : (List ℕ → List ℕ) → Lookup → Told → Type 0
HoldsGoodMap hash held None = ⊥
HoldsGoodMap hash held (Some t) = (c : Cid) (block : List ℕ) → held c ≡ Some block
    → (held_at t c ≡ Some block) × (hash block ≡ c.digest)

module _ (hash : List ℕ → List ℕ) where
  -- a builder was fed some bytes
  abbrev pub WasFed : Building → Type 0
  WasFed b = (bytes : List ℕ) × HasFed hash bytes b

  -- a builder that has not given up was fed these bytes, no more than a file may have, and holds what it saved of them
  pub record HasFront (told : Told) (bytes : List ℕ) (b : Building) : Type 0 where
    pub fed : HasFed hash bytes b
    pub held : HoldsFed hash bytes told b
    pub count : b.fed ≡ length bytes
    pub few : length bytes ≤ most_bytes b.profile
    pub are_bytes : IsBytes bytes
    pub not_spent : b.is_spent ≡ false

  -- one piece more is fed, of the file whose first node has this CID; or it would be too long, or a save failed
  abbrev pub FeedsOne : Cid → List ℕ → (before now : Told) → Building → Building → Result (Unit {0}) AdoptFault → Type 0
  FeedsOne c piece before now b b_now (Ok done) =
      (front : List ℕ) → HasFront before front b → HasFront now (front ++ piece) b_now
  FeedsOne c piece before now b b_now (Err (FileTooLong node)) = (node ≡ c)
      × ((front : List ℕ) → HasFront before front b → most_bytes b.profile < length (front ++ piece))
  FeedsOne c piece before now b b_now (Err (Store fault)) = IsSaving fault
  FeedsOne c piece before now b b_now (Err other) = ⊥

  -- calls gave pieces of the file that a map denotes below a CID, and the builder was fed them
  pub record GaveFront (held : Lookup) (limits : Limits) (c : Cid) (told : Told) (now : Rest) (b : Building)
      : Type 0 where
    pub calls : List (Lookup × List ℕ)
    pub gave : GaveOfFile held limits c calls now
    pub front : HasFront told (pieces_of calls) b

  -- these bytes are all fed; or they are too many, or the store itself fails
  abbrev pub FeedsAll : Cid → List ℕ → Told → Building → Result (Unit {0}) AdoptFault → Type 0
  FeedsAll c bytes now b (Ok done) = HasFront now bytes b
  FeedsAll c bytes now b (Err (FileTooLong node)) = (node ≡ c) × (most_bytes b.profile < length bytes)
  FeedsAll c bytes now b (Err (Store fault)) = IsStoreFailing fault
  FeedsAll c bytes now b (Err other) = ⊥

  -- the entry is that of the file of this metadata and these bytes, whose blocks are held
  pub record IsFileOver (p : Profile) (m : Meta) (bytes : List ℕ) (now : Told) (e : Entry) : Type 0 where
    pub few : length bytes ≤ most_bytes p
    pub are_bytes : IsBytes bytes
    pub is : e ≡ (file_plan hash p m bytes).entry
    pub held : Holds now (file_plan hash p m bytes).blocks

  -- the file of this metadata and these bytes, whose first node has this CID; or it is too long, or the store itself
  -- fails
  abbrev pub AdoptsFile : Profile → Meta → Cid → List ℕ → Told → Result Entry AdoptFault → Type 0
  AdoptsFile p m c bytes now (Ok e) = IsFileOver p m bytes now e
  AdoptsFile p m c bytes now (Err (FileTooLong node)) = (node ≡ c) × (most_bytes p < length bytes)
  AdoptsFile p m c bytes now (Err (Store fault)) = IsStoreFailing fault
  AdoptsFile p m c bytes now (Err other) = ⊥
