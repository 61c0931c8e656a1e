-- What `check` shows below a root that may be that of no tree.
use Rattle.std.specs.Prelude.{◌≡◌, ℕ, List, [], ◌∷◌, Contains, true, ⊤}
use Rattle.std.specs.declared.option.Option.TheVariants.{None}
use Rattle.uf_cid.specs.Blocks.{Held}
use Rattle.uf_cid.specs.declared.cid.Cid.{Cid}
use Rattle.uf_dir.specs.Roots.{IsRootUnder}
use Rattle.uf_store.specs.Contents.{Told}
use Rattle.uf_tree.specs.Roles.{IsCanonicalDirectory}
use Rattle.uf_light.specs.declared.met.PathEnd.{PathEnd}
use Rattle.uf_light.specs.declared.met.PathEnd.TheVariants.{There, Nothing, Behind}
use Rattle.uf_light.specs.declared.thing.TypedEntry.{TypedEntry}
use Rattle.uf_light.specs.declared.thing.TypedEntry.TheVariants.{File, Folder}

-- what names lead to from something: behind a file there is nothing
abbrev pub MayEnd : TypedEntry → List (List ℕ) → PathEnd → Type 0
MayEnd (Folder e) names met = ⊤
MayEnd (File e) [] met = ⊤
MayEnd (File e) (name ∷ names) (There thing) = ⊥
MayEnd (File e) (name ∷ names) (Nothing place) = ⊥
MayEnd (File e) (name ∷ names) (Behind place) = ⊤

module _ (hash : List ℕ → List ℕ) (told : Told) (root : Cid) where
  -- a block is canonical as the root of a directory, has this CID's digest, and is held under it, where the store tells
  abbrev pub HasDirectory : Type 0
  HasDirectory = (block : List ℕ) × IsRootUnder hash told root block

  -- what is under this CID is a file, or there is such a block
  abbrev pub IsSeenAs : TypedEntry → Type 0
  IsSeenAs (File e) = ⊤
  IsSeenAs (Folder e) = HasDirectory

  -- where there are names below it there is such a block
  abbrev pub HasNames : List (List ℕ) → Type 0
  HasNames [] = ⊤
  HasNames (name ∷ names) = HasDirectory

module _ (hash : List ℕ → List ℕ) (root : Cid) where
  -- a section has this CID, its block has the CID's digest and is canonical as the root of a directory, and no section
  -- with this CID has another block
  pub record IsDirectoryAmong (sections : List Held) : Type 0 where
    pub block : List ℕ
    pub there : Contains sections (root, block)
    pub digest : hash block ≡ root.digest
    pub canonical : IsCanonicalDirectory None true block
    pub only : (other : List ℕ) → Contains sections (root, other) → other ≡ block

  -- what an accepted CAR shows of a root with names below it
  abbrev pub IsAboveNames : List (List ℕ) → List Held → Type 0
  IsAboveNames [] sections = ⊤
  IsAboveNames (name ∷ names) sections = IsDirectoryAmong sections
