-- Which blocks an edit along a path may miss.
use Rattle.std.specs.Prelude.{ℕ, List, [], ◌∷◌, ◌++◌, ⊤, if◌then◌else◌}
use Rattle.std.specs.declared.option.Option.{Option}
use Rattle.std.specs.declared.option.Option.TheVariants.{None, Some}
use Rattle.uf_cid.specs.Blocks.{Held}
use Rattle.uf_store.specs.declared.store.StoreFault.{StoreFault}
use Rattle.uf_store.specs.Contents.{Told}
use Rattle.uf_store.specs.Lost.{IsLossOf}
use Rattle.uf_store.specs.Seen.{Seen}
use Rattle.uf_path.specs.declared.path.Path.{Path}
use Rattle.uf_tree.specs.declared.nodes.Entry.{Entry}
use Rattle.uf_tree.specs.declared.profile.Profile.{Profile}
use Rattle.uf_tree.specs.Tree.{Tree, File, Dir, Entries}
use Rattle.uf_plain.specs.declared.change.Change.TheVariants.{Make, Put, Remove}
use Rattle.uf_plain.specs.Edits.{child}
use Rattle.uf_plain.specs.Needs.{member_needs, own_needs, root_of}
use Rattle.uf_mfs.specs.declared.editing.Act.{Act}
use Rattle.uf_mfs.specs.declared.editing.Act.TheVariants.{Change, Remake, Rewrite}
use Rattle.uf_mfs.specs.Over.{OverFolder, OverTree}
use Rattle.uf_mfs.specs.Steps.{IsFolderOver}
use Rattle.uf_mfs.specs.declared.mfs.Mfs.{Mfs}

-- an edit puts an entry
abbrev pub IsPut : Act → Type 0
IsPut (Change Make) = ⊥
IsPut (Change (Put e)) = ⊤
IsPut (Change (Remove recursive)) = ⊥
IsPut (Rewrite what) = ⊥
IsPut (Remake what) = ⊥

-- the names at which something of this name is put that goes to a destination: it is entered, or its last name is taken
abbrev pub put_names : Path → Option (List ℕ) → List (List ℕ)
put_names dest None = dest.names
put_names dest (Some name) = if dest.into then dest.names ++ name ∷ [] else dest.names

-- the store's fault, where there is one, is that one of these blocks is lost, or out of memory
abbrev pub MissesOnly : Told → List Held → Option StoreFault → Type 0
MissesOnly told l None = ⊤
MissesOnly told l (Some fault) = IsLossOf told l fault

module _ (X : List ℕ → List ℕ) (N : List ℕ → ℕ) (p : Profile) where
  -- what a put at these names may need of a tree: the own blocks of each directory on them, and the root block of what
  -- each of them leads to
  abbrev pub put_needs : List (List ℕ) → Tree → List Held
  put_needs [] t = []
  put_needs (name ∷ names) (File m bytes) = []
  put_needs (name ∷ names) (Dir es) = own_needs X N p (Dir es)
      ++ elim (child name es) [ None ↦ [] | Some t ↦ root_of X N p t ++ put_needs names t ]

  -- what a look for a spot at these names may need of a tree: its root block, and what a put there needs
  abbrev pub spot_needs : List (List ℕ) → Tree → List Held
  spot_needs names t = root_of X N p t ++ put_needs names t

  -- where the entry is that of a folder, whose blocks the store agrees with before and after, and the store stayed
  -- calm, no other block is missing than these of it
  abbrev pub FolderMisses : (before now : Seen) → Entry → (Tree → List Held) → Option StoreFault → Type 0
  FolderMisses before now folder need fault = (es : Entries) → IsFolderOver X N p before now [] folder es
      → MissesOnly before.told (need (Dir es)) fault

  -- the same of a put at these names
  abbrev pub PutMisses : (before now : Seen) → Entry → List (List ℕ) → Option StoreFault → Type 0
  PutMisses before now folder names fault = FolderMisses before now folder (put_needs names) fault

module _ (X : List ℕ → List ℕ) (N : List ℕ → ℕ) (before now : Seen) where
  -- of the folder of this entry no other block is missing than a look for a spot at these names may need
  abbrev pub SpotMissesIn : Entry → List (List ℕ) → Option StoreFault → Type 0
  SpotMissesIn folder names fault = OverFolder X N before now folder (λ p es.
      MissesOnly before.told (spot_needs X N p names (Dir es)) fault)

  -- the same of the tree in memory
  abbrev pub SpotMisses : Mfs → List (List ℕ) → Option StoreFault → Type 0
  SpotMisses mfs names fault = OverTree X N before now mfs (λ p es.
      MissesOnly before.told (spot_needs X N p names (Dir es)) fault)

  -- of the folder of this entry no other block is missing than what is under a name needs
  abbrev pub MemberMisses : Entry → List ℕ → Option StoreFault → Type 0
  MemberMisses folder name fault = OverFolder X N before now folder (λ p es.
      MissesOnly before.told (member_needs X N p name es) fault)
