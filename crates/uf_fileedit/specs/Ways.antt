-- Where the old parts stand in a file, and which of their blocks are bad.
use Rattle.std.specs.Prelude.{◌≡◌, ℕ, ◌+◌, ◌-◌, ◌≤◌, List, length, IfSome, true}
use Rattle.std.specs.List.{Contains}
use Rattle.std.specs.declared.option.Option.{Option}
use Rattle.uf_cid.specs.declared.cid.Cid.{Cid}
use Rattle.uf_store.specs.Contents.{Told}
use Rattle.uf_store.specs.Keeping.{KeepsGood}
use Rattle.uf_store.specs.declared.store.Role.{Role}
use Rattle.uf_fileread.specs.declared.node_parts.NodeParts.{NodeParts}
use Rattle.uf_tree.specs.declared.nodes.Part.{Part}
use Rattle.uf_tree.specs.declared.profile.Profile.{Profile}
use Rattle.uf_tree.specs.FileSub.{IsHeight}
use Rattle.uf_tree.specs.Roles.{IsSpanned}
use Rattle.uf_fileedit.specs.Bad.{IsBadEdited, IsWay, SaysWhole, way_end, way_size}
use Rattle.uf_fileedit.specs.Planned.{bytes_over, is_of_height}

-- a node of this height and size, below this many nodes, has its place in a file of n bytes and rows of nodes
pub record HasPlaceBelow (p : Profile) (whole rows k size above : ℕ) : Type 0 where
  pub high : IsHeight p.chunk p.width whole rows
  pub count : above + k ≡ rows
  pub below : 1 ≤ above
  pub spanned : IsSpanned p k whole size

-- a way of canonical nodes leads from the root of a file, which has n rows of nodes, to a part of this height: to a
-- node below the root, or to a leaf
pub record Stands (hash : List ℕ → List ℕ) (p : Profile) (told : Told) (root : Cid) (rows k : ℕ) (part : Part)
    : Type 0 where
  pub whole : ℕ
  pub says : SaysWhole hash p told root whole
  pub way : List Part
  pub is_way : IsWay hash p told root whole way
  pub cid_is : part.entry.cid ≡ way_end root way
  pub size_is : part.size ≡ way_size whole way
  pub node : 1 ≤ k → HasPlaceBelow p whole rows k part.size (length way)
  pub codec : is_of_height k part.entry.cid.codec ≡ true

-- what has been found leads at every later moment to each of the parts below the root of a file
abbrev pub StandUnderRoot : (List ℕ → List ℕ) → Profile → Told → Cid → NodeParts → Type 0
StandUnderRoot hash p before cid root =
    (now : Told) (rows : ℕ) → KeepsGood hash before now
    → IsHeight p.chunk p.width (bytes_over root.parts) rows
    → (m : Part) → Contains root.parts m → Stands hash p now cid rows (rows - 1) m

-- at every later moment each of these parts of height j stands where the old part of height k does
abbrev pub StandBelow : (List ℕ → List ℕ) → Profile → Told → ℕ → ℕ → Option Part → ℕ → List Part → Type 0
StandBelow hash p before rows k old j parts =
    (now : Told) (root : Cid) → KeepsGood hash before now → IfSome old (Stands hash p now root rows k)
    → (m : Part) → Contains parts m → Stands hash p now root rows j m

-- at every later moment each of these parts of height j stands where all of the old parts of height k do
abbrev pub StandAmong : (List ℕ → List ℕ) → Profile → Told → ℕ → ℕ → List Part → ℕ → List Part → Type 0
StandAmong hash p before rows k olds j parts =
    (now : Told) (root : Cid) → KeepsGood hash before now
    → ((m : Part) → Contains olds m → Stands hash p now root rows k m)
    → (m : Part) → Contains parts m → Stands hash p now root rows j m

-- a block is bad in each file where the old part of this height stands
abbrev pub IsBadOld : (List ℕ → List ℕ) → Profile → Told → ℕ → ℕ → Option Part → Role → List ℕ → Type 0
IsBadOld hash p told rows k old role bytes =
    (root : Cid) → IfSome old (Stands hash p told root rows k) → IsBadEdited hash p told root role bytes

-- in each file where all of these parts stand
abbrev pub IsBadAmongOld : (List ℕ → List ℕ) → Profile → Told → ℕ → ℕ → List Part → Role → List ℕ → Type 0
IsBadAmongOld hash p told rows k olds role bytes =
    (root : Cid) → ((m : Part) → Contains olds m → Stands hash p told root rows k m)
    → IsBadEdited hash p told root role bytes
