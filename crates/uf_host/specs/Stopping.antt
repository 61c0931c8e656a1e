-- What a walk over a host has read where it stops.
use Rattle.std.specs.Prelude.{◌≡◌, ◌⊎◌, ℕ, zero, suc, List, [], ◌∷◌, ◌++◌, map, Bool, Some, None, ⊤, if◌then◌else◌}
use Rattle.std.specs.declared.option.Option.{Option}
use Rattle.std.specs.declared.result.Result.TheVariants.{Ok}
use Rattle.std.specs.FinMap.{get}
use Rattle.uf_edge.specs.Host.{HostTree, front, names_in}
use Rattle.uf_edge.specs.declared.host.Place.{Place}
use Rattle.uf_edge.specs.declared.host.Place.TheVariants as place
use Rattle.uf_tree.specs.Metas.{none}
use Rattle.uf_tree.specs.Tree.{Tree, File, Dir, entries}
use Rattle.uf_tree.specs.declared.profile.Profile.{Profile}
use Rattle.uf_host.specs.HostTree.{Members, Walk, each_member, walk_down}

-- the folder was read whole, with all its members: it may have no plan
pub record ReadsFolder (walk : Walk) (folder : List ℕ) (names : List (List ℕ)) (read : List Tree) : Type 0 where
  pub members : Members
  pub said : each_member walk folder names ≡ Ok members
  pub is : read ≡ Dir (entries none members) ∷ []

-- what was read of the first of these members of a folder
abbrev pub ReadsFirst : (List ℕ → List Tree → Type 0) → List ℕ → List (List ℕ) → List Tree → Type 0
ReadsFirst Reads folder [] part = part ≡ []
ReadsFirst Reads folder (name ∷ later) part = Reads (front folder ++ name) part

-- of the members of these names the first were read whole, and the next in part
pub record ReadsMembers (walk : Walk) (Reads : List ℕ → List Tree → Type 0) (folder : List ℕ) (names : List (List ℕ))
    (read : List Tree) : Type 0 where
  pub whole : Members
  pub later : List (List ℕ)
  pub part : List Tree
  pub are_named : names ≡ map (λ (m : List ℕ × Tree). m.0) whole ++ later
  pub said : each_member walk folder (map (λ (m : List ℕ × Tree). m.0) whole) ≡ Ok whole
  pub next : ReadsFirst Reads folder later part
  pub is : read ≡ map (λ (m : List ℕ × Tree). m.1) whole ++ part

-- what was read of a place: nothing, the file that is there, which may be too long, or what is read of the folder
abbrev pub ReadsPlace : (List Tree → Type 0) → List Tree → Option Place → Type 0
ReadsPlace OfFolder [] there = ⊤
ReadsPlace OfFolder (t ∷ ts) None = ⊥
ReadsPlace OfFolder (t ∷ ts) (Some (place.File bytes)) = (t ∷ ts) ≡ (File none bytes ∷ [])
ReadsPlace OfFolder (t ∷ ts) (Some place.Folder) = OfFolder (t ∷ ts)

module _ (X : List ℕ → List ℕ) (N : List ℕ → ℕ) (p : Profile) (host : HostTree) where
  -- what a walk over n levels of folders has read of a path where it stops, in its order: files and folders, each as a
  -- whole
  unfoldable pub HasRead : ℕ → List ℕ → List Tree → Type 0
  HasRead zero path read = ReadsPlace (λ read. ⊥) read (get host path)
  HasRead (suc levels) path read = ReadsPlace (λ read.
      ReadsFolder (walk_down X N p host levels) path (names_in host path) read
      ⊎ ReadsMembers (walk_down X N p host levels) (HasRead levels) path (names_in host path) read) read (get host path)

-- how many levels of folders are walked
abbrev pub levels_of : Bool → ℕ
levels_of recursive = if recursive then 257 else 0
