-- A tree as a host has it, path by path, and how far it was written there.
use Rattle.std.specs.Prelude.{◌≡◌, ◌≢◌, ◌⊎◌, ℕ, List, [], ◌∷◌, ◌++◌, take, IfSome, IsTrue, None, Some, true, false, ⊤}
use Rattle.std.specs.declared.result.Result.{Result}
use Rattle.std.specs.declared.result.Result.TheVariants.{Ok, Err}
use Rattle.std.specs.FinMap.{get, insert}
use Rattle.std.specs.List.{AllByRecursion}
use Rattle.uf_edge.specs.Host.{HostTold, HostTree, front, host_changed, is_member_name, with_piece}
use Rattle.uf_edge.specs.declared.host.Place.{Place}
use Rattle.uf_edge.specs.declared.host.Place.TheVariants as place
use Rattle.uf_lenient.specs.Answers.{IsStoreOwn}
use Rattle.uf_store.specs.declared.store.StoreFault.TheVariants.{Memory}
use Rattle.uf_tree.specs.Tree.{Dir, Entries, File, Nothing, Tree, With}
use Rattle.uf_host.specs.declared.fault.HostFault.{HostFault}
use Rattle.uf_host.specs.Paths.{is_folder_there}
use Rattle.uf_host.specs.declared.fault.HostFault.TheVariants.{Absent, Read, Store, Write}

-- what is put at a path
abbrev pub PutAt : Type 0
PutAt = List ℕ × Place

-- what a tree is at a path and below it: a folder before what is in it, in the order of the names; metadata
-- isn't written
unfoldable mutual
  pub places_of : List ℕ → Tree → List PutAt
  places_of path (File m bytes) = (path, place.File bytes) ∷ []
  places_of path (Dir es) = (path, place.Folder) ∷ places_in path es

  pub places_in : List ℕ → Entries → List PutAt
  places_in folder (Nothing m) = []
  places_in folder (With name t es) = places_of (front folder ++ name) t ++ places_in folder es

-- a host on which these were put, one after the other
abbrev pub with_places : List PutAt → HostTree → HostTree
with_places [] tree = tree
with_places (p ∷ places) tree = with_places places (insert tree p.0 p.1)

-- of a file no more than its first bytes
abbrev pub IsCutShort : Place → Place → Type 0
IsCutShort (place.File some) (place.File bytes) = (count : ℕ) × (some ≡ take count bytes)
IsCutShort (place.File some) place.Folder = ⊥
IsCutShort place.Folder whole = ⊥

-- the first ones of some places, and the first bytes of a file after them
abbrev pub AreFirstOf : List PutAt → List PutAt → Type 0
AreFirstOf [] places = ⊤
AreFirstOf (p ∷ part) [] = ⊥
AreFirstOf (p ∷ part) (q ∷ places) =
    ((p ≡ q) × AreFirstOf part places) ⊎ ((part ≡ []) × (p.0 ≡ q.0) × IsCutShort p.1 q.1)

-- the writing was stopped: the host failed at it, the store failed, or there was no memory
abbrev pub StopsWriting : HostFault → Type 0
StopsWriting Write = ⊤
StopsWriting (Store fault) = IsStoreOwn fault
StopsWriting other = ⊥

-- what a host answers by itself: it failed at writing, or there was no memory
abbrev pub IsOfHost : HostFault → Type 0
IsOfHost Write = ⊤
IsOfHost (Store fault) = fault ≡ Memory
IsOfHost other = ⊥

-- some of these were put, as far as it went
pub record PutsFirst (places : List PutAt) (told now : HostTold) : Type 0 where
  pub part : List PutAt
  pub first : AreFirstOf part places
  pub are_put : now ≡ host_changed (with_places part) told

-- all of these were put, or the writing was stopped
abbrev pub Puts : List PutAt → HostTold → HostTold → Result (Unit {0}) HostFault → Type 0
Puts places told now (Ok done) = now ≡ host_changed (with_places places) told
Puts places told now (Err why) = StopsWriting why × PutsFirst places told now

-- a file of these bytes was put
abbrev pub PutsFile : List ℕ → List ℕ → HostTold → HostTold → Result (Unit {0}) HostFault → Type 0
PutsFile path bytes told now answer = Puts ((path, place.File bytes) ∷ []) told now answer

-- a path, or one below it
abbrev pub IsBelow : List ℕ → List ℕ → Type 0
IsBelow path q = (q ≡ path) ⊎ ((rest : List ℕ) × (q ≡ front path ++ rest))

-- nothing but what is at such paths has changed
pub record ChangesWhere (Where : List ℕ → Type 0) (told now : HostTold) : Type 0 where
  pub places : List PutAt
  pub where_put : AllByRecursion (λ p. Where p.0) places
  pub are_put : now ≡ host_changed (with_places places) told

-- nothing but what is at a path and below it has changed
abbrev pub ChangesAt : List ℕ → HostTold → HostTold → Type 0
ChangesAt path told now = ChangesWhere (IsBelow path) told now

-- nothing but what is in a folder has changed
abbrev pub ChangesIn : List ℕ → HostTold → HostTold → Type 0
ChangesIn folder told now = ChangesWhere (λ q. (rest : List ℕ) × (q ≡ front folder ++ rest) × (rest ≢ [])) told now

-- a folder is there, and no member of it
pub record IsEmptyFolder (tree : HostTree) (folder : List ℕ) : Type 0 where
  pub there : get tree folder ≡ Some place.Folder
  pub empty : (name : List ℕ) → IsTrue (is_member_name name) → get tree (front folder ++ name) ≡ None

abbrev pub TakesMembers : HostTold → List ℕ → Type 0
TakesMembers told folder = IfSome told (λ tree. IsEmptyFolder tree folder)

-- a folder was made, or nothing was and why
abbrev pub MakesFolderAt : List ℕ → HostTold → HostTold → Result (Unit {0}) HostFault → Type 0
MakesFolderAt path told now (Ok done) = now ≡ host_changed (λ tree. insert tree path place.Folder) told
MakesFolderAt path told now (Err why) = IsOfHost why × (now ≡ told)

-- the folder of this path is there, or why it isn't known to be
abbrev pub IsFolderThere : HostTold → List ℕ → Result (Unit {0}) HostFault → Type 0
IsFolderThere told folder (Ok done) = IfSome told (λ tree. is_folder_there (get tree folder) ≡ true)
IsFolderThere told folder (Err Absent) = IfSome told (λ tree. is_folder_there (get tree folder) ≡ false)
IsFolderThere told folder (Err Read) = ⊤
IsFolderThere told folder (Err (Store fault)) = fault ≡ Memory
IsFolderThere told folder (Err other) = ⊥

-- the first bytes of a piece were put after a file's
pub record AppendsFirst (path piece : List ℕ) (told now : HostTold) : Type 0 where
  pub count : ℕ
  pub part : now ≡ host_changed (with_piece path (take count piece)) told

-- a piece was put after a file's bytes, or a part of it, or nothing and why
abbrev pub AppendsPiece : List ℕ → List ℕ → HostTold → HostTold → Result (Unit {0}) HostFault → Type 0
AppendsPiece path piece told now (Ok done) = now ≡ host_changed (with_piece path piece) told
AppendsPiece path piece told now (Err why) = IsOfHost why × ((now ≡ told) ⊎ AppendsFirst path piece told now)
