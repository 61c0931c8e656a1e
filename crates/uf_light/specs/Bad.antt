-- Blocks that aren't canonical where what is at a path is read.
use Rattle.std.specs.Prelude.{◌≡◌, ◌⊎◌, ℕ, List, true, ⊤}
use Rattle.std.specs.declared.option.Option.TheVariants.{None}
use Rattle.uf_cid.specs.declared.cid.Cid.{Cid}
use Rattle.uf_dir.specs.Bad.{IsOffWay}
use Rattle.uf_store.specs.Contents.{Told}
use Rattle.uf_store.specs.declared.store.Role.{Role}
use Rattle.uf_store.specs.declared.store.Role.TheVariants.{Directory, Shard, FileNode, Leaf}
use Rattle.uf_tree.specs.Roles.{IsCanonicalDirectory, IsNodeBlock}
use Rattle.uf_light.specs.declared.thing.TypedEntry.{TypedEntry}
use Rattle.uf_light.specs.declared.thing.TypedEntry.TheVariants.{File, Folder}
use Rattle.uf_light.specs.FileCids.{IsBadInSome}

-- a block that isn't canonical as the root of a directory, where one is required, or as a shard on some way
abbrev pub IsBadThere : (List ℕ → ℕ) → Role → List ℕ → Type 0
IsBadThere N Directory bytes = IsCanonicalDirectory None true bytes → ⊥
IsBadThere N (Shard level) bytes = IsOffWay N level bytes
IsBadThere N FileNode bytes = ⊥
IsBadThere N Leaf bytes = ⊥

-- a directory is required under this digest: it is that of the root, or of a block that is canonical as the root of a
-- directory
pub data RequiresDirectory (hash : List ℕ → List ℕ) (root : Cid) (digest : List ℕ) : Type 0 where
  AtRoot : digest ≡ root.digest → RequiresDirectory hash root digest
  AsMet : (block : List ℕ) → hash block ≡ digest → IsCanonicalDirectory None true block
      → RequiresDirectory hash root digest

-- the same of a directory that was met
abbrev pub IsRequired : (List ℕ → List ℕ) → Cid → TypedEntry → Type 0
IsRequired hash root (File e) = ⊤
IsRequired hash root (Folder e) = RequiresDirectory hash root e.cid.digest

-- such a block on a path below this root: one that is canonical as a file's node is bad as a directory only where one is
-- required
pub record IsBadOnPath (hash : List ℕ → List ℕ) (N : List ℕ → ℕ) (root : Cid) (role : Role) (bytes : List ℕ)
    : Type 0 where
  pub bad : IsBadThere N role bytes
  pub required : role ≡ Directory → IsNodeBlock bytes → RequiresDirectory hash root (hash bytes)

-- the same below what was met: no name is looked up in a file
abbrev pub IsBadUnder : (List ℕ → List ℕ) → (List ℕ → ℕ) → TypedEntry → Role → List ℕ → Type 0
IsBadUnder hash N (File e) role bytes = ⊥
IsBadUnder hash N (Folder e) role bytes = IsBadOnPath hash N e.cid role bytes

-- a block that is bad on a path below this root, or where the file at its end is read
abbrev pub IsBadLight : (List ℕ → List ℕ) → (List ℕ → ℕ) → Told → Cid → Role → List ℕ → Type 0
IsBadLight hash N told root role bytes = IsBadOnPath hash N root role bytes ⊎ IsBadInSome told role bytes
