-- Blocks that are whole, and damaged ones.
use Rattle.std.specs.Prelude.{◌≡◌, ◌≢◌, ℕ, ◌<◌, ◌≤◌, ◌⊎◌, List, length, Some}
use Rattle.std.specs.FinMap.{from_entries, get}
use Rattle.uf_cid.specs.declared.cid.Cid.{Cid}
use Rattle.uf_cid.specs.Cid.{cid_cmp}

-- a block that is too long, or whose hash isn't the CID's digest
abbrev pub IsDamaged : (List ℕ → List ℕ) → Cid → List ℕ → Type 0
IsDamaged hash cid bytes = (2097152 < length bytes) ⊎ (hash bytes ≢ cid.digest)

-- a block that is neither
pub record IsWhole (hash : List ℕ → List ℕ) (cid : Cid) (bytes : List ℕ) : Type 0 where
  pub size : length bytes ≤ 2097152
  pub digest : hash bytes ≡ cid.digest

-- each of these blocks is whole
abbrev pub AreWhole : (List ℕ → List ℕ) → List (Cid × List ℕ) → Type 0
AreWhole hash blocks =
    (cid : Cid) (bytes : List ℕ) → get (from_entries {R = cid_cmp} blocks) cid ≡ Some bytes → IsWhole hash cid bytes
