-- The blocks of a file, gone through from its root down.
use Rattle.std.specs.Prelude.{ℕ, zero, suc, List, [], map}
use Rattle.uf_cid.specs.Blocks.{Held}
use Rattle.uf_cid.specs.declared.cid.Cid.{Cid}
use Rattle.uf_fileread.specs.Bad.{IsBadInFile}
use Rattle.uf_store.specs.Contents.{Told}
use Rattle.uf_store.specs.declared.store.Role.{Role}
use Rattle.uf_tree.specs.declared.nodes.Part.{Part}
use Rattle.uf_tree.specs.declared.profile.Profile.{Profile}
use Rattle.uf_tree.specs.FilePlan.{groups}
use Rattle.uf_tree.specs.FileSub.{part_over, span}

-- the CIDs of these blocks, in their order
abbrev pub cids_of : List Held → List Cid
cids_of blocks = map (λ (b : Held). b.0) blocks

-- the CIDs of these parts, in their order
abbrev pub cids_in : List Part → List Cid
cids_in parts = map (λ (part : Part). part.entry.cid) parts

-- the parts right below the one of this height over these bytes
abbrev pub below : (List ℕ → List ℕ) → Profile → ℕ → List ℕ → List Part
below X p zero bytes = []
below X p (suc k) bytes = map (part_over X p.chunk p.width k) (groups (span p.chunk p.width k) bytes)

-- a block that isn't canonical where some file has it
abbrev pub IsBadInSome : Told → Role → List ℕ → Type 0
IsBadInSome told role bytes = (file : Cid) × IsBadInFile told file role bytes
