-- Blocks as a written CAR has them.
use Rattle.std.specs.Prelude.{◌≡◌, ◌≤◌, ℕ, List, length}
use Rattle.std.specs.List.{AllByRecursion}
use Rattle.uf_cid.specs.Blocks.{Held}
use Rattle.uf_cid.specs.Read.{IsCid}

-- a block under the CID of its digest, no longer than a store may hold
pub record IsSound (hash : List ℕ → List ℕ) (b : Held) : Type 0 where
  pub cid : IsCid b.0
  pub digest : hash b.1 ≡ b.0.digest
  pub short : length b.1 ≤ 2097152

-- the block is that short
abbrev pub IsShort : Held → Type 0
IsShort b = length b.1 ≤ 2097152

-- each of these is
abbrev pub AreSound : (List ℕ → List ℕ) → List Held → Type 0
AreSound hash blocks = AllByRecursion (IsSound hash) blocks
