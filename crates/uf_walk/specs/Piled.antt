-- A pile of chunks of CIDs.
use Rattle.std.specs.Prelude.{◌≡◌, ◌≤◌, List, [], ◌∷◌, ◌++◌, length}
use Rattle.std.specs.List.{AllByRecursion}
use Rattle.uf_cid.specs.declared.cid.Cid.{Cid}

-- the CIDs of chunks that lie on each other, the lowest chunk first in the list, from the top down
abbrev pub piled : List (List Cid) → List Cid
piled [] = []
piled (chunk ∷ above) = piled above ++ chunk

-- a chunk on top of others
abbrev pub whole_pile : List Cid → List (List Cid) → List Cid
whole_pile top below = top ++ piled below

-- no chunk is empty
abbrev pub AreSome : List (List Cid) → Type 0
AreSome chunks = AllByRecursion (λ (chunk : List Cid). 1 ≤ length chunk) chunks

-- the chunk on top is empty only where nothing is below it, and no chunk below is empty
pub record IsPiled (top : List Cid) (below : List (List Cid)) : Type 0 where
  pub some : AreSome below
  pub first : top ≡ [] → below ≡ []
