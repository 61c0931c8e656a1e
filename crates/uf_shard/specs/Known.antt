-- Blocks that are held or old ones.
use Rattle.std.specs.Prelude.{◌≡◌, ◌⊎◌, List, [], ◌∷◌}
use Rattle.std.specs.List.{AllByRecursion}
use Rattle.uf_cid.specs.Blocks.{Held}
use Rattle.uf_store.specs.Contents.{Told}
use Rattle.uf_store.specs.Keeping.{Holds}

-- the block is one of these
abbrev pub IsIn : Held → List Held → Type 0
IsIn b [] = ⊥
IsIn b (a ∷ l) = (b ≡ a) ⊎ IsIn b l

-- the block is held, where the store tells, or it is one of the old ones
abbrev pub IsKnown : Told → List Held → Held → Type 0
IsKnown told old b = Holds told (b ∷ []) ⊎ IsIn b old

-- each of these blocks is
abbrev pub AreKnown : Told → List Held → List Held → Type 0
AreKnown told old l = AllByRecursion (IsKnown told old) l
