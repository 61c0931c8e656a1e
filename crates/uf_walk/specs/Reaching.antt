-- Chains of links, and what a walk comes to by them.
use Rattle.std.specs.Prelude.{◌≡◌, ◌↔◌, List, [], ◌∷◌, Contains}
use Rattle.std.specs.declared.option.Option.TheVariants.{Some}
use Rattle.uf_cid.specs.declared.cid.Cid.{Cid}
use Rattle.uf_walk.specs.Order.{Follow}

-- the links of a CID can be followed, and this CID is among them
pub record IsLinked (follow : Follow) (c e : Cid) : Type 0 where
  pub links : List Cid
  pub followed : follow c ≡ Some links
  pub among : Contains links e

-- each of these CIDs is linked by the one before it: the first by c, and d is the last
abbrev pub IsChain : Follow → Cid → List Cid → Cid → Type 0
IsChain follow c [] d = c ≡ d
IsChain follow c (e ∷ path) d = IsLinked follow c e × IsChain follow e path d

-- a chain of blocks, each of which links the next, leads from the root to the CID
pub record IsReachedBy (follow : Follow) (root c : Cid) : Type 0 where
  pub path : List Cid
  pub chain : IsChain follow root path c

-- a CID is in this list exactly where a chain leads to it from the root
abbrev pub IsWhatIsReached : Follow → Cid → List Cid → Type 0
IsWhatIsReached follow root list = (c : Cid) → (Contains list c ↔ IsReachedBy follow root c)

-- no CID comes twice
abbrev pub AreDistinct : List Cid → Type 0
AreDistinct [] = Unit {0}
AreDistinct (c ∷ list) = (Contains list c → ⊥) × AreDistinct list
