-- What calls over a store leave of what is told.
use Rattle.std.specs.Prelude.{◌≡◌, ℕ, List, Bool, true, false, Some, None, IfSome}
use Rattle.std.specs.List.{AllByRecursion}
use Rattle.uf_cid.specs.declared.cid.Cid.{Cid}
use Rattle.uf_cid.specs.Blocks as blocks
use Rattle.uf_store.specs.Contents.{Told, held_at}

-- where the store tells, it holds this block under this CID
abbrev pub HoldsOne : Told → Cid → List ℕ → Type 0
HoldsOne told cid bytes = IfSome told (λ t. held_at t cid ≡ Some bytes)

-- where the store tells, it holds each of these blocks
abbrev pub Holds : Told → List blocks.Held → Type 0
Holds told l = IfSome told (λ t. blocks.Holds (held_at t) l)

-- the store tells, and under the CID of each of these blocks it holds that block or none
abbrev pub Agrees : Told → List blocks.Held → Type 0
Agrees None l = ⊥
Agrees (Some t) l = blocks.Agrees (held_at t) l

-- the store agrees with these blocks before a call and still does after it: no save gave one of their CIDs other bytes
pub record StaysAgreed (before now : Told) (l : List blocks.Held) : Type 0 where
  pub first : Agrees before l
  pub last : Agrees now l

-- each of these blocks has its CID's digest
abbrev pub AreGood : (List ℕ → List ℕ) → List blocks.Held → Type 0
AreGood hash l = AllByRecursion (λ (b : blocks.Held). hash b.1 ≡ b.0.digest) l

-- the store tells
abbrev pub tells : Told → Bool
tells None = false
tells (Some t) = true

-- the store tells or doesn't, as before, and each block that was held and has its CID's digest is held
pub record KeepsGood (hash : List ℕ → List ℕ) (before now : Told) : Type 0 where
  pub alike : tells now ≡ tells before
  pub stays : (c : Cid) (b : List ℕ) → HoldsOne before c b → hash b ≡ c.digest → HoldsOne now c b
