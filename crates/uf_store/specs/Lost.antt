-- Answers that rest on blocks of which some may be lost.
use Rattle.std.specs.Prelude.{◌≡◌, ◌⊎◌, List, [], ◌∷◌, IfSome, Some, None, ⊤}
use Rattle.std.specs.List.{AllByRecursion}
use Rattle.std.specs.declared.result.Result.{Result}
use Rattle.std.specs.declared.result.Result.TheVariants.{Ok, Err}
use Rattle.uf_cid.specs.declared.cid.Cid.{Cid}
use Rattle.uf_cid.specs.Blocks.{Held, Lookup}
use Rattle.uf_store.specs.declared.store.StoreFault.{StoreFault}
use Rattle.uf_store.specs.declared.store.StoreFault.TheVariants.{Failed, Damaged, Missing, BadBlock, Clash, Memory}
use Rattle.uf_store.specs.Contents.{Told, held_at}
use Rattle.uf_store.specs.Keeping.{Agrees, Holds}

-- the CID is that of the first of these blocks that isn't held
abbrev pub IsFirstLost : Lookup → Cid → List Held → Type 0
IsFirstLost held cid [] = ⊥
IsFirstLost held cid (b ∷ l) = ((cid ≡ b.0) × (held b.0 ≡ None)) ⊎ ((held b.0 ≡ Some b.1) × IsFirstLost held cid l)

-- the CID is that of one of these blocks, which isn't held
abbrev pub IsLost : Lookup → Cid → List Held → Type 0
IsLost held cid [] = ⊥
IsLost held cid (b ∷ l) = ((cid ≡ b.0) × (held b.0 ≡ None)) ⊎ IsLost held cid l

-- where the store tells, the CID is that of the first of these blocks that it doesn't hold
abbrev pub LosesFirst : Told → Cid → List Held → Type 0
LosesFirst told cid l = IfSome told (λ t. IsFirstLost (held_at t) cid l)

-- where the store tells, the CID is that of one of these blocks, which it doesn't hold
abbrev pub LosesOne : Told → Cid → List Held → Type 0
LosesOne told cid l = IfSome told (λ t. IsLost (held_at t) cid l)

-- where these blocks are held the answer is this value, else the first of them that isn't held is missing; out of
-- memory may come too
abbrev pub FindsOver : {A : Type 0} → Told → List Held → A → Result A StoreFault → Type 0
FindsOver told l value (Ok a) = (a ≡ value) × Holds told l
FindsOver told l value (Err Failed) = ⊥
FindsOver told l value (Err (Damaged cid)) = ⊥
FindsOver told l value (Err (Missing cid)) = LosesFirst told cid l
FindsOver told l value (Err (BadBlock cid role)) = ⊥
FindsOver told l value (Err (Clash cid held bytes)) = ⊥
FindsOver told l value (Err Memory) = ⊤

-- the fault is that one of these blocks is lost, or out of memory
abbrev pub IsLossOf : Told → List Held → StoreFault → Type 0
IsLossOf told l Failed = ⊥
IsLossOf told l (Damaged cid) = ⊥
IsLossOf told l (Missing cid) = LosesOne told cid l
IsLossOf told l (BadBlock cid role) = ⊥
IsLossOf told l (Clash cid held bytes) = ⊥
IsLossOf told l Memory = ⊤

-- the answer is this value, or one of these blocks that isn't held is missing; out of memory is free
abbrev pub ReadsOver : {A : Type 0} → Told → List Held → A → Result A StoreFault → Type 0
ReadsOver told l value (Ok a) = a ≡ value
ReadsOver told l value (Err fault) = IsLossOf told l fault

-- the block is one of these, under whose CID none is held
abbrev pub IsLostBlock : Lookup → Held → List Held → Type 0
IsLostBlock held block [] = ⊥
IsLostBlock held block (b ∷ l) = ((block ≡ b) × (held b.0 ≡ None)) ⊎ IsLostBlock held block l

-- where the store tells, the block is one of these, and it isn't held
abbrev pub LosesBlock : Told → Held → List Held → Type 0
LosesBlock told block l = IfSome told (λ t. IsLostBlock (held_at t) block l)

-- what is held agrees with the new blocks, and each of them that isn't held is one of the old blocks that wasn't held
-- before
abbrev pub AgreesAfter : Told → Told → List Held → List Held → Type 0
AgreesAfter before None old new = ⊥
AgreesAfter before (Some t) old new =
    Agrees (Some t) new × AllByRecursion (λ (b : Held). held_at t b.0 ≡ None → LosesBlock before b old) new
