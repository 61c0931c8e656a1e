-- The faults that loads alone and saves alone may answer.
use Rattle.std.specs.Prelude.{◌≡◌, ℕ, List, ⊤}
use Rattle.uf_cid.specs.declared.cid.Cid.{Cid}
use Rattle.uf_store.specs.declared.store.StoreFault.{StoreFault}
use Rattle.uf_store.specs.declared.store.StoreFault.TheVariants.{Failed, Damaged, Missing, BadBlock, Clash, Memory}

-- a clash of these two blocks, or out of memory to show them
abbrev pub IsClashOr : Cid → List ℕ → List ℕ → StoreFault → Type 0
IsClashOr cid held bytes Failed = ⊥
IsClashOr cid held bytes (Damaged c) = ⊥
IsClashOr cid held bytes (Missing c) = ⊥
IsClashOr cid held bytes (BadBlock c role) = ⊥
IsClashOr cid held bytes (Clash c first second) = (c ≡ cid) × (first ≡ held) × (second ≡ bytes)
IsClashOr cid held bytes Memory = ⊤

-- a save fails, meets a clash under this CID with these bytes, or finds no memory
abbrev pub IsSaveFault : Cid → List ℕ → StoreFault → Type 0
IsSaveFault cid bytes Failed = ⊤
IsSaveFault cid bytes (Damaged c) = ⊥
IsSaveFault cid bytes (Missing c) = ⊥
IsSaveFault cid bytes (BadBlock c role) = ⊥
IsSaveFault cid bytes (Clash c first second) = (c ≡ cid) × (second ≡ bytes)
IsSaveFault cid bytes Memory = ⊤

-- a load fails, meets a damaged block or misses the block of this CID, or finds no memory
abbrev pub IsLoadFault : Cid → StoreFault → Type 0
IsLoadFault cid Failed = ⊤
IsLoadFault cid (Damaged c) = c ≡ cid
IsLoadFault cid (Missing c) = c ≡ cid
IsLoadFault cid (BadBlock c role) = ⊥
IsLoadFault cid (Clash c first second) = ⊥
IsLoadFault cid Memory = ⊤

-- a fault that saves alone can have: nothing is looked for
abbrev pub IsSaving : StoreFault → Type 0
IsSaving Failed = ⊤
IsSaving (Damaged cid) = ⊥
IsSaving (Missing cid) = ⊥
IsSaving (BadBlock cid role) = ⊥
IsSaving (Clash cid held bytes) = ⊤
IsSaving Memory = ⊤
