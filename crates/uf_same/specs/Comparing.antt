-- What the calls that compare answer and leave.
use Rattle.std.specs.Prelude.{◌≡◌, ℕ, List, None, Some, ⊤}
use Rattle.std.specs.declared.option.Option.{Option}
use Rattle.std.specs.declared.result.Result.{Result}
use Rattle.std.specs.declared.result.Result.TheVariants.{Ok, Err}
use Rattle.uf_cid.specs.Blocks.{IsClash, Lookup}
use Rattle.uf_cid.specs.declared.cid.Cid.{Cid}
use Rattle.uf_store.specs.declared.store.StoreFault.{StoreFault}
use Rattle.uf_store.specs.declared.store.StoreFault.TheVariants as store
use Rattle.uf_store.specs.Seen.{Seen}
use Rattle.uf_walk.specs.Turns.{HasTaken}
use Rattle.uf_walk.specs.Walked.{Walked, course}
use Rattle.uf_same.specs.declared.answer.Compared.{Compared}
use Rattle.uf_same.specs.declared.answer.Compared.TheVariants as compared
use Rattle.uf_same.specs.declared.answer.SameFault.{SameFault}
use Rattle.uf_same.specs.declared.answer.SameFault.TheVariants as fault
use Rattle.uf_same.specs.Verdict.{Verdict, follow_both, verdict_of}

-- a fault of one side: a block that is missing there, a failure, or out of memory
abbrev pub SaysOfSide : (StoreFault → SameFault) → Verdict → StoreFault → Type 0
SaysOfSide side said store.Failed = ⊤
SaysOfSide side said (store.Damaged c) = ⊤
SaysOfSide side said (store.Missing c) = said ≡ Err (side (store.Missing c))
SaysOfSide side said (store.BadBlock c role) = ⊥
SaysOfSide side said (store.Clash c a b) = ⊥
SaysOfSide side said store.Memory = ⊤

abbrev pub RefusesSame : Verdict → SameFault → Type 0
RefusesSame said (fault.NotDagPb c why) = said ≡ Err (fault.NotDagPb c why)
RefusesSame said fault.TooMany = said ≡ Err fault.TooMany
RefusesSame said (fault.Left f) = SaysOfSide fault.Left said f
RefusesSame said (fault.Right f) = SaysOfSide fault.Right said f
RefusesSame said fault.Memory = ⊤

-- the answer is the verdict; out of memory is free
abbrev pub Judges : Verdict → Verdict → Type 0
Judges said (Ok answer) = said ≡ Ok answer
Judges said (Err f) = RefusesSame said f

-- two blocks of a clash differ and have one digest
abbrev pub ShowsTwoBlocks : (List ℕ → List ℕ) → Compared → Type 0
ShowsTwoBlocks hash compared.Equal = ⊤
ShowsTwoBlocks hash compared.Differ = ⊤
ShowsTwoBlocks hash (compared.Clash c a b) = IsClash hash a b

-- the fault of each side's store in an answer
abbrev pub left_fault : {A : Type 0} → Result A SameFault → Option StoreFault
left_fault (Err (fault.Left f)) = Some f
left_fault _ = None

abbrev pub right_fault : {A : Type 0} → Result A SameFault → Option StoreFault
right_fault (Err (fault.Right f)) = Some f
right_fault _ = None

-- a load may answer this
abbrev pub IsLooking : StoreFault → Type 0
IsLooking store.Failed = ⊤
IsLooking (store.Damaged c) = ⊤
IsLooking (store.Missing c) = ⊤
IsLooking (store.BadBlock c role) = ⊥
IsLooking (store.Clash c a b) = ⊥
IsLooking store.Memory = ⊤

-- a fault of a side is one of loads
abbrev pub IsOfLoads : SameFault → Type 0
IsOfLoads (fault.NotDagPb c why) = ⊤
IsOfLoads fault.TooMany = ⊤
IsOfLoads (fault.Left f) = IsLooking f
IsOfLoads (fault.Right f) = IsLooking f
IsOfLoads fault.Memory = ⊤

-- where there is no fault of this side, no block was missing there
abbrev pub MissesNone : Option StoreFault → Seen → Seen → Type 0
MissesNone None before now = now.misses ≡ before.misses
MissesNone (Some f) before now = ⊤

-- the answer for one CID: both blocks are one and were taken, or the verdict is decided
abbrev pub ComparesAt : Lookup → Lookup → Result (Option Compared) SameFault → Walked → Walked → Type 0
ComparesAt left right (Ok None) before now =
    course (follow_both left right) now ≡ course (follow_both left right) before
ComparesAt left right (Ok (Some clash)) before now =
    verdict_of left right (course (follow_both left right) before) ≡ Ok clash
ComparesAt left right (Err f) before now =
    RefusesSame (verdict_of left right (course (follow_both left right) before)) f

-- the walk goes on where the verdict isn't decided
abbrev pub StepsOn : Result (Option Compared) SameFault → Walked → Walked → Type 0
StepsOn (Ok None) before now = HasTaken before now
StepsOn (Ok (Some clash)) before now = ⊤
StepsOn (Err f) before now = ⊤

-- the clash of these two blocks, or out of memory to show them
abbrev pub IsClashOf : Cid → List ℕ → List ℕ → Result (Option Compared) SameFault → Type 0
IsClashOf cid a b (Ok (Some clash)) = clash ≡ compared.Clash cid a b
IsClashOf cid a b (Err fault.Memory) = ⊤
IsClashOf cid a b _ = ⊥
