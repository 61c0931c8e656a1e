-- What a fault of an intake is made of.
use Rattle.std.specs.Prelude.{Bool, true, false, Some, None, ⊤}
use Rattle.std.specs.declared.option.Option.{Option}
use Rattle.std.specs.declared.result.Result.{Result}
use Rattle.std.specs.declared.result.Result.TheVariants.{Ok, Err}
use Rattle.uf_store.specs.Clashes.{IsSaving}
use Rattle.uf_store.specs.declared.store.StoreFault.{StoreFault}
use Rattle.uf_build.specs.declared.intake_fault.IntakeFault.{IntakeFault}
use Rattle.uf_build.specs.declared.intake_fault.IntakeFault.TheVariants as faults

-- the store's fault in an answer
abbrev pub intake_fault : {A : Type 0} → Result A IntakeFault → Option StoreFault
intake_fault (Ok a) = None
intake_fault (Err (faults.Store fault)) = Some fault
intake_fault (Err other) = None

-- the answer is that the source failed
abbrev pub fails_reading : {A : Type 0} → Result A IntakeFault → Bool
fails_reading (Err faults.Read) = true
fails_reading other = false

-- a fault has its cause: there were too many bytes, the source failed, or a save did
abbrev pub IsStoppedBy : (long : Type 0) → IntakeFault → Type 0
IsStoppedBy long faults.Read = ⊤
IsStoppedBy long faults.FileTooLong = long
IsStoppedBy long (faults.Store fault) = IsSaving fault
