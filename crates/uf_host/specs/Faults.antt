-- What a fault of an import or an export is made of.
use Rattle.std.specs.Prelude.{◌≡◌, Bool, true, false, Some, None, ⊤}
use Rattle.std.specs.declared.option.Option.{Option}
use Rattle.std.specs.declared.result.Result.{Result}
use Rattle.std.specs.declared.result.Result.TheVariants.{Ok, Err}
use Rattle.uf_lenient.specs.Answers.{store_fault_of}
use Rattle.uf_lenient.specs.declared.fault.DagFault.{DagFault}
use Rattle.uf_lenient.specs.declared.fault.DagFault.TheVariants as dag
use Rattle.uf_shard.specs.declared.fault.DirFault.{DirFault}
use Rattle.uf_shard.specs.declared.fault.DirFault.TheVariants as directory
use Rattle.uf_store.specs.Clashes.{IsSaving}
use Rattle.uf_store.specs.declared.store.StoreFault.{StoreFault}
use Rattle.uf_store.specs.declared.store.StoreFault.TheVariants.{Memory}
use Rattle.uf_host.specs.declared.fault.HostFault.{HostFault}
use Rattle.uf_host.specs.declared.fault.HostFault.TheVariants.{Absent, NeedsRecursive, Exists, TooDeep, Collision}
use Rattle.uf_host.specs.declared.fault.HostFault.TheVariants.{TooBig, Read, Write, Dag, Store}

-- a fault of building a directory
abbrev pub of_directory : DirFault → HostFault
of_directory (directory.Collision first second) = Collision first second
of_directory directory.TooBig = TooBig
of_directory (directory.Store fault) = Store fault

-- the store's fault in a fault
abbrev pub store_part : HostFault → Option StoreFault
store_part (Store fault) = Some fault
store_part (Dag fault) = store_fault_of fault
store_part other = None

-- the store's fault in an answer
abbrev pub edge_fault : {A : Type 0} → Result A HostFault → Option StoreFault
edge_fault (Ok a) = None
edge_fault (Err fault) = store_part fault

-- the answer is that the host failed at reading
abbrev pub is_read_fault : {A : Type 0} → Result A HostFault → Bool
is_read_fault (Err Read) = true
is_read_fault other = false

-- the answer is that the host failed at writing
abbrev pub is_write_fault : {A : Type 0} → Result A HostFault → Bool
is_write_fault (Err Write) = true
is_write_fault other = false

-- a fault of a reading: one of the store stays one of the store
abbrev pub fault_of_reading : DagFault → HostFault
fault_of_reading (dag.Store fault) = Store fault
fault_of_reading other = Dag other

-- the faults of an export once it writes: the host's at writing, those of a reading, and the store's
abbrev pub IsPutFault : HostFault → Type 0
IsPutFault Write = ⊤
IsPutFault (Dag fault) = ⊤
IsPutFault (Store fault) = ⊤
IsPutFault other = ⊥

-- the same of a whole export, which looks for room first
abbrev pub IsGetFault : HostFault → Type 0
IsGetFault Absent = ⊤
IsGetFault Exists = ⊤
IsGetFault Read = ⊤
IsGetFault other = IsPutFault other

-- the host failed at reading, a save failed, or it is said to be so; no import has a fault of an export
abbrev pub IsSaidOr : (HostFault → Type 0) → HostFault → Type 0
IsSaidOr Said Read = ⊤
IsSaidOr Said (Store fault) = IsSaving fault
IsSaidOr Said Exists = ⊥
IsSaidOr Said Write = ⊥
IsSaidOr Said (Dag fault) = ⊥
IsSaidOr Said other = Said other

-- the host failed at reading, there was no memory, or it is said to be so: what a call without a store has
abbrev pub IsSaidOrBare : (HostFault → Type 0) → HostFault → Type 0
IsSaidOrBare Said Read = ⊤
IsSaidOrBare Said (Store fault) = fault ≡ Memory
IsSaidOrBare Said Exists = ⊥
IsSaidOrBare Said Write = ⊥
IsSaidOrBare Said (Dag fault) = ⊥
IsSaidOrBare Said other = Said other

-- the fault of a walk over no level of folders, where they weren't asked for
abbrev pub for_one : HostFault → HostFault
for_one (TooDeep path) = NeedsRecursive
for_one other = other
