-- What calls that read a foreign DAG answer.
use Rattle.std.specs.Prelude.{◌≡◌, ◌⊎◌, Some, None, ⊤}
use Rattle.std.specs.declared.option.Option.{Option}
use Rattle.std.specs.declared.result.Result.{Result}
use Rattle.std.specs.declared.result.Result.TheVariants.{Ok, Err}
use Rattle.uf_store.specs.declared.store.StoreFault.{StoreFault}
use Rattle.uf_store.specs.declared.store.StoreFault.TheVariants.{Failed, Damaged, Memory}
use Rattle.uf_lenient.specs.declared.fault.DagFault.{DagFault}
use Rattle.uf_lenient.specs.declared.fault.DagFault.TheVariants.{Store}

-- the store's fault in a fault of a reading
abbrev pub store_fault_of : DagFault → Option StoreFault
store_fault_of (Store fault) = Some fault
store_fault_of other = None

-- the store's fault in an answer
abbrev pub dag_fault : {A : Type 0} → Result A DagFault → Option StoreFault
dag_fault (Ok a) = None
dag_fault (Err fault) = store_fault_of fault

-- the store failed, or there was no memory: that no reading says
abbrev pub IsStoreOwn : StoreFault → Type 0
IsStoreOwn Failed = ⊤
IsStoreOwn (Damaged cid) = ⊤
IsStoreOwn Memory = ⊤
IsStoreOwn other = ⊥

abbrev pub IsOwn : DagFault → Type 0
IsOwn (Store fault) = IsStoreOwn fault
IsOwn other = ⊥

-- the fault is the one that the reading says, or the store's own
abbrev pub IsFault : {A : Type 0} → Result A DagFault → DagFault → Type 0
IsFault said fault = IsOwn fault ⊎ (said ≡ Err fault)

-- a call answers what the reading says
abbrev pub FollowsReading : {A B : Type 0} → (A → B) → Result B DagFault → Result A DagFault → Type 0
FollowsReading view said (Ok a) = said ≡ Ok (view a)
FollowsReading view said (Err fault) = IsFault said fault

-- the fault is none of the store's, but that there may have been no memory
abbrev pub IsBare : DagFault → Type 0
IsBare (Store fault) = fault ≡ Memory
IsBare other = ⊤
