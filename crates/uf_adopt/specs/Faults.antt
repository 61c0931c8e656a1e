-- The faults of an adoption.
use Rattle.std.specs.Prelude.{◌≡◌, ◌⊎◌, ℕ, List, Some, None, ⊤}
use Rattle.std.specs.declared.option.Option.{Option}
use Rattle.std.specs.declared.result.Result.{Result}
use Rattle.std.specs.declared.result.Result.TheVariants.{Ok, Err}
use Rattle.uf_shard.specs.declared.fault.DirFault.{DirFault}
use Rattle.uf_shard.specs.declared.fault.DirFault.TheVariants as dir
use Rattle.uf_store.specs.Calls.{OnlySaves}
use Rattle.uf_store.specs.Clashes.{IsSaving}
use Rattle.uf_store.specs.Contents.{Told}
use Rattle.uf_store.specs.Faults.{NoneIsBad}
use Rattle.uf_store.specs.Seen.{Seen}
use Rattle.uf_store.specs.declared.store.StoreFault.{StoreFault}
use Rattle.uf_store.specs.declared.store.StoreFault.TheVariants.{Missing}
use Rattle.uf_lenient.specs.Answers.{IsStoreOwn}
use Rattle.uf_lenient.specs.declared.fault.DagFault.{DagFault}
use Rattle.uf_lenient.specs.declared.fault.DagFault.TheVariants as dag
use Rattle.uf_adopt.specs.declared.fault.AdoptFault.{AdoptFault}
use Rattle.uf_adopt.specs.declared.fault.AdoptFault.TheVariants.{Dag, FileTooLong, Collision, TooBig, Store}

-- a fault of a reading: one of the store stays one of the store
abbrev pub of_reading : DagFault → AdoptFault
of_reading (dag.Store fault) = Store fault
of_reading other = Dag other

-- a fault of a directory that is built
abbrev pub of_directory : DirFault → AdoptFault
of_directory (dir.Collision first second) = Collision first second
of_directory dir.TooBig = TooBig
of_directory (dir.Store fault) = Store fault

-- the store's fault in an answer
abbrev pub adopt_fault : {A : Type 0} → Result A AdoptFault → Option StoreFault
adopt_fault (Ok a) = None
adopt_fault (Err (Dag fault)) = None
adopt_fault (Err (FileTooLong cid)) = None
adopt_fault (Err (Collision first second)) = None
adopt_fault (Err TooBig) = None
adopt_fault (Err (Store fault)) = Some fault

-- no fault of the store is reported as one of the DAG
abbrev pub TellsStoreApart : {A : Type 0} → Result A AdoptFault → Type 0
TellsStoreApart (Err (Dag (dag.Store fault))) = ⊥
TellsStoreApart other = ⊤

-- where a CID denotes no tree, also where a block is missing, nothing is written
abbrev pub SavesNone : {A : Type 0} → Result A AdoptFault → Told → Told → Type 0
SavesNone (Err (Dag fault)) before now = now ≡ before
SavesNone (Err (Store (Missing cid))) before now = now ≡ before
SavesNone other before now = ⊤

-- a fault of the store itself, and no block that is missing: the store failed, met other bytes of one digest, or there
-- was no memory
abbrev pub IsStoreFailing : StoreFault → Type 0
IsStoreFailing fault = IsStoreOwn fault ⊎ IsSaving fault

-- what a call that adopts shows and leaves
pub record OnlyAdopts {A : Type 0} (hash : List ℕ → List ℕ) (result : Result A AdoptFault) (before now : Seen)
    : Type 0 where
  pub saves : OnlySaves hash NoneIsBad (adopt_fault result) before now
  pub apart : TellsStoreApart result
