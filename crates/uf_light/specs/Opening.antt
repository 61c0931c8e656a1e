-- What becomes of a CAR that is read into an empty store for its check.
use Rattle.std.specs.Prelude.{◌≡◌, ℕ, List, Some, IfSome}
use Rattle.std.specs.declared.result.Result.{Result}
use Rattle.std.specs.declared.result.Result.TheVariants.{Ok, Err}
use Rattle.uf_cid.specs.Blocks.{IsClash}
use Rattle.uf_cid.specs.declared.cid.Cid.{Cid}
use Rattle.uf_car.specs.Clashing.{HasTwo}
use Rattle.uf_car.specs.Importing.{IfClash}
use Rattle.uf_car.specs.Reading.{Read}
use Rattle.uf_car.specs.declared.fault.CarFault.TheVariants as car
use Rattle.uf_store.specs.InMemory.{no_contents}
use Rattle.uf_store.specs.Seen.{Seen}
use Rattle.uf_store.specs.declared.store.StoreFault.TheVariants as store
use Rattle.uf_light.specs.declared.fault.LightFault.{LightFault}
use Rattle.uf_light.specs.declared.fault.LightFault.TheVariants as fault
use Rattle.uf_light.specs.Answers.{light_fault, opened}
use Rattle.uf_light.specs.Sections.{sections_told}

-- the reading was stopped, which is no fault of the CAR, or the CAR is refused so
abbrev pub IsStopOr : Result Unit LightFault → LightFault → Type 0
IsStopOr said (fault.Car car.Read) = Unit {0}
IsStopOr said (fault.Store store.Failed) = Unit {0}
IsStopOr said (fault.Store store.Memory) = Unit {0}
IsStopOr said f = said ≡ Err f

-- the fault is one of the CAR, of its root or of the store
abbrev pub IsOfCar : LightFault → Type 0
IsOfCar (fault.Car f) = Unit {0}
IsOfCar (fault.OtherRoot c) = Unit {0}
IsOfCar (fault.Store f) = Unit {0}
IsOfCar f = ⊥

-- all sections are held where the CAR isn't refused, and else it is refused as it has to be, or the reading was stopped
abbrev pub SaysOpened : Cid → Read (List Cid) → Result Unit LightFault → Seen → Type 0
SaysOpened root car (Ok done) now = (opened root car ≡ Ok tt) × (now.told ≡ sections_told car.sections)
SaysOpened root car (Err f) now = IsStopOr (opened root car) f

-- a CAR read into a store that holds nothing: what it says, and of a clash two sections
pub record Opens (hash : List ℕ → List ℕ) (root : Cid) (car : Read (List Cid)) (result : Result Unit LightFault) (now : Seen)
    : Type 0 where
  pub says : SaysOpened root car result now
  pub two : IfSome (light_fault result) (IfClash (λ c first second. HasTwo car.sections c first second
      × IsClash hash first second))

abbrev pub OpensCar : (List ℕ → List ℕ) → Cid → Read (List Cid) → Result Unit LightFault → Seen → Seen → Type 0
OpensCar hash root car result before now = before.told ≡ Some no_contents → Opens hash root car result now
