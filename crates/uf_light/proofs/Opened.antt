-- A CAR that is read for its check.
use Rattle.std.proofs.Common.{◌≡◌, ℕ, List, [], ◌∷◌, length, take, arith, Bool, true, false, refl, sym, ap, subst, ◌∙◌, Some, None, Result, Ok, Err}
use Rattle.std.proofs.lemmas.List.{take_all}
use Rattle.std.specs.Prelude.{IfSome, if◌then◌else◌}
use Rattle.std.specs.Ordering.{eq_by_cmp}
use Rattle.uf_car.specs.Clashing.{sections_clash}
use Rattle.uf_car.specs.Importing.{KeepsAll, RefusesCar, is_source_fault, stops, store_fault, with_saves}
use Rattle.uf_car.specs.Reading.{Read}
use Rattle.uf_car.specs.declared.fault.CarFault.{CarFault}
use Rattle.uf_car.specs.declared.fault.CarFault.TheVariants as car
use Rattle.uf_car.specs.declared.fault.Imported.{Imported}
use Rattle.uf_cid.specs.Blocks.{Held, IsClash}
use Rattle.uf_cid.specs.Cid.{cid_cmp}
use Rattle.uf_cid.specs.declared.cid.Cid.{Cid}
use Rattle.uf_store.specs.Clashes.{IsSaving}
use Rattle.uf_store.specs.Contents.{changed}
use Rattle.uf_store.specs.Faults.{NoneIsBad, Shown}
use Rattle.uf_store.specs.InMemory.{no_contents}
use Rattle.uf_store.specs.Seen.{Seen}
use Rattle.uf_store.specs.Writing.{SavesOnly}
use Rattle.uf_store.specs.declared.store.StoreFault.TheVariants as store
use Rattle.uf_light.specs.declared.fault.LightFault.{LightFault}
use Rattle.uf_light.specs.declared.fault.LightFault.TheVariants as fault
use Rattle.uf_light.specs.Answers.{answered_root, is_light_read, light_fault, of_car, one_root, opened, same_root, unless_clash}
use Rattle.uf_light.specs.Opening.{IsOfCar, Opens}
use Rattle.uf_light.proofs.Saving.{clash-is, now-is, sound-all, two-are}

-- ---- the fault of a reading as that of a check

pub of-car-fault : (f : CarFault) → light_fault {A = Unit} (Err (of_car f)) ≡ store_fault f
of-car-fault (car.Truncated place) = refl
of-car-fault car.Header = refl
of-car-fault (car.Version v) = refl
of-car-fault (car.BadCid place) = refl
of-car-fault (car.WrongDigest place c) = refl
of-car-fault (car.TooBigBlock place size) = refl
of-car-fault (car.TooManyRoots n) = refl
of-car-fault (car.BadLength place) = refl
of-car-fault car.TooLong = refl
of-car-fault car.Read = refl
of-car-fault (car.Store f) = refl

pub of-car-read : (f : CarFault) → is_light_read {A = Unit} (Err (of_car f)) ≡ is_source_fault {A = Imported} (Err f)
of-car-read (car.Truncated place) = refl
of-car-read car.Header = refl
of-car-read (car.Version v) = refl
of-car-read (car.BadCid place) = refl
of-car-read (car.WrongDigest place c) = refl
of-car-read (car.TooBigBlock place size) = refl
of-car-read (car.TooManyRoots n) = refl
of-car-read (car.BadLength place) = refl
of-car-read car.TooLong = refl
of-car-read car.Read = refl
of-car-read (car.Store f) = refl

pub of-car-form : (f : CarFault) → IsOfCar (of_car f)
of-car-form (car.Truncated place) = tt
of-car-form car.Header = tt
of-car-form (car.Version v) = tt
of-car-form (car.BadCid place) = tt
of-car-form (car.WrongDigest place c) = tt
of-car-form (car.TooBigBlock place size) = tt
of-car-form (car.TooManyRoots n) = tt
of-car-form (car.BadLength place) = tt
of-car-form car.TooLong = tt
of-car-form car.Read = tt
of-car-form (car.Store f) = tt

-- ---- what the CAR says

module _ (X : List ℕ → List ℕ) (root : Cid) (r : Read (List Cid)) (before now : Seen) (empty : before.told ≡ Some no_contents) (saves : SavesOnly X before.told now.told) where
  said-of : sections_clash r.sections ≡ None → opened root r ≡ same_root root (answered_root r.answer)
  said-of none = ap (λ t. unless_clash t (same_root root (answered_root r.answer))) none

  -- a fault of its form
  ruled : (f : CarFault) → stops f ≡ false → RefusesCar r f before.told now.told → opened root r ≡ Err (fault.Car f)
  ruled f plain refuses =
      let all : take refuses.kept.count r.sections ≡ r.sections = take_all refuses.kept.count r.sections (let e = refuses.kept.all plain in omega (arith, e)) in
      let kept : now.told ≡ changed (with_saves r.sections) before.told = refuses.kept.kept ∙ ap (λ (xs : List Held). changed (with_saves xs) before.told) all in
      said-of (sound-all X before.told now.told empty saves r.sections kept) ∙ ap (λ a. same_root root (answered_root a)) (refuses.said plain)

  form : (f : CarFault) → light_fault {A = Unit} (Err (fault.Car f)) ≡ None
  form f = refl

  -- two sections that clash
  clashed : (c : Cid) (first second : List ℕ) → RefusesCar r (car.Store (store.Clash c first second)) before.told now.told → IsClash X first second → Opens X root r (Err (fault.Store (store.Clash c first second))) now
  clashed c first second refuses clash =
      let next = refuses.kept.next in record {
        says = ap (λ t. unless_clash t (same_root root (answered_root r.answer)))
            (clash-is X before.told now.told empty saves r.sections refuses.kept.count refuses.kept.kept c first second next.0 next.1 next.2 clash);
        two = (two-are X before.told now.told empty saves r.sections refuses.kept.count refuses.kept.kept c first second next.0 next.1 next.2, clash);
      }

  -- a CAR that is refused
  pub opens-refused : (f : CarFault) → RefusesCar r f before.told now.told → Shown X NoneIsBad (store_fault f) before now → IfSome (store_fault f) IsSaving → Opens X root r (Err (of_car f)) now
  opens-refused (car.Truncated place) h cause saving = record { says = ruled (car.Truncated place) refl h; two = tt }
  opens-refused car.Header h cause saving = record { says = ruled car.Header refl h; two = tt }
  opens-refused (car.Version v) h cause saving = record { says = ruled (car.Version v) refl h; two = tt }
  opens-refused (car.BadCid place) h cause saving = record { says = ruled (car.BadCid place) refl h; two = tt }
  opens-refused (car.WrongDigest place c) h cause saving = record { says = ruled (car.WrongDigest place c) refl h; two = tt }
  opens-refused (car.TooBigBlock place size) h cause saving = record { says = ruled (car.TooBigBlock place size) refl h; two = tt }
  opens-refused (car.TooManyRoots n) h cause saving = record { says = ruled (car.TooManyRoots n) refl h; two = tt }
  opens-refused (car.BadLength place) h cause saving = record { says = ruled (car.BadLength place) refl h; two = tt }
  opens-refused car.TooLong h cause saving = record { says = ruled car.TooLong refl h; two = tt }
  opens-refused car.Read h cause saving = record { says = tt; two = tt }
  opens-refused (car.Store store.Failed) h cause saving = record { says = tt; two = tt }
  opens-refused (car.Store (store.Damaged c)) h cause saving = absurd saving
  opens-refused (car.Store (store.Missing c)) h cause saving = absurd saving
  opens-refused (car.Store (store.BadBlock c role)) h cause saving = absurd saving
  opens-refused (car.Store (store.Clash c first second)) h cause saving = clashed c first second h cause.clash
  opens-refused (car.Store store.Memory) h cause saving = record { says = tt; two = tt }

  -- a CAR that is read whole
  module _ (roots : List Cid) (blocks : ℕ) (keeps : KeepsAll r roots blocks before.told now.told) where
    by-roots : opened root r ≡ same_root root (one_root roots)
    by-roots = said-of (sound-all X before.told now.told empty saves r.sections keeps.kept) ∙ ap (λ a. same_root root (answered_root a)) keeps.said

    -- it has not one root
    pub opens-many : (g : LightFault) → one_root roots ≡ Err g → Opens X root r (Err g) now
    opens-many g is = by roots is (by-roots ∙ ap (same_root root) is)
      where
        raised : (n : ℕ) → ◌≡◌ {A = Result Cid LightFault} (Err (fault.Car (car.TooManyRoots n))) (Err g) → opened root r ≡ Err g → Opens X root r (Err g) now
        raised n e said =
            let same : fault.Car (car.TooManyRoots n) ≡ g = cc in
            subst (λ (g : LightFault). Opens X root r (Err g) now) same (record { says = said ∙ ap (λ (g : LightFault). Err g) (sym same); two = tt })

        by : (roots : List Cid) → one_root roots ≡ Err g → opened root r ≡ Err g → Opens X root r (Err g) now
        by [] e said = raised 0 e said
        by (a ∷ []) e said = absurd (let no : ◌≡◌ {A = Result Cid LightFault} (Ok a) (Err g) = e in cc)
        by (a ∷ b ∷ more) e said = raised (length (a ∷ b ∷ more)) e said

    pub opens-one : (found : Cid) → one_root roots ≡ Ok found → eq_by_cmp cid_cmp found root ≡ true → Opens X root r (Ok tt) now
    opens-one found is same = record {
      says = (
        by-roots ∙ ap (same_root root) is ∙ ap (λ (b : Bool). if b then Ok tt else Err (fault.OtherRoot found)) same,
        now-is X before.told now.told empty saves r.sections keeps.kept,
      );
      two = tt;
    }

    pub opens-other : (found : Cid) → one_root roots ≡ Ok found → eq_by_cmp cid_cmp found root ≡ false → Opens X root r (Err (fault.OtherRoot found)) now
    opens-other found is other = record {
      says = by-roots ∙ ap (same_root root) is ∙ ap (λ (b : Bool). if b then Ok tt else Err (fault.OtherRoot found)) other;
      two = tt;
    }

-- ---- the form of a fault of the roots

pub roots-form : (roots : List Cid) (g : LightFault) → one_root roots ≡ Err g → (light_fault {A = Unit} (Err g) ≡ None) × ((is_light_read {A = Unit} (Err g) ≡ false) × IsOfCar g)
roots-form roots g is = by roots is
  where
    raised : (n : ℕ) → ◌≡◌ {A = Result Cid LightFault} (Err (fault.Car (car.TooManyRoots n))) (Err g) → (light_fault {A = Unit} (Err g) ≡ None) × ((is_light_read {A = Unit} (Err g) ≡ false) × IsOfCar g)
    raised n e = let same : fault.Car (car.TooManyRoots n) ≡ g = cc in subst (λ (g : LightFault). (light_fault {A = Unit} (Err g) ≡ None) × ((is_light_read {A = Unit} (Err g) ≡ false) × IsOfCar g)) same (refl, (refl, tt))

    by : (roots : List Cid) → one_root roots ≡ Err g → (light_fault {A = Unit} (Err g) ≡ None) × ((is_light_read {A = Unit} (Err g) ≡ false) × IsOfCar g)
    by [] e = raised 0 e
    by (a ∷ []) e = absurd (let no : ◌≡◌ {A = Result Cid LightFault} (Ok a) (Err g) = e in cc)
    by (a ∷ b ∷ more) e = raised (length (a ∷ b ∷ more)) e
