-- A check of a proof that was made: where it stops.
use Rattle.std.proofs.Common.{◌≡◌, ◌≤◌, ℕ, List, Bool, true, length, arith, refl, sym, subst, Result, Ok, Err}
use Rattle.std.specs.Prelude.{IfErr}
use Rattle.uf_car.specs.Reading.{car_read}
use Rattle.uf_car.specs.declared.fault.CarFault.TheVariants as car
use Rattle.uf_cid.specs.declared.cid.Cid.{Cid}
use Rattle.uf_edge.specs.Counts.{Counts, Stood}
use Rattle.uf_edge.specs.Streams.{Told as SinkTold}
use Rattle.uf_store.specs.declared.store.StoreFault.TheVariants as store
use Rattle.uf_tree.specs.TreePlan.{blocks}
use Rattle.uf_tree.specs.Validity.{IsHash}
use Rattle.uf_plain.specs.Edits.{at}
use Rattle.uf_plain.specs.Needs.{needs_at}
use Rattle.uf_light.specs.declared.fault.LightFault.{LightFault}
use Rattle.uf_light.specs.declared.fault.LightFault.TheVariants as fault
use Rattle.uf_light.specs.Accepting.{IsProof}
use Rattle.uf_light.specs.Answers.{CountsSink, IsBehindCar, file_needs, is_light_read, is_light_sink, opened}
use Rattle.uf_light.specs.Checking.{keeping_fault, reading_fault}
use Rattle.uf_light.specs.Light.{light_says, light_text}
use Rattle.uf_light.specs.Opening.{IsStopOr}
use Rattle.uf_light.specs.Sections.{AnswersTree, IsOkOrMemory}
use Rattle.uf_light.specs.Sending.{IsNoCar}
use Rattle.uf_light.proofs.Accepting.{accepted, opens-light}

-- a count that didn't rise counted no fault
pub not-counted : (b : Bool) (before now : ℕ) → Counts b before now → Stood before now → b ≡ true → ⊥
not-counted b before now counts stood is = let rose = counts.rose is in omega (arith, rose, stood)

abbrev Opened : LightFault → Type 0
Opened f = ◌≡◌ {A = Result Unit LightFault} (Ok tt) (Err f)

-- the sections of a CAR that isn't refused weren't kept: the source failed, or it was out of memory
pub opening-stops : (f : LightFault) → IsStopOr (Ok tt) f → (is_light_read {A = Unit} (Err f) ≡ true → ⊥) → IsOkOrMemory (Err (keeping_fault f))
opening-stops (fault.NotFound k) h calm = absurd (let no : Opened (fault.NotFound k) = h in cc)
opening-stops (fault.NotADirectory k) h calm = absurd (let no : Opened (fault.NotADirectory k) = h in cc)
opening-stops fault.IsADirectory h calm = absurd (let no : Opened fault.IsADirectory = h in cc)
opening-stops fault.Exists h calm = absurd (let no : Opened fault.Exists = h in cc)
opening-stops (fault.OtherRoot c) h calm = absurd (let no : Opened (fault.OtherRoot c) = h in cc)
opening-stops (fault.Car (car.Truncated n)) h calm = absurd (let no : Opened (fault.Car (car.Truncated n)) = h in cc)
opening-stops (fault.Car car.Header) h calm = absurd (let no : Opened (fault.Car car.Header) = h in cc)
opening-stops (fault.Car (car.Version v)) h calm = absurd (let no : Opened (fault.Car (car.Version v)) = h in cc)
opening-stops (fault.Car (car.BadCid n)) h calm = absurd (let no : Opened (fault.Car (car.BadCid n)) = h in cc)
opening-stops (fault.Car (car.WrongDigest n c)) h calm = absurd (let no : Opened (fault.Car (car.WrongDigest n c)) = h in cc)
opening-stops (fault.Car (car.TooBigBlock n m)) h calm = absurd (let no : Opened (fault.Car (car.TooBigBlock n m)) = h in cc)
opening-stops (fault.Car (car.TooManyRoots n)) h calm = absurd (let no : Opened (fault.Car (car.TooManyRoots n)) = h in cc)
opening-stops (fault.Car (car.BadLength n)) h calm = absurd (let no : Opened (fault.Car (car.BadLength n)) = h in cc)
opening-stops (fault.Car car.TooLong) h calm = absurd (let no : Opened (fault.Car car.TooLong) = h in cc)
opening-stops (fault.Car car.Read) h calm = absurd (calm refl)
opening-stops (fault.Car (car.Store f)) h calm = absurd (let no : Opened (fault.Car (car.Store f)) = h in cc)
opening-stops fault.Sink h calm = absurd (let no : Opened fault.Sink = h in cc)
opening-stops (fault.Store store.Failed) h calm = refl
opening-stops (fault.Store (store.Damaged c)) h calm = absurd (let no : Opened (fault.Store (store.Damaged c)) = h in cc)
opening-stops (fault.Store (store.Missing c)) h calm = absurd (let no : Opened (fault.Store (store.Missing c)) = h in cc)
opening-stops (fault.Store (store.BadBlock c role)) h calm = absurd (let no : Opened (fault.Store (store.BadBlock c role)) = h in cc)
opening-stops (fault.Store (store.Clash c a b)) h calm = absurd (let no : Opened (fault.Store (store.Clash c a b)) = h in cc)
opening-stops (fault.Store store.Memory) h calm = refl

-- a fault of what is read behind the CAR is none of the CAR
pub reads-behind : (f : LightFault) → IsNoCar f → IsBehindCar (reading_fault f)
reads-behind (fault.NotFound k) h = tt
reads-behind (fault.NotADirectory k) h = tt
reads-behind fault.IsADirectory h = tt
reads-behind fault.Exists h = tt
reads-behind (fault.OtherRoot c) h = absurd h
reads-behind (fault.Car f) h = absurd h
reads-behind fault.Sink h = tt
reads-behind (fault.Store store.Failed) h = tt
reads-behind (fault.Store (store.Damaged c)) h = tt
reads-behind (fault.Store (store.Missing c)) h = tt
reads-behind (fault.Store (store.BadBlock c role)) h = tt
reads-behind (fault.Store (store.Clash c a b)) h = tt
reads-behind (fault.Store store.Memory) h = tt

-- and of the sink where it was
pub sink-as : (f : LightFault) → is_light_sink {A = ℕ} (Err (reading_fault f)) ≡ is_light_sink {A = ℕ} (Err f)
sink-as (fault.NotFound k) = refl
sink-as (fault.NotADirectory k) = refl
sink-as fault.IsADirectory = refl
sink-as fault.Exists = refl
sink-as (fault.OtherRoot c) = refl
sink-as (fault.Car f) = refl
sink-as fault.Sink = refl
sink-as (fault.Store store.Failed) = refl
sink-as (fault.Store (store.Damaged c)) = refl
sink-as (fault.Store (store.Missing c)) = refl
sink-as (fault.Store (store.BadBlock c role)) = refl
sink-as (fault.Store (store.Clash c a b)) = refl
sink-as (fault.Store store.Memory) = refl

module _ (X : List ℕ → List ℕ) (good : IsHash X) (N : List ℕ → ℕ) (root : Cid) (names : List (List ℕ)) (absent : Bool) (limit : ℕ) (said bytes : List ℕ) (proof : IsProof X N root names absent said bytes)
    (few : length bytes ≤ limit) where
  short : length (light_text X N proof.p proof.height names proof.t) ≤ limit
  short = subst (λ (b : List ℕ). length b ≤ limit) proof.text few

  -- the CAR of a proof isn't refused
  pub proof-is-opened : opened root (car_read X limit bytes) ≡ Ok tt
  proof-is-opened = subst (λ (b : List ℕ). opened root (car_read X limit b) ≡ Ok tt) (sym proof.text) (opens-light X good N proof.p proof.t root names absent proof.height limit proof.held said proof.tree proof.blocks_held proof.tall proof.says short)

  -- nor is what it shows
  pub proof-is-accepted : (r : Result ℕ LightFault) (out out_now : SinkTold) (faults faults_now : ℕ) → IfErr r IsBehindCar
      → AnswersTree X (car_read X limit bytes).sections (blocks X N proof.p proof.t) (needs_at X N proof.p (file_needs X proof.p proof.height) names proof.t) (light_says absent names (at 0 names proof.t)) r out out_now
      → CountsSink (is_light_sink r) faults faults_now → Stood faults faults_now → IsOkOrMemory r
  proof-is-accepted r out out_now faults faults_now behind answers counts stood =
      accepted X good N proof.p proof.t root names absent proof.height limit proof.held said proof.tree proof.blocks_held proof.tall proof.says short r out out_now faults faults_now behind
      (subst (λ (b : List ℕ). AnswersTree X (car_read X limit b).sections (blocks X N proof.p proof.t) (needs_at X N proof.p (file_needs X proof.p proof.height) names proof.t) (light_says absent names (at 0 names proof.t)) r out out_now) proof.text answers)
      counts stood
