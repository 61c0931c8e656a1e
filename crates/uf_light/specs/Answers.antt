-- What the calls on light proofs answer.
use Rattle.std.specs.Prelude.{◌≡◌, ◌⊎◌, ℕ, ◌^◌, ◌-◌, List, [], ◌∷◌, length, Bool, true, false, IsOk, Contains, if◌then◌else◌}
use Rattle.std.specs.declared.option.Option.{Option}
use Rattle.std.specs.declared.option.Option.TheVariants.{None, Some}
use Rattle.std.specs.declared.result.Result.{Result}
use Rattle.std.specs.declared.result.Result.TheVariants.{Ok, Err}
use Rattle.std.specs.Ordering.{eq_by_cmp}
use Rattle.uf_cid.specs.Blocks.{Held, IsClash}
use Rattle.uf_cid.specs.Cid.{cid_cmp}
use Rattle.uf_cid.specs.declared.cid.Cid.{Cid}
use Rattle.uf_edge.specs.Counts.{Rose}
use Rattle.uf_edge.specs.Streams.{AppendsPrefix, Told as SinkTold, after}
use Rattle.uf_car.specs.Clashing.{TwoBlocks, sections_clash}
use Rattle.uf_car.specs.Exporting.{WritesAll}
use Rattle.uf_car.specs.Reading.{Read}
use Rattle.uf_car.specs.declared.fault.CarFault.{CarFault}
use Rattle.uf_car.specs.declared.fault.CarFault.TheVariants as car
use Rattle.uf_fileread.specs.declared.fault.RangeFault.{RangeFault}
use Rattle.uf_fileread.specs.declared.fault.RangeFault.TheVariants as range
use Rattle.uf_fileread.specs.Ranges.{blocks_read}
use Rattle.uf_store.specs.Contents.{Told}
use Rattle.uf_store.specs.Lost.{IsLossOf}
use Rattle.uf_store.specs.declared.store.StoreFault.{StoreFault}
use Rattle.uf_store.specs.declared.store.StoreFault.TheVariants as store
use Rattle.uf_tree.specs.declared.profile.Profile.{Profile}
use Rattle.uf_tree.specs.Tree.{Tree, File, Dir}
use Rattle.uf_light.specs.declared.fault.LightFault.{LightFault}
use Rattle.uf_light.specs.declared.fault.LightFault.TheVariants as fault

-- the fault of a range that was read
abbrev pub of_range : RangeFault → LightFault
of_range range.Sink = fault.Sink
of_range (range.Store f) = fault.Store f

-- the fault of a CAR that was read
abbrev pub of_car : CarFault → LightFault
of_car (car.Store f) = fault.Store f
of_car f = fault.Car f

-- the store's fault in an answer
abbrev pub light_fault : {A : Type 0} → Result A LightFault → Option StoreFault
light_fault (Err (fault.Store f)) = Some f
light_fault _ = None

-- the sink failed
abbrev pub is_light_sink : {A : Type 0} → Result A LightFault → Bool
is_light_sink (Err fault.Sink) = true
is_light_sink _ = false

-- the sink's count rose where the answer is that it failed, and else it stands still
pub record CountsSink (is_fault : Bool) (before now : ℕ) : Type 0 where
  pub rose : is_fault ≡ true → Rose before now
  pub still : is_fault ≡ false → now ≡ before

-- the source failed
abbrev pub is_light_read : {A : Type 0} → Result A LightFault → Bool
is_light_read (Err (fault.Car car.Read)) = true
is_light_read _ = false

-- a refusal by the plain tree, before anything was written
pub record RefusesLight (said : Result (List ℕ) LightFault) (f : LightFault) (out out_now : SinkTold) : Type 0 where
  pub refused : said ≡ Err f
  pub unwritten : out_now ≡ out

-- why a proof wasn't written to its end: a block is lost, which is found before anything is written, or no memory
abbrev pub StopsLight : Told → List Held → List ℕ → SinkTold → SinkTold → StoreFault → Type 0
StopsLight told l text out out_now store.Failed = ⊥
StopsLight told l text out out_now (store.Damaged c) = ⊥
StopsLight told l text out out_now (store.Missing c) = IsLossOf told l (store.Missing c) × (out_now ≡ out)
StopsLight told l text out out_now (store.BadBlock c role) = ⊥
StopsLight told l text out out_now (store.Clash c a b) = ⊥
StopsLight told l text out out_now store.Memory = AppendsPrefix text out out_now

-- the answer of `prove`, where the plain tree says this: the text, or the refusal
abbrev pub Proves : Told → List Held → List ℕ → Result (List ℕ) LightFault → Result ℕ LightFault → SinkTold → SinkTold
    → Type 0
Proves told l text said (Ok n) out out_now = IsOk said × WritesAll text n out out_now
Proves told l text said (Err fault.Sink) out out_now = AppendsPrefix text out out_now
Proves told l text said (Err (fault.Store f)) out out_now = StopsLight told l text out out_now f
Proves told l text said (Err f) out out_now = RefusesLight said f out out_now

-- the root of a CAR of one root, or why there is none
abbrev pub one_root : List Cid → Result Cid LightFault
one_root (root ∷ []) = Ok root
one_root roots = Err (fault.Car (car.TooManyRoots (length roots)))

-- it has to be this one
abbrev pub same_root : Cid → Result Cid LightFault → Result Unit LightFault
same_root wanted (Err f) = Err f
same_root wanted (Ok root) = if eq_by_cmp cid_cmp root wanted then Ok tt else Err (fault.OtherRoot root)

abbrev pub answered_root : Result (List Cid) CarFault → Result Cid LightFault
answered_root (Ok roots) = one_root roots
answered_root (Err f) = Err (fault.Car f)

-- two sections that clash come first
abbrev pub unless_clash : Option TwoBlocks → Result Unit LightFault → Result Unit LightFault
unless_clash None next = next
unless_clash (Some two) next = Err (fault.Store (store.Clash two.cid two.first two.second))

-- what a CAR says before its tree is looked at: nothing, or why it is refused
abbrev pub opened : Cid → Read (List Cid) → Result Unit LightFault
opened wanted car = unless_clash (sections_clash car.sections) (same_root wanted (answered_root car.answer))

-- the fault is one of the tree and of the sections as they are held, and none of the CAR's form
abbrev pub IsBehindCar : LightFault → Type 0
IsBehindCar (fault.Car f) = ⊥
IsBehindCar (fault.OtherRoot c) = ⊥
IsBehindCar (fault.Store (store.Clash c a b)) = ⊥
IsBehindCar _ = Unit {0}

-- a refused CAR is reported so, unless there was no memory; one that isn't refused isn't
abbrev pub OpensAs : {A : Type 0} → Result Unit LightFault → Result A LightFault → Type 0
OpensAs (Ok done) (Ok n) = Unit {0}
OpensAs (Ok done) (Err f) = IsBehindCar f
OpensAs (Err said) (Ok n) = ⊥
OpensAs (Err said) (Err f) = (f ≡ fault.Store store.Memory) ⊎ (f ≡ said)

-- a block of the list and a section have one CID, and are two blocks of one digest
pub record ClashesWithPlan (hash : List ℕ → List ℕ) (plan sections : List Held) : Type 0 where
  pub block : Held
  pub section : Held
  pub planned : Contains plan block
  pub there : Contains sections section
  pub one_cid : section.0 ≡ block.0
  pub clash : IsClash hash block.1 section.1

-- the fault of a check is none of a store of its own that fails, and of a clash it shows two blocks of one digest
abbrev pub IsOwnFault : (List ℕ → List ℕ) → LightFault → Type 0
IsOwnFault hash (fault.Store store.Failed) = ⊥
IsOwnFault hash (fault.Store (store.Damaged c)) = ⊥
IsOwnFault hash (fault.Store (store.Clash c a b)) = IsClash hash a b
IsOwnFault hash _ = Unit {0}

-- the blocks of a file of this height that are needed to read it
abbrev pub file_needs : (List ℕ → List ℕ) → Profile → ℕ → Tree → List Held
file_needs X p height (File m bytes) = blocks_read X p.chunk p.width m height 0 (2 ^ 64 - 1) bytes
file_needs X p height (Dir es) = []

-- what was written of an answer
pub record WritesSaid (said : Result (List ℕ) LightFault) (n : ℕ) (out out_now : SinkTold) : Type 0 where
  pub bytes : List ℕ
  pub is : said ≡ Ok bytes
  pub count : n ≡ length bytes
  pub written : out_now ≡ after out bytes

-- the answer of `check` for a tree whose plan the sections agree with: what the plain tree says, or one of the blocks
-- that are needed is no section; the sink may fail
abbrev pub Accepts : Told → List Held → Result (List ℕ) LightFault → Result ℕ LightFault → SinkTold → SinkTold → Type 0
Accepts told l said (Ok n) out out_now = WritesSaid said n out out_now
Accepts told l said (Err fault.Sink) out out_now = Unit {0}
Accepts told l said (Err (fault.Store f)) out out_now = IsLossOf told l f
Accepts told l said (Err f) out out_now = said ≡ Err f
