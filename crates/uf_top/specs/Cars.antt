-- What becomes of a CAR that is read into the store, or with which what the store holds is compared.
use Rattle.std.specs.Prelude.{◌≡◌, ◌⊎◌, ℕ, ◌≤◌, List, [], ◌∷◌, length, take, false, IfErr, IfOk, IfSome, ⊤}
use Rattle.std.specs.declared.option.Option.TheVariants.{None, Some}
use Rattle.std.specs.declared.result.Result.{Result}
use Rattle.std.specs.declared.result.Result.TheVariants.{Ok, Err}
use Rattle.uf_car.specs.Clashing.{HasTwo, sections_clash, sections_held}
use Rattle.uf_car.specs.Importing.{with_saves}
use Rattle.uf_car.specs.Reading.{Read, car_read}
use Rattle.uf_car.specs.declared.fault.CarFault.{CarFault}
use Rattle.uf_car.specs.declared.fault.CarFault.TheVariants as car_fault
use Rattle.uf_cid.specs.Blocks.{Held, IsClash, Lookup}
use Rattle.uf_cid.specs.declared.cid.Cid.{Cid}
use Rattle.uf_edge.specs.Counts.{Counts, Stood}
use Rattle.uf_edge.specs.Streams as streams
use Rattle.uf_mfs.specs.Standing.{LeavesHead, TellsHeld}
use Rattle.uf_command.specs.Cars.{car_refusal, most_blocks, most_car, roots_told, section_refusal}
use Rattle.uf_command.specs.Natures.{OwnStore, NoStore, OfCarSections, OfTree, SyncsBlocks}
use Rattle.uf_command.specs.Kinds.{IsOf, same_kinds, import_kinds, may_meet, refusal_fault}
use Rattle.uf_command.specs.Statuses.{ended, no_memory}
use Rattle.uf_command.specs.declared.status.Status.{Status}
use Rattle.uf_command.specs.declared.status.Status.TheVariants as status
use Rattle.uf_command.specs.declared.types.Refusal.{Refusal}
use Rattle.uf_command.specs.declared.types.Refusal.TheVariants as refusal
use Rattle.uf_store.specs.Calls.{Calm}
use Rattle.uf_store.specs.Contents.{Contents, Told, changed, held_at, with_sync}
use Rattle.uf_store.specs.Faults.{NoneIsBad, Shown, ShowsClash, ShowsMissing, StaysCalm}
use Rattle.uf_store.specs.InMemory.{no_contents}
use Rattle.uf_store.specs.declared.store.StoreFault.TheVariants.{Memory}
use Rattle.uf_store.specs.Keeping.{KeepsGood}
use Rattle.uf_store.specs.Seen.{Seen}
use Rattle.uf_top.specs.Causes.{is_read}
use Rattle.uf_edits.specs.Generated.{TwoGenerated}
use Rattle.uf_top.specs.Naming.{TellsBlocks}
use Rattle.uf_top.specs.Reply.{car_compared, not_one_root, verdict_told}
use Rattle.uf_same.specs.Verdict.{verdict}
use Rattle.uf_top.specs.Shapes.{WritesAs, is_ok}

-- the roots are those of the CAR, or it is refused as it has to be; the blocks of its sections up to there are held
pub record TellsRoots (car : Read (List Cid)) (done : Result (List ℕ) Refusal) (now : Told) : Type 0 where
  pub is : done ≡ roots_told car.answer
  pub held : TellsHeld now car.sections

-- these roots of a CAR, each in a line, were said once its blocks, and no others, were added and durable
pub record AddsCar (X : List ℕ → List ℕ) (bytes text : List ℕ) (before now : Told) : Type 0 where
  pub are : Ok text ≡ roots_told (car_read X most_car bytes).answer
  pub added : now ≡ changed with_sync (changed (with_saves (car_read X most_car bytes).sections) before)

-- so of the CAR that an input has, where it tells
abbrev pub IsImported : (List ℕ → List ℕ) → (before now : Told) → streams.Told → List ℕ → Type 0
IsImported X before now left text = IfSome left (λ bytes. AddsCar X bytes text before now)

-- the first of these sections, and no other block, were added, and at most made durable: all where a rule refuses
pub record AddsFront (sections : List Held) (given : Status) (before now : Told) : Type 0 where
  pub count : ℕ
  pub few : count ≤ length sections
  pub added : LeavesHead (changed (with_saves (take count sections)) before) now
  pub all : given ≡ status.Rule → count ≡ length sections

-- so of the CAR that an input has, where it tells, also where the command is refused
abbrev pub KeepsFront : (List ℕ → List ℕ) → Status → (before now : Told) → streams.Told → Type 0
KeepsFront X given before now left =
    IfSome left (λ bytes. AddsFront (car_read X most_car bytes).sections given before now)

-- how a CAR was kept: its roots, each refusal with its cause, and what was written
pub record KeepsCar (X : List ℕ → List ℕ) (done : Result (List ℕ) Refusal) (before now : Seen) (left : streams.Told)
    (reads reads_now : ℕ) : Type 0 where
  pub roots : (held : Lookup) (bytes : List ℕ) → TellsBlocks before.told held → left ≡ Some bytes
      → Stood reads reads_now → Calm before now
      → (done ≡ Err no_memory) ⊎ TellsRoots (car_read X most_car bytes) done now.told
  pub added : IfOk done (IsImported X before.told now.told left)
  pub kept : KeepsFront X (ended done) before.told now.told left
  pub kinds : IsOf (may_meet import_kinds) done
  pub counts : Counts (is_read done) reads reads_now
  pub cause : Shown X NoneIsBad (refusal_fault done) before now
  pub good : KeepsGood X before.told now.told
  pub writes : WritesAs X SyncsBlocks (is_ok done) before.told now.told

-- ---- what is held, compared with a CAR

-- a command looked for blocks in the store and found each, and nothing else of it has changed
pub record SparesStore (before now : Seen) : Type 0 where
  pub calm : StaysCalm before now
  pub misses : now.misses ≡ before.misses
  pub told : now.told ≡ before.told

-- no section of the CAR that the input has is of this CID
pub record LacksSection (X : List ℕ → List ℕ) (left : streams.Told) (cid : Cid) (before now : Seen) : Type 0 where
  pub lacks : IfSome left (λ bytes. sections_held (car_read X most_car bytes).sections cid ≡ None)
  pub spares : SparesStore before now

-- two sections of it have this CID and different blocks of one digest
pub record TwoSections (X : List ℕ → List ℕ) (left : streams.Told) (cid : Cid) (first second : List ℕ)
    (before now : Seen) : Type 0 where
  pub two : IfSome left (λ bytes. HasTwo (car_read X most_car bytes).sections cid first second)
  pub clash : IsClash X first second
  pub spares : SparesStore before now

-- a block is missing in the store or, where a command compares, among the sections of the CAR
abbrev pub IsMissing : (List ℕ → List ℕ) → OwnStore → streams.Told → Cid → Seen → Seen → Type 0
IsMissing X OfCarSections left cid before now = ShowsMissing cid before now ⊎ LacksSection X left cid before now
IsMissing X other left cid before now = ShowsMissing cid before now

-- two blocks clash in the store of the command's own: two sections of the CAR, or two of those that are generated
abbrev pub IsOwnClash : (List ℕ → List ℕ) → OwnStore → streams.Told → Cid → (first second : List ℕ) → Seen → Seen
    → Type 0
IsOwnClash X NoStore left cid first second before now = ⊥
IsOwnClash X OfCarSections left cid first second before now = TwoSections X left cid first second before now
IsOwnClash X OfTree left cid first second before now = TwoGenerated X cid first second

-- a block clashes with one that the store holds or, where a command compares, two sections of the CAR clash; where it
-- generates a tree, it doesn't look at the store
abbrev pub IsClashing : (List ℕ → List ℕ) → OwnStore → streams.Told → Cid → (first second : List ℕ) → Seen → Seen
    → Type 0
IsClashing X NoStore left cid first second before now = ShowsClash X cid first second before now
IsClashing X OfCarSections left cid first second before now =
    ShowsClash X cid first second before now ⊎ TwoSections X left cid first second before now
IsClashing X OfTree left cid first second before now = TwoGenerated X cid first second

-- a refusal by a store of the command's own comes only where it has one, and has its cause there
abbrev pub ByOwnStore : (List ℕ → List ℕ) → OwnStore → streams.Told → Seen → Seen → Refusal → Type 0
ByOwnStore X own left before now (refusal.CarLacks cid) = (own ≡ OfCarSections) × LacksSection X left cid before now
ByOwnStore X own left before now (refusal.OwnClash cid first second) =
    IsOwnClash X own left cid first second before now
ByOwnStore X own left before now other = ⊤

-- the one root of a CAR: with none, or with more, it is refused
abbrev pub root_alone : List Cid → Result Cid Refusal
root_alone [] = Err not_one_root
root_alone (root ∷ []) = Ok root
root_alone (root ∷ other ∷ roots) = Err not_one_root

-- the one root of a CAR whose sections don't clash and are kept, or why it is refused whatever it is compared with
pub record IsRootOf (car : Read (List Cid)) (root : Cid) (now : Told) : Type 0 where
  pub sound : sections_clash car.sections ≡ None
  pub is : car.answer ≡ Ok (root ∷ [])
  pub kept : now ≡ Some (with_saves car.sections no_contents)

abbrev pub TellsRoot : Read (List Cid) → Result Cid Refusal → Told → (reads reads_now : ℕ) → Type 0
TellsRoot car (Ok root) now reads reads_now = IsRootOf car root now
TellsRoot car (Err why) now reads reads_now = Stood reads reads_now
    → (why ≡ no_memory) ⊎ ((held : Lookup) (cid : Cid) → car_compared held cid car ≡ Err why)

-- why a CAR isn't read into a store that was made for it
abbrev pub kept_refusal : CarFault → Refusal
kept_refusal (car_fault.Store why) = section_refusal why
kept_refusal other = car_refusal other

-- how the CAR that the input has was read into an empty store: its root, each refusal with its cause
pub record TakesRoot (X : List ℕ → List ℕ) (done : Result Cid Refusal) (before now : Told) (left : streams.Told)
    (reads reads_now : ℕ) : Type 0 where
  pub root : (bytes : List ℕ) → left ≡ Some bytes → before ≡ Some no_contents
      → TellsRoot (car_read X most_car bytes) done now reads reads_now
  pub kinds : IsOf (may_meet same_kinds) done
  pub counts : Counts (is_read done) reads reads_now
  pub fault : IfSome (refusal_fault done) (λ fault. fault ≡ Memory)
  pub sections : before ≡ Some no_contents → (other : Seen) → IfErr done (ByOwnStore X OfCarSections left other other)

-- how two stores were compared: the verdict, each refusal with its cause
pub record ComparesStores (X : List ℕ → List ℕ) (cid root : Cid) (done : Result (List ℕ) Refusal) (before now : Seen)
    (right : Told) : Type 0 where
  pub verdict_is : (held : Lookup) (u : Contents) → TellsBlocks before.told held → right ≡ Some u → Calm before now
      → (done ≡ Err no_memory) ⊎ (done ≡ verdict_told (verdict held (held_at u) most_blocks cid root))
  pub kinds : IsOf (may_meet same_kinds) done
  pub unread : is_read done ≡ false
  pub cause : Shown X NoneIsBad (refusal_fault done) before now
  pub told : now.told ≡ before.told
  pub sections : (left : streams.Told) (u : Contents) → right ≡ Some u
      → IfSome left (λ bytes. u ≡ with_saves (car_read X most_car bytes).sections no_contents)
      → IfErr done (ByOwnStore X OfCarSections left before now)

-- how what the store holds was compared with the CAR that the input has: the text, each refusal with its cause
pub record ComparesCar (X : List ℕ → List ℕ) (cid : Cid) (done : Result (List ℕ) Refusal) (before now : Seen)
    (left : streams.Told) (reads reads_now : ℕ) : Type 0 where
  pub says : (held : Lookup) (bytes : List ℕ) → TellsBlocks before.told held → left ≡ Some bytes
      → Stood reads reads_now → Calm before now
      → (done ≡ Err no_memory) ⊎ (done ≡ car_compared held cid (car_read X most_car bytes))
  pub kinds : IsOf (may_meet same_kinds) done
  pub counts : Counts (is_read done) reads reads_now
  pub cause : Shown X NoneIsBad (refusal_fault done) before now
  pub told : now.told ≡ before.told
  pub sections : IfErr done (ByOwnStore X OfCarSections left before now)
