-- What the calls that read a CAR into a store answer and leave.
use Rattle.std.specs.Prelude.{◌≡◌, ℕ, ◌+◌, ◌≤◌, ◌<◌, Bool, true, false, List, [], ◌∷◌, ◌++◌, length, take, drop, None}
use Rattle.std.specs.Prelude.{Some, IfSome, nat_eq, if◌then◌else◌, ⊤}
use Rattle.std.specs.Cmp.Lexicographic.{pointwise}
use Rattle.std.specs.declared.option.Option.{Option}
use Rattle.std.specs.declared.result.Result.{Result}
use Rattle.std.specs.declared.result.Result.TheVariants.{Ok, Err}
use Rattle.uf_cid.specs.Blocks.{Held}
use Rattle.uf_cid.specs.declared.cid.Cid.{Cid}
use Rattle.uf_edge.specs.Streams as streams
use Rattle.uf_store.specs.Clashes.{IsSaving}
use Rattle.uf_store.specs.Contents.{Contents, Told, changed, with_save}
use Rattle.uf_store.specs.Faults.{NoneIsBad, Shown}
use Rattle.uf_store.specs.Keeping.{HoldsOne, KeepsGood}
use Rattle.uf_store.specs.Writing.{SavesOnly}
use Rattle.uf_store.specs.declared.store.StoreFault.{StoreFault}
use Rattle.uf_store.specs.declared.store.StoreFault.TheVariants as store
use Rattle.uf_store.specs.Seen.{Seen}
use Rattle.uf_car.specs.declared.begun.Begun.{Begun}
use Rattle.uf_car.specs.declared.fault.CarFault.{CarFault}
use Rattle.uf_car.specs.declared.fault.CarFault.TheVariants as fault
use Rattle.uf_car.specs.declared.fault.Imported.{Imported}
use Rattle.uf_car.specs.declared.section.Opening.{Opening}
use Rattle.uf_car.specs.declared.section.Opening.TheVariants.{End, Cut, Wrong, Found}
use Rattle.uf_car.specs.Headers.{IsOfBytes}
use Rattle.uf_car.specs.Reading.{NothingLeft, EndsInside, Has, IsWrong, Read, Section, section_of, sections_of}
use Rattle.uf_car.specs.declared.window.Window.{Window}
use Rattle.uf_car.specs.Windows.{Ahead, ahead, window_bytes}

-- the fault isn't one of the CAR: the source failed, or the store did or found no memory
abbrev pub stops : CarFault → Bool
stops fault.Read = true
stops (fault.Store f) = true
stops _ = false

-- the source failed
abbrev pub is_source_fault : {A : Type 0} → Result A CarFault → Bool
is_source_fault (Ok a) = false
is_source_fault (Err fault.Read) = true
is_source_fault (Err _) = false

-- no store was asked
abbrev pub IsOfInput : CarFault → Type 0
IsOfInput fault.Read = Unit {0}
IsOfInput f = IsOfBytes f

-- the fault is none of the CAR: the source failed, or there was no memory
pub record IsStop (f : CarFault) : Type 0 where
  pub stopped : stops f ≡ true
  pub of_input : IsOfInput f

-- the store's fault in a fault, and in an answer
abbrev pub store_fault : CarFault → Option StoreFault
store_fault (fault.Store f) = Some f
store_fault _ = None

abbrev pub car_fault : {A : Type 0} → Result A CarFault → Option StoreFault
car_fault (Ok a) = None
car_fault (Err f) = store_fault f

-- so it is of a clash: the CID, the block that is held under it, and the one that was to be saved
abbrev pub IfClash : (Cid → List ℕ → List ℕ → Type 0) → StoreFault → Type 0
IfClash IsSo store.Failed = ⊤
IfClash IsSo (store.Damaged c) = ⊤
IfClash IsSo (store.Missing c) = ⊤
IfClash IsSo (store.BadBlock c role) = ⊤
IfClash IsSo (store.Clash c first second) = IsSo c first second
IfClash IsSo store.Memory = ⊤

-- a call that keeps blocks: its fault is one of saving and has its cause, good blocks are kept, and nothing but blocks
-- is written
pub record OnlyImports (hash : List ℕ → List ℕ) (fault : Option StoreFault) (before now : Seen) : Type 0 where
  pub cause : Shown hash NoneIsBad fault before now
  pub saving : IfSome fault IsSaving
  pub good : KeepsGood hash before.told now.told
  pub saves : SavesOnly hash before.told now.told

-- what is said of a CAR is answered, unless the call was stopped
abbrev pub SaysUnlessStopped : {X Y : Type 0} → (X → Y) → Result X CarFault → Result Y CarFault → Type 0
SaysUnlessStopped view (Ok x) said = said ≡ Ok (view x)
SaysUnlessStopped view (Err f) said = stops f ≡ false → said ≡ Err f

-- where the bytes end: more may follow than may be read
abbrev pub cut_fault : Bool → ℕ → CarFault
cut_fault true place = fault.TooLong
cut_fault false place = fault.Truncated place

-- how a section begins, or that there is none
abbrev pub no_more : {A : Type 0} → Bool → Result (Option A) CarFault
no_more true = Err fault.TooLong
no_more false = Ok None

abbrev pub begun : Bool → ℕ → Opening → Result (Option Begun) CarFault
begun over place End = no_more over
begun over place Cut = Err (cut_fault over place)
begun over place (Wrong f) = Err f
begun over place (Found c front size) = Ok (Some (record { cid = c; front = front; size = size }))

-- a section's block and its number of bytes, or that there is none
abbrev pub section_said : Bool → ℕ → Section → Result (Option (Held × ℕ)) CarFault
section_said over place NothingLeft = no_more over
section_said over place EndsInside = Err (cut_fault over place)
section_said over place (IsWrong f) = Err f
section_said over place (Has b used) = Ok (Some (b, used))

-- a block that is that of its CID
abbrev pub checked_block : (List ℕ → List ℕ) → ℕ → Cid → List ℕ → Result Unit CarFault
checked_block hash place c block =
    if pointwise nat_eq (hash block) c.digest then Ok tt else Err (fault.WrongDigest place c)

-- the clash is of this block, which is that of its CID, with one that is held
abbrev pub ClashesWith : (List ℕ → List ℕ) → ℕ → Cid → List ℕ → Told → StoreFault → Type 0
ClashesWith hash place cid block told = IfClash (λ c first second. (c ≡ cid) × (second ≡ block)
    × (checked_block hash place cid block ≡ Ok tt) × HoldsOne told c first)

-- nothing is left of a source where a call says so
abbrev pub EndsAt : {A : Type 0} → Result (Option A) CarFault → streams.Told → Type 0
EndsAt (Ok None) left = streams.IsAtEnd left
EndsAt (Ok (Some a)) left = Unit {0}
EndsAt (Err f) left = Unit {0}

-- what was begun of a section fits
abbrev pub FitsSection : Begun → Type 0
FitsSection b = (0 < b.front) × (b.front ≤ 45) × (b.size ≤ 2097152)

-- n bytes were used
pub record Uses (used : ℕ) (before now : Window) : Type 0 where
  pub some : 0 < used
  pub few : used + (length (window_bytes now) + now.room) ≤ length (window_bytes before) + before.room

-- n bytes were used of what is ahead
pub record UsesAhead (used : ℕ) (before now : Window) (left left_now : streams.Told) : Type 0 where
  pub rest : (a : Ahead) → ahead before left ≡ Some a → ahead now left_now ≡ Some (drop used a.0, a.1)
  pub few : used + (length (window_bytes now) + now.room) ≤ length (window_bytes before) + before.room

abbrev pub UsesUp : Result (Option ℕ) CarFault → Window → Window → Type 0
UsesUp (Ok None) before now = Unit {0}
UsesUp (Ok (Some used)) before now = Uses used before now
UsesUp (Err f) before now = Unit {0}

-- the block of a section was kept, and the bytes after it are ahead
pub record KeepsSection (hash : List ℕ → List ℕ) (place used : ℕ) (a : Ahead) (now : Option Ahead)
    (told told_now : Told) : Type 0 where
  pub block : Held
  pub has : section_of hash place a.0 ≡ Has block used
  pub rest : now ≡ Some (drop used a.0, a.1)
  pub kept : told_now ≡ changed (with_save block.0 block.1) told

-- nothing was left
pub record IsAtLast (hash : List ℕ → List ℕ) (place : ℕ) (a : Ahead) (now : Option Ahead)
    (told told_now : Told) : Type 0 where
  pub none : a ≡ ([], false)
  pub same : now ≡ Some a
  pub same_told : told_now ≡ told

-- the clash is of the first section, with a block that is held
abbrev pub ClashesInFront : Section → Told → StoreFault → Type 0
ClashesInFront front told =
    IfClash (λ c first second. (used : ℕ) × (front ≡ Has (c, second) used) × HoldsOne told c first)

-- a section was refused, or the call was stopped
pub record RefusesSection (hash : List ℕ → List ℕ) (place : ℕ) (a : Ahead) (f : CarFault)
    (told told_now : Told) : Type 0 where
  pub said : stops f ≡ false → section_said a.1 place (section_of hash place a.0) ≡ Err f
  pub same_told : told_now ≡ told
  pub clash : IfSome (store_fault f) (ClashesInFront (section_of hash place a.0) told)

-- the answer for one section, where the source tells
abbrev pub ImportsSection : (List ℕ → List ℕ) → ℕ → Ahead → Option Ahead → Result (Option ℕ) CarFault → Told
    → Told → Type 0
ImportsSection hash place a now (Ok None) told told_now = IsAtLast hash place a now told told_now
ImportsSection hash place a now (Ok (Some used)) told told_now = KeepsSection hash place used a now told told_now
ImportsSection hash place a now (Err f) told told_now = RefusesSection hash place a f told told_now

-- blocks were kept, one after another
abbrev pub with_saves : List Held → Contents → Contents
with_saves [] t = t
with_saves (b ∷ blocks) t = with_saves blocks (with_save b.0 b.1 t)

-- the clash is of the first of these blocks, with one that is held
abbrev pub ClashesFirst : List Held → Told → StoreFault → Type 0
ClashesFirst sections told =
    IfClash (λ c first second. (rest : List Held) × (sections ≡ (c, second) ∷ rest) × HoldsOne told c first)

-- a prefix of these blocks was kept: all where the answer is one of the CAR, and else those before a clash
pub record KeepsSome (sections : List Held) (f : CarFault) (told told_now : Told) : Type 0 where
  pub count : ℕ
  pub few : count ≤ length sections
  pub kept : told_now ≡ changed (with_saves (take count sections)) told
  pub all : stops f ≡ false → count ≡ length sections
  pub next : IfSome (store_fault f) (ClashesFirst (drop count sections) told_now)

-- the answer for all sections: how many there are, with all of them kept, or the first fault, with those before it
pub record KeepsAll {A : Type 0} (r : Read A) (a : A) (blocks : ℕ) (told told_now : Told) : Type 0 where
  pub said : r.answer ≡ Ok a
  pub count : blocks ≡ length r.sections
  pub kept : told_now ≡ changed (with_saves r.sections) told

pub record RefusesCar {A : Type 0} (r : Read A) (f : CarFault) (told told_now : Told) : Type 0 where
  pub said : stops f ≡ false → r.answer ≡ Err f
  pub kept : KeepsSome r.sections f told told_now

abbrev pub ImportsSections : Read Unit → Result ℕ CarFault → Told → Told → Type 0
ImportsSections r (Ok blocks) told told_now = KeepsAll r tt blocks told told_now
ImportsSections r (Err f) told told_now = RefusesCar r f told told_now

-- the answer of `import`, where the source tells
abbrev pub ImportsCar : Read (List Cid) → Result Imported CarFault → Told → Told → Type 0
ImportsCar r (Ok imported) told told_now = KeepsAll r imported.roots imported.blocks told told_now
ImportsCar r (Err f) told told_now = RefusesCar r f told told_now

-- the answer for a block, as that for its section
abbrev pub as_section : Result ℕ CarFault → Result (Option ℕ) CarFault
as_section (Ok used) = Ok (Some used)
as_section (Err f) = Err f

-- sections before what is read further on
abbrev pub behind_done : {A : Type 0} → List Held → Read A → Read A
behind_done done r = record { sections = done ++ r.sections; answer = r.answer }

-- how far sections were read: those so far were kept, and what is ahead is read on
pub record GoesOn (hash : List ℕ → List ℕ) (start : ℕ) (first : Ahead) (place : ℕ) (now : Option Ahead)
    (told told_now : Told) (blocks : ℕ) : Type 0 where
  pub done : List Held
  pub rest : List ℕ
  pub is_ahead : now ≡ Some (rest, first.1)
  pub so_far : sections_of hash first.1 start first.0 ≡ behind_done done (sections_of hash first.1 place rest)
  pub kept : told_now ≡ changed (with_saves done) told
  pub count : blocks ≡ length done
