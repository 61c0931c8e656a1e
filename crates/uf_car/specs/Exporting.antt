-- What the calls that write a CAR from a store answer and leave.
use Rattle.std.specs.Prelude.{◌≡◌, ℕ, ◌≤◌, ◌⊎◌, Bool, true, false, List, length, IfSome, Some, None}
use Rattle.std.specs.declared.option.Option.{Option}
use Rattle.std.specs.declared.result.Result.{Result}
use Rattle.std.specs.declared.result.Result.TheVariants.{Ok, Err}
use Rattle.uf_cid.specs.Blocks.{Lookup}
use Rattle.uf_cid.specs.declared.cid.Cid.{Cid}
use Rattle.uf_edge.specs.Streams.{AppendsPrefix, Told, after}
use Rattle.uf_store.specs.Clashes.{IsLoadFault}
use Rattle.uf_store.specs.Contents.{held_at}
use Rattle.uf_store.specs.Seen.{Seen}
use Rattle.uf_store.specs.declared.store.StoreFault.{StoreFault}
use Rattle.uf_store.specs.declared.store.StoreFault.TheVariants as store
use Rattle.uf_walk.specs.Order.{OrderFault, Missing, NotDagPb, OverMost, follow_held, order, ordered}
use Rattle.uf_walk.specs.Walked.{Walked, course}
use Rattle.uf_car.specs.declared.fault.ExportFault.{ExportFault}
use Rattle.uf_car.specs.declared.fault.ExportFault.TheVariants as fault
use Rattle.uf_car.specs.Text.{car_text, section_bytes}

-- the sink failed
abbrev pub is_sink_fault : {A : Type 0} → Result A ExportFault → Bool
is_sink_fault (Err fault.Sink) = true
is_sink_fault _ = false

-- the store's fault in an answer
abbrev pub export_fault : {A : Type 0} → Result A ExportFault → Option StoreFault
export_fault (Err (fault.Store f)) = Some f
export_fault _ = None

-- the fault is the first in the order; out of memory and a store that failed are no part of it
abbrev pub StopsByStore : Result (List Cid) OrderFault → StoreFault → Type 0
StopsByStore said store.Failed = Unit {0}
StopsByStore said (store.Damaged c) = Unit {0}
StopsByStore said (store.Missing c) = said ≡ Err (Missing c)
StopsByStore said (store.BadBlock c role) = ⊥
StopsByStore said (store.Clash c a b) = ⊥
StopsByStore said store.Memory = Unit {0}

abbrev pub StopsOrder : Result (List Cid) OrderFault → ExportFault → Type 0
StopsOrder said fault.Sink = ⊥
StopsOrder said (fault.NotDagPb c why) = said ≡ Err (NotDagPb c why)
StopsOrder said fault.TooMany = said ≡ Err OverMost
StopsOrder said (fault.Store f) = StopsByStore said f

-- a walk has handed out the whole order, or the first fault in it
abbrev pub WalksAll : Result (List Cid) OrderFault → Result Walked ExportFault → Type 0
WalksAll said (Ok w) = said ≡ Ok w.handed
WalksAll said (Err f) = StopsOrder said f

-- the same of a walk that was lent
abbrev pub EndsOrder : Result (List Cid) OrderFault → Result Unit ExportFault → Walked → Type 0
EndsOrder said (Ok u) now = said ≡ Ok now.handed
EndsOrder said (Err f) now = StopsOrder said f

-- a block was taken, so the order goes on as it did, or its fault is the first
abbrev pub FollowsOrder : Lookup → Result Unit ExportFault → Walked → Walked → Type 0
FollowsOrder held (Ok t) before now = course (follow_held held) now ≡ course (follow_held held) before
FollowsOrder held (Err f) before now = StopsOrder (ordered held (course (follow_held held) before)) f

-- a loaded block was written as a section
pub record WritesSection (cid : Cid) (n : ℕ) (before now : Seen) (out out_now : Told) : Type 0 where
  pub is_held : IfSome before.told (λ t. held_at t cid ≡ Some now.lent)
  pub size : length now.lent ≤ 2097152
  pub written : out_now ≡ after out (section_bytes (cid, now.lent))
  pub count : n ≡ length (section_bytes (cid, now.lent))

-- some bytes were written after what the sink held
abbrev pub WritesSome : Told → Told → Type 0
WritesSome out out_now = (text : List ℕ) × (out_now ≡ after out text)

-- a part of it was written
pub record WritesPart (cid : Cid) (before now : Seen) (out out_now : Told) : Type 0 where
  pub is_held : IfSome before.told (λ t. held_at t cid ≡ Some now.lent)
  pub part : AppendsPrefix (section_bytes (cid, now.lent)) out out_now

abbrev pub WritesBlock : Cid → Result ℕ ExportFault → Seen → Seen → Told → Told → Type 0
WritesBlock cid (Ok n) before now out out_now = WritesSection cid n before now out out_now
WritesBlock cid (Err fault.Sink) before now out out_now = WritesPart cid before now out out_now
WritesBlock cid (Err (fault.NotDagPb c why)) before now out out_now = ⊥
WritesBlock cid (Err fault.TooMany) before now out out_now = ⊥
WritesBlock cid (Err (fault.Store f)) before now out out_now = IsLoadFault cid f × (out_now ≡ out)

-- all was written
pub record WritesAll (text : List ℕ) (n : ℕ) (out out_now : Told) : Type 0 where
  pub written : out_now ≡ after out text
  pub count : n ≡ length text

-- the store failed, or there was no memory: no block was found missing, or not be a node
abbrev pub IsOtherFault : StoreFault → Type 0
IsOtherFault store.Failed = Unit {0}
IsOtherFault (store.Damaged c) = Unit {0}
IsOtherFault (store.Missing c) = ⊥
IsOtherFault (store.BadBlock c role) = ⊥
IsOtherFault (store.Clash c a b) = ⊥
IsOtherFault store.Memory = Unit {0}

-- what is written where all CIDs of the order are held
abbrev pub WritesCar : List ℕ → Result ℕ ExportFault → Told → Told → Type 0
WritesCar text (Ok n) out out_now = WritesAll text n out out_now
WritesCar text (Err fault.Sink) out out_now = AppendsPrefix text out out_now
WritesCar text (Err (fault.NotDagPb c why)) out out_now = ⊥
WritesCar text (Err fault.TooMany) out out_now = ⊥
WritesCar text (Err (fault.Store f)) out out_now = IsOtherFault f × AppendsPrefix text out out_now

-- the answer of `export` over what is held: the text of the order, or its first fault and nothing written
pub record WritesNothing (said : Result (List Cid) OrderFault) (answer : Result ℕ ExportFault) (out out_now : Told)
    : Type 0 where
  pub f : ExportFault
  pub refused : answer ≡ Err f
  pub stops : StopsOrder said f
  pub unwritten : out_now ≡ out

pub record WritesText (held : Lookup) (root : Cid) (said : Result (List Cid) OrderFault)
    (answer : Result ℕ ExportFault) (out out_now : Told) : Type 0 where
  pub list : List Cid
  pub in_order : said ≡ Ok list
  pub writes : WritesCar (car_text held root list) answer out out_now

abbrev pub Exports : Lookup → ℕ → Cid → Result ℕ ExportFault → Told → Told → Type 0
Exports held most root answer out out_now =
    WritesText held root (order held most root) answer out out_now
    ⊎ WritesNothing (order held most root) answer out out_now

-- these CIDs are the whole order
abbrev pub IsAfterWalk : Lookup → ℕ → Cid → List Cid → Type 0
IsAfterWalk held most root list = order held most root ≡ Ok list
