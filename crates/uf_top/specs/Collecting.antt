-- What `repo gc` keeps and lets go, and what it answers.
use Rattle.std.specs.Prelude.{◌≡◌, ◌⊎◌, ℕ, ◌+◌, ◌≤◌, List, [], ◌∷◌, ◌++◌, Bool, true, false, Contains, IfOk, IfSome, length}
use Rattle.std.specs.FinMap.{len}
use Rattle.std.specs.declared.option.Option.{Option}
use Rattle.std.specs.declared.option.Option.TheVariants.{None, Some}
use Rattle.std.specs.declared.result.Result.{Result}
use Rattle.std.specs.declared.result.Result.TheVariants.{Ok, Err}
use Rattle.uf_cid.specs.Blocks.{Lookup}
use Rattle.uf_cid.specs.declared.cid.Cid.{Cid}
use Rattle.uf_edge.specs.Counts.{Counts}
use Rattle.uf_edge.specs.Streams as streams
use Rattle.uf_mfs.specs.Standing.{TellsAs}
use Rattle.uf_pins.specs.Collecting.{IsSweepOutcome, KeepsAll}
use Rattle.uf_pins.specs.Notes.{IsReadAs}
use Rattle.uf_pins.specs.Reach.{reach}
use Rattle.uf_plain.specs.declared.ready.Ready.TheVariants as ready
use Rattle.uf_store.specs.Contents.{Contents, HeldMap, Notes, Told, held_at, with_sync}
use Rattle.uf_store.specs.Faults.{NoneIsBad, Shown}
use Rattle.uf_store.specs.Seen.{Seen}
use Rattle.uf_store.specs.Stops.{IsPart}
use Rattle.uf_store.specs.Sweeping.{is_among, part_of, swept}
use Rattle.uf_store.specs.declared.store.StoreFault.{StoreFault}
use Rattle.uf_store.specs.declared.store.StoreFault.TheVariants as fault
use Rattle.uf_tree.specs.HeadReading.{head_reads}
use Rattle.uf_tree.specs.Standing.{Standing}
use Rattle.uf_tree.specs.Tree.{Entries}
use Rattle.uf_tree.specs.declared.head_fault.HeadFault.{HeadFault}
use Rattle.uf_tree.specs.declared.profile.Head.{Head}
use Rattle.uf_tree.specs.declared.profile.Profile.{Profile}
use Rattle.uf_walk.specs.Order.{OrderFault}
use Rattle.uf_command.specs.Cars.{most_blocks, order_refusal}
use Rattle.uf_command.specs.Kinds.{fault_behind, refusal_fault}
use Rattle.uf_command.specs.Pins.{removed_line}
use Rattle.uf_command.specs.Statuses.{no_memory}
use Rattle.uf_command.specs.Telling.{Prints, TellsEnd}
use Rattle.uf_command.specs.declared.status.Status.{Status}
use Rattle.uf_command.specs.declared.types.Refusal.{Refusal}
use Rattle.uf_command.specs.declared.types.Refusal.TheVariants as refusal
use Rattle.uf_top.specs.Around.{Around, Said}
use Rattle.uf_top.specs.Outcomes.{IsSafeFor}

-- ---- what is kept

-- the root of a Head that was read, or that it isn't read
abbrev pub root_told : Result Head HeadFault → Result (List Cid) Refusal
root_told (Ok head) = Ok (head.root ∷ [])
root_told (Err why) = Err (refusal.Ready ready.BadHead)

-- the root of the tree, and none without a Head
abbrev pub tree_roots : Option (List ℕ) → Result (List Cid) Refusal
tree_roots None = Ok []
tree_roots (Some text) = root_told (head_reads text)

-- what is read of the text of a Head, unless there is no memory
abbrev pub RootsIn : Result (List Cid) Refusal → List ℕ → Type 0
RootsIn read text = (read ≡ Err no_memory) ⊎ (root_told (head_reads text) ≡ read)

-- what is read of the Head, unless the store fails or there is no memory
abbrev pub ReadsRoots : Result (List Cid) Refusal → Told → Type 0
ReadsRoots read told = (read ≡ Err (refusal.Store fault.Failed)) ⊎ (read ≡ Err no_memory)
    ⊎ IfSome told (λ t. tree_roots t.notes.head ≡ read)

-- an order, or its fault as a refusal
abbrev pub order_told : Result (List Cid) OrderFault → Result (List Cid) Refusal
order_told (Ok list) = Ok list
order_told (Err why) = Err (order_refusal why)

-- what is below some roots and the pins, which the note lists, or isn't read
abbrev pub below_told : Lookup → List Cid → Option (List Cid) → Result (List Cid) Refusal
below_told held roots None = Err refusal.BadPins
below_told held roots (Some pins) = order_told (reach held most_blocks (roots ++ pins))

abbrev pub kept_below : Lookup → Result (List Cid) Refusal → Option (List Cid) → Result (List Cid) Refusal
kept_below held (Ok roots) listed = below_told held roots listed
kept_below held (Err why) listed = Err why

-- the CIDs whose blocks a collection keeps: what the Head's root and the pins lead to; or why there is none
abbrev pub kept_in : Contents → Option (List Cid) → Result (List Cid) Refusal
kept_in t listed = kept_below (held_at t) (tree_roots t.notes.head) listed

-- ---- what is left

-- the blocks under these CIDs were kept, all others went, and their number
pub record LeavesJust (t : Contents) (list : List Cid) (n : ℕ) (told : Told) : Type 0 where
  pub told_now : told ≡ Some (swept (is_among list) (with_sync t))
  pub count : len (part_of t.held (is_among list)) + n ≡ len t.held

-- they were kept, and of the others a part
pub record LeavesSome (t : Contents) (list : List Cid) (told : Told) : Type 0 where
  pub stays : Cid → Bool
  pub keeps : (c : Cid) → is_among list c ≡ true → stays c ≡ true
  pub told_now : told ≡ Some (swept stays (with_sync t))

-- the store failed, also in its sweep, or there was no memory before that
abbrev pub FailsAs : Contents → Result (List Cid) Refusal → Option StoreFault → Told → Type 0
FailsAs t kept (Some fault.Failed) told =
    KeepsAll t told ⊎ ((list : List Cid) × (kept ≡ Ok list) × LeavesSome t list told)
FailsAs t kept (Some (fault.Damaged c)) told = told ≡ Some t
FailsAs t kept (Some fault.Memory) told = KeepsAll t told
FailsAs t kept other told = ⊥

-- by what is to be kept: all else went, and how many blocks did; or the collection is refused for this reason, and
-- nothing went; or it failed
abbrev pub GoesAs : Contents → Result (List Cid) Refusal → Result ℕ Refusal → Told → Type 0
GoesAs t kept (Ok n) told = (list : List Cid) × (kept ≡ Ok list) × LeavesJust t list n told
GoesAs t kept (Err why) told = ((kept ≡ Err why) × (told ≡ Some t)) ⊎ FailsAs t kept (fault_behind why) told

-- nothing came, both notes are as before, and each block that was held under one of these CIDs is held
pub record KeepsList (t : Contents) (list : List Cid) (told : Told) : Type 0 where
  pub now : Contents
  pub tells : told ≡ Some now
  pub notes : now.notes ≡ t.notes
  pub part : IsPart now.held t.held
  pub stays : (c : Cid) (bytes : List ℕ) → Contains list c → held_at t c ≡ Some bytes → held_at now c ≡ Some bytes

-- what is to be kept was, and all was where there is a reason for a refusal
abbrev pub KeepsFor : Contents → Result (List Cid) Refusal → Told → Type 0
KeepsFor t (Ok list) told = KeepsList t list told
KeepsFor t (Err why) told = KeepsAll t told

-- ---- how many touches are made

-- how many touches a collection makes: at most one for each CID that is kept, over a store that tells by what the notes
-- say; and over every store at most as many as CIDs may be kept
pub record TouchesKept (told : Told) (was now : ℕ) : Type 0 where
  pub each : (t : Contents) (listed : Option (List Cid)) → told ≡ Some t → IsReadAs t.notes.pins listed
      → IfOk (kept_in t listed) (λ list. now ≤ was + length list)
  pub most : now ≤ was + most_blocks

-- ---- what is answered

-- the number was printed, or why it wasn't; a refusal prints nothing
abbrev pub PrintsGone : Result ℕ Refusal → Result (Unit {0}) Refusal → streams.Told → streams.Told → ℕ → ℕ → Type 0
PrintsGone (Ok n) done held held_now writes writes_now = Prints (removed_line n) done held held_now writes writes_now
    ⊎ ((done ≡ Err no_memory) × (held_now ≡ held) × Counts false writes writes_now)
PrintsGone (Err why) done held held_now writes writes_now =
    (done ≡ Err why) × (held_now ≡ held) × Counts false writes writes_now

module _ (X : List ℕ → List ℕ) where
  -- a collection, over a store that tells by what the notes say, ended so; a failure of the store has its cause
  pub record LetsGo (gone : Result ℕ Refusal) (before now : Seen) : Type 0 where
    pub goes : (t : Contents) (listed : Option (List Cid)) → before.told ≡ Some t → IsReadAs t.notes.pins listed
        → GoesAs t (kept_in t listed) gone now.told
    pub cause : Shown X NoneIsBad (refusal_fault gone) before now

  -- and then the number of blocks was printed
  pub record LetsGoAndPrints (done : Result (Unit {0}) Refusal) (before now : Seen) (held held_now : streams.Told)
      (writes writes_now : ℕ) : Type 0 where
    pub gone : Result ℕ Refusal
    pub lets_go : LetsGo gone before now
    pub prints : PrintsGone gone done held held_now writes writes_now

module _ (X : List ℕ → List ℕ) (N : List ℕ → ℕ) where
  -- what `repo gc` did: how it ended, which blocks went, and that what is kept stays, whatever failed
  pub record RunsGc (given : Status) (before now : Around) : Type 0 where
    -- how the collection ended, which the status and the line report
    pub done : Result (Unit {0}) Refusal
    pub tells : TellsEnd (Said before.errors now.errors) done given
    -- what neither the Head's root nor a pin leads to went, and the number of these blocks was printed; or nothing
    -- went, and why; or the store failed
    pub collects : LetsGoAndPrints X done before.store now.store before.held now.held before.writes now.writes
    -- whatever failed, what they lead to stays, and so do both notes; where one of these isn't read, or what they lead
    -- to isn't there, all stays
    pub keeps : (t : Contents) (listed : Option (List Cid)) → before.store.told ≡ Some t
        → IsReadAs t.notes.pins listed → KeepsFor t (kept_in t listed) now.store.told
    -- whatever failed, it made at most one touch for each CID that is kept, and at most as many as CIDs may be kept
    pub touched : TouchesKept before.store.told before.touches now.touches
    -- the tree stands as before, and is as safe from stops as it was
    pub stands : (standing : Standing) → TellsAs X N before.store.told standing → TellsAs X N now.store.told standing
    pub safe : (t u : Contents) (p : Profile) (es : Entries) → before.store.told ≡ Some t
        → now.store.told ≡ Some u → IsSafeFor X N t p es → IsSafeFor X N u p es
    -- the input and the host are as before
    pub left : now.left ≡ before.left
    pub reads : now.reads ≡ before.reads
    pub host : now.host ≡ before.host

-- whatever a stop in the course of a sweep that keeps these CIDs leaves of these contents is so
abbrev pub EachSweepOutcome : (HeldMap → Notes → Type 0) → List Cid → Contents → Type 0
EachSweepOutcome IsSo kept t =
    (held : HeldMap) (notes : Notes) → IsSweepOutcome (with_sync t).writes kept held notes → IsSo held notes
