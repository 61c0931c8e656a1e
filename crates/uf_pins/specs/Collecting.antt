-- What a collection leaves.
use Rattle.std.specs.Prelude.{◌≡◌, ◌⊎◌, ℕ, ◌+◌, List, ◌++◌, Bool, true, Contains, Some, None, IfSome, ⊤}
use Rattle.std.specs.FinMap.{get, len}
use Rattle.std.specs.declared.result.Result.{Result}
use Rattle.std.specs.declared.result.Result.TheVariants.{Ok, Err}
use Rattle.std.specs.List.{AllByRecursion}
use Rattle.uf_cid.specs.Blocks.{Held}
use Rattle.uf_cid.specs.declared.cid.Cid.{Cid}
use Rattle.uf_store.specs.declared.store.StoreFault.{StoreFault}
use Rattle.uf_store.specs.declared.store.StoreFault.TheVariants as store
use Rattle.uf_store.specs.declared.store.Write.{Write}
use Rattle.uf_store.specs.Contents.{Contents, HeldMap, Notes, Told, held_at, with_sync}
use Rattle.uf_store.specs.Stops.{IsPart, firm, held_by, notes_by}
use Rattle.uf_store.specs.Sweeping.{is_among, part_of, swept}
use Rattle.uf_pins.specs.declared.fault.PinFault.{PinFault}
use Rattle.uf_pins.specs.declared.fault.PinFault.TheVariants as fault
use Rattle.uf_pins.specs.Notes.{IsBadNote, Lists}
use Rattle.uf_pins.specs.Reach.{StopsReach, reach}

-- what is below the roots and the pins was kept, all else went, and n blocks did
pub record Collects (t : Contents) (most : ℕ) (roots : List Cid) (n : ℕ) (told : Told) : Type 0 where
  pub pins : List Cid
  pub listed : Lists t.notes.pins pins
  pub list : List Cid
  pub reached : reach (held_at t) most (roots ++ pins) ≡ Ok list
  pub told_now : told ≡ Some (swept (is_among list) (with_sync t))
  pub count : len (part_of t.held (is_among list)) + n ≡ len t.held

-- the store failed in its sweep: what is below the roots and the pins was kept, and of the rest a part
pub record CollectsSome (t : Contents) (most : ℕ) (roots : List Cid) (told : Told) : Type 0 where
  pub pins : List Cid
  pub listed : Lists t.notes.pins pins
  pub list : List Cid
  pub reached : reach (held_at t) most (roots ++ pins) ≡ Ok list
  pub stays : Cid → Bool
  pub keeps : (c : Cid) → is_among list c ≡ true → stays c ≡ true
  pub told_now : told ≡ Some (swept stays (with_sync t))

-- nothing went: all is as before, but that the saves may have been synced
abbrev pub KeepsAll : Contents → Told → Type 0
KeepsAll t told = (told ≡ Some t) ⊎ (told ≡ Some (with_sync t))

-- the pins are read, and what is below the roots and them has this fault
pub record StopsBelow (t : Contents) (most : ℕ) (roots : List Cid) (f : PinFault) : Type 0 where
  pub pins : List Cid
  pub listed : Lists t.notes.pins pins
  pub stops : StopsReach (reach (held_at t) most (roots ++ pins)) f

-- a fault of the store: a block is missing and nothing went; or it failed, or there was no memory
abbrev pub StopsByFault : Contents → ℕ → List Cid → StoreFault → Told → Type 0
StopsByFault t most roots store.Failed told = KeepsAll t told ⊎ CollectsSome t most roots told
StopsByFault t most roots (store.Damaged c) told = told ≡ Some t
StopsByFault t most roots (store.Missing c) told =
    StopsBelow t most roots (fault.Store (store.Missing c)) × (told ≡ Some t)
StopsByFault t most roots (store.BadBlock c role) told = ⊥
StopsByFault t most roots (store.Clash c a b) told = ⊥
StopsByFault t most roots store.Memory told = KeepsAll t told

-- the answer of `collect`
abbrev pub CollectsAll : Contents → ℕ → List Cid → Result ℕ PinFault → Told → Type 0
CollectsAll t most roots (Ok n) told = Collects t most roots n told
CollectsAll t most roots (Err fault.BadPins) told = IsBadNote t.notes.pins × (told ≡ Some t)
CollectsAll t most roots (Err fault.TooManyPins) told = ⊥
CollectsAll t most roots (Err (fault.NotPinned c)) told = ⊥
CollectsAll t most roots (Err (fault.NotDagPb c why)) told =
    StopsBelow t most roots (fault.NotDagPb c why) × (told ≡ Some t)
CollectsAll t most roots (Err fault.TooMany) told = StopsBelow t most roots fault.TooMany × (told ≡ Some t)
CollectsAll t most roots (Err (fault.Store f)) told = StopsByFault t most roots f told

-- ---- stops

-- a stop in the course of a sweep that keeps these CIDs may leave this of what was written
pub record IsSweepOutcome (ws : List Write) (kept : List Cid) (held : HeldMap) (notes : Notes) : Type 0 where
  pub notes_are : notes ≡ notes_by ws
  pub part : IsPart held (held_by ws)
  pub kept_stay : (c : Cid) (bytes : List ℕ) → Contains kept c → get (firm ws) c ≡ Some bytes → get held c ≡ Some bytes

-- each block that is held under a CID below the roots and the pins stays, with its bytes, and the notes are as before
pub record KeepsReach (t : Contents) (most : ℕ) (roots : List Cid) (told : Told) : Type 0 where
  pub now : Contents
  pub tells : told ≡ Some now
  pub notes : now.notes ≡ t.notes
  pub part : IsPart now.held t.held
  pub stays : (pins list : List Cid) → Lists t.notes.pins pins → reach (held_at t) most (roots ++ pins) ≡ Ok list
      → (c : Cid) (bytes : List ℕ) → Contains list c → held_at t c ≡ Some bytes → held_at now c ≡ Some bytes

-- the CID of each of these blocks is one of these
abbrev pub AreAmong : List Cid → List Held → Type 0
AreAmong kept blocks = AllByRecursion (λ (b : Held). Contains kept b.0) blocks
