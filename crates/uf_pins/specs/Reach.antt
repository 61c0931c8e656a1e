-- What is below some roots.
use Rattle.std.specs.Prelude.{◌≡◌, ◌↔◌, ℕ, List, [], Contains, None, ⊤}
use Rattle.std.specs.declared.option.Option.{Option}
use Rattle.std.specs.declared.result.Result.{Result}
use Rattle.std.specs.declared.result.Result.TheVariants.{Ok, Err}
use Rattle.uf_cid.specs.Blocks.{Lookup}
use Rattle.uf_cid.specs.declared.cid.Cid.{Cid}
use Rattle.uf_store.specs.declared.store.StoreFault.{StoreFault}
use Rattle.uf_store.specs.declared.store.StoreFault.TheVariants as store
use Rattle.uf_walk.specs.Order.{Follow, Missing, NotDagPb, OrderFault, OverMost, follow_held, goes, ordered}
use Rattle.uf_walk.specs.Reaching.{IsReachedBy}
use Rattle.uf_walk.specs.Walked.{Walked, course}
use Rattle.uf_pins.specs.declared.fault.PinFault.{PinFault}
use Rattle.uf_pins.specs.declared.fault.PinFault.TheVariants as fault

-- the CIDs below some roots and themselves, from each root in turn in first-visit depth-first order, each once over
-- all and at most n, or the first fault in that order
abbrev pub reach : Lookup → ℕ → List Cid → Result (List Cid) OrderFault
reach held most roots = ordered held (goes (follow_held held) most roots)

-- a chain of CIDs leads to the CID from one of the roots, in which the block of each links the next
pub record IsReachedFrom (follow : Follow) (roots : List Cid) (c : Cid) : Type 0 where
  pub root : Cid
  pub is_root : Contains roots root
  pub chain : IsReachedBy follow root c

-- the list is of just the CIDs that are reached
abbrev pub IsReach : Follow → List Cid → List Cid → Type 0
IsReach follow roots list = (c : Cid) → (Contains list c ↔ IsReachedFrom follow roots c)

-- ---- walks

-- the first fault, by a fault of the store; a store that failed, and out of memory, are no part of it
abbrev pub StopsByStore : Result (List Cid) OrderFault → StoreFault → Type 0
StopsByStore said store.Failed = ⊤
StopsByStore said (store.Damaged c) = ⊤
StopsByStore said (store.Missing c) = said ≡ Err (Missing c)
StopsByStore said (store.BadBlock c role) = ⊥
StopsByStore said (store.Clash c a b) = ⊥
StopsByStore said store.Memory = ⊤

abbrev pub StopsReach : Result (List Cid) OrderFault → PinFault → Type 0
StopsReach said fault.BadPins = ⊥
StopsReach said fault.TooManyPins = ⊥
StopsReach said (fault.NotPinned c) = ⊥
StopsReach said (fault.NotDagPb c why) = said ≡ Err (NotDagPb c why)
StopsReach said fault.TooMany = said ≡ Err OverMost
StopsReach said (fault.Store f) = StopsByStore said f

-- all of the reach, or the first fault
abbrev pub Reaches : Result (List Cid) OrderFault → Result (List Cid) PinFault → Type 0
Reaches said (Ok list) = said ≡ Ok list
Reaches said (Err f) = StopsReach said f

-- the same of a list to which it was added
abbrev pub ReachesAll : Result (List Cid) OrderFault → Result Unit PinFault → List Cid → Type 0
ReachesAll said (Ok u) list = said ≡ Ok list
ReachesAll said (Err f) list = StopsReach said f

-- a walk that has these roots ahead, and has handed out nothing
pub record HasRoots (most : ℕ) (roots : List Cid) (w : Walked) : Type 0 where
  pub due : w.due ≡ None
  pub handed : w.handed ≡ []
  pub most_is : w.most ≡ most
  pub course : (follow : Follow) → course follow w ≡ goes follow most roots

-- a block was taken, so the reach goes on as it did, or its fault is the first
abbrev pub FollowsReach : Lookup → Result Unit PinFault → Walked → Walked → Type 0
FollowsReach held (Ok t) before now = course (follow_held held) now ≡ course (follow_held held) before
FollowsReach held (Err f) before now = StopsReach (ordered held (course (follow_held held) before)) f
