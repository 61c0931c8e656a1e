-- What each fault of a call over a store shows, and how the counts moved where there is none.
use Rattle.std.specs.Prelude.{◌≡◌, ℕ, ◌≤◌, List, Some, None, IfSome}
use Rattle.std.specs.declared.option.Option.{Option}
use Rattle.std.specs.declared.result.Result.{Result}
use Rattle.std.specs.declared.result.Result.TheVariants.{Ok, Err}
use Rattle.uf_cid.specs.declared.cid.Cid.{Cid}
use Rattle.uf_cid.specs.Blocks.{IsClash}
use Rattle.uf_edge.specs.Counts.{Rose}
use Rattle.uf_store.specs.declared.store.Role.{Role}
use Rattle.uf_store.specs.declared.store.StoreFault.{StoreFault}
use Rattle.uf_store.specs.declared.store.StoreFault.TheVariants.{Failed, Damaged, Missing, BadBlock, Clash, Memory}
use Rattle.uf_store.specs.Contents.{held_at}
use Rattle.uf_store.specs.Keeping.{HoldsOne}
use Rattle.uf_store.specs.Seen.{Seen}

-- no count has fallen
pub record Rises (before now : Seen) : Type 0 where
  pub finds : before.finds ≤ now.finds
  pub misses : before.misses ≤ now.misses
  pub faults : before.faults ≤ now.faults
  pub clashes : before.clashes ≤ now.clashes

-- the store has not failed, and no clash was met: at most the counts of blocks that were found and missed have risen
pub record StaysCalm (before now : Seen) : Type 0 where
  pub finds : before.finds ≤ now.finds
  pub misses : before.misses ≤ now.misses
  pub faults : now.faults ≡ before.faults
  pub clashes : now.clashes ≡ before.clashes

-- the store has not failed, but it may have met a clash
pub record HasNotFailed (before now : Seen) : Type 0 where
  pub finds : before.finds ≤ now.finds
  pub misses : before.misses ≤ now.misses
  pub faults : now.faults ≡ before.faults
  pub clashes : before.clashes ≤ now.clashes

-- the store failed, or met a damaged block
pub record ShowsFailure (before now : Seen) : Type 0 where
  pub rose : Rose before.faults now.faults
  pub rises : Rises before now
  pub clashes : now.clashes ≡ before.clashes

-- a block was missing, and where the store tells, it isn't held
pub record ShowsMissing (cid : Cid) (before now : Seen) : Type 0 where
  pub rose : Rose before.misses now.misses
  pub not_held : IfSome now.told (λ t. held_at t cid ≡ None)
  pub calm : StaysCalm before now

-- a block was found, and the one that is lent is this CID's, where the store tells it is held, and it is bad in its
-- role
pub record ShowsBadBlock (hash : List ℕ → List ℕ) (IsBad : Role → List ℕ → Type 0) (cid : Cid) (role : Role)
    (before now : Seen) : Type 0 where
  pub rose : Rose before.finds now.finds
  pub digest : hash now.lent ≡ cid.digest
  pub is_held : HoldsOne now.told cid now.lent
  pub bad : IsBad role now.lent
  pub calm : StaysCalm before now

-- two different blocks of one digest: the first is lent, and where the store tells, it is held
pub record ShowsClash (hash : List ℕ → List ℕ) (cid : Cid) (held bytes : List ℕ) (before now : Seen) : Type 0 where
  pub rose : Rose before.clashes now.clashes
  pub clash : IsClash hash held bytes
  pub is_lent : now.lent ≡ held
  pub is_held : IfSome now.told (λ t. held_at t cid ≡ Some held)
  pub rises : Rises before now
  pub faults : now.faults ≡ before.faults

-- no block is bad in any role: calls that read no block's content refuse none
abbrev pub NoneIsBad : Role → List ℕ → Type 0
NoneIsBad role bytes = ⊥

-- what a fault shows; which blocks are bad in a role, since they aren't canonical in it, is said by the layer that
-- reads them. Out of memory hides no failure; it may come in place of a clash, since showing one takes memory
abbrev pub Shows : (List ℕ → List ℕ) → (Role → List ℕ → Type 0) → StoreFault → Seen → Seen → Type 0
Shows hash IsBad Failed before now = ShowsFailure before now
Shows hash IsBad (Damaged cid) before now = ShowsFailure before now
Shows hash IsBad (Missing cid) before now = ShowsMissing cid before now
Shows hash IsBad (BadBlock cid role) before now = ShowsBadBlock hash IsBad cid role before now
Shows hash IsBad (Clash cid held bytes) before now = ShowsClash hash cid held bytes before now
Shows hash IsBad Memory before now = HasNotFailed before now

-- no fault of the store was passed over: with none it has stayed calm, and a fault shows its cause
abbrev pub Shown : (List ℕ → List ℕ) → (Role → List ℕ → Type 0) → Option StoreFault → Seen → Seen → Type 0
Shown hash IsBad None before now = StaysCalm before now
Shown hash IsBad (Some fault) before now = Shows hash IsBad fault before now

-- the store's fault in an answer
abbrev pub fault_in : {A : Type 0} → Result A StoreFault → Option StoreFault
fault_in (Ok a) = None
fault_in (Err fault) = Some fault

-- no fault was passed over: after Ok the store has stayed calm, and a fault shows its cause
abbrev pub Answers : {A : Type 0} → (List ℕ → List ℕ) → (Role → List ℕ → Type 0) → Result A StoreFault → Seen → Seen
    → Type 0
Answers hash IsBad answer before now = Shown hash IsBad (fault_in answer) before now
