-- What a call over a store shows and leaves, in one word for each kind of call.
use Rattle.std.specs.Prelude.{◌≡◌, ℕ, List, Some, None, ⊤}
use Rattle.std.specs.declared.option.Option.{Option}
use Rattle.uf_edge.specs.Counts.{Stood}
use Rattle.uf_store.specs.declared.store.Role.{Role}
use Rattle.uf_store.specs.declared.store.StoreFault.{StoreFault}
use Rattle.uf_store.specs.Faults.{Shown}
use Rattle.uf_store.specs.Keeping.{KeepsGood}
use Rattle.uf_store.specs.Seen.{Seen}
use Rattle.uf_store.specs.Writing.{SavesOnly}

-- the store didn't fail, and no clash was met
pub record Calm (before now : Seen) : Type 0 where
  pub faults : Stood before.faults now.faults
  pub clashes : Stood before.clashes now.clashes

-- a call that reads alone: its fault has its cause, and what is told is as before
pub record OnlyReads (hash : List ℕ → List ℕ) (IsBad : Role → List ℕ → Type 0) (fault : Option StoreFault)
    (before now : Seen) : Type 0 where
  pub cause : Shown hash IsBad fault before now
  pub told : now.told ≡ before.told

-- a call that may save: its fault has its cause, good blocks are kept, and nothing but blocks is written
pub record OnlySaves (hash : List ℕ → List ℕ) (IsBad : Role → List ℕ → Type 0) (fault : Option StoreFault)
    (before now : Seen) : Type 0 where
  pub cause : Shown hash IsBad fault before now
  pub good : KeepsGood hash before.told now.told
  pub saves : SavesOnly hash before.told now.told

-- the lent block is as before, where there is no fault
abbrev pub LendsSame : Option StoreFault → Seen → Seen → Type 0
LendsSame None before now = now.lent ≡ before.lent
LendsSame (Some fault) before now = ⊤

-- a call that loads nothing: no block was found, none missed, and with no fault the lent block is as before
pub record LoadsNothing (fault : Option StoreFault) (before now : Seen) : Type 0 where
  pub finds : now.finds ≡ before.finds
  pub misses : now.misses ≡ before.misses
  pub lent : LendsSame fault before now
