-- How the count of touches moves.
use Rattle.std.specs.Prelude.{ℕ, ◌<◌, ◌≤◌, ⊤}
use Rattle.std.specs.declared.option.Option.{Option}
use Rattle.std.specs.declared.option.Option.TheVariants.{None, Some}
use Rattle.uf_store.specs.declared.store.StoreFault.{StoreFault}
use Rattle.uf_store.specs.declared.store.StoreFault.TheVariants.{Failed, Damaged, Missing, BadBlock, Clash, Memory}

-- a block is blamed
abbrev pub IsBlaming : Option StoreFault → Type 0
IsBlaming None = ⊥
IsBlaming (Some Failed) = ⊥
IsBlaming (Some (Damaged cid)) = ⊥
IsBlaming (Some (Missing cid)) = ⊥
IsBlaming (Some (BadBlock cid role)) = ⊤
IsBlaming (Some (Clash cid held bytes)) = ⊥
IsBlaming (Some Memory) = ⊥

-- the count of touches doesn't fall, and it has risen where a block is blamed
pub record CountsUp (fault : Option StoreFault) (before now : ℕ) : Type 0 where
  pub kept : before ≤ now
  pub risen : IsBlaming fault → before < now
