-- Which shards may carry metadata.
use Rattle.std.proofs.Common.{◌≡◌, ℕ, zero, suc, List, [], ◌∷◌, length, refl, arith}
use Rattle.uf_tree.specs.declared.meta.Meta.{Meta}
use Rattle.uf_tree.specs.Metas.{none}
use Rattle.uf_tree.specs.Roles.{MayCarry}
use Rattle.uf_shard.specs.Placed.{way}
use Rattle.uf_shard.specs.Walked.{MayCarryAt}

-- none may be carried everywhere
pub none-at : (k : ℕ) → MayCarryAt k none
none-at zero = tt
none-at (suc k) = refl

pub none-behind : (above : List ℕ) → MayCarry above none
none-behind [] = tt
none-behind (s ∷ above) = refl

-- the slots on the way to a level are as many as the levels above it
pub carry-behind : (hash k : ℕ) (m : Meta) → MayCarryAt k m → MayCarry (way hash k) m
carry-behind hash zero m h = tt
carry-behind hash (suc k) m h = h

pub carry-there : (hash k : ℕ) (m : Meta) → MayCarry (way hash k) m → MayCarryAt k m
carry-there hash zero m h = tt
carry-there hash (suc k) m h = h

pub carry-length : (above : List ℕ) (k : ℕ) (m : Meta) → length above ≡ k → MayCarry above m → MayCarryAt k m
carry-length [] zero m e h = tt
carry-length [] (suc k) m e h = absurd (omega arith)
carry-length (s ∷ above) zero m e h = absurd (omega arith)
carry-length (s ∷ above) (suc k) m e h = h
