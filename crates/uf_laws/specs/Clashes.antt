-- Blocks that clash among those of a list.
use Rattle.std.specs.Prelude.{ℕ, List, Contains}
use Rattle.uf_cid.specs.Blocks.{Held, IsClash}

-- two blocks of the list are different and have one digest
pub record HasClash (hash : List ℕ → List ℕ) (blocks : List Held) : Type 0 where
  pub first : Held
  pub second : Held
  pub first_there : Contains blocks first
  pub second_there : Contains blocks second
  pub clash : IsClash hash first.1 second.1
