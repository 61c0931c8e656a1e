-- What a stop in the course of a collection's sweep leaves of what is kept.
use Rattle.std.specs.Prelude.{◌≡◌, ℕ, List, Contains}
use Rattle.std.specs.declared.option.Option.TheVariants.{Some}
use Rattle.std.specs.declared.result.Result.TheVariants.{Ok}
use Rattle.std.specs.FinMap.{get}
use Rattle.uf_cid.specs.Blocks.{Lookup}
use Rattle.uf_cid.specs.declared.cid.Cid.{Cid}
use Rattle.uf_pins.specs.Reach.{IsReachedFrom}
use Rattle.uf_store.specs.Contents.{Contents, HeldMap, Notes, held_at}
use Rattle.uf_store.specs.Stops.{IsPart}
use Rattle.uf_store.specs.declared.store.Write.{Write}
use Rattle.uf_top.specs.Collecting.{kept_in}
use Rattle.uf_walk.specs.Order.{follow_held}

-- both notes are as in these contents, nothing came, and under each of these CIDs is what was held there
pub record LeavesKept (t : Contents) (kept : List Cid) (held : HeldMap) (notes : Notes) : Type 0 where
  pub notes_are : notes ≡ t.notes
  pub part : IsPart held t.held
  pub same : (c : Cid) → Contains kept c → get held c ≡ held_at t c

-- the block was held under the CID, and is so now
pub record StaysHeld (before now : Lookup) (c : Cid) : Type 0 where
  pub bytes : List ℕ
  pub was : before c ≡ Some bytes
  pub is : now c ≡ Some bytes

-- each CID to which a chain of held blocks led from one of these has its block still
abbrev pub StaysBelow : Lookup → List Cid → Lookup → Type 0
StaysBelow before roots now = (c : Cid) → IsReachedFrom (follow_held before) roots c → StaysHeld before now c

-- so it is of what is left of these contents
abbrev pub LeavesBelow : Contents → List Cid → HeldMap → Notes → Type 0
LeavesBelow t roots held notes = StaysBelow (held_at t) roots (λ cid. get held cid)

-- a collection over what is left, whatever was written, keeps these CIDs
abbrev pub KeepsAgain : List Cid → List Cid → HeldMap → Notes → Type 0
KeepsAgain pins list held notes = (writes : List Write)
    → kept_in (record { held = held; notes = notes; writes = writes }) (Some pins) ≡ Ok list
