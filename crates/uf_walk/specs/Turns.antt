-- What each call of a walk answers and leaves. Each says it for every way in which links may be followed.
use Rattle.std.specs.Prelude.{◌≡◌, ℕ, ◌<◌, List, [], ◌∷◌, ◌++◌, length, Contains}
use Rattle.std.specs.declared.option.Option.{Option}
use Rattle.std.specs.declared.option.Option.TheVariants.{None, Some}
use Rattle.std.specs.declared.result.Result.{Result}
use Rattle.std.specs.declared.result.Result.TheVariants.{Ok, Err}
use Rattle.uf_cid.specs.declared.bytes.Memory.{Memory}
use Rattle.uf_cid.specs.declared.cid.Cid.{Cid}
use Rattle.uf_walk.specs.declared.turn.Turn.{Turn}
use Rattle.uf_walk.specs.declared.turn.Turn.TheVariants as turn
use Rattle.uf_walk.specs.declared.turn.WalkFault.{WalkFault}
use Rattle.uf_walk.specs.declared.turn.WalkFault.TheVariants as fault
use Rattle.uf_walk.specs.Order.{Follow, Whole, TooMany, block_links}
use Rattle.uf_walk.specs.Walked.{Walked, course, with_root}

-- the same CIDs were handed out, of at most as many
pub record StaysAt (before now : Walked) : Type 0 where
  pub same_most : now.most ≡ before.most
  pub same_handed : now.handed ≡ before.handed

-- a root was added after all that is ahead
pub record AddsRoot (root : Cid) (before now : Walked) : Type 0 where
  pub stays : StaysAt before now
  pub due : now.due ≡ None
  pub course : (follow : Follow) → course follow now ≡ with_root follow before.most root (course follow before)

-- a new CID was handed out, and its block is due
pub record HandsOut (c : Cid) (before now : Walked) : Type 0 where
  pub same_most : now.most ≡ before.most
  pub handed : now.handed ≡ before.handed ++ c ∷ []
  pub due : now.due ≡ Some c
  pub is_new : Contains before.handed c → ⊥
  pub fits : length before.handed < before.most
  pub course : (follow : Follow) → course follow now ≡ course follow before

-- the whole order was handed out
pub record EndsWalk (before now : Walked) : Type 0 where
  pub stays : StaysAt before now
  pub due : now.due ≡ None
  pub whole : (follow : Follow) → course follow before ≡ Whole before.handed
  pub course : (follow : Follow) → course follow now ≡ course follow before

-- the next new CID would be one too many
pub record IsFull (before now : Walked) : Type 0 where
  pub stays : StaysAt before now
  pub due : now.due ≡ None
  pub full : length before.handed ≡ before.most
  pub too_many : (follow : Follow) → course follow before ≡ TooMany
  pub course : (follow : Follow) → course follow now ≡ course follow before

-- the answer of `advance`
abbrev pub AdvancesWalk : Result Turn Memory → Walked → Walked → Type 0
AdvancesWalk (Ok (turn.At c)) before now = HandsOut c before now
AdvancesWalk (Ok turn.End) before now = EndsWalk before now
AdvancesWalk (Ok turn.TooMany) before now = IsFull before now
AdvancesWalk (Err memory) before now = now ≡ before

-- the block that was due was taken, and nothing was handed out
pub record HasTaken (before now : Walked) : Type 0 where
  pub due : now.due ≡ None
  pub same_most : now.most ≡ before.most
  pub same_handed : now.handed ≡ before.handed

-- the block of a CID was taken: its links are ahead of all others
pub record Follows (c : Cid) (bytes : List ℕ) (before now : Walked) : Type 0 where
  pub stays : StaysAt before now
  pub due : now.due ≡ None
  pub links : List Cid
  pub reads : block_links c.codec bytes ≡ Ok links
  pub course : (follow : Follow) → follow c ≡ Some links → course follow now ≡ course follow before

-- the block of a CID is no node, and nothing has changed
pub record RefusesBlock (c d : Cid) (why : ℕ) (bytes : List ℕ) (before now : Walked) : Type 0 where
  pub same : d ≡ c
  pub reads : block_links c.codec bytes ≡ Err why
  pub unchanged : now ≡ before

-- the answer of `take`
abbrev pub TakesBlockOf : Cid → List ℕ → Result Unit WalkFault → Walked → Walked → Type 0
TakesBlockOf c bytes (Ok t) before now = Follows c bytes before now
TakesBlockOf c bytes (Err (fault.NotDagPb d why)) before now = RefusesBlock c d why bytes before now
TakesBlockOf c bytes (Err fault.Memory) before now = now ≡ before

abbrev pub TakesDue : Option Cid → List ℕ → Result Unit WalkFault → Walked → Walked → Type 0
TakesDue None bytes answer before now = ⊥
TakesDue (Some c) bytes answer before now = TakesBlockOf c bytes answer before now

abbrev pub TakesBlock : List ℕ → Result Unit WalkFault → Walked → Walked → Type 0
TakesBlock bytes answer before now = TakesDue before.due bytes answer before now
