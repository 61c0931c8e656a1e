-- That a reading is of good blocks alone: each has its CID's digest.
use Rattle.std.specs.Prelude.{◌≡◌, ℕ, List, None, IfSome, IsSome}
use Rattle.uf_cid.specs.Blocks.{Lookup}
use Rattle.uf_cid.specs.declared.cid.Cid.{Cid}
use Rattle.uf_store.specs.Contents.{Told, held_at}
use Rattle.uf_lenient.specs.declared.due.LeafVisit.{LeafVisit}
use Rattle.uf_lenient.specs.declared.due.LeafVisit.TheVariants.{Loaded, Asked}
use Rattle.uf_lenient.specs.Within.{HoldsGoodOf}

-- a map holds all good blocks that are held, and none where none is held; what else is held makes no difference
pub record HasGoodOf (hash : List ℕ → List ℕ) (held good : Lookup) : Type 0 where
  pub holds : HoldsGoodOf hash held good
  pub misses : (c : Cid) → held c ≡ None → good c ≡ None

-- this is so by the good blocks of what the store tells: it is so of each map that has them, whatever else it has
abbrev pub ByGoodBlocks : (List ℕ → List ℕ) → Told → (Lookup → Type 0) → Type 0
ByGoodBlocks hash told Says = IfSome told (λ t. (good : Lookup) → HasGoodOf hash (held_at t) good → Says good)

-- a map holds something under each CID under which something is held
abbrev pub HoldsWhereHeld : Lookup → Lookup → Type 0
HoldsWhereHeld held more = (c : Cid) → IsSome (held c) → IsSome (more c)

-- a map has all good blocks; where leaves are only asked for, it also has one for each that is held
abbrev pub HasLeaves : LeafVisit → (List ℕ → List ℕ) → Lookup → Lookup → Type 0
HasLeaves Loaded hash held good = HasGoodOf hash held good
HasLeaves Asked hash held good = HasGoodOf hash held good × HoldsWhereHeld held good

-- this is so of each such map
abbrev pub ByLeaves : LeafVisit → (List ℕ → List ℕ) → Told → (Lookup → Type 0) → Type 0
ByLeaves leaf hash told Says = IfSome told (λ t. (good : Lookup) → HasLeaves leaf hash (held_at t) good → Says good)
