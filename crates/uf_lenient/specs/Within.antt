-- What a reading gives that its limits may end.
use Rattle.std.specs.Prelude.{◌≡◌, ℕ, List, Some, None, ⊤, nat_eq, if◌then◌else◌}
use Rattle.std.specs.Cmp.Lexicographic.{pointwise}
use Rattle.std.specs.declared.option.Option.{Option}
use Rattle.std.specs.declared.result.Result.{Result}
use Rattle.std.specs.declared.result.Result.TheVariants.{Ok, Err}
use Rattle.uf_cid.specs.Blocks.{Lookup}
use Rattle.uf_cid.specs.declared.cid.Cid.{Cid}
use Rattle.uf_store.specs.declared.store.StoreFault.TheVariants.{Missing}
use Rattle.uf_lenient.specs.declared.fault.DagFault.{DagFault}
use Rattle.uf_lenient.specs.declared.fault.DagFault.TheVariants.{Store, TooDeep, TooMany}

-- the reading was ended by a limit
abbrev pub IsLimit : DagFault → Type 0
IsLimit (TooDeep cid) = ⊤
IsLimit TooMany = ⊤
IsLimit other = ⊥

-- the reading gives this value, unless it was ended by a limit
abbrev pub GivesWithinLimits : {A : Type 0} → A → Result A DagFault → Type 0
GivesWithinLimits a (Ok b) = b ≡ a
GivesWithinLimits a (Err fault) = IsLimit fault

-- a map holds all that another one holds
abbrev pub HoldsAllOf : Lookup → Lookup → Type 0
HoldsAllOf held more = (c : Cid) (block : List ℕ) → held c ≡ Some block → more c ≡ Some block

-- the block that a reading missed is missing here too
abbrev pub IsStillMissing : Lookup → DagFault → Type 0
IsStillMissing held (Store (Missing cid)) = held cid ≡ None
IsStillMissing held other = ⊤

-- what one reading answers, another one of this map answers too, but that it may find the block that the first one
-- missed
abbrev pub AnswersSame : {A : Type 0} → Lookup → Result A DagFault → Result A DagFault → Type 0
AnswersSame held (Ok a) other = other ≡ Ok a
AnswersSame held (Err fault) other = IsStillMissing held fault → other ≡ Err fault

-- a block that has this digest
abbrev pub with_digest : (List ℕ → List ℕ) → List ℕ → Option (List ℕ) → Option (List ℕ)
with_digest hash digest None = None
with_digest hash digest (Some block) = if pointwise nat_eq (hash block) digest then Some block else None

-- the held blocks that are good: each has its CID's digest
abbrev pub good_blocks : (List ℕ → List ℕ) → Lookup → Lookup
good_blocks hash held c = with_digest hash c.digest (held c)

-- a map holds all good blocks that another one holds
abbrev pub HoldsGoodOf : (List ℕ → List ℕ) → Lookup → Lookup → Type 0
HoldsGoodOf hash held more =
    (c : Cid) (block : List ℕ) → held c ≡ Some block → hash block ≡ c.digest → more c ≡ Some block
