-- What calls that read a foreign DAG over a store say of the reading, show and spend.
use Rattle.std.specs.Prelude.{◌≡◌, ◌+◌, ◌≤◌, ℕ, List, IfSome}
use Rattle.std.specs.declared.result.Result.{Result}
use Rattle.uf_cid.specs.Blocks.{Lookup}
use Rattle.uf_cid.specs.declared.cid.Cid.{Cid}
use Rattle.uf_store.specs.Calls.{OnlyReads}
use Rattle.uf_store.specs.Contents.{held_at}
use Rattle.uf_store.specs.Faults.{NoneIsBad, Shown}
use Rattle.uf_store.specs.Seen.{Seen}
use Rattle.uf_lenient.specs.declared.due.Due.{Due}
use Rattle.uf_lenient.specs.declared.due.Frame.{Frame}
use Rattle.uf_lenient.specs.declared.due.LeafVisit.{LeafVisit}
use Rattle.uf_lenient.specs.declared.fault.DagFault.{DagFault}
use Rattle.uf_lenient.specs.Answers.{FollowsReading, dag_fault}
use Rattle.uf_lenient.specs.Good.{ByGoodBlocks, ByLeaves}
use Rattle.uf_lenient.specs.Pending.{all_end, frames_ways, how_ends}
use Rattle.uf_lenient.specs.Reading.{Visits, Ways, loads}
use Rattle.uf_lenient.specs.Steps.{StepsTo}

-- no fault of the store was passed over, and no block is bad
abbrev pub ShowsDag : {A : Type 0} → (List ℕ → List ℕ) → Seen → Seen → Result A DagFault → Type 0
ShowsDag hash before now answer = Shown hash NoneIsBad (dag_fault answer) before now

-- the same, and nothing was written
abbrev pub ReadsDag : {A : Type 0} → (List ℕ → List ℕ) → Seen → Seen → Result A DagFault → Type 0
ReadsDag hash before now answer = OnlyReads hash NoneIsBad (dag_fault answer) before now

-- where the store tells, the answer is the one that the reading of what is held says
abbrev pub SaysReading : {A : Type 0} → Seen → (Lookup → Result A DagFault) → Result A DagFault → Type 0
SaysReading seen said answer = IfSome seen.told (λ t. FollowsReading (λ a. a) (said (held_at t)) answer)

-- the same of the reading of the good blocks, whatever else is held
abbrev pub SaysGoodReading : {A : Type 0} → (List ℕ → List ℕ) → Seen → (Lookup → Result A DagFault)
    → Result A DagFault → Type 0
SaysGoodReading hash seen said answer = ByGoodBlocks hash seen.told (λ held. FollowsReading (λ a. a) (said held) answer)

-- and n visits are left after it
abbrev pub SaysVisits : {A : Type 0} → (List ℕ → List ℕ) → Seen → ℕ → (Lookup → Visits A) → Result A DagFault → Type 0
SaysVisits hash seen visits said answer =
    ByGoodBlocks hash seen.told (λ held. FollowsReading (λ a. (a, visits)) (said held) answer)

-- the block that is lent is the one that is visited under a CID, where n levels are left
abbrev pub LendsVisited : (List ℕ → List ℕ) → ℕ → Cid → Seen → Seen → ℕ → ℕ → Result Unit DagFault → Type 0
LendsVisited hash left cid before now visits visits_now answer = ByGoodBlocks hash before.told (λ held.
    FollowsReading (λ _. (now.lent, visits_now)) (loads held left cid visits) answer)

-- a leaf was visited under a CID, where n levels are left, and its bytes may not have been loaded
abbrev pub MeetsLeaf : LeafVisit → (List ℕ → List ℕ) → ℕ → Cid → Seen → ℕ → ℕ → Result Unit DagFault → Type 0
MeetsLeaf leaf hash left cid seen visits visits_now answer = ByLeaves leaf hash seen.told (λ held.
    FollowsReading (λ _. visits_now) (how_ends (loads held left cid visits)) answer)

-- all that is due was read, its leaves in this way, and n visits are left
abbrev pub ReadsAllDue : {A : Type 0} → LeafVisit → (List ℕ → List ℕ) → Seen → List Due → ℕ → ℕ → Result A DagFault
    → Type 0
ReadsAllDue leaf hash seen due visits visits_now answer = ByLeaves leaf hash seen.told (λ held.
    FollowsReading (λ _. visits_now) (all_end held due visits) answer)

-- one of what is due was visited: the reading of what is due now ends as that of what was due before
abbrev pub ReadsOneDue : LeafVisit → (List ℕ → List ℕ) → Seen → List Due → List Due → ℕ → ℕ → Result Unit DagFault
    → Type 0
ReadsOneDue leaf hash seen due due_now visits visits_now answer = ByLeaves leaf hash seen.told (λ held.
    StepsTo (all_end held due visits) (all_end held due_now visits_now) answer)

-- the ways of the shards in a pile were added, and n visits are left
abbrev pub AddsFrames : (List ℕ → List ℕ) → Seen → List Frame → Ways → Ways → ℕ → ℕ → Result Unit DagFault → Type 0
AddsFrames hash seen frames met met_now visits visits_now answer = ByGoodBlocks hash seen.told (λ held.
    FollowsReading (λ _. (met_now, visits_now)) (frames_ways held frames met visits) answer)

-- the ways of one shard were added up to the next shard, which is on the pile: the others are the same as before
abbrev pub AddsOneFrame : (List ℕ → List ℕ) → Seen → List Frame → List Frame → Ways → Ways → ℕ → ℕ
    → Result Unit DagFault → Type 0
AddsOneFrame hash seen frames frames_now met met_now visits visits_now answer = ByGoodBlocks hash seen.told (λ held.
    StepsTo (frames_ways held frames met visits) (frames_ways held frames_now met_now visits_now) answer)

-- each visit is one touch, and the count of touches doesn't fall
abbrev pub TouchesByVisit : ℕ → ℕ → ℕ → ℕ → Type 0
TouchesByVisit visits visits_now touches touches_now =
    (touches_now + visits_now ≡ touches + visits) × (touches ≤ touches_now)
