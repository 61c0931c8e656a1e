-- Ranges of a file, and the blocks that are needed to read one.
use Rattle.std.specs.Prelude.{◌≡◌, ℕ, zero, suc, ◌+◌, ◌-◌, ◌*◌, ◌≤◌, List, [], ◌∷◌, ◌++◌, length, map, take, drop, nat_lt, Bool, ◌&&◌, if◌then◌else◌, IsTrue, ⊤}
use Rattle.std.specs.declared.result.Result.{Result}
use Rattle.std.specs.declared.result.Result.TheVariants.{Ok, Err}
use Rattle.uf_cid.specs.Blocks.{Held}
use Rattle.uf_cid.specs.declared.cid.Cid.{Cid}
use Rattle.uf_edge.specs.Counts.{Rose}
use Rattle.uf_edge.specs.Streams.{Told as SinkTold, after}
use Rattle.uf_fileread.specs.declared.fault.RangeFault.{RangeFault}
use Rattle.uf_fileread.specs.declared.fault.RangeFault.TheVariants.{Sink, Store}
use Rattle.uf_store.specs.Contents.{Told}
use Rattle.uf_store.specs.Faults.{Shows, StaysCalm}
use Rattle.uf_store.specs.Keeping.{Holds}
use Rattle.uf_store.specs.Lost.{LosesFirst}
use Rattle.uf_store.specs.Seen.{Seen}
use Rattle.uf_store.specs.declared.store.Role.{Role}
use Rattle.uf_store.specs.declared.store.StoreFault.{StoreFault}
use Rattle.uf_store.specs.declared.store.StoreFault.TheVariants.{Failed, Damaged, Missing, BadBlock, Clash, Memory}
use Rattle.uf_tree.specs.declared.meta.Meta.{Meta}
use Rattle.uf_tree.specs.declared.profile.Profile.{Profile}
use Rattle.uf_tree.specs.FilePlan.{file_plan, groups, leaf_held, root_held}
use Rattle.uf_tree.specs.FileSub.{IsRooted, part_over, span}
use Rattle.uf_tree.specs.Metas.{is_meta, none}
use Rattle.uf_tree.specs.Profiles.{is_profile, most_bytes}

-- the bytes from a place on, at most n bytes
abbrev pub range_of : ℕ → ℕ → List ℕ → List ℕ
range_of offset count bytes = take count (drop offset bytes)

-- the range has at least one of these bytes
abbrev pub meets : ℕ → ℕ → List ℕ → Bool
meets offset count bytes = nat_lt offset (length bytes) && nat_lt 0 count

-- the blocks of those of some consecutive groups that a range meets; `of` gives the blocks of one group and its part
-- of the range
abbrev pub blocks_met : (ℕ → ℕ → List ℕ → List Held) → ℕ → ℕ → List (List ℕ) → List Held
blocks_met of offset count [] = []
blocks_met of offset count (g ∷ gs) = (if meets offset count g then of offset count g else [])
    ++ blocks_met of (offset - length g) (count - (length g - offset)) gs

-- how many of some consecutive groups a range meets
abbrev pub met_among : ℕ → ℕ → List (List ℕ) → ℕ
met_among offset count [] = 0
met_among offset count (g ∷ gs) = (if meets offset count g then 1 else 0)
    + met_among (offset - length g) (count - (length g - offset)) gs

-- how many pieces of some bytes a range meets
abbrev pub pieces_met : ℕ → ℕ → ℕ → List ℕ → ℕ
pieces_met c offset count bytes = met_among offset count (groups c bytes)

-- the blocks that are needed to read a range of the part of this height over these bytes, whose node carries this
-- metadata. They are its own, and below it those that the range meets, each node before its links and the links from
-- left to right
unfoldable pub blocks_read : (List ℕ → List ℕ) → ℕ → ℕ → Meta → ℕ → ℕ → ℕ → List ℕ → List Held
blocks_read X c w meta zero offset count bytes = leaf_held X bytes ∷ []
blocks_read X c w meta (suc k) offset count bytes =
    root_held X meta (map (part_over X c w k) (groups (span c w k) bytes))
    ∷ blocks_met (λ o n g. blocks_read X c w none k o n g) offset count (groups (span c w k) bytes)

-- for each piece that a range meets one block in each row is needed, and the root
abbrev pub FewAreRead : (List ℕ → List ℕ) → ℕ → ℕ → Meta → ℕ → ℕ → ℕ → List ℕ → Type 0
FewAreRead X c w meta height offset count bytes = length (blocks_read X c w meta height offset count bytes)
    ≤ 1 + pieces_met c offset count bytes * height

-- the CID is that of the plan of this metadata and these bytes, which a file of this profile may have, and the plan
-- has this height
pub record IsFile (X : List ℕ → List ℕ) (p : Profile) (meta : Meta) (bytes : List ℕ) (cid : Cid)
    (height : ℕ) : Type 0 where
  pub profile : IsTrue (is_profile p)
  pub good : IsTrue (is_meta meta)
  pub few : length bytes ≤ most_bytes p
  pub cid_is : cid ≡ (file_plan X p meta bytes).entry.cid
  pub rooted : IsRooted X p meta bytes (file_plan X p meta bytes) height

-- the fault is that the first of these blocks that isn't held is missing, or out of memory
abbrev pub IsFirstLossOf : Told → List Held → StoreFault → Type 0
IsFirstLossOf told l Failed = ⊥
IsFirstLossOf told l (Damaged cid) = ⊥
IsFirstLossOf told l (Missing cid) = LosesFirst told cid l
IsFirstLossOf told l (BadBlock cid role) = ⊥
IsFirstLossOf told l (Clash cid held bytes) = ⊥
IsFirstLossOf told l Memory = ⊤

-- where these blocks are held the answer is the number of the bytes, which are after what the sink held; else the
-- first of them that isn't held is missing, unless the sink failed before; out of memory is free
abbrev pub WritesOver : Told → List Held → List ℕ → SinkTold → SinkTold → Result ℕ RangeFault → Type 0
WritesOver told l bytes held held_now (Ok n) = (n ≡ length bytes) × Holds told l × (held_now ≡ after held bytes)
WritesOver told l bytes held held_now (Err Sink) = ⊤
WritesOver told l bytes held held_now (Err (Store fault)) = IsFirstLossOf told l fault

-- n bytes were appended to what the sink held
pub record AppendsCount (n : ℕ) (held held_now : SinkTold) : Type 0 where
  pub bytes : List ℕ
  pub count : length bytes ≡ n
  pub appended : held_now ≡ after held bytes

-- at most n bytes
pub record AppendsAtMost (most : ℕ) (held held_now : SinkTold) : Type 0 where
  pub count : ℕ
  pub few : count ≤ most
  pub appends : AppendsCount count held held_now

-- what the sink got of an answer, whatever is read: as many bytes as were asked for at most, and as many as it says
abbrev pub SendsAtMost : ℕ → SinkTold → SinkTold → Result ℕ RangeFault → Type 0
SendsAtMost most held held_now (Ok n) = (n ≤ most) × AppendsCount n held held_now
SendsAtMost most held held_now (Err fault) = AppendsAtMost most held held_now

-- no fault was passed over: after Ok neither the store nor the sink has failed, and a fault shows its cause
abbrev pub ShowsRange : (List ℕ → List ℕ) → (Role → List ℕ → Type 0) → Result ℕ RangeFault → Seen → Seen → ℕ → ℕ
    → Type 0
ShowsRange hash IsBad (Ok n) before now faults faults_now = StaysCalm before now × (faults_now ≡ faults)
ShowsRange hash IsBad (Err Sink) before now faults faults_now = StaysCalm before now × Rose faults faults_now
ShowsRange hash IsBad (Err (Store fault)) before now faults faults_now = Shows hash IsBad fault before now
    × (faults_now ≡ faults)
