-- What a pull asks for and keeps: the first block that is missing in the order is asked for, and is held from then on,
-- until the order is whole.
use Rattle.std.specs.Prelude.{ℕ, zero, suc, ◌&&◌, nat_eq, Bool, true, false, List, [], ◌∷◌, ◌++◌, length, map}
use Rattle.std.specs.Prelude.{if◌then◌else◌}
use Rattle.std.specs.Cmp.Lexicographic.{pointwise}
use Rattle.std.specs.Ordering.{eq_by_cmp}
use Rattle.std.specs.declared.option.Option.{Option}
use Rattle.std.specs.declared.option.Option.TheVariants.{None, Some}
use Rattle.std.specs.declared.result.Result.{Result}
use Rattle.std.specs.declared.result.Result.TheVariants.{Ok, Err}
use Rattle.uf_cid.specs.Blocks.{Held, Lookup}
use Rattle.uf_cid.specs.Cid.{cid_cmp}
use Rattle.uf_cid.specs.declared.cid.Cid.{Cid}
use Rattle.uf_walk.specs.Order.{OrderFault, Missing, NotDagPb, OverMost, order}
use Rattle.uf_pull.specs.declared.fault.PullFault.{PullFault}
use Rattle.uf_pull.specs.declared.fault.PullFault.TheVariants as fault
use Rattle.uf_pull.specs.Frames.{DeviatesAt, EndsAt, Frame, Frames, Giving, Lacking, Next, first_place, frames}
use Rattle.uf_pull.specs.Wants.{done_line, wants_text}

-- ---- one want

-- what frames answer: a block, with how many more may be dropped and the frames after it, or why there is none, and
-- how many bytes are used then
pub data Answer : Type 0 where
  Answered : List ℕ → ℕ → Frames → Answer
  Refused : PullFault → ℕ → Answer

-- a frame that answers for nothing that was asked is dropped, where one more may be; after it n bytes are used
abbrev pub if_dropped : (ℕ → Answer) → ℕ → ℕ → Answer
if_dropped next used zero = Refused fault.Noise used
if_dropped next used (suc more) = next more

-- the block is that of its CID
abbrev pub is_block_of : (List ℕ → List ℕ) → Cid → List ℕ → Bool
is_block_of hash c block = pointwise nat_eq (hash block) c.digest

-- what the first frame that has this CID, and its block where it gives one, answers
unfoldable pub answer_to : (List ℕ → List ℕ) → Cid → ℕ → Frames → Answer
answer_to hash c more (EndsAt place) = Refused (fault.Ended c) place
answer_to hash c more (DeviatesAt place) = Refused (fault.Bad place) place
answer_to hash c more (Next place (Lacking d) rest) =
    if eq_by_cmp cid_cmp d c then Refused (fault.Lacks c) (first_place rest)
    else if_dropped (λ n. answer_to hash c n rest) (first_place rest) more
answer_to hash c more (Next place (Giving d block) rest) =
    if eq_by_cmp cid_cmp d c && is_block_of hash c block then Answered block more rest
    else if_dropped (λ n. answer_to hash c n rest) (first_place rest) more

-- ---- all of them

-- what is asked for, the blocks that answer, how it ends, whole or refused, and how many bytes of the input are used.
-- These are all up to the end of the last frame that answers, says that its block is lacking, or is dropped
pub record Due : Type 0 where
  pub wants : List Cid
  pub blocks : List Held
  pub ends : Result Unit PullFault
  pub used : ℕ

-- nothing more is asked for
abbrev pub due_end : Result Unit PullFault → ℕ → Due
due_end ends used = record { wants = []; blocks = []; ends = ends; used = used }

abbrev pub cids_of : List Held → List Cid
cids_of blocks = map (λ (b : Held). b.0) blocks

-- these were asked for and answered first
abbrev pub due_behind : List Held → Due → Due
due_behind blocks d =
    record { wants = cids_of blocks ++ d.wants; blocks = blocks ++ d.blocks; ends = d.ends; used = d.used }

abbrev pub due_asked : Cid → (List ℕ → ℕ → Frames → Due) → Answer → Due
due_asked c next (Answered block more rest) = due_behind ((c, block) ∷ []) (next block more rest)
due_asked c next (Refused f used) = record { wants = c ∷ []; blocks = []; ends = Err f; used = used }

abbrev pub due_by : (Cid → Due) → Frames → Result (List Cid) OrderFault → Due
due_by ask rest (Ok list) = due_end (Ok tt) (first_place rest)
due_by ask rest (Err OverMost) = due_end (Err fault.TooMany) (first_place rest)
due_by ask rest (Err (NotDagPb c why)) = due_end (Err (fault.NotDagPb c why)) (first_place rest)
due_by ask rest (Err (Missing c)) = ask c

-- what is held with one block more
abbrev pub holding : Cid → List ℕ → Lookup → Lookup
holding c block held d = if eq_by_cmp cid_cmp d c then Some block else held d

-- at most n wants
unfoldable pub due_within : (List ℕ → List ℕ) → ℕ → Cid → ℕ → Lookup → ℕ → Frames → Due
due_within hash most root zero held more rest =
    due_by (λ c. due_end (Err fault.TooMany) (first_place rest)) rest (order held most root)
due_within hash most root (suc n) held more rest =
    due_by (λ c. due_asked c (λ block m behind. due_within hash most root n (holding c block held) m behind)
    (answer_to hash c more rest)) rest (order held most root)

-- 1024 frames may be dropped
abbrev pub due : (List ℕ → List ℕ) → ℕ → Cid → Lookup → List ℕ → Due
due hash most root held bytes = due_within hash most root most held 1024 (frames bytes)

-- what is written where it is whole, and else what was asked
abbrev pub closing : Result Unit PullFault → List ℕ
closing (Ok t) = done_line
closing (Err f) = []

abbrev pub due_text : Due → List ℕ
due_text d = wants_text d.wants ++ closing d.ends
