-- What `check` did, which reads a light proof from the input and needs no store.
use Rattle.std.specs.Prelude.{◌≡◌, ◌⊎◌, ◌≤◌, ℕ, List, length, Bool, true, IfErr, IfOk}
use Rattle.std.specs.declared.option.Option.TheVariants.{Some}
use Rattle.std.specs.declared.result.Result.{Result}
use Rattle.uf_car.specs.Exporting.{WritesAll, WritesSome}
use Rattle.uf_car.specs.Reading.{car_read}
use Rattle.uf_cid.specs.declared.cid.Cid.{Cid}
use Rattle.uf_edge.specs.Counts.{Counts, Stood}
use Rattle.uf_edge.specs.Streams.{AppendsPrefix}
use Rattle.uf_edge.specs.Streams as streams
use Rattle.uf_light.specs.Accepting.{IsProof}
use Rattle.uf_light.specs.Answers.{ClashesWithPlan, CountsSink, IsOwnFault, OpensAs, file_needs, is_light_read}
use Rattle.uf_light.specs.Answers.{is_light_sink, opened}
use Rattle.uf_light.specs.Below.{IsAboveNames}
use Rattle.uf_light.specs.Light.{HasHeight, absent_text, light_says, said_bytes}
use Rattle.uf_light.specs.Sections.{AnswersTree, IsOkOrMemory, ShownBySections}
use Rattle.uf_light.specs.Sending.{ComesFirst}
use Rattle.uf_light.specs.Standing.{IsTreeAt}
use Rattle.uf_light.specs.declared.fault.LightFault.{LightFault}
use Rattle.uf_plain.specs.Edits.{at}
use Rattle.uf_plain.specs.Needs.{needs_at}
use Rattle.uf_tree.specs.Tree.{Tree}
use Rattle.uf_tree.specs.TreePlan.{blocks}
use Rattle.uf_tree.specs.declared.profile.Profile.{Profile}
use Rattle.uf_command.specs.Telling.{TellsEnd}
use Rattle.uf_command.specs.declared.status.Status.{Status}
use Rattle.uf_command.specs.declared.types.Refusal.{Refusal}
use Rattle.uf_top.specs.Around.{Around, Said}
use Rattle.uf_top.specs.Light.{EndsLight, most_of_proof}

module _ (X : List ℕ → List ℕ) (N : List ℕ → ℕ) (absent : Bool) (root : Cid) (names : List (List ℕ)) where
  -- the answer to an input that is read as the proof of what is at these names below this root, or with `absent` that
  -- nothing is there
  pub record ChecksInput (answer : Result ℕ LightFault) (left : streams.Told) (was is : ℕ)
      (held held_now : streams.Told) (was_sent is_sent : ℕ) : Type 0 where
    -- what the CAR says before its tree is looked at comes first
    pub opens : (bytes : List ℕ) → left ≡ Some bytes → Stood was is
        → OpensAs (opened root (car_read X most_of_proof bytes)) answer
    -- whatever tree has this root: a block of its plan and a section clash, or the answer is the tree's, or a block
    -- that is needed to read it is no section
    pub tree : (bytes : List ℕ) (p : Profile) (t : Tree) (height : ℕ) → left ≡ Some bytes → IsTreeAt X N p root t
        → HasHeight p height (at 0 names t)
        → AnswersTree X (car_read X most_of_proof bytes).sections (blocks X N p t)
        (needs_at X N p (file_needs X p height) names t) (light_says absent names (at 0 names t)) answer held held_now
    -- the proof that `prove` writes of a tree with this root is accepted, where nothing fails meanwhile
    pub accepts : (said bytes : List ℕ) → IsProof X N root names absent said bytes → length bytes ≤ most_of_proof
        → left ≡ Some bytes → Stood was is → Stood was_sent is_sent → IsOkOrMemory answer
    -- whatever fails, a prefix of the tree's answer was written and nothing else, unless two such blocks clash
    pub front : (bytes : List ℕ) (p : Profile) (t : Tree) (height : ℕ) → left ≡ Some bytes → IsTreeAt X N p root t
        → HasHeight p height (at 0 names t)
        → ClashesWithPlan X (blocks X N p t) (car_read X most_of_proof bytes).sections
        ⊎ AppendsPrefix (said_bytes (light_says absent names (at 0 names t))) held held_now
    pub some : WritesSome held held_now
    -- all is read before anything is written, unless two such blocks clash
    pub first : (bytes : List ℕ) (p : Profile) (t : Tree) (height : ℕ) → left ≡ Some bytes → IsTreeAt X N p root t
        → HasHeight p height (at 0 names t)
        → ClashesWithPlan X (blocks X N p t) (car_read X most_of_proof bytes).sections ⊎ ComesFirst answer held held_now
    -- whatever the root is of: with names below it, a section of its CID is there, whose block is canonical as the root
    -- of a directory, and each section of that CID has this block
    pub root_section : (bytes : List ℕ) → left ≡ Some bytes
        → IfOk answer (λ n. IsAboveNames X root names (car_read X most_of_proof bytes).sections)
    -- with `absent` the line was written and nothing else
    pub line : absent ≡ true → IfOk answer (λ n. WritesAll (absent_text names) n held held_now)
    -- whatever the CAR has: a lost block, a bad one and two that clash are shown by its sections, and no store fails
    pub shown : (bytes : List ℕ) → left ≡ Some bytes
        → ShownBySections X N root (car_read X most_of_proof bytes).sections answer
    pub own : IfErr answer (IsOwnFault X)
    pub reads : Counts (is_light_read answer) was is
    pub writes : CountsSink (is_light_sink answer) was_sent is_sent

  -- and how it ended
  pub record ChecksAndEnds (done : Result (Unit {0}) Refusal) (left : streams.Told) (was is : ℕ)
      (held held_now : streams.Told) (was_sent is_sent : ℕ) : Type 0 where
    pub answer : Result ℕ LightFault
    pub checks : ChecksInput answer left was is held held_now was_sent is_sent
    pub ends : EndsLight names answer done

module _ (X : List ℕ → List ℕ) (N : List ℕ → ℕ) where
  -- what `check` did: how it ended, what the input proves of a path below a root, and that the store is as before
  pub record RunsCheck (absent : Bool) (root : Cid) (names : List (List ℕ)) (given : Status) (before now : Around)
      : Type 0 where
    -- how the check ended, which the status and the line report
    pub done : Result (Unit {0}) Refusal
    pub tells : TellsEnd (Said before.errors now.errors) done given
    pub checks : ChecksAndEnds X N absent root names done before.left before.reads now.reads before.held now.held
        before.writes now.writes
    -- the store and the host are as before
    pub store : now.store ≡ before.store
    pub host : now.host ≡ before.host
