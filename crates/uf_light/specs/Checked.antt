-- What a check of a light proof answers, reads and writes.
use Rattle.std.specs.Prelude.{◌≡◌, ◌≤◌, ℕ, List, Some, length, true, IfErr, IfOk}
use Rattle.std.specs.declared.result.Result.{Result}
use Rattle.uf_car.specs.Exporting.{WritesAll, WritesSome}
use Rattle.uf_car.specs.Reading.{car_read}
use Rattle.uf_edge.specs.Counts.{Counts, Stood}
use Rattle.uf_edge.specs.Streams.{Told as SinkTold, Told as SourceTold}
use Rattle.uf_light.specs.Accepting.{IsProof}
use Rattle.uf_light.specs.Along.{ChecksFirst, ChecksPath, ChecksPrefix}
use Rattle.uf_light.specs.Answers.{CountsSink, IsOwnFault, OpensAs, is_light_read, is_light_sink, opened}
use Rattle.uf_light.specs.Below.{IsAboveNames}
use Rattle.uf_light.specs.Light.{absent_text}
use Rattle.uf_light.specs.Sections.{IsOkOrMemory, ShownBySections}
use Rattle.uf_light.specs.declared.asked.Asked.{Asked}
use Rattle.uf_light.specs.declared.fault.LightFault.{LightFault}

-- the answer to a source of which this is left, whose bytes are read as a CAR of at most `limit` bytes, and what the
-- sink has now; the source and the sink have failed so often
pub record Checks (X : List ℕ → List ℕ) (N : List ℕ → ℕ) (asked : Asked) (limit : ℕ) (left : SourceTold)
    (answer : Result ℕ LightFault) (reads reads_now : ℕ) (out out_now : SinkTold) (writes writes_now : ℕ) : Type 0 where
  -- what the CAR says before its tree is looked at: two sections that clash, a fault of its form, another root
  pub opens : (bytes : List ℕ) → left ≡ Some bytes → Stood reads reads_now
      → OpensAs (opened asked.root (car_read X limit bytes)) answer
  -- whatever tree has this root: it is the tree's answer, or a block of the tree's plan and a section clash
  pub tree : ChecksPath X N asked limit left answer out out_now
  -- the proof that `prove` writes of a tree with this root is accepted, where nothing fails meanwhile
  pub accepts : (said bytes : List ℕ) → IsProof X N asked.root asked.names asked.absent said bytes
      → length bytes ≤ limit → left ≡ Some bytes → Stood reads reads_now → Stood writes writes_now
      → IsOkOrMemory answer
  -- whatever fails, a prefix of the tree's answer was written and nothing else, unless two such blocks clash
  pub prefix : ChecksPrefix X N asked limit left out out_now
  pub some : WritesSome out out_now
  -- all is read before anything is written: a refusal, and a block that is missing or bad, leaves the sink as it was
  pub first : ChecksFirst X N asked limit left answer out out_now
  -- whatever the root is of: with names below it, a section of its CID is there, whose block is canonical as the root
  -- of a directory, and each section of that CID has this block
  pub root : (bytes : List ℕ) → left ≡ Some bytes
      → IfOk answer (λ n. IsAboveNames X asked.root asked.names (car_read X limit bytes).sections)
  -- with `absent` the line was written and nothing else
  pub line : asked.absent ≡ true → IfOk answer (λ n. WritesAll (absent_text asked.names) n out out_now)
  -- whatever the CAR has: each fault of the store that it is read into is shown by its sections
  pub shown : (bytes : List ℕ) → left ≡ Some bytes
      → ShownBySections X N asked.root (car_read X limit bytes).sections answer
  pub own : IfErr answer (IsOwnFault X)
  pub read : Counts (is_light_read answer) reads reads_now
  pub sent : CountsSink (is_light_sink answer) writes writes_now
