-- A batch: the commands that the lines of an input ask for, one after the other.
use Rattle.std.specs.Prelude.{◌≡◌, ◌⊎◌, ℕ, List, [], ◌∷◌, ◌++◌, true, false, IfErr, IfSome}
use Rattle.std.specs.declared.option.Option.{Option}
use Rattle.std.specs.declared.option.Option.TheVariants.{None, Some}
use Rattle.std.specs.declared.result.Result.{Result}
use Rattle.std.specs.declared.result.Result.TheVariants.{Err}
use Rattle.uf_edge.specs.Counts.{Rose}
use Rattle.uf_edge.specs.Streams.{AppendsPrefix, after}
use Rattle.uf_edge.specs.Streams as streams
use Rattle.uf_lines.specs.LinesIn.{LinesIn, lines_in}
use Rattle.uf_command.specs.Batches.{line_in}
use Rattle.uf_command.specs.Commands.{of_command}
use Rattle.uf_command.specs.Natures.{IsOfCommand, NoStore, own_store}
use Rattle.uf_command.specs.Statuses.{ends_batch, mark, no_memory}
use Rattle.uf_command.specs.Telling.{TellsEnd, TellsWhy}
use Rattle.uf_command.specs.declared.status.Status.{Status}
use Rattle.uf_command.specs.declared.status.Status.TheVariants as status
use Rattle.uf_command.specs.declared.types.Command.{Command}
use Rattle.uf_command.specs.declared.types.Refusal.{Refusal}
use Rattle.uf_command.specs.declared.types.Refusal.TheVariants as refusal
use Rattle.uf_top.specs.Around.{Around, Said, SameButErrors, SinkSide}
use Rattle.uf_top.specs.Cars.{ByOwnStore}
use Rattle.uf_top.specs.Caused.{BlamesWhereRead}
use Rattle.uf_top.specs.Running.{Runs}
use Rattle.uf_top.specs.Working.{Serves}

-- the same with no input: so the commands of the lines find it
abbrev pub without_input : Around → Around
without_input a = record a { left = Some []; reads = 0 }

-- the whole text was printed, and nothing else has changed
pub record PrintsWhole (text : List ℕ) (before now : SinkSide) : Type 0 where
  pub printed : now.held ≡ after before.held text
  pub counted : now.faults ≡ before.faults

-- the output failed, and has the beginning of the text
pub record PrintsCut (text : List ℕ) (before now : SinkSide) : Type 0 where
  pub printed : AppendsPrefix text before.held now.held
  pub counted : Rose before.faults now.faults

abbrev pub output_of : Around → SinkSide
output_of a = record { held = a.held; faults = a.writes }

-- the same with this output
abbrev pub with_output : SinkSide → Around → Around
with_output output a = record a { held = output.held; writes = output.faults }

-- the status of a line where the batch goes on was reported and printed
pub record MarksOn (done : Result (Unit {0}) Refusal) (given : Status) (out out_now err err_now : SinkSide)
    : Type 0 where
  pub told : TellsEnd (Said err err_now) done given
  pub goes_on : ends_batch given ≡ false
  pub marked : PrintsWhole (mark given) out out_now

-- the status of a line where the batch ends was reported, and printed, maybe not whole; after a failed writing nothing
-- is
pub record MarksLast (done : Result (Unit {0}) Refusal) (given : Status) (out out_now err err_now : SinkSide)
    : Type 0 where
  pub told : TellsEnd (Said err err_now) done given
  pub ends : ends_batch given ≡ true
  pub unmarked : given ≡ status.WriteFault → out_now ≡ out
  pub marked : (given ≡ status.WriteFault → ⊥)
      → PrintsWhole (mark given) out out_now ⊎ PrintsCut (mark given) out out_now

-- the status of a line couldn't be printed, and the batch ends with that
pub record MarksCut (done : Result (Unit {0}) Refusal) (given : Status) (out out_now err err_now : SinkSide)
    : Type 0 where
  pub was : Status
  pub between : SinkSide
  pub told : TellsEnd (Said err between) done was
  pub goes_on : ends_batch was ≡ false
  pub cut : PrintsCut (mark was) out out_now
  pub tells : TellsWhy (Said between err_now) refusal.Write given

-- how a line that was done is reported and marked, and whether the batch ends with it
abbrev pub ClosesLine : Result (Unit {0}) Refusal → Option Status → SinkSide → SinkSide → SinkSide → SinkSide → Type 0
ClosesLine done None out out_now err err_now = (given : Status) × MarksOn done given out out_now err err_now
ClosesLine done (Some given) out out_now err err_now =
    MarksLast done given out out_now err err_now ⊎ MarksCut done given out out_now err err_now

-- what became of a line: it has no word and nothing was done, or what it asks for was done
module _ (X : List ℕ → List ℕ) (N : List ℕ → ℕ) where
  pub record ServesLine (told : Option (Result Command Refusal)) (done : Result (Unit {0}) Refusal)
      (before now : Around) : Type 0 where
    pub asked : Result Command Refusal
    pub asks : (told ≡ Some asked) ⊎ (asked ≡ Err no_memory)
    pub serves : Serves X N asked done before now
    pub own : IfErr done (ByOwnStore X (of_command own_store NoStore asked) before.left before.store now.store)
    pub kinds : IsOfCommand asked done

  abbrev pub LineServed : Option (Result Command Refusal) → Option (Result (Unit {0}) Refusal) → (before now : Around)
      → Type 0
  LineServed told None before now = (told ≡ None) × SameButErrors before now
  LineServed told (Some done) before now = ServesLine told done before now

  -- a line was done as a command, with this status, and its error line was reported
  pub record LineDone (line : List ℕ) (given : Status) (before now : Around) : Type 0 where
    pub asked : Result Command Refusal
    pub asks : (line_in line ≡ Some asked) ⊎ (asked ≡ Err no_memory)
    pub runs : Runs X N asked given before now
    pub blames : BlamesWhereRead X N before now given

  -- a line was done, its status printed, and the batch goes on
  pub record LinePassed (line : List ℕ) (before now : Around) : Type 0 where
    pub given : Status
    pub printed : SinkSide
    pub done : LineDone line given before (with_output printed now)
    pub goes_on : ends_batch given ≡ false
    pub marked : PrintsWhole (mark given) printed (output_of now)

  -- a line was done, and its status ends the batch
  pub record LineEnds (line : List ℕ) (given : Status) (before now : Around) : Type 0 where
    pub printed : SinkSide
    pub done : LineDone line given before (with_output printed now)
    pub ends : ends_batch given ≡ true
    pub unmarked : given ≡ status.WriteFault → output_of now ≡ printed
    pub marked : (given ≡ status.WriteFault → ⊥)
        → PrintsWhole (mark given) printed (output_of now) ⊎ PrintsCut (mark given) printed (output_of now)

  -- a line was done, and its status couldn't be printed
  pub record LineCut (line : List ℕ) (given : Status) (before now : Around) : Type 0 where
    pub was : Status
    pub printed : SinkSide
    pub between : SinkSide
    pub done : LineDone line was before (record (with_output printed now) { errors = between })
    pub goes_on : ends_batch was ≡ false
    pub cut : PrintsCut (mark was) printed (output_of now)
    pub tells : TellsWhy (Said between now.errors) refusal.Write given

  -- what a line does where the batch goes on: nothing where it has no word
  abbrev pub LineGone : List ℕ → Around → Around → Type 0
  LineGone line before now = ((line_in line ≡ None) × (now ≡ before)) ⊎ LinePassed line before now

  abbrev pub DoesLine : List ℕ → Option Status → Around → Around → Type 0
  DoesLine line None before now = LineGone line before now
  DoesLine line (Some given) before now = LineEnds line given before now ⊎ LineCut line given before now

  -- lines that were done one after the other
  abbrev pub LinesDone : List (List ℕ) → Around → Around → Type 0
  LinesDone [] before now = now ≡ before
  LinesDone (line ∷ lines) before now = (between : Around) × LineGone line before between × LinesDone lines between now

  -- the ways in which a batch ends: with its input, at a line that fails or whose status can't be printed, at what is
  -- too long, by a failed reading, or is out of memory
  pub data Ending : Type 0 where
    WithInput TooLong ByReading ByMemory : Ending
    AtLine : List ℕ → Ending

  -- only a line went to `errors`
  pub record Tells (why : Refusal) (given : Status) (before now : Around) : Type 0 where
    pub same : SameButErrors before now
    pub told : TellsWhy (Said before.errors now.errors) why given

  abbrev pub EndsSo : Ending → Status → Around → Around → Type 0
  EndsSo WithInput given before now = (given ≡ status.Ok) × (now ≡ before)
  EndsSo TooLong given before now = Tells refusal.InputTooLong given before now
  EndsSo ByReading given before now = Tells refusal.Read given before now
  EndsSo ByMemory given before now = Tells no_memory given before now
  EndsSo (AtLine line) given before now = LineEnds line given before now ⊎ LineCut line given before now

  -- the lines that were done, of those that the input has
  abbrev pub AreOf : Ending → List (List ℕ) → LinesIn → Type 0
  AreOf WithInput done all = all ≡ record { lines = done; whole = true }
  AreOf TooLong done all = all ≡ record { lines = done; whole = false }
  AreOf (AtLine line) done all = (more : List (List ℕ)) × (all.lines ≡ done ++ line ∷ more)
  AreOf other done all = (more : List (List ℕ)) × (all.lines ≡ done ++ more)

  -- a reading failed
  abbrev pub ReadingFails : Ending → ℕ → ℕ → Type 0
  ReadingFails ByReading reads reads_now = Rose reads reads_now
  ReadingFails other reads reads_now = reads_now ≡ reads

  -- what a batch did: the lines of its input, with no input of their own
  pub record Batches (most limit : ℕ) (given : Status) (before now : Around) : Type 0 where
    pub lines : List (List ℕ)
    pub between : Around
    pub ending : Ending
    pub done : LinesDone lines (without_input before) between
    pub ends : EndsSo ending given between (without_input now)
    pub told : IfSome before.left (λ bytes. AreOf ending lines (lines_in most limit bytes))
    pub nothing_left : ending ≡ WithInput → streams.IsAtEnd now.left
    pub fails : ReadingFails ending before.reads now.reads
