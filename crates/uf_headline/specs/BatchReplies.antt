-- What the lines of a batch answer where nothing fails.
use Rattle.std.specs.Prelude.{◌≡◌, ◌⊎◌, ◌+◌, ◌≤◌, ℕ, List, [], ◌∷◌, ◌++◌, Bool, true, false, IfSome, IsTrue}
use mathlib.Core.Logic.{inl, inr}
use Rattle.std.specs.declared.option.Option.{Option}
use Rattle.std.specs.declared.option.Option.TheVariants.{None, Some}
use Rattle.std.specs.declared.result.Result.{Result}
use Rattle.std.specs.declared.result.Result.TheVariants.{Ok, Err}
use Rattle.uf_cid.specs.Blocks.{Lookup}
use Rattle.uf_cid.specs.declared.cid.Cid.{Cid}
use Rattle.uf_pins.specs.Notes.{IsReadAs}
use Rattle.uf_top.specs.Pins.{PinsAfter}
use Rattle.uf_edge.specs.Counts.{Stood}
use Rattle.uf_edge.specs.Host.{HostTree}
use Rattle.uf_mfs.specs.Reading.{AreHeights}
use Rattle.uf_mfs.specs.Standing.{TellsAs}
use Rattle.uf_command.specs.Batches.{line_in}
use Rattle.uf_command.specs.Statuses.{ends_batch, mark, no_memory}
use Rattle.uf_command.specs.declared.status.Status.{Status}
use Rattle.uf_command.specs.declared.status.Status.TheVariants as status
use Rattle.uf_command.specs.declared.types.Command.{Command}
use Rattle.uf_command.specs.declared.types.Refusal.{Refusal}
use Rattle.uf_command.specs.declared.types.Refusal.TheVariants as refusal
use Rattle.uf_store.specs.Calls.{Calm}
use Rattle.uf_top.specs.Around.{Around, SinkSide}
use Rattle.uf_top.specs.Batch.{AtLine, ByMemory, ByReading, Ending, PrintsWhole, Tells, TooLong, WithInput, output_of, with_output}
use Rattle.uf_top.specs.Bounds.{words_touch}
use Rattle.uf_top.specs.Endings.{EndsAs, PrintsPart}
use Rattle.uf_top.specs.Naming.{TellsBlocks}
use Rattle.uf_top.specs.Reply.{Reply, World, reply_to, world_of}
use Rattle.uf_tree.specs.Profiles.{is_profile}
use Rattle.uf_tree.specs.Standing.{Standing, NoHead, BadHead, Stands}
use Rattle.uf_tree.specs.declared.profile.Profile.{Profile}

-- nothing of the store, of the output or of the host failed meanwhile, and no clash was met
pub record NothingFails (before now : Around) : Type 0 where
  pub store : Calm before.store now.store
  pub output : Stood before.writes now.writes
  pub host : Stood before.host.reads now.host.reads

-- what a line of a batch asks for, and what the store holds and its note of pins lists where the line begins
pub record LineFinds (line : List ℕ) (before : Around) : Type 0 where
  pub asked : Result Command Refusal
  pub asks : (line_in line ≡ Some asked) ⊎ (asked ≡ Err no_memory)
  pub held : Lookup
  pub blocks : TellsBlocks before.store.told held
  pub pins : Option (List Cid)
  pub noted : IfSome before.store.told (λ t. IsReadAs t.notes.pins pins)

-- what a line of a batch finds: what the store stands for and holds, no input, the host, and the pins
abbrev pub line_world : HostTree → Standing → Lookup → Option (List Cid) → World
line_world host standing held pins = world_of standing held (record { input = []; host = host; pins = pins })

-- by each accepted profile these are the rows of nodes of a file, by its length
abbrev pub HasHeights : (Profile → ℕ → ℕ) → Type 0
HasHeights rows = (p : Profile) → IsTrue (is_profile p) → AreHeights p (rows p)

-- what a reply prints
abbrev pub printed_by : Result (List ℕ) Refusal → List ℕ
printed_by (Ok text) = text
printed_by (Err why) = []

-- the sum of two bounds, where both are stated
abbrev pub added_bounds : Option ℕ → Option ℕ → Option ℕ
added_bounds (Some m) (Some n) = Some (m + n)
added_bounds (Some m) None = None
added_bounds None n = None

module _ (X : List ℕ → List ℕ) (N : List ℕ → ℕ) where
  -- how many touches a line may take over what stands where it begins
  abbrev pub line_bound : (Profile → ℕ → ℕ) → Standing → Result Command Refusal → Option ℕ
  line_bound rows NoHead asked = None
  line_bound rows BadHead asked = None
  line_bound rows (Stands p es) asked = words_touch X N (rows p) [] asked p es

  module _ (host : HostTree) where
    -- the reply to a line, over what stands and what it finds
    abbrev pub line_reply : {line : List ℕ} {before : Around} → Standing → LineFinds line before → Reply
    line_reply standing found = reply_to X N found.asked (line_world host standing found.held found.pins)

    -- a line was answered: over what the store stood for and held where it began, it ended as the reply to what it asks
    -- for, or is out of memory, and printed no more than the reply's text. The store stands for what the reply says,
    -- its note of pins is as the command leaves it, and the line kept within its touches
    pub record LineAnswered (line : List ℕ) (given : Status) (standing next : Standing) (before now : Around)
        : Type 0 where
      pub found : LineFinds line before
      pub stood : TellsAs X N before.store.told standing
      pub ends : EndsAs X N found.asked (line_world host standing found.held found.pins) given before now
      pub prints : PrintsPart (line_reply standing found).ends before.held now.held
      pub next_is : (next ≡ (line_reply standing found).next) ⊎ ((given ≡ status.Memory) × (next ≡ standing))
      pub moved : PinsAfter found.asked given before.store.told now.store.told
      pub stands : TellsAs X N now.store.told next
      pub touches : (rows : Profile → ℕ → ℕ) → HasHeights rows → IfSome (line_bound rows standing found.asked)
          (λ most. now.touches ≤ before.touches + most)

    -- and its status was printed after its text; the batch ends with it, or goes on
    pub record LineReplied (line : List ℕ) (last : Bool) (given : Status) (standing next : Standing)
        (before now : Around) : Type 0 where
      pub printed : SinkSide
      pub answered : LineAnswered line given standing next before (with_output printed now)
      pub ends : ends_batch given ≡ last
      pub marked : PrintsWhole (mark given) printed (output_of now)

    -- a line where the batch goes on: one without a word does nothing
    abbrev pub GoesOnReplied : List ℕ → Standing → Standing → Around → Around → Type 0
    GoesOnReplied line standing next before now = ((line_in line ≡ None) × (next ≡ standing) × (now ≡ before))
        ⊎ ((given : Status) × LineReplied line false given standing next before now)

    -- lines that were answered one after the other, each over what the ones before left
    abbrev pub LinesReplied : List (List ℕ) → Standing → Standing → Around → Around → Type 0
    LinesReplied [] standing next before now = (next ≡ standing) × (now ≡ before)
    LinesReplied (line ∷ lines) standing next before now = (stood : Standing) × (between : Around)
        × GoesOnReplied line standing stood before between × LinesReplied lines stood next between now

    -- how a batch ends where nothing fails: with its input, at a line with such a status, at what is too long, or for
    -- out of memory
    abbrev pub EndsReplied : Ending X N → Status → Standing → Standing → Around → Around → Type 0
    EndsReplied WithInput given standing next before now = (given ≡ status.Ok) × (next ≡ standing) × (now ≡ before)
    EndsReplied TooLong given standing next before now =
        (next ≡ standing) × Tells X N refusal.InputTooLong given before now
    EndsReplied ByReading given standing next before now = ⊥
    EndsReplied ByMemory given standing next before now = (next ≡ standing) × Tells X N no_memory given before now
    EndsReplied (AtLine line) given standing next before now = LineReplied line true given standing next before now

    -- each line of a batch was answered so, and it ended so; then the store stands for what the last reply says
    pub record BatchReplied (lines : List (List ℕ)) (ending : Ending X N) (given : Status) (standing : Standing)
        (before between now : Around) : Type 0 where
      pub stood : Standing
      pub next : Standing
      pub each : LinesReplied lines standing stood before between
      pub last : EndsReplied ending given stood next between now
      pub stands : TellsAs X N now.store.told next

    -- what is printed of a line: the text of its reply, and its status
    abbrev pub line_printed : (line : List ℕ) (given : Status) (standing next : Standing) (before now : Around)
        → LineAnswered line given standing next before now → List ℕ
    line_printed line given standing next before now did =
        printed_by (line_reply standing did.found).ends ++ mark given

    -- and of a line where the batch goes on, of which one without a word prints nothing
    abbrev pub going_printed : (line : List ℕ) (standing next : Standing) (before now : Around)
        → GoesOnReplied line standing next before now → List ℕ
    going_printed line standing next before now (inl none) = []
    going_printed line standing next before now (inr gone) = line_printed line gone.0 standing next before
        (with_output gone.1.printed now) gone.1.answered

    -- of lines, one after the other
    abbrev pub lines_printed : (lines : List (List ℕ)) (standing next : Standing) (before now : Around)
        → LinesReplied lines standing next before now → List ℕ
    lines_printed [] standing next before now each = []
    lines_printed (line ∷ lines) standing next before now each =
        going_printed line standing each.0 before each.1 each.2
        ++ lines_printed lines each.0 next each.1 now each.3

    -- of the line that ends a batch, where one does
    abbrev pub last_printed : (ending : Ending X N) (given : Status) (standing next : Standing) (before now : Around)
        → EndsReplied ending given standing next before now → List ℕ
    last_printed WithInput given standing next before now last = []
    last_printed TooLong given standing next before now last = []
    last_printed ByReading given standing next before now last = []
    last_printed ByMemory given standing next before now last = []
    last_printed (AtLine line) given standing next before now last = line_printed line given standing next before
        (with_output last.printed now) last.answered

    -- of all lines of a batch
    abbrev pub batch_printed : (lines : List (List ℕ)) (ending : Ending X N) (given : Status) (standing : Standing)
        (before between now : Around) → BatchReplied lines ending given standing before between now → List ℕ
    batch_printed lines ending given standing before between now did =
        lines_printed lines standing did.stood before between did.each
        ++ last_printed ending given did.stood did.next between now did.last

    module _ (rows : Profile → ℕ → ℕ) where
      -- the bound of a line where the batch goes on: one without a word takes no touch
      abbrev pub going_bound : (line : List ℕ) (standing next : Standing) (before now : Around)
          → GoesOnReplied line standing next before now → Option ℕ
      going_bound line standing next before now (inl none) = Some 0
      going_bound line standing next before now (inr gone) = line_bound rows standing gone.1.answered.found.asked

      -- the sum of the bounds of lines, each over what stood where it began
      abbrev pub lines_bound : (lines : List (List ℕ)) (standing next : Standing) (before now : Around)
          → LinesReplied lines standing next before now → Option ℕ
      lines_bound [] standing next before now each = Some 0
      lines_bound (line ∷ lines) standing next before now each =
          added_bounds (going_bound line standing each.0 before each.1 each.2)
          (lines_bound lines each.0 next each.1 now each.3)

      -- the bound of the line that ends a batch, where one does
      abbrev pub last_bound : (ending : Ending X N) (given : Status) (standing next : Standing) (before now : Around)
          → EndsReplied ending given standing next before now → Option ℕ
      last_bound WithInput given standing next before now last = Some 0
      last_bound TooLong given standing next before now last = Some 0
      last_bound ByReading given standing next before now last = Some 0
      last_bound ByMemory given standing next before now last = Some 0
      last_bound (AtLine line) given standing next before now last = line_bound rows standing last.answered.found.asked

      abbrev pub batch_bound : (lines : List (List ℕ)) (ending : Ending X N) (given : Status) (standing : Standing)
          (before between now : Around) → BatchReplied lines ending given standing before between now → Option ℕ
      batch_bound lines ending given standing before between now did =
          added_bounds (lines_bound lines standing did.stood before between did.each)
          (last_bound ending given did.stood did.next between now did.last)
