-- What a batch has written to its output and to `errors`, also where writing to them fails.
use Rattle.std.specs.Prelude.{◌≡◌, ℕ, List, [], ◌∷◌, ◌++◌}
use mathlib.Core.Logic.{inl, inr}
use Rattle.uf_edge.specs.Counts.{Stood}
use Rattle.uf_edge.specs.Host.{HostTree}
use Rattle.uf_edge.specs.Streams.{AppendsPrefix}
use Rattle.uf_store.specs.Calls.{Calm}
use Rattle.uf_command.specs.Lines.{line_of, said}
use Rattle.uf_command.specs.Statuses.{ended, mark}
use Rattle.uf_command.specs.declared.status.Status.{Status}
use Rattle.uf_command.specs.declared.types.Refusal.TheVariants as refusal
use Rattle.uf_top.specs.Around.{Around, Said, SinkSide}
use Rattle.uf_top.specs.Batch.{AtLine, Ending, TooLong, with_output}
use Rattle.uf_headline.specs.BatchReplies.{BatchReplied, EndsReplied, GoesOnReplied, LineAnswered, LineFinds, LinesReplied, line_reply, printed_by}
use Rattle.uf_top.specs.Reply.{Reply}
use Rattle.uf_tree.specs.Standing.{Standing}

-- lines went to `errors` one after the other, each whole, or a part of it where the count rose
abbrev pub SaidInTurn : List (List ℕ) → SinkSide → SinkSide → Type 0
SaidInTurn [] before now = now ≡ before
SaidInTurn (line ∷ lines) before now = (between : SinkSide) × Said before between line × SaidInTurn lines between now

-- nothing of the store failed meanwhile, nor a reading of the host, and no clash was met; nothing is said of the output
pub record FailsAtMostPrinting (before now : Around) : Type 0 where
  pub store : Calm before.store now.store
  pub host : Stood before.host.reads now.host.reads

-- what the output gets of a line: the text of the reply to it, and its status
abbrev pub whole_text : Reply → List ℕ
whole_text reply = printed_by reply.ends ++ mark (ended reply.ends)

module _ (X : List ℕ → List ℕ) (N : List ℕ → ℕ) (host : HostTree) where
  -- the error line of a line that was answered: it is empty at Ok
  abbrev pub line_said : (line : List ℕ) (given : Status) (standing next : Standing) (before now : Around)
      → LineAnswered X N host line given standing next before now → List ℕ
  line_said line given standing next before now did =
      said (line_reply X N host standing did.found).ends

  -- of a line where the batch goes on: one without a word has none
  abbrev pub going_said : (line : List ℕ) (standing next : Standing) (before now : Around)
      → GoesOnReplied X N host line standing next before now → List (List ℕ)
  going_said line standing next before now (inl none) = []
  going_said line standing next before now (inr gone) = line_said line gone.0 standing next before
      (with_output gone.1.printed now) gone.1.answered ∷ []

  -- of lines, one after the other
  abbrev pub lines_said : (lines : List (List ℕ)) (standing next : Standing) (before now : Around)
      → LinesReplied X N host lines standing next before now → List (List ℕ)
  lines_said [] standing next before now each = []
  lines_said (line ∷ lines) standing next before now each =
      going_said line standing each.0 before each.1 each.2 ++ lines_said lines each.0 next each.1 now each.3

  -- of the end of a batch: that of its last line, or that the input is too long
  abbrev pub last_said : (ending : Ending X N) (given : Status) (standing next : Standing) (before now : Around)
      → EndsReplied X N host ending given standing next before now → List (List ℕ)
  last_said TooLong given standing next before now last = line_of refusal.InputTooLong ∷ []
  last_said (AtLine line) given standing next before now last = line_said line given standing next before
      (with_output last.printed now) last.answered ∷ []
  last_said ending given standing next before now last = []

  -- of a whole batch
  abbrev pub batch_said : (lines : List (List ℕ)) (ending : Ending X N) (given : Status) (standing : Standing)
      (before between now : Around) → BatchReplied X N host lines ending given standing before between now
      → List (List ℕ)
  batch_said lines ending given standing before between now did =
      lines_said lines standing did.stood before between did.each
      ++ last_said ending given did.stood did.next between now did.last

  -- of a line the output has got a prefix of its text, as the reply to it has that over what stood where the line began
  -- and what it found
  pub record PrintsFront (line : List ℕ) (standing : Standing) (before now : Around) : Type 0 where
    pub found : LineFinds line before
    pub printed : AppendsPrefix (whole_text (line_reply X N host standing found)) before.held now.held

  -- what the output gets at the end of a batch: a prefix of the last line's text, where it ends at one, and else
  -- nothing
  abbrev pub PrintsLast : Ending X N → Standing → Around → Around → Type 0
  PrintsLast (AtLine line) standing before now = PrintsFront line standing before now
  PrintsLast ending standing before now = now.held ≡ before.held

  -- each line of a batch but the last was answered and printed whole, and of the last one a prefix was printed
  pub record PrintsUntil (lines : List (List ℕ)) (ending : Ending X N) (standing : Standing)
      (before between now : Around) : Type 0 where
    pub stood : Standing
    pub each : LinesReplied X N host lines standing stood before between
    pub last : PrintsLast ending stood between now
