-- How the end of a command is reported, and its text printed.
use Rattle.std.specs.Prelude.{◌≡◌, ◌≢◌, ◌⊎◌, ℕ, List, [], Bool, true, false}
use Rattle.std.specs.declared.result.Result.{Result}
use Rattle.std.specs.declared.result.Result.TheVariants.{Ok, Err}
use Rattle.uf_edge.specs.Counts.{Counts}
use Rattle.uf_edge.specs.Streams.{AppendsPrefix, Sends, Told, after, is_unsent}
use Rattle.uf_edge.specs.declared.streams.Sent.{Sent}
use Rattle.uf_command.specs.Lines.{line_of}
use Rattle.uf_command.specs.Statuses.{plain_line, status_of}
use Rattle.uf_command.specs.declared.status.Status.{Status}
use Rattle.uf_command.specs.declared.status.Status.TheVariants as status
use Rattle.uf_command.specs.declared.types.Refusal.{Refusal}
use Rattle.uf_command.specs.declared.types.Refusal.TheVariants as refusal

-- the error line of the status has details
abbrev pub has_details : Status → Bool
has_details status.Rule = true
has_details status.Missing = true
has_details status.BadBlock = true
has_details status.Clash = true
has_details status.NotReady = true
has_details other = false

-- a line was written, or a part of it where the count rose
pub record IsSent (line : List ℕ) (held held_now : Told) (faults faults_now : ℕ) : Type 0 where
  pub sent : Sent
  pub bytes : Sends sent line held held_now
  pub counts : Counts (is_unsent sent) faults faults_now

-- the output failed, and a part of the text may stand there
pub record IsCut (text : List ℕ) (why : Refusal) (held held_now : Told) (faults faults_now : ℕ)
    : Type 0 where
  pub some : text ≢ []
  pub write : why ≡ refusal.Write
  pub printed : AppendsPrefix text held held_now
  pub counts : Counts true faults faults_now

-- a text was printed, or why it wasn't
abbrev pub Prints : List ℕ → Result (Unit {0}) Refusal → Told → Told → ℕ → ℕ → Type 0
Prints text (Ok done) held held_now faults faults_now = (held_now ≡ after held text) × Counts false faults faults_now
Prints text (Err why) held held_now faults faults_now = IsCut text why held held_now faults faults_now

-- in the words below, Says holds of the line that went to `errors`
module _ (Says : List ℕ → Type 0) where
  -- the status and the line are those of the refusal, or memory was wanting for a line with details
  abbrev pub TellsWhy : Refusal → Status → Type 0
  TellsWhy why given = ((given ≡ status_of why) × Says (line_of why)) ⊎ ((has_details (status_of why) ≡ true)
      × (given ≡ status.Memory) × Says (plain_line status.Memory))

  -- how a command ends that was done or refused so
  abbrev pub TellsEnd : Result (Unit {0}) Refusal → Status → Type 0
  TellsEnd (Ok done) given = (given ≡ status.Ok) × Says []
  TellsEnd (Err why) given = TellsWhy why given
