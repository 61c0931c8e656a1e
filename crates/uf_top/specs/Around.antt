-- What is told around a command, before it or after it.
use Rattle.std.specs.Prelude.{◌≡◌, ◌≢◌, ◌⊎◌, ◌≤◌, ℕ, List, Bool, true, false, ◌&&◌, not}
use Rattle.std.specs.declared.result.Result.{Result}
use Rattle.uf_edge.specs.Counts.{Counts, Rose, Stood}
use Rattle.uf_edge.specs.Host.{HostTold}
use Rattle.uf_edge.specs.Streams as streams
use Rattle.uf_mfs.specs.Reading.{CanRise}
use Rattle.uf_store.specs.Calls.{Calm}
use Rattle.uf_store.specs.Faults.{Rises}
use Rattle.uf_store.specs.Seen.{Seen}
use Rattle.uf_command.specs.Commands.{HasHost, HasInput, of_command}
use Rattle.uf_command.specs.Pins.{HasPins}
use Rattle.uf_command.specs.Natures.{generates, uses_host, writes_host}
use Rattle.uf_command.specs.Telling.{IsSent}
use Rattle.uf_command.specs.declared.status.Status.{Status}
use Rattle.uf_command.specs.declared.status.Status.TheVariants as status
use Rattle.uf_command.specs.declared.types.Command.{Command}
use Rattle.uf_command.specs.declared.types.Refusal.{Refusal}
use Rattle.uf_top.specs.Causes.{is_read, is_write}
use Rattle.uf_top.specs.Reply.{Outside}

-- what a host tells, and how often its reading and its writing failed
pub record HostSide : Type 0 where
  pub told : HostTold
  pub reads : ℕ
  pub writes : ℕ

abbrev pub host_side : HostTold → ℕ → ℕ → HostSide
host_side told reads writes = record { told = told; reads = reads; writes = writes }

-- what a text sink holds, and how often its writing failed
pub record SinkSide : Type 0 where
  pub held : streams.Told
  pub faults : ℕ

-- a line went to `errors`, or a part of it where its count rose
abbrev pub Said : SinkSide → SinkSide → List ℕ → Type 0
Said before now line = IsSent line before.held now.held before.faults now.faults

-- what the store shows, what is left of the input and how often its reading failed, what the output holds and how often
-- its writing failed, how many touches were counted, the host, and the error lines so far
pub record Around : Type 0 where
  pub store : Seen
  pub left : streams.Told
  pub reads : ℕ
  pub held : streams.Told
  pub writes : ℕ
  pub touches : ℕ
  pub host : HostSide
  pub errors : SinkSide

abbrev pub around : Seen → streams.Told → ℕ → streams.Told → ℕ → ℕ → HostSide → SinkSide → Around
around store left reads held writes touches host errors = record {
  store = store;
  left = left;
  reads = reads;
  held = held;
  writes = writes;
  touches = touches;
  host = host;
  errors = errors;
}

-- all but `errors` is as before
abbrev pub SameButErrors : Around → Around → Type 0
SameButErrors before now = now ≡ record before { errors = now.errors }

-- what the store tells is as before, and so is the input
pub record LeavesAlone (before now : Around) : Type 0 where
  pub told : now.store.told ≡ before.store.told
  pub left : now.left ≡ before.left
  pub reads : now.reads ≡ before.reads

-- what is outside of the tree is so, where the command asks for it
abbrev pub HasOutside : Result Command Refusal → Outside → Around → Around → Type 0
HasOutside asked outside before now = HasInput asked before.left outside.input before.reads now.reads
    × HasHost asked before.host.told outside.host before.host.reads now.host.reads
    × HasPins asked before.store.told outside.pins

-- the answer is a failed reading of the input: a command that uses the host reads no input
abbrev pub is_input_read : {A : Type 0} → Command → Result A Refusal → Bool
is_input_read command done = not (uses_host command) && is_read done

-- the answer is a failed writing of the output: a command that writes to the host prints nothing
abbrev pub is_output_write : {A : Type 0} → Command → Result A Refusal → Bool
is_output_write command done = not (writes_host command) && is_write done

-- nothing changed in the host but its count of readings, and that only where one failed
pub record OnlyReadsHost (is_fault : Bool) (before now : HostSide) : Type 0 where
  pub told : now.told ≡ before.told
  pub reads : Counts is_fault before.reads now.reads
  pub writes : now.writes ≡ before.writes

-- a command that uses the host only reads it, and any other leaves it as it was
abbrev pub UsesHost : (uses is_fault : Bool) → HostSide → HostSide → Type 0
UsesHost true is_fault before now = OnlyReadsHost is_fault before now
UsesHost false is_fault before now = now ≡ before

-- the counts of failed readings and writings of the host; of what it tells nothing is said here
pub record CountsHost (is_read is_write : Bool) (before now : HostSide) : Type 0 where
  pub reads : Counts is_read before.reads now.reads
  pub writes : Counts is_write before.writes now.writes

-- a command writes to the host, or uses it as it does else
abbrev pub TakesHost : (writes uses is_read is_write : Bool) → HostSide → HostSide → Type 0
TakesHost true uses is_read is_write before now = CountsHost is_read is_write before now
TakesHost false uses is_read is_write before now = UsesHost uses is_read before now

-- a count rose: the host's where it is used, and else the one of the stream
abbrev pub RoseAt : (of_host : Bool) → (stream stream_now host host_now : ℕ) → Type 0
RoseAt true stream stream_now host host_now = Rose host host_now
RoseAt false stream stream_now host host_now = Rose stream stream_now

-- no count of the store is at its last value, at which it would hide a failure or a clash
pub record CountsCanRise (seen : Seen) : Type 0 where
  pub faults : CanRise seen.faults
  pub clashes : CanRise seen.clashes

-- a count rose where the answer tells of it, and else stands still
pub record RisesFor (is_told : Bool) (before now : ℕ) : Type 0 where
  pub rose : is_told ≡ true → Rose before now
  pub still : is_told ≡ false → now ≡ before

-- no writing failed: none of the output, nor of the host where that is written to
pub record AllWritten (asked : Result Command Refusal) (was is was_host is_host : ℕ) : Type 0 where
  pub output : Stood was is
  pub host : of_command writes_host false asked ≡ true → Stood was_host is_host

-- a command that generates a tree met no clash in the store of its own
abbrev pub MetNone : Result Command Refusal → Status → Type 0
MetNone asked given = of_command generates false asked ≡ true → given ≢ status.Clash

-- nothing of the store failed meanwhile nor any writing, and no clash was met
pub record StaysQuiet (asked : Result Command Refusal) (given : Status) (before now : Around) : Type 0 where
  pub store : Calm before.store now.store
  pub written : AllWritten asked before.writes now.writes before.host.writes now.host.writes
  pub own : MetNone asked given

-- the count stands as it was, or it rose
abbrev pub StandsOrRose : ℕ → ℕ → Type 0
StandsOrRose before now = (now ≡ before) ⊎ Rose before now

-- no count has fallen: of the store, and of failed readings and writings
pub record NoneFalls (before now : Around) : Type 0 where
  pub store : Rises before.store now.store
  pub reads : before.reads ≤ now.reads
  pub writes : StandsOrRose before.writes now.writes
  pub host_reads : before.host.reads ≤ now.host.reads
  pub host_writes : before.host.writes ≤ now.host.writes
