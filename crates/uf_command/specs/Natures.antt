-- The nature of each command: what it takes, what it leaves, when it prints, and what it may answer. A command is one
-- row of `nature`; the words below it are fields of that row.
use Rattle.std.specs.Prelude.{◌&&◌, ◌||◌, not, Bool, true, false, List, ⊤}
use Rattle.uf_command.specs.Kinds.{RefusalKind, OfRule, OfDag, OfHost, OfPath, OfLongInput, OfUsage, OfReady, OfRead, OfWrite, OfFailure, OfMissing, OfBadBlock, OfClash, OfMemory, OfCar, OfSections, OfOwnClash, OfPins}
use Rattle.uf_command.specs.Kinds.{IsOf, is_among, init_kinds, add_kinds, add_host_kinds, place_kinds, place_host_kinds, write_input_kinds, tree_kinds, dag_kinds, get_kinds, import_kinds, same_kinds, adopt_kinds, gen_kinds, pin_add_kinds, pin_rm_kinds, pin_ls_kinds}
use Rattle.std.specs.declared.result.Result.{Result}
use Rattle.std.specs.declared.result.Result.TheVariants.{Ok, Err}
use Rattle.uf_store.specs.declared.store.StoreFault.{StoreFault}
use Rattle.uf_store.specs.declared.store.StoreFault.TheVariants as fault
use Rattle.uf_command.specs.declared.status.Status.{Status}
use Rattle.uf_command.specs.declared.status.Status.TheVariants as status
use Rattle.uf_command.specs.declared.types.Ask.{Ask}
use Rattle.uf_command.specs.declared.types.Ask.TheVariants.{Ls, Stat, Edit as Edits}
use Rattle.uf_command.specs.declared.types.Command.{Command}
use Rattle.uf_command.specs.declared.types.Command.TheVariants.{Init, Add, WriteInput, At, Read, Cat, Get, Export, Import, Same, Adopt, Gen, Pin, Prove}
use Rattle.uf_command.specs.declared.types.Adding.TheVariants as adding
use Rattle.uf_command.specs.declared.types.PinAsk.{PinAsk}
use Rattle.uf_command.specs.declared.types.PinAsk.TheVariants as pins
use Rattle.uf_command.specs.declared.types.Refusal.{Refusal}
use Rattle.uf_command.specs.declared.types.Refusal.TheVariants as refusal

-- what a command does with the input
pub data InputUse : Type 0 where
  NoInput ReadsInput : InputUse

-- what it does with files and folders of the host
pub data HostUse : Type 0 where
  NoHost ReadsHost WritesHost : HostUse

-- what it needs of the Head: nothing; that there is none; or that there is one that can be read, even if none will
-- do as well
pub data HeadNeed : Type 0 where
  AnyHead NoHeadYet : HeadNeed
  AHead : (or_none : Bool) → HeadNeed

-- what it may write to the store: nothing; blocks and a sync; a Head where there was none; blocks, a sync and the Head;
-- a sync and the note of pins; that note alone
pub data WriteShape : Type 0 where
  NoWrites SyncsBlocks MakesHead MovesHead SyncsPins NotesPins : WriteShape

-- when it prints: at its end; while it reads blocks; or once the Head is written that has what it added
pub data Printing : Type 0 where
  AtEnd WhileReading AfterHead : Printing

-- a store of its own: none, one of the sections of a CAR with which it compares what is held, or one in which it
-- generates a tree
pub data OwnStore : Type 0 where
  NoStore OfCarSections OfTree : OwnStore

-- what a command is. Beside its kinds of refusals each may answer out of memory, and one that saves blocks a clash
pub record Nature : Type 0 where
  pub input : InputUse
  pub host : HostUse
  pub head : HeadNeed
  pub writes : WriteShape
  pub prints : Printing
  pub own : OwnStore
  pub kinds : List RefusalKind

abbrev pub row : InputUse → HostUse → HeadNeed → WriteShape → Printing → OwnStore → List RefusalKind → Nature
row input host head writes prints own kinds = record {
  input = input;
  host = host;
  head = head;
  writes = writes;
  prints = prints;
  own = own;
  kinds = kinds;
}

-- blocks that are only hashed aren't saved
abbrev pub saves_unless : (only_hash : Bool) → WriteShape
saves_unless true = NoWrites
saves_unless false = SyncsBlocks

-- an edit moves the Head, and what only looks writes nothing
abbrev pub ask_writes : Ask → WriteShape
ask_writes (Ls long) = NoWrites
ask_writes Stat = NoWrites
ask_writes (Edits edit) = MovesHead

-- a pin more has all below it synced first, and a list of the pins writes nothing
abbrev pub pin_writes : PinAsk → WriteShape
pin_writes (pins.Add cid) = SyncsPins
pin_writes (pins.Remove cid) = NotesPins
pin_writes pins.List = NoWrites

-- a pin more looks below its CID, and a list of the pins has no rule that refuses it
abbrev pub pin_kinds : PinAsk → List RefusalKind
pin_kinds (pins.Add cid) = pin_add_kinds
pin_kinds (pins.Remove cid) = pin_rm_kinds
pin_kinds pins.List = pin_ls_kinds

-- one row for each command
abbrev pub nature : Command → Nature
nature (Init profile) = row NoInput NoHost NoHeadYet MakesHead AtEnd NoStore init_kinds
nature (Add (adding.Input only_hash)) =
    row ReadsInput NoHost (AHead only_hash) (saves_unless only_hash) AtEnd NoStore add_kinds
nature (Add (adding.Host recursive only_hash path)) =
    row NoInput ReadsHost (AHead only_hash) (saves_unless only_hash) AtEnd NoStore add_host_kinds
nature (Add (adding.InputTo dest)) = row ReadsInput NoHost (AHead false) MovesHead AfterHead NoStore place_kinds
nature (Add (adding.HostTo recursive path dest)) =
    row NoInput ReadsHost (AHead false) MovesHead AfterHead NoStore place_host_kinds
nature (WriteInput how path) = row ReadsInput NoHost (AHead false) MovesHead AtEnd NoStore write_input_kinds
nature (At ask path) = row NoInput NoHost (AHead false) (ask_writes ask) AtEnd NoStore tree_kinds
nature (Read offset count path) = row NoInput NoHost (AHead false) NoWrites WhileReading NoStore tree_kinds
nature (Cat path) = row NoInput NoHost AnyHead NoWrites WhileReading NoStore dag_kinds
nature (Get path host_path) = row NoInput WritesHost AnyHead NoWrites AtEnd NoStore get_kinds
nature (Export cid) = row NoInput NoHost AnyHead NoWrites WhileReading NoStore dag_kinds
nature Import = row ReadsInput NoHost AnyHead SyncsBlocks AtEnd NoStore import_kinds
nature (Same cid) = row ReadsInput NoHost AnyHead NoWrites AtEnd OfCarSections same_kinds
nature (Adopt source dest) = row NoInput NoHost (AHead false) MovesHead AtEnd NoStore adopt_kinds
nature (Gen n seed) = row NoInput NoHost AnyHead NoWrites AtEnd OfTree gen_kinds
nature (Pin ask) = row NoInput NoHost AnyHead (pin_writes ask) AtEnd NoStore (pin_kinds ask)
nature (Prove absent path) = row NoInput NoHost (AHead false) NoWrites WhileReading NoStore tree_kinds

-- ---- its fields as tests

abbrev pub is_read_in : InputUse → Bool
is_read_in NoInput = false
is_read_in ReadsInput = true

abbrev pub is_host_used : HostUse → Bool
is_host_used NoHost = false
is_host_used other = true

abbrev pub is_host_written : HostUse → Bool
is_host_written WritesHost = true
is_host_written other = false

abbrev pub is_head_needed : HeadNeed → Bool
is_head_needed AnyHead = false
is_head_needed other = true

abbrev pub is_nothing_written : WriteShape → Bool
is_nothing_written NoWrites = true
is_nothing_written other = false

abbrev pub is_while_reading : Printing → Bool
is_while_reading WhileReading = true
is_while_reading other = false

abbrev pub is_after_head : Printing → Bool
is_after_head AfterHead = true
is_after_head other = false

abbrev pub is_of_tree : OwnStore → Bool
is_of_tree OfTree = true
is_of_tree other = false

-- the command reads the input
abbrev pub reads_input : Command → Bool
reads_input command = is_read_in (nature command).input

-- it reads or writes files and folders of the host
abbrev pub uses_host : Command → Bool
uses_host command = is_host_used (nature command).host

-- it writes files and folders of the host
abbrev pub writes_host : Command → Bool
writes_host command = is_host_written (nature command).host

-- it needs a Head, or that there is none; any other is answered by what is held alone
abbrev pub needs_standing : Command → Bool
needs_standing command = is_head_needed (nature command).head

-- what it may write to the store
abbrev pub command_writes : Command → WriteShape
command_writes command = (nature command).writes

-- it writes nothing to the store
abbrev pub only_reads : Command → Bool
only_reads command = is_nothing_written (nature command).writes

-- it writes its output while it reads blocks
abbrev pub streams : Command → Bool
streams command = is_while_reading (nature command).prints

-- it puts what it adds into the tree, and prints its rows once the Head is written
abbrev pub prints_after : Command → Bool
prints_after command = is_after_head (nature command).prints

abbrev pub own_store : Command → OwnStore
own_store command = (nature command).own

-- it works on stores of its own alone, and leaves the one that it was given as it was
abbrev pub generates : Command → Bool
generates command = is_of_tree (nature command).own

-- the kinds of refusals of its row
abbrev pub kinds_of : Command → List RefusalKind
kinds_of command = (nature command).kinds

-- it reads the note of pins
abbrev pub uses_pins : Command → Bool
uses_pins command = is_among OfPins (kinds_of command)

-- it needs a Head, or that there is none, and reads no block but those of the tree that the Head names: no rule for
-- DAGs of others refuses it
abbrev pub reads_tree_alone : Command → Bool
reads_tree_alone command = needs_standing command && not (is_among OfDag (kinds_of command))

-- it counts no touches: it looks for no block of the store, and saves none
abbrev pub touches_nothing : Command → Bool
touches_nothing command = not (is_among OfMissing (kinds_of command)) && only_reads command

-- ---- what it may answer

-- the kinds that it may answer once its words are read, before it prints: those of its row, out of memory, and a clash
-- where it writes to the store
abbrev pub may_answer : Command → RefusalKind → Bool
may_answer command OfMemory = true
may_answer command OfClash = not (only_reads command)
may_answer command kind = is_among kind (kinds_of command)

-- the same when it has printed or written to the host: that may have failed
abbrev pub may_end : Command → RefusalKind → Bool
may_end command OfWrite = true
may_end command kind = may_answer command kind

-- it may end so
abbrev pub may_give : Command → Status → Bool
may_give command status.Ok = true
may_give command status.Rule = may_end command OfRule || may_end command OfDag || may_end command OfHost
    || may_end command OfPath || may_end command OfLongInput || may_end command OfCar
may_give command status.Usage = may_end command OfUsage
may_give command status.StoreFault = may_end command OfFailure
may_give command status.Missing = may_end command OfMissing || may_end command OfSections
may_give command status.BadBlock = may_end command OfBadBlock
may_give command status.ReadFault = may_end command OfRead
may_give command status.WriteFault = may_end command OfWrite
may_give command status.Clash = may_end command OfClash || may_end command OfOwnClash
may_give command status.Memory = may_end command OfMemory
may_give command status.NotReady = may_end command OfReady || may_end command OfPins

-- ---- how it is reported that it ended

-- a clash is reported as out of memory
abbrev pub calm_fault : StoreFault → StoreFault
calm_fault (fault.Clash cid first second) = fault.Memory
calm_fault other = other

abbrev pub without_clash : Refusal → Refusal
without_clash (refusal.Store fault) = refusal.Store (calm_fault fault)
without_clash why = why

-- so it is of a command that writes nothing to the store: it saves no block, so it meets no clash
abbrev pub settled : (only_reads : Bool) → Result (Unit {0}) Refusal → Result (Unit {0}) Refusal
settled true (Err why) = Err (without_clash why)
settled only_reads done = done

-- where words ask for a command, it was done, or its refusal is of a kind with which it may end
abbrev pub IsOfCommand : Result Command Refusal → Result (Unit {0}) Refusal → Type 0
IsOfCommand (Ok command) done = IsOf (may_end command) done
IsOfCommand (Err why) done = ⊤
