-- What the lines of a batch ask for.
use Rattle.std.specs.Prelude.{◌≡◌, ◌⊎◌, ℕ, List, [], ◌∷◌, Bool, true, false, if◌then◌else◌, is_some}
use Rattle.std.specs.List.{list_all}
use Rattle.std.specs.Str.{is_utf8}
use Rattle.std.specs.declared.option.Option.{Option}
use Rattle.std.specs.declared.option.Option.TheVariants.{None, Some}
use Rattle.std.specs.declared.result.Result.{Result}
use Rattle.std.specs.declared.result.Result.TheVariants.{Ok, Err}
use Rattle.uf_words.specs.Commands.{command_of}
use Rattle.uf_words.specs.Lines.{line_words}
use Rattle.uf_words.specs.declared.command.Cmd.{Cmd}
use Rattle.uf_words.specs.declared.command.Cmd.TheVariants as cmd
use Rattle.uf_command.specs.Commands.{asked}
use Rattle.uf_command.specs.Statuses.{no_memory}
use Rattle.uf_command.specs.declared.types.Command.{Command}
use Rattle.uf_command.specs.declared.types.Refusal.{Refusal}
use Rattle.uf_command.specs.declared.types.Refusal.TheVariants as refusal

-- the command may stand in a batch: it neither reads the input nor writes to the host, has no other store, and drops no
-- block
abbrev pub is_for_batch : Cmd → Bool
is_for_batch (cmd.Add recursive only_hash to_files host_path) = is_some host_path
is_for_batch (cmd.Write offset create cut hex path) = is_some hex
is_for_batch (cmd.Get target host_path) = false
is_for_batch (cmd.Same cid) = false
is_for_batch cmd.Import = false
is_for_batch cmd.Gc = false
is_for_batch (cmd.Check absent cid path) = false
is_for_batch (cmd.Pull cid) = false
is_for_batch cmd.Serve = false
is_for_batch cmd.Batch = false
is_for_batch (cmd.Gen n seed) = false
is_for_batch other = true

-- what words ask for in a batch
abbrev pub asked_in_batch : Option Cmd → Result Command Refusal
asked_in_batch None = Err refusal.Usage
asked_in_batch (Some c) = if is_for_batch c then asked c else Err refusal.Usage

-- what the words of a line ask for, where it has some; all of them have to be texts
abbrev pub line_asks : Bool → List (List ℕ) → Option (Result Command Refusal)
line_asks false words = Some (Err refusal.Usage)
line_asks true [] = None
line_asks true (first ∷ words) = Some (asked_in_batch (command_of (first ∷ words)))

-- what a line asks for
abbrev pub line_in : List ℕ → Option (Result Command Refusal)
line_in line = line_asks (list_all is_utf8 (line_words line)) (line_words line)

-- the call answers what the line asks for, or that memory is wanting
abbrev pub IsAskedBy : Option (Result Command Refusal) → Option (Result Command Refusal) → Type 0
IsAskedBy None told = told ≡ None
IsAskedBy (Some (Ok command)) told = told ≡ Some (Ok command)
IsAskedBy (Some (Err why)) told = (why ≡ no_memory) ⊎ (told ≡ Some (Err why))
