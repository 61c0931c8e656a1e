-- What words ask for: a batch, a talk with a peer, a collection, the check of a proof, or one command.
use Rattle.std.specs.Prelude.{◌≡◌, ◌<◌, ◌^◌, ℕ, List, length, Bool, IfOk, ⊤}
use Rattle.std.specs.declared.option.Option.{Option}
use Rattle.std.specs.declared.option.Option.TheVariants.{None, Some}
use Rattle.std.specs.declared.result.Result.{Result}
use Rattle.std.specs.declared.result.Result.TheVariants.{Ok, Err}
use Rattle.uf_cid.specs.declared.cid.Cid.{Cid}
use Rattle.uf_path.specs.Paths.{path_reads}
use Rattle.uf_path.specs.declared.faults.PathFault.{PathFault}
use Rattle.uf_path.specs.declared.path.Path.{Path}
use Rattle.uf_words.specs.Commands.{command_of}
use Rattle.uf_words.specs.declared.command.Cmd.{Cmd}
use Rattle.uf_words.specs.declared.command.Cmd.TheVariants as cmd
use Rattle.uf_command.specs.Cids.{cid_reads}
use Rattle.uf_command.specs.Commands.{IsAccepted, IsAsked, asked, path_refusal}
use Rattle.uf_command.specs.Statuses.{no_memory}
use Rattle.uf_command.specs.declared.requests.Request.{Request}
use Rattle.uf_command.specs.declared.requests.Request.TheVariants.{Batch, Pull, Serve, Gc, Check, One}
use Rattle.uf_command.specs.declared.types.Command.{Command}
use Rattle.uf_command.specs.declared.types.Refusal.{Refusal}
use Rattle.uf_command.specs.declared.types.Refusal.TheVariants as refusal

-- what is below a CID is pulled, where the text is one
abbrev pub pull_asked : Result Cid PathFault → Request
pull_asked (Ok cid) = Pull cid
pull_asked (Err why) = One (Err (path_refusal why))

-- the check of what is at a path below a root, where both texts are such, and else why the first that is none is none
abbrev pub check_asked : (absent : Bool) → Result Cid PathFault → Result Path PathFault → Request
check_asked absent (Err why) path = One (Err (path_refusal why))
check_asked absent (Ok cid) (Err why) = One (Err (path_refusal why))
check_asked absent (Ok cid) (Ok path) = Check absent cid path

-- what words ask for, once they are read: refused are first words that are none, and then texts that are no paths
abbrev pub request_of : Option Cmd → Request
request_of None = One (Err refusal.Usage)
request_of (Some cmd.Batch) = Batch
request_of (Some (cmd.Pull cid)) = pull_asked (cid_reads cid)
request_of (Some cmd.Serve) = Serve
request_of (Some cmd.Gc) = Gc
request_of (Some (cmd.Check absent cid path)) = check_asked absent (cid_reads cid) (path_reads path)
request_of (Some other) = One (asked other)

abbrev pub request_in : List (List ℕ) → Request
request_in words = request_of (command_of words)

-- the one command that is asked for was read, or why there is none; where no one command is asked for, none was read,
-- out of memory
abbrev pub IsAskedAlone : Result Command Refusal → Request → Type 0
IsAskedAlone given (One told) = IsAsked given told
IsAskedAlone given other = given ≡ Err no_memory

-- the call answers what is asked for, or out of memory
abbrev pub IsRequested : Request → Request → Type 0
IsRequested (One given) told = IsAskedAlone given told
IsRequested other told = told ≡ other

-- what the words have made sure of; a path that is checked has fewer than 2^32 names
abbrev pub IsAcceptedAlone : Request → Type 0
IsAcceptedAlone (One given) = IfOk given IsAccepted
IsAcceptedAlone (Check absent cid path) = length path.names < 2 ^ 32
IsAcceptedAlone other = ⊤
