-- How many touches a command may need of a tree that the Head names.
use Rattle.std.specs.Prelude.{ℕ, ◌+◌, ◌*◌, List, [], length, max, true, false}
use Rattle.std.specs.declared.option.Option.{Option}
use Rattle.std.specs.declared.option.Option.TheVariants.{None, Some}
use Rattle.std.specs.declared.result.Result.{Result}
use Rattle.std.specs.declared.result.Result.TheVariants.{Ok, Err}
use Rattle.uf_light.specs.Needs.{proof_touches}
use Rattle.uf_mfs.specs.Moving.{put_crossings}
use Rattle.uf_mfs.specs.Reading.{range_touches}
use Rattle.uf_mfs.specs.Touches.{names_touches, read_bound, rows_touches}
use Rattle.uf_path.specs.declared.path.Path.{Path}
use Rattle.uf_plain.specs.Edits.{at}
use Rattle.uf_tree.specs.Metas.{none}
use Rattle.uf_tree.specs.Tree.{Dir, Entries, File}
use Rattle.uf_tree.specs.declared.profile.Profile.{Profile}
use Rattle.uf_command.specs.declared.types.Ask.{Ask}
use Rattle.uf_command.specs.declared.types.Ask.TheVariants.{Ls, Stat, Edit as Edits}
use Rattle.uf_command.specs.declared.types.Command.{Command}
use Rattle.uf_command.specs.declared.types.Command.TheVariants.{Add, WriteInput, At, Read, Gen, Pin, Prove}
use Rattle.uf_command.specs.declared.types.Adding.TheVariants as adding
use Rattle.uf_command.specs.declared.types.PinAsk.TheVariants as pins
use Rattle.uf_command.specs.declared.types.Edit.TheVariants.{Write}
use Rattle.uf_command.specs.declared.types.Refusal.{Refusal}
use Rattle.uf_edits.specs.Edits.{touches_of_edit}
use Rattle.uf_top.specs.Losing.{rows_found}
use Rattle.uf_top.specs.Reply.{added_spot}

module _ (X : List ℕ → List ℕ) (N : List ℕ → ℕ) where
  -- the most touches of what `add --to-files` does to the tree, where this path of the host is added: a few for each
  -- name of the destination, and those of a directory that becomes sharded. That depends on the name that is put, and
  -- not on the tree, so an empty file stands for it
  abbrev pub placing_touches : Path → Option (List ℕ) → Profile → Entries → ℕ
  placing_touches dest path p es = 64 * (length dest.names + 3) + elim (added_spot dest path es) [
    | Ok spot ↦ put_crossings X N p spot (File none []) es
    | Err why ↦ 0
  ]

-- a file of n bytes has rows n rows of nodes
module _ (X : List ℕ → List ℕ) (N : List ℕ → ℕ) (rows : ℕ → ℕ) where
  -- the most touches of what is asked at these names
  abbrev pub ask_touches : Ask → List (List ℕ) → Profile → Entries → ℕ
  ask_touches (Ls false) names p es = read_bound (names_touches X N p) names (Dir es)
  ask_touches (Ls true) names p es = read_bound (rows_touches X N p) names (Dir es)
  ask_touches Stat names p es = max (11 * length names) 1
  ask_touches (Edits edit) names p es = touches_of_edit X N rows edit names p es

  -- and for a command with this input, which opens the tree first; `add -n`, `gen`, `pin rm`
  -- and `pin ls` need none; the blocks of what `add --to-files` adds are counted apart; nothing is promised of
  -- `init`, of an `add` that only keeps its blocks, of `cat` and `get`, of what has to do with
  -- CARs but `prove`, and of a copy from a DAG
  abbrev pub command_touches : List ℕ → Command → Profile → Entries → Option ℕ
  command_touches bytes (Add (adding.Input true)) p es = Some 0
  command_touches bytes (Add (adding.Input false)) p es = None
  command_touches bytes (Add (adding.Host recursive true path)) p es = Some 0
  command_touches bytes (Add (adding.InputTo dest)) p es = Some (1 + placing_touches X N dest None p es)
  command_touches bytes (Add (adding.HostTo recursive path dest)) p es =
      Some (1 + placing_touches X N dest (Some path) p es)
  command_touches bytes (Gen n seed) p es = Some 0
  command_touches bytes (Pin (pins.Remove cid)) p es = Some 0
  command_touches bytes (Pin pins.List) p es = Some 0
  command_touches bytes (WriteInput how path) p es =
      Some (1 + touches_of_edit X N rows (Write how bytes) path.names p es)
  command_touches bytes (At ask path) p es = Some (1 + ask_touches ask path.names p es)
  command_touches bytes (Read offset count path) p es =
      Some (1 + read_bound (range_touches p rows offset count) path.names (Dir es))
  command_touches bytes (Prove absent path) p es =
      Some (1 + proof_touches X N p (rows_found rows (at 0 path.names (Dir es))) absent path.names (Dir es))
  command_touches bytes other p es = None

  -- the same of words
  abbrev pub words_touch : List ℕ → Result Command Refusal → Profile → Entries → Option ℕ
  words_touch bytes (Ok command) p es = command_touches bytes command p es
  words_touch bytes (Err why) p es = Some 0
