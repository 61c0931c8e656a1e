-- What a history makes of the plain tree by the replies to its commands, the rules that refuse them among these.
use Rattle.std.specs.Prelude.{ℕ, List, [], ◌∷◌, length, nat_le, if◌then◌else◌}
use Rattle.std.specs.declared.option.Option.TheVariants.{None, Some}
use Rattle.std.specs.declared.result.Result.{Result}
use Rattle.std.specs.declared.result.Result.TheVariants.{Ok, Err}
use Rattle.uf_cid.specs.Blocks.{Lookup}
use Rattle.uf_host.specs.HostTree.{tree_on_host}
use Rattle.uf_command.specs.declared.types.Command.{Command}
use Rattle.uf_command.specs.declared.types.Command.TheVariants.{Init, Add, WriteInput, At, Adopt}
use Rattle.uf_command.specs.declared.types.Adding.TheVariants as adding
use Rattle.uf_command.specs.declared.types.Ask.TheVariants.{Edit as Edits}
use Rattle.uf_command.specs.declared.types.Edit.TheVariants.{Write}
use Rattle.uf_command.specs.declared.types.Refusal.{Refusal}
use Rattle.uf_top.specs.Reply.{Outside, added_spot, adopted, host_tree, input_tree, most_input, placed}
use Rattle.uf_edits.specs.Edits.{edited_by}
use Rattle.uf_tree.specs.Metas.{none}
use Rattle.uf_tree.specs.Standing.{Standing, NoHead, Stands}
use Rattle.uf_tree.specs.Tree.{Tree, Entries, Nothing}
use Rattle.uf_tree.specs.declared.profile.Profile.{Profile}
use Rattle.uf_headline.specs.History.{Step}

-- the entries that were made, or those before where it is refused
abbrev pub changed_to : {E : Type 0} → Entries → Result Entries E → Entries
changed_to es (Ok made) = made
changed_to es (Err why) = es

-- the same where a tree was put among them
abbrev pub put_in : Entries → Result (Tree × Entries) Refusal → Entries
put_in es (Ok made) = made.1
put_in es (Err why) = es

module _ (X : List ℕ → List ℕ) (N : List ℕ → ℕ) where
  -- the entries after a command, by those before it, what is outside of the store and what it holds: five kinds of
  -- command change them, where no rule refuses it
  abbrev pub entries_replied : Command → Outside → Lookup → Profile → Entries → Entries
  entries_replied (At (Edits edit) path) outside held p es = changed_to es (edited_by X N edit path.names p es)
  entries_replied (WriteInput how path) outside held p es =
      if nat_le (length outside.input) most_input
      then changed_to es (edited_by X N (Write how outside.input) path.names p es)
      else es
  entries_replied (Add (adding.InputTo dest)) outside held p es =
      put_in es (placed X N (added_spot dest None es) (input_tree p outside.input) p es)
  entries_replied (Add (adding.HostTo recursive path dest)) outside held p es =
      let there = host_tree path (tree_on_host X N p outside.host recursive path) in
      put_in es (placed X N (added_spot dest (Some path) es) there p es)
  entries_replied (Adopt source dest) outside held p es = changed_to es (adopted X N held source dest p es)
  entries_replied other outside held p es = es

  -- what stands after what was asked: words that are no command change nothing, and `init` makes the first tree
  abbrev pub replied_by : Result Command Refusal → Outside → Lookup → Standing → Standing
  replied_by (Ok (Init p)) outside held NoHead = Stands p (Nothing none)
  replied_by (Ok command) outside held (Stands p es) = Stands p (entries_replied command outside held p es)
  replied_by asked outside held standing = standing

  -- what the same commands make of the plain tree
  abbrev pub standing_replied : List Step → Standing → Standing
  standing_replied [] standing = standing
  standing_replied (step ∷ steps) standing =
      standing_replied steps (replied_by step.asked step.outside step.held standing)
