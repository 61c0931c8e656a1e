-- What words ask for, once their paths are read.
use Rattle.std.specs.Prelude.{◌≡◌, ◌⊎◌, ◌<◌, ◌≤◌, ◌^◌, ◌&&◌, ◌==◌, length, ℕ, pos, nat_eq, List, [], ◌∷◌, Bool, true, false, not, IsTrue, if◌then◌else◌}
use Rattle.std.specs.Option.{option_eq}
use Rattle.std.specs.Ordering.{int_eq}
use Rattle.std.specs.declared.option.Option.{Option}
use Rattle.std.specs.declared.option.Option.TheVariants.{None, Some}
use Rattle.std.specs.declared.result.Result.{Result}
use Rattle.std.specs.declared.result.Result.TheVariants.{Ok, Err}
use Rattle.uf_edge.specs.Counts.{Stood}
use Rattle.uf_edge.specs.Host.{HostTold, HostTree}
use Rattle.uf_edge.specs.Streams.{Told}
use Rattle.uf_plain.specs.Edits.{at, is_folder_at}
use Rattle.uf_plain.specs.Moves.{lie_of, name_of, spot_names, target}
use Rattle.uf_plain.specs.Metas.{is_meta_edit, meta_after}
use Rattle.uf_plain.specs.declared.file.WriteHow.{WriteHow}
use Rattle.uf_plain.specs.declared.meta_edit.MetaEdit.{MetaEdit}
use Rattle.uf_plain.specs.declared.meta_edit.MetaEdit.TheVariants.{Mode, Modified, Strip}
use Rattle.uf_plain.specs.declared.rule.Refused.{Refused}
use Rattle.uf_plain.specs.declared.spot.Lie.{Lie}
use Rattle.uf_plain.specs.declared.spot.Lie.TheVariants.{Itself, Below, Apart}
use Rattle.uf_path.specs.Paths.{dag_path_reads, names_a_dag, path_reads}
use Rattle.uf_cid.specs.declared.cid.Cid.{Cid}
use Rattle.uf_path.specs.declared.faults.PathFault.{PathFault}
use Rattle.uf_path.specs.declared.faults.PathFault.TheVariants as path
use Rattle.uf_path.specs.declared.path.DagPath.{DagPath}
use Rattle.uf_path.specs.declared.path.Path.{Path}
use Rattle.uf_message.specs.declared.message.Mtime.{Mtime}
use Rattle.uf_tree.specs.Profiles.{is_profile}
use Rattle.uf_tree.specs.Tree.{Tree, File, Dir, Entries, meta_of}
use Rattle.uf_tree.specs.declared.meta.Meta.{Meta}
use Rattle.uf_words.specs.declared.command.Cmd.{Cmd}
use Rattle.uf_words.specs.declared.command.Cmd.TheVariants as cmd
use Rattle.uf_command.specs.declared.types.Ask.{Ask}
use Rattle.uf_command.specs.declared.types.Ask.TheVariants.{Ls, Stat, Edit as Edits}
use Rattle.uf_command.specs.declared.types.Command.{Command}
use Rattle.uf_command.specs.declared.types.Command.TheVariants.{Init, Add, WriteInput, At, Read, Cat, Get, Export, Import, Same, Adopt, Gen, Pin, Prove}
use Rattle.uf_command.specs.declared.types.Adding.TheVariants as adding
use Rattle.uf_command.specs.declared.types.PinAsk.{PinAsk}
use Rattle.uf_command.specs.declared.types.PinAsk.TheVariants as pins
use Rattle.uf_command.specs.declared.types.Edit.{Edit}
use Rattle.uf_command.specs.declared.types.Edit.TheVariants.{Mkdir, Rm, Write, Truncate, Cp, Mv, SetMeta}
use Rattle.uf_command.specs.declared.types.Refusal.{Refusal}
use Rattle.uf_command.specs.declared.types.Refusal.TheVariants as refusal
use Rattle.uf_command.specs.Cids.{cid_reads}
use Rattle.uf_command.specs.Kinds.{IsOf, word_kinds}
use Rattle.uf_command.specs.Natures.{reads_input, uses_host}
use Rattle.uf_command.specs.Statuses.{no_memory}

-- why a text is no path, as a refusal
abbrev pub path_refusal : PathFault → Refusal
path_refusal path.Memory = no_memory
path_refusal why = refusal.BadPath why

-- the command at a path, or why its text is none
abbrev pub at_path : Ask → Result Path PathFault → Result Command Refusal
at_path ask (Ok path) = Ok (At ask path)
at_path ask (Err why) = Err (path_refusal why)

-- `add --to-files`: the input, or what the host has at a path, is put where a path of the tree leads
abbrev pub add_to_asked : Bool → Option (List ℕ) → Result Path PathFault → Result Command Refusal
add_to_asked recursive host_path (Err why) = Err (path_refusal why)
add_to_asked recursive None (Ok dest) = Ok (Add (adding.InputTo dest))
add_to_asked recursive (Some path) (Ok dest) = Ok (Add (adding.HostTo recursive path dest))

-- `add` of the input, or of what the host has at a path; words never have `-n` beside `--to-files`
abbrev pub add_asked : Bool → Bool → Option (List ℕ) → Option (List ℕ) → Result Command Refusal
add_asked recursive only_hash None None = Ok (Add (adding.Input only_hash))
add_asked recursive only_hash None (Some path) = Ok (Add (adding.Host recursive only_hash path))
add_asked recursive only_hash (Some dest) host_path = add_to_asked recursive host_path (path_reads dest)

-- `files write` of bytes that stand in the words, or else of the input
abbrev pub write_asked : WriteHow → Option (List ℕ) → Result Path PathFault → Result Command Refusal
write_asked how None (Ok path) = Ok (WriteInput how path)
write_asked how None (Err why) = Err (path_refusal why)
write_asked how (Some piece) path = at_path (Edits (Write how piece)) path

-- `files read` of n bytes from an offset
abbrev pub read_asked : (offset count : ℕ) → Result Path PathFault → Result Command Refusal
read_asked offset count (Ok path) = Ok (Read offset count path)
read_asked offset count (Err why) = Err (path_refusal why)

-- `cat` of a path in a DAG
abbrev pub cat_asked : Result DagPath PathFault → Result Command Refusal
cat_asked (Ok path) = Ok (Cat path)
cat_asked (Err why) = Err (path_refusal why)

-- `get` of a path in a DAG
abbrev pub get_asked : Result DagPath PathFault → List ℕ → Result Command Refusal
get_asked (Ok path) host_path = Ok (Get path host_path)
get_asked (Err why) host_path = Err (path_refusal why)

-- `dag same`, or else `dag export`, of what is below a CID
abbrev pub below : Bool → Cid → Command
below true cid = Same cid
below false cid = Export cid

abbrev pub below_asked : Bool → Result Cid PathFault → Result Command Refusal
below_asked compared (Ok cid) = Ok (below compared cid)
below_asked compared (Err why) = Err (path_refusal why)

-- `pin add`, or else `pin rm`, of a CID
abbrev pub pin_ask : (added : Bool) → Cid → PinAsk
pin_ask true cid = pins.Add cid
pin_ask false cid = pins.Remove cid

abbrev pub pin_asked : (added : Bool) → Result Cid PathFault → Result Command Refusal
pin_asked added (Ok cid) = Ok (Pin (pin_ask added cid))
pin_asked added (Err why) = Err (path_refusal why)

-- `prove` of what is at a path, or of its absence
abbrev pub prove_asked : (absent : Bool) → Result Path PathFault → Result Command Refusal
prove_asked absent (Ok path) = Ok (Prove absent path)
prove_asked absent (Err why) = Err (path_refusal why)

-- two paths, or why the first text that is none is none
abbrev pub both_paths : Result Path PathFault → Result Path PathFault → Result (Path × Path) Refusal
both_paths (Err why) dest = Err (path_refusal why)
both_paths (Ok source) (Err why) = Err (path_refusal why)
both_paths (Ok source) (Ok dest) = Ok (source, dest)

-- the edit at the first of two paths that the second makes
abbrev pub from_to : (Path → Edit) → Result (Path × Path) Refusal → Result Command Refusal
from_to edit (Ok paths) = Ok (At (Edits (edit paths.1)) paths.0)
from_to edit (Err why) = Err why

-- `files cp` from a DAG
abbrev pub adopt_asked : Result DagPath PathFault → Result Path PathFault → Result Command Refusal
adopt_asked (Err why) dest = Err (path_refusal why)
adopt_asked (Ok source) (Err why) = Err (path_refusal why)
adopt_asked (Ok source) (Ok dest) = Ok (Adopt source dest)

-- `files cp` from the tree, or from a DAG where its source is a path in one
abbrev pub cp_asked : List ℕ → List ℕ → Result Command Refusal
cp_asked source dest =
    if names_a_dag source then adopt_asked (dag_path_reads source) (path_reads dest)
    else from_to (λ to. Cp to) (both_paths (path_reads source) (path_reads dest))

-- `files mv`
abbrev pub mv_asked : List ℕ → List ℕ → Result Command Refusal
mv_asked source dest = from_to (λ to. Mv to) (both_paths (path_reads source) (path_reads dest))

-- the mtime of these seconds and nanoseconds: 0 nanoseconds stand for none
abbrev pub mtime_of : (nanos seconds : ℕ) → Mtime
mtime_of nanos seconds = record { seconds = pos seconds; nanos = if nanos == 0 then None else Some nanos }

-- a change of the metadata of what is at a path
abbrev pub set_meta_asked : MetaEdit → Result Path PathFault → Result Command Refusal
set_meta_asked what path = at_path (Edits (SetMeta what)) path

-- the command of words whose paths are texts
abbrev pub asked : Cmd → Result Command Refusal
asked (cmd.Init profile) = Ok (Init profile)
asked (cmd.Add recursive only_hash to_files host_path) = add_asked recursive only_hash to_files host_path
asked (cmd.Cat target) = cat_asked (dag_path_reads target)
asked (cmd.Get target host_path) = get_asked (dag_path_reads target) host_path
asked (cmd.Mkdir parents path) = at_path (Edits (Mkdir parents)) (path_reads path)
asked (cmd.Ls long path) = at_path (Ls long) (path_reads path)
asked (cmd.Stat path) = at_path Stat (path_reads path)
asked (cmd.Read offset count path) = read_asked offset count (path_reads path)
asked (cmd.Rm recursive path) = at_path (Edits (Rm recursive)) (path_reads path)
asked (cmd.Write offset create cut hex path) =
    write_asked (record { offset = offset; create = create; cut = cut }) hex (path_reads path)
asked (cmd.Truncate path length) = at_path (Edits (Truncate length)) (path_reads path)
asked (cmd.Cp source dest) = cp_asked source dest
asked (cmd.Mv source dest) = mv_asked source dest
asked (cmd.Chmod mode path) = set_meta_asked (Mode mode) (path_reads path)
asked (cmd.Touch nanos seconds path) = set_meta_asked (Modified (mtime_of nanos seconds)) (path_reads path)
asked (cmd.Strip path) = set_meta_asked Strip (path_reads path)
asked (cmd.Export cid) = below_asked false (cid_reads cid)
asked cmd.Import = Ok Import
asked (cmd.Same cid) = below_asked true (cid_reads cid)
asked (cmd.Gen n seed) = Ok (Gen n seed)
asked (cmd.PinAdd cid) = pin_asked true (cid_reads cid)
asked (cmd.PinRm cid) = pin_asked false (cid_reads cid)
asked cmd.PinLs = Ok (Pin pins.List)
asked (cmd.Prove absent path) = prove_asked absent (path_reads path)
-- a batch, a talk with a peer, a collection and the check of a proof are no commands of one reply, and no line of a
-- batch asks for one
asked cmd.Batch = Err refusal.Usage
asked (cmd.Pull cid) = Err refusal.Usage
asked cmd.Serve = Err refusal.Usage
asked cmd.Gc = Err refusal.Usage
asked (cmd.Check absent cid path) = Err refusal.Usage

-- the command is one of the group `files`
abbrev pub is_of_files : Cmd → Bool
is_of_files (cmd.Mkdir parents path) = true
is_of_files (cmd.Ls long path) = true
is_of_files (cmd.Stat path) = true
is_of_files (cmd.Read offset count path) = true
is_of_files (cmd.Write offset create cut hex path) = true
is_of_files (cmd.Truncate path length) = true
is_of_files (cmd.Cp source dest) = true
is_of_files (cmd.Mv source dest) = true
is_of_files (cmd.Rm recursive path) = true
is_of_files (cmd.Chmod mode path) = true
is_of_files (cmd.Touch nanos seconds path) = true
is_of_files (cmd.Strip path) = true
is_of_files other = false

-- the call answers as the words ask, or out of memory
abbrev pub IsAsked : {A : Type 0} → Result A Refusal → Result A Refusal → Type 0
IsAsked (Ok a) told = told ≡ Ok a
IsAsked (Err why) told = (why ≡ no_memory) ⊎ (told ≡ Err why)

-- permissions have twelve bits, and an mtime is in its ranges
abbrev pub IsGoodAsk : Ask → Type 0
IsGoodAsk (Edits (SetMeta what)) = IsTrue (is_meta_edit what)
IsGoodAsk other = Unit {0}

-- the profile of an `init` is accepted, a change of metadata is in its ranges, a path in a DAG and one that is proved
-- have fewer than 2^32 names, and few files are generated
abbrev pub IsAccepted : Command → Type 0
IsAccepted (Init profile) = IsTrue (is_profile profile)
IsAccepted (At ask path) = IsGoodAsk ask
IsAccepted (Cat path) = length path.names < 2 ^ 32
IsAccepted (Get path host_path) = length path.names < 2 ^ 32
IsAccepted (Adopt source dest) = length source.names < 2 ^ 32
IsAccepted (Gen n seed) = n ≤ 20000
IsAccepted (Prove absent path) = length path.names < 2 ^ 32
IsAccepted other = Unit {0}

-- a lookup found a file
abbrev pub is_file_at : Result Tree Refused → Bool
is_file_at (Ok (File m bytes)) = true
is_file_at (Ok (Dir es)) = false
is_file_at (Err why) = false

-- a target is the source
abbrev pub is_itself : Lie → Bool
is_itself Itself = true
is_itself Below = false
is_itself Apart = false

-- a move goes to where its source is
abbrev pub is_onto_itself : List (List ℕ) → Path → Entries → Bool
is_onto_itself source dest es = elim (target dest (name_of source) es) [
  | Ok found ↦ is_itself (lie_of source (spot_names found.0))
  | Err rule ↦ false
]

-- two mtimes are one, and so are two metadata
abbrev pub is_same_mtime : Mtime → Mtime → Bool
is_same_mtime s t = int_eq s.seconds t.seconds && option_eq nat_eq s.nanos t.nanos

abbrev pub is_same_meta : Meta → Meta → Bool
is_same_meta m n = option_eq nat_eq m.mode n.mode && option_eq is_same_mtime m.mtime n.mtime

-- a lookup found what has the metadata already that a change would give it
abbrev pub has_meta_of : MetaEdit → Result Tree Refused → Bool
has_meta_of what (Ok t) = is_same_meta (meta_after what (meta_of t)) (meta_of t)
has_meta_of what (Err why) = false

-- an edit has nothing to do: `mkdir -p` of a directory that is there, a write of nothing into a file that keeps its
-- bytes, a move onto itself, and a change of metadata to what it is
abbrev pub has_nothing_to_do : Edit → List (List ℕ) → Entries → Bool
has_nothing_to_do (Mkdir parents) names es = parents && is_folder_at (at 0 names (Dir es))
has_nothing_to_do (Write how []) names es = not how.cut && is_file_at (at 0 names (Dir es))
has_nothing_to_do (Mv dest) names es = is_onto_itself names dest es
has_nothing_to_do (SetMeta what) names es = has_meta_of what (at 0 names (Dir es))
has_nothing_to_do other names es = false

-- the command is an edit that has nothing to do, where these are the bytes of the input
abbrev pub is_idle : List ℕ → Entries → Command → Bool
is_idle bytes es (At (Edits edit) path) = has_nothing_to_do edit path.names es
is_idle bytes es (WriteInput how path) = has_nothing_to_do (Write how bytes) path.names es
is_idle bytes es other = false

-- a fact of the command, where words ask for one, and else this
abbrev pub of_command : {A : Type 0} → (Command → A) → A → Result Command Refusal → A
of_command test else_this (Ok command) = test command
of_command test else_this (Err why) = else_this

-- where the command reads the input, these are the bytes that it has left, and no reading failed
abbrev pub HasInput : Result Command Refusal → Told → List ℕ → ℕ → ℕ → Type 0
HasInput command left bytes faults faults_now =
    of_command reads_input false command ≡ true → (left ≡ Some bytes) × Stood faults faults_now

-- where the command uses the host, it tells these files and folders, and no reading of it failed
abbrev pub HasHost : Result Command Refusal → HostTold → HostTree → ℕ → ℕ → Type 0
HasHost command told tree faults faults_now =
    of_command uses_host false command ≡ true → (told ≡ Some tree) × Stood faults faults_now

-- words are refused since they are no command, a text is no path, or memory was wanting
abbrev pub IsOfWords : Result Command Refusal → Type 0
IsOfWords command = IsOf word_kinds command
