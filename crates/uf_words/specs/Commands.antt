-- Which command a list of words is: the first words are compared exactly, and after them stand the options and
-- arguments of the command, as `clap` reads them.
use Rattle.std.specs.Prelude.{◌≡◌, ◌<◌, ◌≤◌, ◌&&◌, ◌||◌, ℕ, Bool, true, not, List, [], ◌∷◌, ◌++◌, codes, ◌^◌, nat_le, nat_lt, if◌then◌else◌, IsTrue, is_some, unwrap_or, slice_index, length, ◌-◌}
use Rattle.std.specs.Str.{bytes_eq}
use Rattle.std.specs.Option.{option_map, option_and_then}
use Rattle.std.specs.declared.option.Option.{Option}
use Rattle.std.specs.declared.option.Option.TheVariants.{None, Some}
use Rattle.std.specs.declared.result.Result.{Result}
use Rattle.std.specs.declared.result.Result.TheVariants.{Ok, Err}
use Rattle.clap.specs.Walk.{Rule, first_of}
use Rattle.clap.specs.Simple.{App}
use Rattle.hex.specs.Hex.{decode_of}
use Rattle.uf_path.specs.Paths.{is_slash}
use Rattle.uf_tree.specs.Profiles.{is_profile}
use Rattle.uf_tree.specs.declared.profile.Profile.{Profile}
use Rattle.uf_words.specs.Options.{argument, flag, found_by, found_in, is_flagged, long_flag, mode_value, simple_command, numeral_value, number_or, optional_argument, valued, valued_short}
use Rattle.uf_words.specs.declared.command.Cmd.{Cmd}
use Rattle.uf_words.specs.declared.command.Cmd.TheVariants as cmd
use Rattle.uf_words.specs.declared.command.WordFault.{WordFault}
use Rattle.uf_words.specs.declared.command.WordFault.TheVariants as fault

-- the call answers as the words read, or out of memory
abbrev pub ReadsWords : {A : Type 0} → Result A WordFault → Option A → Type 0
ReadsWords (Ok value) told = told ≡ Some value
ReadsWords (Err fault.Usage) told = told ≡ None
ReadsWords (Err fault.Memory) told = Unit {0}

infixl 10 ◌>>=◌
abbrev pub ◌>>=◌ : {A B : Type 0} → Option A → (A → Option B) → Option B
o >>= f = option_and_then f o

-- the command, where this holds
abbrev pub only_where : Bool → Cmd → Option Cmd
only_where holds command = if holds then Some command else None

-- `init`: the usual numbers stand for those that are absent, and they are a profile
unfoldable pub init_options : App
init_options = simple_command (valued (codes "chunk") ∷ valued (codes "width") ∷ valued (codes "threshold") ∷ [])

abbrev pub init_of : Profile → Option Cmd
init_of profile = only_where (is_profile profile) (cmd.Init profile)

unfoldable pub init_words : List (List ℕ) → Option Cmd
init_words words = do
  found ← found_by init_options words
  chunk ← number_or 262144 (first_of (codes "chunk") found)
  width ← number_or 174 (first_of (codes "width") found)
  threshold ← number_or 262144 (first_of (codes "threshold") found)
  init_of (record { chunk = chunk; width = width; threshold = threshold })

-- `add`: no block of what is only hashed is placed, and the input has no name of its own
unfoldable pub add_options : App
add_options = simple_command (flag (codes "recursive") 114 ∷ flag (codes "only-hash") 110
    ∷ valued (codes "to-files") ∷ optional_argument (codes "HOSTPATH") ∷ [])

-- the text ends with `/`
abbrev pub ends_with_slash : List ℕ → Bool
ends_with_slash text = is_slash (slice_index text (length text - 1))

-- what is added has a place in the tree, where one is asked for
abbrev pub places_well : Bool → Option (List ℕ) → Bool → Bool
places_well only_hash None is_named = true
places_well only_hash (Some dest) is_named = not only_hash && (is_named || not (ends_with_slash dest))

abbrev pub add_of : Bool → Bool → Option (List ℕ) → Option (List ℕ) → Option Cmd
add_of recursive only_hash dest host_path =
    only_where (places_well only_hash dest (is_some host_path)) (cmd.Add recursive only_hash dest host_path)

unfoldable pub add_words : List (List ℕ) → Option Cmd
add_words words = do
  found ← found_by add_options words
  add_of (is_flagged (codes "recursive") found) (is_flagged (codes "only-hash") found)
      (first_of (codes "to-files") found) (first_of (codes "HOSTPATH") found)

-- a command of one argument
unfoldable pub one_argument : List ℕ → List (List ℕ) → Option (List ℕ)
one_argument name words = found_in (argument name ∷ []) words >>= first_of name

-- a command of two arguments
unfoldable pub two_arguments : List ℕ → List ℕ → List (List ℕ) → Option (List ℕ × List ℕ)
two_arguments first second words = do
  found ← found_in (argument first ∷ argument second ∷ []) words
  one ← first_of first found
  other ← first_of second found
  Some (one, other)

-- a command of a flag and one argument
unfoldable pub flag_and_argument : List ℕ → ℕ → List ℕ → List (List ℕ) → Option (Bool × List ℕ)
flag_and_argument name letter argument_name words = do
  found ← found_in (flag name letter ∷ argument argument_name ∷ []) words
  value ← first_of argument_name found
  Some (is_flagged name found, value)

-- `files ls`: the root stands for an absent path
unfoldable pub ls_options : App
ls_options = simple_command (flag (codes "long") 108 ∷ optional_argument (codes "PATH") ∷ [])

unfoldable pub ls_words : List (List ℕ) → Option Cmd
ls_words words = do
  found ← found_by ls_options words
  Some (cmd.Ls (is_flagged (codes "long") found) (unwrap_or (first_of (codes "PATH") found) (codes "/")))

-- `files read`: from the start to the end, where no numbers are given
unfoldable pub read_options : App
read_options = simple_command (valued_short (codes "offset") 111 ∷ valued_short (codes "count") 110 ∷ argument (codes "PATH") ∷ [])

unfoldable pub read_words_of : List (List ℕ) → Option Cmd
read_words_of words = do
  found ← found_by read_options words
  offset ← number_or 0 (first_of (codes "offset") found)
  count ← number_or 18446744073709551615 (first_of (codes "count") found)
  path ← first_of (codes "PATH") found
  Some (cmd.Read offset count path)

-- `files write`: the bytes may be given as hexadecimal digits
abbrev pub write_place : List Rule
write_place = valued_short (codes "offset") 111 ∷ flag (codes "create") 101 ∷ flag (codes "truncate") 116 ∷ []

unfoldable pub write_options : App
write_options = simple_command (write_place ++ valued_short (codes "hex") 120 ∷ argument (codes "PATH") ∷ [])

abbrev pub decoded_hex : List ℕ → Option (List ℕ)
decoded_hex text = elim (decode_of text) [ Ok bytes ↦ Some bytes | Err why ↦ None ]

abbrev pub bytes_or_none : Option (List ℕ) → Option (Option (List ℕ))
bytes_or_none None = Some None
bytes_or_none (Some text) = option_map (λ bytes. Some bytes) (decoded_hex text)

unfoldable pub write_words_of : List (List ℕ) → Option Cmd
write_words_of words = do
  found ← found_by write_options words
  offset ← number_or 0 (first_of (codes "offset") found)
  bytes ← bytes_or_none (first_of (codes "hex") found)
  path ← first_of (codes "PATH") found
  Some (cmd.Write offset (is_flagged (codes "create") found) (is_flagged (codes "truncate") found) bytes path)

-- `files truncate PATH LENGTH`
unfoldable pub truncate_words : List (List ℕ) → Option Cmd
truncate_words words = do
  given ← two_arguments (codes "PATH") (codes "LENGTH") words
  length ← numeral_value given.1
  Some (cmd.Truncate given.0 length)

-- `gen N SEED`: N is at most 20000
unfoldable pub gen_words : List (List ℕ) → Option Cmd
gen_words words = do
  given ← two_arguments (codes "N") (codes "SEED") words
  n ← numeral_value given.0
  seed ← numeral_value given.1
  only_where (nat_le n 20000) (cmd.Gen n seed)

-- `files chmod MODE PATH`
unfoldable pub chmod_words : List (List ℕ) → Option Cmd
chmod_words words = do
  given ← two_arguments (codes "MODE") (codes "PATH") words
  mode ← mode_value given.0
  Some (cmd.Chmod mode given.1)

-- `files touch`: at most 999999999 nanoseconds, and none where there are 0, and fewer than 2 ^ 63 seconds
unfoldable pub touch_options : App
touch_options = simple_command (valued (codes "nanos") ∷ argument (codes "SECONDS") ∷ argument (codes "PATH") ∷ [])

abbrev pub touch_of : (nanos seconds : ℕ) → List ℕ → Option Cmd
touch_of nanos seconds path =
    only_where (nat_le nanos 999999999 && nat_lt seconds (2 ^ 63)) (cmd.Touch nanos seconds path)

unfoldable pub touch_words : List (List ℕ) → Option Cmd
touch_words words = do
  found ← found_by touch_options words
  nanos ← number_or 0 (first_of (codes "nanos") found)
  seconds ← first_of (codes "SECONDS") found >>= numeral_value
  path ← first_of (codes "PATH") found
  touch_of nanos seconds path

-- `prove`
unfoldable pub prove_options : App
prove_options = simple_command (long_flag (codes "absent") ∷ argument (codes "PATH") ∷ [])

unfoldable pub prove_words : List (List ℕ) → Option Cmd
prove_words words = do
  found ← found_by prove_options words
  path ← first_of (codes "PATH") found
  Some (cmd.Prove (is_flagged (codes "absent") found) path)

-- `check`
unfoldable pub check_options : App
check_options = simple_command (long_flag (codes "absent") ∷ argument (codes "CID") ∷ argument (codes "PATH") ∷ [])

unfoldable pub check_words : List (List ℕ) → Option Cmd
check_words words = do
  found ← found_by check_options words
  cid ← first_of (codes "CID") found
  path ← first_of (codes "PATH") found
  Some (cmd.Check (is_flagged (codes "absent") found) cid path)

-- no options and no arguments
unfoldable pub bare : List (List ℕ) → Option (Unit {0})
bare words = option_map (λ found. tt) (found_in [] words)

-- the commands of the group `files` that change the bytes of a file, or a mode or an mtime
unfoldable pub contents_words : List ℕ → List (List ℕ) → Option Cmd
contents_words name rest =
    if bytes_eq name (codes "write") then write_words_of rest
    else if bytes_eq name (codes "truncate") then truncate_words rest
    else if bytes_eq name (codes "chmod") then chmod_words rest
    else if bytes_eq name (codes "touch") then touch_words rest
    else if bytes_eq name (codes "strip") then option_map (λ path. cmd.Strip path) (one_argument (codes "PATH") rest)
    else None

-- those that change which names are where, and those above
unfoldable pub names_words : List ℕ → List (List ℕ) → Option Cmd
names_words name rest =
    if bytes_eq name (codes "mkdir") then
    option_map (λ given. cmd.Mkdir given.0 given.1) (flag_and_argument (codes "parents") 112 (codes "PATH") rest)
    else if bytes_eq name (codes "cp") then
    option_map (λ given. cmd.Cp given.0 given.1) (two_arguments (codes "SOURCE") (codes "DEST") rest)
    else if bytes_eq name (codes "mv") then
    option_map (λ given. cmd.Mv given.0 given.1) (two_arguments (codes "SOURCE") (codes "DEST") rest)
    else if bytes_eq name (codes "rm") then
    option_map (λ given. cmd.Rm given.0 given.1) (flag_and_argument (codes "recursive") 114 (codes "PATH") rest)
    else contents_words name rest

-- the commands of the group `files`: those that change nothing, and those above
unfoldable pub files_words : List (List ℕ) → Option Cmd
files_words [] = None
files_words (name ∷ rest) =
    if bytes_eq name (codes "ls") then ls_words rest
    else if bytes_eq name (codes "stat") then option_map (λ path. cmd.Stat path) (one_argument (codes "PATH") rest)
    else if bytes_eq name (codes "read") then read_words_of rest
    else names_words name rest

-- the commands of the group `dag`
unfoldable pub dag_words : List (List ℕ) → Option Cmd
dag_words [] = None
dag_words (name ∷ rest) =
    if bytes_eq name (codes "export") then option_map (λ cid. cmd.Export cid) (one_argument (codes "CID") rest)
    else if bytes_eq name (codes "import") then option_map (λ nothing. cmd.Import) (bare rest)
    else if bytes_eq name (codes "same") then option_map (λ cid. cmd.Same cid) (one_argument (codes "CID") rest)
    else None

-- the commands of the group `pin`
unfoldable pub pin_words : List (List ℕ) → Option Cmd
pin_words [] = None
pin_words (name ∷ rest) =
    if bytes_eq name (codes "add") then option_map (λ cid. cmd.PinAdd cid) (one_argument (codes "CID") rest)
    else if bytes_eq name (codes "rm") then option_map (λ cid. cmd.PinRm cid) (one_argument (codes "CID") rest)
    else if bytes_eq name (codes "ls") then option_map (λ nothing. cmd.PinLs) (bare rest)
    else None

-- the commands of the group `repo`
unfoldable pub repo_words : List (List ℕ) → Option Cmd
repo_words [] = None
repo_words (name ∷ rest) =
    if bytes_eq name (codes "gc") then option_map (λ nothing. cmd.Gc) (bare rest) else None

-- the commands that prove and check what a path has, and those that speak with a peer
unfoldable pub other_words : List ℕ → List (List ℕ) → Option Cmd
other_words name rest =
    if bytes_eq name (codes "prove") then prove_words rest
    else if bytes_eq name (codes "check") then check_words rest
    else if bytes_eq name (codes "pull") then option_map (λ cid. cmd.Pull cid) (one_argument (codes "CID") rest)
    else if bytes_eq name (codes "serve") then option_map (λ nothing. cmd.Serve) (bare rest)
    else None

-- the groups of commands, and those above
unfoldable pub group_words : List ℕ → List (List ℕ) → Option Cmd
group_words name rest =
    if bytes_eq name (codes "files") then files_words rest
    else if bytes_eq name (codes "dag") then dag_words rest
    else if bytes_eq name (codes "pin") then pin_words rest
    else if bytes_eq name (codes "repo") then repo_words rest
    else other_words name rest

-- the command that the words are
unfoldable pub command_of : List (List ℕ) → Option Cmd
command_of [] = None
command_of (name ∷ rest) =
    if bytes_eq name (codes "init") then init_words rest
    else if bytes_eq name (codes "add") then add_words rest
    else if bytes_eq name (codes "cat") then option_map (λ target. cmd.Cat target) (one_argument (codes "TARGET") rest)
    else if bytes_eq name (codes "get") then
    option_map (λ given. cmd.Get given.0 given.1) (two_arguments (codes "TARGET") (codes "HOSTPATH") rest)
    else if bytes_eq name (codes "batch") then option_map (λ nothing. cmd.Batch) (bare rest)
    else if bytes_eq name (codes "gen") then gen_words rest
    else group_words name rest

-- the profile of an `init` is accepted, `gen` makes at most 20000 files, a mode has twelve bits, and seconds and
-- nanoseconds are in their ranges; no other command has a limit
abbrev pub IsWithinLimits : Cmd → Type 0
IsWithinLimits (cmd.Init profile) = IsTrue (is_profile profile)
IsWithinLimits (cmd.Gen n seed) = n ≤ 20000
IsWithinLimits (cmd.Chmod mode path) = mode < 4096
IsWithinLimits (cmd.Touch nanos seconds path) = (nanos ≤ 999999999) × (seconds < 2 ^ 63)
IsWithinLimits other = Unit {0}
