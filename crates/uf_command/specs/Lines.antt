-- The lines that commands print: error lines, rows of a directory, and what is said of a file or a directory (this
-- project's own).
use Rattle.std.specs.Prelude.{ℕ, ◌-◌, List, [], ◌∷◌, ◌++◌, length, replicate, Bool, true, false, codes}
use Rattle.std.specs.Fmt.{decimal, digits, signed_decimal}
use Rattle.std.specs.declared.option.Option.{Option}
use Rattle.std.specs.declared.option.Option.TheVariants.{None, Some}
use Rattle.std.specs.declared.result.Result.{Result}
use Rattle.std.specs.declared.result.Result.TheVariants.{Ok, Err}
use Rattle.hex.specs.Hex.{encode_lower}
use Rattle.uf_cid.specs.Cid.{cid_text}
use Rattle.uf_cid.specs.declared.cid.Cid.{Cid}
use Rattle.uf_message.specs.declared.message.Mtime.{Mtime}
use Rattle.uf_plain.specs.declared.ready.Ready.{Ready}
use Rattle.uf_plain.specs.declared.ready.Ready.TheVariants.{NoHead, HeadThere, BadHead}
use Rattle.uf_plain.specs.declared.reply.Row.{Row}
use Rattle.uf_plain.specs.declared.rule.Rule.{Rule}
use Rattle.uf_plain.specs.declared.rule.Rule.TheVariants as rule
use Rattle.uf_plain.specs.declared.reply.Stat.{Stat}
use Rattle.uf_path.specs.declared.faults.PathFault.{PathFault}
use Rattle.uf_path.specs.declared.faults.PathFault.TheVariants as path
use Rattle.uf_store.specs.declared.store.Role.{Role}
use Rattle.uf_store.specs.declared.store.Role.TheVariants.{Directory, Shard, FileNode, Leaf}
use Rattle.uf_store.specs.declared.store.StoreFault.{StoreFault}
use Rattle.uf_store.specs.declared.store.StoreFault.TheVariants as fault
use Rattle.uf_words.specs.Shown.{shown_bytes}
use Rattle.uf_command.specs.declared.status.Status.TheVariants as status
use Rattle.uf_command.specs.declared.types.DagRule.{DagRule}
use Rattle.uf_command.specs.declared.types.HostRule.{HostRule}
use Rattle.uf_command.specs.declared.types.HostRule.TheVariants as host
use Rattle.uf_command.specs.declared.types.Refusal.{Refusal}
use Rattle.uf_command.specs.declared.types.Refusal.TheVariants as refusal
use Rattle.uf_command.specs.Dags.{dag_words}
use Rattle.uf_command.specs.Statuses.{plain_line}

-- a line: what comes first, what comes after it, and a line feed
abbrev pub line : List ℕ → List ℕ → List ℕ
line front rest = front ++ rest ++ 10 ∷ []

-- the name of a rule and a path or a name, as it is shown
abbrev pub with_detail : List ℕ → List ℕ → List ℕ
with_detail name detail = name ++ shown_bytes detail

-- the name of a rule and two paths or names, as they are shown
abbrev pub with_details : List ℕ → List ℕ → List ℕ → List ℕ
with_details name first second = name ++ shown_bytes first ++ 32 ∷ shown_bytes second

-- the name of a rule and its details
abbrev pub rule_words : Rule → List ℕ
rule_words (rule.NotFound path) = with_detail (codes "NotFound ") path
rule_words (rule.NotADirectory path) = with_detail (codes "NotADirectory ") path
rule_words (rule.IsADirectory path) = with_detail (codes "IsADirectory ") path
rule_words (rule.Exists path) = with_detail (codes "Exists ") path
rule_words (rule.NeedsRecursive path) = with_detail (codes "NeedsRecursive ") path
rule_words rule.RootRefused = codes "RootRefused"
rule_words (rule.Inside source target) = with_details (codes "Inside ") source target
rule_words rule.FileTooLong = codes "FileTooLong"
rule_words (rule.Collision first second) = with_details (codes "Collision ") first second
rule_words rule.TooBig = codes "TooBig"

-- which of the reasons for which a text is no path this is, counted from 1
abbrev pub path_number : PathFault → ℕ
path_number path.NotAbsolute = 1
path_number (path.BadName place) = 2
path_number path.TooLong = 3
path_number (path.BadCid why) = 4
path_number path.Memory = 5

-- the byte at which a bad name starts, and else 0
abbrev pub path_place : PathFault → ℕ
path_place (path.BadName place) = place
path_place other = 0

-- the number of a reason for which a store isn't ready
abbrev pub ready_line : Ready → List ℕ
ready_line NoHead = codes "error: not ready 1\n"
ready_line HeadThere = codes "error: not ready 2\n"
ready_line BadHead = codes "error: not ready 3\n"

-- a fourth: the note of pins isn't read
abbrev pub bad_pins_line : List ℕ
bad_pins_line = codes "error: not ready 4\n"

abbrev pub role_word : Role → List ℕ
role_word Directory = codes "directory"
role_word (Shard level) = codes "shard"
role_word FileNode = codes "node"
role_word Leaf = codes "leaf"

abbrev pub missing_line : Cid → List ℕ
missing_line cid = line (codes "error: missing ") (cid_text cid)

abbrev pub bad_block_line : Cid → Role → List ℕ
bad_block_line cid role = line (codes "error: bad block ") (cid_text cid ++ 32 ∷ role_word role)

-- a CID and two blocks in lower case hexadecimal digits
abbrev pub two_blocks_line : List ℕ → Cid → List ℕ → List ℕ → List ℕ
two_blocks_line front cid first second =
    line front (cid_text cid ++ 32 ∷ encode_lower first ++ 32 ∷ encode_lower second)

-- two blocks of one digest, the held one first
abbrev pub clash_line : Cid → List ℕ → List ℕ → List ℕ
clash_line cid held bytes = two_blocks_line (codes "error: clash ") cid held bytes

-- the error line of a fault of the store
abbrev pub fault_line : StoreFault → List ℕ
fault_line fault.Failed = plain_line status.StoreFault
fault_line (fault.Damaged cid) = plain_line status.StoreFault
fault_line (fault.Missing cid) = missing_line cid
fault_line (fault.BadBlock cid role) = bad_block_line cid role
fault_line (fault.Clash cid held bytes) = clash_line cid held bytes
fault_line fault.Memory = plain_line status.Memory

abbrev pub rule_line : Rule → List ℕ
rule_line rule = line (codes "error: rule ") (rule_words rule)

abbrev pub dag_line : DagRule → List ℕ
dag_line rule = line (codes "error: rule ") (dag_words rule)

-- the name of a rule of the host, and its path as it is shown
abbrev pub host_words : HostRule → List ℕ
host_words (host.Absent path) = with_detail (codes "HostAbsent ") path
host_words (host.Other path) = with_detail (codes "HostOther ") path
host_words (host.Exists path) = with_detail (codes "HostExists ") path
host_words (host.Name path) = with_detail (codes "HostName ") path
host_words (host.Deep path) = with_detail (codes "HostDeep ") path

abbrev pub host_line : HostRule → List ℕ
host_line rule = line (codes "error: rule ") (host_words rule)

abbrev pub bad_path_line : PathFault → List ℕ
bad_path_line why = line (codes "error: rule BadPath ") (decimal (path_number why) ++ 32 ∷ decimal (path_place why))

-- the number of a fault of a CAR, and its place
abbrev pub car_line : (number place : ℕ) → List ℕ
car_line number place = line (codes "error: rule Car ") (decimal number ++ 32 ∷ decimal place)

-- the error line of a refusal
abbrev pub line_of : Refusal → List ℕ
line_of (refusal.Rule rule) = rule_line rule
line_of (refusal.Dag rule) = dag_line rule
line_of (refusal.Host rule) = host_line rule
line_of (refusal.BadPath why) = bad_path_line why
line_of refusal.InputTooLong = codes "error: rule InputTooLong\n"
line_of refusal.Usage = plain_line status.Usage
line_of (refusal.Ready why) = ready_line why
line_of refusal.BadPins = bad_pins_line
line_of refusal.Read = plain_line status.ReadFault
line_of refusal.Write = plain_line status.WriteFault
line_of (refusal.Store why) = fault_line why
line_of (refusal.Car number place) = car_line number place
line_of (refusal.CarLacks cid) = missing_line cid
line_of (refusal.OwnClash cid first second) = clash_line cid first second

-- the line that goes to `errors`; nothing at Ok
abbrev pub said : Result (List ℕ) Refusal → List ℕ
said (Ok text) = []
said (Err why) = line_of why

-- the row of a file that was added from the input
abbrev pub added_line : Cid → List ℕ
added_line c = codes "added " ++ cid_text c ++ 32 ∷ cid_text c ++ 10 ∷ []

-- the row of what was added from the host: its CID, and its path as it is shown
abbrev pub from_line : Cid → List ℕ → List ℕ
from_line c path = codes "added " ++ cid_text c ++ 32 ∷ shown_bytes path ++ 10 ∷ []

-- a name as it is listed
abbrev pub name_line : List ℕ → List ℕ
name_line name = shown_bytes name ++ 10 ∷ []

-- a member as it is listed at length: name, CID and size with tabs between them
abbrev pub row_line : Row → List ℕ
row_line row = shown_bytes row.name ++ 9 ∷ cid_text row.cid ++ 9 ∷ decimal row.size ++ 10 ∷ []

abbrev pub type_word : Bool → List ℕ
type_word true = codes "directory"
type_word false = codes "file"

-- digits with zeros before them, at least n in all
abbrev pub at_least : ℕ → List ℕ → List ℕ
at_least count numeral = replicate (count - length numeral) 48 ++ numeral

-- a mode in four octal digits at least
abbrev pub mode_text : ℕ → List ℕ
mode_text mode = at_least 4 (digits 8 false mode)

-- the nanoseconds of an mtime: a point and nine digits where there are some
abbrev pub nanos_text : Option ℕ → List ℕ
nanos_text None = []
nanos_text (Some nanos) = 46 ∷ at_least 9 (decimal nanos)

-- an mtime: its seconds, and its nanoseconds after them
abbrev pub mtime_text : Mtime → List ℕ
mtime_text time = signed_decimal time.seconds ++ nanos_text time.nanos

-- the line of a mode, and that of an mtime, where there is one
abbrev pub mode_line : Option ℕ → List ℕ
mode_line None = []
mode_line (Some mode) = line (codes "Mode: ") (mode_text mode)

abbrev pub mtime_line : Option Mtime → List ℕ
mtime_line None = []
mtime_line (Some time) = line (codes "Mtime: ") (mtime_text time)

-- what is said of a file or a directory: five lines, and one for its mode and its mtime where there are such
abbrev pub stat_text : Stat → List ℕ
stat_text stat =
    line (cid_text stat.cid) []
    ++ line (codes "Size: ") (decimal stat.size)
    ++ line (codes "CumulativeSize: ") (decimal stat.cumulative)
    ++ line (codes "ChildBlocks: ") (decimal stat.children)
    ++ line (codes "Type: ") (type_word stat.is_folder)
    ++ mode_line stat.meta.mode
    ++ mtime_line stat.meta.mtime
