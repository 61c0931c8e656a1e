-- What the lenient reader answers (UnixFS v1, "Data Format"; Protocol Buffers, "Encoding", "Message Structure"): the
-- bytes are cut into fields, these are judged from the left, and then values are selected by key, the last of each.
use Rattle.std.specs.Prelude.{◌==◌, ◌&&◌, not, Bool, ℕ, zero, suc, ◌%◌, ◌^◌, List, [], ◌∷◌, length, flat_map, nat_lt, if◌then◌else◌, is_some}
use Rattle.std.specs.Int.{w32, w64, from_le_bytes, cast_signed}
use Rattle.std.specs.List.{list_any}
use Rattle.std.specs.Option.{option_map, option_or, ok_or}
use Rattle.std.specs.declared.option.Option.{Option}
use Rattle.std.specs.declared.option.Option.TheVariants.{None, Some}
use Rattle.std.specs.declared.result.Result.{Result}
use Rattle.std.specs.declared.result.Result.TheVariants.{Ok, Err}
use Rattle.uf_varint.specs.declared.fields.CutFault.{CutFault}
use Rattle.uf_varint.specs.declared.fields.CutFault.TheVariants as cut
use Rattle.uf_varint.specs.Fields.{◌>>=◌, Content, Number, Bytes, Field, NoKey, Keyed, fields, number_at}
use Rattle.uf_message.specs.declared.message.Message.{Message}
use Rattle.uf_message.specs.declared.message.MsgFault.{MsgFault}
use Rattle.uf_message.specs.declared.message.MsgFault.TheVariants as fault
use Rattle.uf_message.specs.declared.message.MsgKind.{MsgKind}
use Rattle.uf_message.specs.declared.message.MsgKind.TheVariants.{Raw, Directory, File, Metadata, Symlink, Shard}
use Rattle.uf_message.specs.declared.message.Mtime.{Mtime}

-- why a field can't be cut, as a fault of the message
abbrev pub msg_fault : CutFault → MsgFault
msg_fault cut.Truncated = fault.Truncated
msg_fault cut.Varint = fault.Varint
msg_fault cut.Wire = fault.Wire

-- the first and the last thing that f has of the items
abbrev pub first_of : {A B : Type 0} → (A → Option B) → List A → Option B
first_of f [] = None
first_of f (x ∷ xs) = option_or (f x) (first_of f xs)

abbrev pub last_of : {A B : Type 0} → (A → Option B) → List A → Option B
last_of f [] = None
last_of f (x ∷ xs) = option_or (last_of f xs) (f x)

-- a field's number, or its bytes, where it has this key
abbrev pub number_of : ℕ → Field → Option ℕ
number_of key (Keyed k (Ok (Number n))) = if k == key then Some n else None
number_of key _ = None

abbrev pub bytes_of : ℕ → Field → Option (List ℕ)
bytes_of key (Keyed k (Ok (Bytes b))) = if k == key then Some b else None
bytes_of key _ = None

-- at most n varints, one after the other
unfoldable pub run_within : ℕ → List ℕ → Result (List ℕ) CutFault
run_within zero bytes = Ok []
run_within (suc n) [] = Ok []
run_within (suc n) (b ∷ bytes) = number_at (b ∷ bytes) >>= λ x. run_within n x.1 >>= λ more. Ok (x.0 ∷ more)

-- bytes that are varints, one after the other
unfoldable pub run : List ℕ → Result (List ℕ) CutFault
unfolding run_within
run bytes = run_within (length bytes) bytes

abbrev pub fault_of : {A : Type 0} → Result A CutFault → Option MsgFault
fault_of (Ok a) = None
fault_of (Err f) = Some (msg_fault f)

abbrev pub numbers_of : Result (List ℕ) CutFault → List ℕ
numbers_of (Ok ns) = ns
numbers_of (Err f) = []

-- the sizes of blocks in a field: one number, or packed ones
abbrev pub sizes_of : Field → List ℕ
sizes_of (Keyed k (Ok (Number n))) = if k == 0x20 then n ∷ [] else []
sizes_of (Keyed k (Ok (Bytes b))) = if k == 0x22 then numbers_of (run b) else []
sizes_of _ = []

-- a key of one of the fields up to a number, but with another wire type than these keys have, or of the field 0
abbrev pub is_misplaced : List ℕ → ℕ → ℕ → Bool
is_misplaced keys limit key = nat_lt key limit && not (list_any (λ k. k == key) keys)

-- what is wrong with a field
abbrev pub content_fault : (ℕ → Content → Option MsgFault) → ℕ → Result Content CutFault → Option MsgFault
content_fault inside key (Ok c) = inside key c
content_fault inside key (Err f) = Some (msg_fault f)

abbrev pub field_fault : List ℕ → ℕ → (ℕ → Content → Option MsgFault) → Field → Option MsgFault
field_fault keys limit inside (NoKey f) = Some (msg_fault f)
field_fault keys limit inside (Keyed key c) = if is_misplaced keys limit key then Some fault.Wire
    else content_fault inside key c

-- a time has seconds, field 1, and nanoseconds, field 2 of four bytes
abbrev pub mtime_field_fault : Field → Option MsgFault
mtime_field_fault f = field_fault (0x08 ∷ 0x15 ∷ []) 24 (λ key c. None) f

abbrev pub nanos_of : Field → Option ℕ
nanos_of f = option_map (from_le_bytes w32) (bytes_of 0x15 f)

abbrev pub time_of : Option ℕ → Option ℕ → Option Mtime
time_of seconds nanos = option_map (λ n. record { seconds = cast_signed w64 n; nanos = nanos }) seconds

abbrev pub mtime_of : List Field → Option Mtime
mtime_of fs = if is_some (first_of mtime_field_fault fs) then None
    else time_of (last_of (number_of 0x08) fs) (last_of nanos_of fs)

-- the time that bytes stand for, where they have no fault, and seconds
unfoldable pub mtime_reads : List ℕ → Option Mtime
mtime_reads bytes = mtime_of (fields bytes)

abbrev pub packed_fault : ℕ → Content → Option MsgFault
packed_fault key (Number n) = None
packed_fault key (Bytes b) = if key == 0x22 then fault_of (run b) else None

-- a message has fields 1 to 8; the sizes of blocks, field 4, may be packed
abbrev pub message_keys : List ℕ
message_keys = 0x08 ∷ 0x12 ∷ 0x18 ∷ 0x20 ∷ 0x22 ∷ 0x28 ∷ 0x30 ∷ 0x38 ∷ 0x42 ∷ []

abbrev pub message_field_fault : Field → Option MsgFault
message_field_fault f = field_fault message_keys 72 packed_fault f

-- what fields have under the keys of a message
pub record Selected : Type 0 where
  pub kind : Option ℕ
  pub content : Option (List ℕ)
  pub filesize : Option ℕ
  pub sizes : List ℕ
  pub hash_type : Option ℕ
  pub fanout : Option ℕ
  pub mode : Option ℕ
  pub mtime : Option (List ℕ)

abbrev pub selected : List Field → Selected
selected fs = record {
  kind = last_of (number_of 0x08) fs;
  content = last_of (bytes_of 0x12) fs;
  filesize = last_of (number_of 0x18) fs;
  sizes = flat_map sizes_of fs;
  hash_type = last_of (number_of 0x28) fs;
  fanout = last_of (number_of 0x30) fs;
  mode = last_of (number_of 0x38) fs;
  mtime = last_of (bytes_of 0x42) fs;
}

-- the kind of a number
abbrev pub kind_of : ℕ → Option MsgKind
kind_of n =
    if n == 0 then Some Raw else if n == 1 then Some Directory else if n == 2 then Some File
    else if n == 3 then Some Metadata else if n == 4 then Some Symlink else if n == 5 then Some Shard else None

abbrev pub time_part : Option (List ℕ) → Result (Option Mtime) MsgFault
time_part None = Ok None
time_part (Some bytes) = ok_or (mtime_reads bytes) fault.BadTime >>= λ t. Ok (Some t)

-- the message of a selection: a kind must be there, it must be known, and the time must be one; the mode has 32 bits
abbrev pub message_of : Selected → Result Message MsgFault
message_of s =
    ok_or s.kind fault.NoType >>= λ n.
    ok_or (kind_of n) fault.UnknownType >>= λ kind.
    time_part s.mtime >>= λ mtime.
    Ok (record {
      kind = kind;
      content = s.content;
      filesize = s.filesize;
      blocksizes = s.sizes;
      hash_type = s.hash_type;
      fanout = s.fanout;
      mode = option_map (λ n. n % 2 ^ 32) s.mode;
      mtime = mtime;
    })

abbrev pub judged : {A : Type 0} → Option MsgFault → Result A MsgFault → Result A MsgFault
judged None r = r
judged (Some f) r = Err f

-- the message that bytes spell in any way, or the first fault from the left
unfoldable pub message_reads : List ℕ → Result Message MsgFault
message_reads bytes = judged (first_of message_field_fault (fields bytes)) (message_of (selected (fields bytes)))
