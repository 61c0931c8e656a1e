-- The one canonical spelling of a UnixFS message (UnixFS v1, "Data Format"; Protocol Buffers, "Encoding"): the fields
-- that are there in the order of their numbers, with shortest varints.
use Rattle.std.specs.Prelude.{ℕ, ◌<◌, ◌^◌, List, ◌∷◌, ◌++◌, length, flat_map, IfSome, FitsSigned}
use Rattle.std.specs.Int.{w32, w64, to_le_bytes, cast_unsigned}
use Rattle.std.specs.List.{AllByRecursion}
use Rattle.uf_varint.specs.Fields.{content_field, number_field, optional}
use Rattle.uf_message.specs.declared.message.Message.{Message}
use Rattle.uf_message.specs.declared.message.MsgKind.{MsgKind}
use Rattle.uf_message.specs.declared.message.MsgKind.TheVariants.{Raw, Directory, File, Metadata, Symlink, Shard}
use Rattle.uf_message.specs.declared.message.Mtime.{Mtime}

-- the number of a kind
abbrev pub kind_number : MsgKind → ℕ
kind_number Raw = 0
kind_number Directory = 1
kind_number File = 2
kind_number Metadata = 3
kind_number Symlink = 4
kind_number Shard = 5

-- a field of four bytes, the lowest first
abbrev pub fixed_field : ℕ → ℕ → List ℕ
fixed_field key n = key ∷ to_le_bytes w32 n

-- a time: its seconds, as 64 bits in two's complement, and its nanoseconds where it has them
unfoldable pub mtime_bytes : Mtime → List ℕ
mtime_bytes t = number_field 0x08 (cast_unsigned w64 t.seconds) ++ optional (fixed_field 0x15) t.nanos

unfoldable pub message_bytes : Message → List ℕ
unfolding mtime_bytes
message_bytes m =
    number_field 0x08 (kind_number m.kind)
    ++ (optional (content_field 0x12) m.content
    ++ (optional (number_field 0x18) m.filesize
    ++ (flat_map (number_field 0x20) m.blocksizes
    ++ (optional (number_field 0x28) m.hash_type
    ++ (optional (number_field 0x30) m.fanout
    ++ (optional (number_field 0x38) m.mode
    ++ optional (λ t. content_field 0x42 (mtime_bytes t)) m.mtime))))))

-- a message whose numbers and lengths have the widths of their types
pub record IsMessage (m : Message) : Type 0 where
  pub content : IfSome m.content (λ bytes. length bytes < 2 ^ 64)
  pub filesize : IfSome m.filesize (λ n. n < 2 ^ 64)
  pub blocksizes : AllByRecursion (λ n. n < 2 ^ 64) m.blocksizes
  pub hash_type : IfSome m.hash_type (λ n. n < 2 ^ 64)
  pub fanout : IfSome m.fanout (λ n. n < 2 ^ 64)
  pub mode : IfSome m.mode (λ n. n < 2 ^ 32)
  pub seconds : IfSome m.mtime (λ t. FitsSigned w64 t.seconds)
  pub nanos : IfSome m.mtime (λ t. IfSome t.nanos (λ n. n < 2 ^ 32))
