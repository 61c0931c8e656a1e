-- How the fields of a message are spelled and cut (Protocol Buffers, "Encoding", "Message Structure"): a key, and then
-- a number or bytes. A key is 8 times the number of the field, and its wire type.
use Rattle.std.specs.Prelude.{◌≡◌, ℕ, zero, suc, ◌%◌, List, [], ◌∷◌, ◌++◌, length, take, drop, ◌==◌, nat_lt, if◌then◌else◌}
use Rattle.std.specs.declared.option.Option.{Option}
use Rattle.std.specs.declared.option.Option.TheVariants.{None, Some}
use Rattle.std.specs.declared.result.Result.{Result}
use Rattle.std.specs.declared.result.Result.TheVariants.{Ok, Err}
use Rattle.uf_varint.specs.declared.varint.Var.{Var}
use Rattle.uf_varint.specs.declared.varint.Var.TheVariants.{Value, Short, Bad}
use Rattle.uf_varint.specs.declared.fields.CutFault.{CutFault}
use Rattle.uf_varint.specs.declared.fields.CutFault.TheVariants.{Truncated, Varint, Wire}
use Rattle.uf_varint.specs.Varint.{varint, read_proto_of}

-- a field with bytes: its key, their number, and the bytes
abbrev pub content_field : ℕ → List ℕ → List ℕ
content_field key bytes = key ∷ varint (length bytes) ++ bytes

-- a field with a number: its key, and the number
abbrev pub number_field : ℕ → ℕ → List ℕ
number_field key n = key ∷ varint n

-- the spelling of what there is, and nothing where it is absent
abbrev pub optional : {A : Type 0} → (A → List ℕ) → Option A → List ℕ
optional spell None = []
optional spell (Some a) = spell a

-- one step after another, until one fails
infixl 10 ◌>>=◌
abbrev pub ◌>>=◌ : {A B E : Type 0} → Result A E → (A → Result B E) → Result B E
(Ok x) >>= f = f x
(Err e) >>= f = Err e

-- what a field has after its key
pub data Content : Type 0 where
  Number : ℕ → Content
  Bytes : List ℕ → Content

-- a field as it is cut from the bytes: a key that can't be read, or a key and its content
pub data Field : Type 0 where
  NoKey : CutFault → Field
  Keyed : ℕ → Result Content CutFault → Field

-- a number that was read, and the bytes after it
abbrev pub number_after : List ℕ → Var → Result (ℕ × List ℕ) CutFault
number_after bytes (Value n used) = Ok (n, drop used bytes)
number_after bytes Short = Err Truncated
number_after bytes Bad = Err Varint

-- the number at the start, and the bytes after it
unfoldable pub number_at : List ℕ → Result (ℕ × List ℕ) CutFault
number_at bytes = number_after bytes (read_proto_of bytes)

-- the first n bytes, and the bytes after them
unfoldable pub piece_at : ℕ → List ℕ → Result (List ℕ × List ℕ) CutFault
piece_at n bytes = if nat_lt (length bytes) n then Err Truncated else Ok (take n bytes, drop n bytes)

-- a number, n bytes, and the bytes after them
unfoldable pub bytes_at : List ℕ → Result (List ℕ × List ℕ) CutFault
bytes_at bytes = number_at bytes >>= λ n. piece_at n.0 n.1

abbrev pub as_number : ℕ × List ℕ → Result (Content × List ℕ) CutFault
as_number n = Ok (Number n.0, n.1)

abbrev pub as_bytes : List ℕ × List ℕ → Result (Content × List ℕ) CutFault
as_bytes b = Ok (Bytes b.0, b.1)

-- the content of a field of a wire type, and the bytes after it: 0 is a varint, 1 has eight bytes, 2 has as many as a
-- varint says, and 5 has four
unfoldable pub content_at : ℕ → List ℕ → Result (Content × List ℕ) CutFault
content_at wire bytes =
    if wire == 0 then (number_at bytes >>= as_number)
    else if wire == 1 then (piece_at 8 bytes >>= as_bytes)
    else if wire == 2 then (bytes_at bytes >>= as_bytes)
    else if wire == 5 then (piece_at 4 bytes >>= as_bytes)
    else Err Wire

-- a key with what stands after it, and the later fields where that can be cut
abbrev pub field_then : ℕ → (List ℕ → List Field) → Result (Content × List ℕ) CutFault → List Field
field_then key later (Ok c) = Keyed key (Ok c.0) ∷ later c.1
field_then key later (Err f) = Keyed key (Err f) ∷ []

abbrev pub key_then : (List ℕ → List Field) → Result (ℕ × List ℕ) CutFault → List Field
key_then later (Ok n) = field_then n.0 later (content_at (n.0 % 8) n.1)
key_then later (Err f) = NoKey f ∷ []

-- at most n fields
unfoldable pub fields_within : ℕ → List ℕ → List Field
fields_within zero bytes = []
fields_within (suc n) [] = []
fields_within (suc n) (b ∷ bytes) = key_then (λ rest. fields_within n rest) (number_at (b ∷ bytes))

-- the fields of the bytes up to the first that can't be cut; each has a byte or more, so there are at most as many as
-- bytes
unfoldable pub fields : List ℕ → List Field
unfolding fields_within
fields bytes = fields_within (length bytes) bytes

-- the content was cut, and these bytes stand after it
abbrev pub SkipsTo : Result (Content × List ℕ) CutFault → List ℕ → Type 0
SkipsTo (Ok c) rest = c.1 ≡ rest
SkipsTo (Err f) rest = ⊥
