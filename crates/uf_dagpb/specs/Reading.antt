-- What the lenient reader answers (IPLD DAG-PB, "Serial Format"; Protocol Buffers wire format): the bytes are cut into
-- fields, and these are judged from the left. Fields may stand in any order.
use Rattle.std.specs.Prelude.{◌≡◌, ℕ, List, [], ◌∷◌, length, Bool, false, ◌&&◌, ◌||◌, not, ◌==◌, ◌⊎◌, if◌then◌else◌, is_some}
use Rattle.std.specs.declared.option.Option.{Option}
use Rattle.std.specs.declared.option.Option.TheVariants.{None, Some}
use Rattle.std.specs.declared.result.Result.{Result}
use Rattle.std.specs.declared.result.Result.TheVariants.{Ok, Err}
use Rattle.std.specs.List.{filter_map, list_any}
use Rattle.std.specs.Option.{option_and_then, unwrap_or}
use Rattle.std.specs.Str.{is_utf8}
use Rattle.uf_varint.specs.Fields.{Content, Number, Bytes, Field, NoKey, Keyed, fields}
use Rattle.uf_varint.specs.declared.fields.CutFault.{CutFault}
use Rattle.uf_varint.specs.declared.fields.CutFault.TheVariants.{Truncated, Varint, Wire}
use Rattle.uf_cid.specs.Read.{cid_at}
use Rattle.uf_cid.specs.declared.cid.Cid.{Cid}
use Rattle.uf_cid.specs.declared.cid.CidFault.{CidFault}
use Rattle.uf_dagpb.specs.declared.fault.PbFault.{PbFault}
use Rattle.uf_dagpb.specs.declared.fault.PbFault.TheVariants as pb
use Rattle.uf_dagpb.specs.declared.node.Link.{Link}
use Rattle.uf_dagpb.specs.declared.node.Node.{Node}

-- the fault of a field that can't be cut
abbrev pub pb_fault : CutFault → PbFault
pb_fault Truncated = pb.Truncated
pb_fault Varint = pb.Varint
pb_fault Wire = pb.Field

-- a CID that was read, where it has n bytes
abbrev pub with_length : ℕ → Result (Cid × ℕ) CidFault → Option Cid
with_length all (Ok found) = if found.1 == all then Some found.0 else None
with_length all (Err why) = None

-- the CID that all of the bytes are
abbrev pub hash_of : List ℕ → Option Cid
hash_of bytes = with_length (length bytes) (cid_at bytes)

-- a field's bytes where it has this key
abbrev pub bytes_of : ℕ → Field → Option (List ℕ)
bytes_of key (Keyed k (Ok (Bytes b))) = if k == key then Some b else None
bytes_of key _ = None

-- a field's number where it has this key
abbrev pub number_of : ℕ → Field → Option ℕ
number_of key (Keyed k (Ok (Number n))) = if k == key then Some n else None
number_of key _ = None

-- the first of two things that is there
abbrev pub first : {A : Type 0} → Option A → Option A → Option A
first (Some a) later = Some a
first None later = later

-- the first of the items that f has something of
abbrev pub first_of_all : {A B : Type 0} → (A → Option B) → List A → Option B
first_of_all f [] = None
first_of_all f (x ∷ xs) = first (f x) (first_of_all f xs)

-- what is wrong with the content of a link's field: the hash is no CID, the name is no UTF-8, or it is of another kind
abbrev pub link_content_fault : ℕ → Content → Option PbFault
link_content_fault key (Number n) = if key == 0x18 then None else Some pb.Field
link_content_fault key (Bytes b) =
    if key == 0x0a then (if is_some (hash_of b) then None else Some pb.BadCid)
    else if key == 0x12 then (if is_utf8 b then None else Some pb.NotText)
    else Some pb.Field

-- what is wrong with a content, cut or judged
abbrev pub content_fault : (Content → Option PbFault) → Result Content CutFault → Option PbFault
content_fault judge (Ok c) = judge c
content_fault judge (Err f) = Some (pb_fault f)

-- a key of a link: the hash, the name or the Tsize
abbrev pub is_link_key : ℕ → Bool
is_link_key key = (key == 0x0a) || (key == 0x12) || (key == 0x18)

-- the first fault of a link's fields, after fields of these keys
unfoldable pub link_fault : List ℕ → List Field → Option PbFault
link_fault seen [] = if list_any (λ k. k == 0x0a) seen then None else Some pb.NoHash
link_fault seen (NoKey f ∷ fs) = Some (pb_fault f)
link_fault seen (Keyed key c ∷ fs) =
    if not (is_link_key key) then Some pb.Field
    else if list_any (λ k. k == key) seen then Some pb.Twice
    else first (content_fault (link_content_fault key) c) (link_fault (key ∷ seen) fs)

-- the link that fields without a fault stand for: a missing name is empty, and a missing Tsize is 0
abbrev pub link_of : List Field → Option Link
link_of fs = option_and_then (λ c. Some (record {
  cid = c;
  name = unwrap_or (first_of_all (bytes_of 0x12) fs) [];
  tsize = unwrap_or (first_of_all (number_of 0x18) fs) 0;
}))
    (option_and_then hash_of (first_of_all (bytes_of 0x0a) fs))

-- what is wrong with the content of a node's field: a link has a fault, or it is of another kind
abbrev pub node_content_fault : ℕ → Content → Option PbFault
node_content_fault key (Number n) = Some pb.Field
node_content_fault key (Bytes b) = if key == 0x12 then link_fault [] (fields b) else None

-- the first fault of a node's fields, after a content or without one
unfoldable pub node_fault : Bool → List Field → Option PbFault
node_fault seen [] = None
node_fault seen (NoKey f ∷ fs) = Some (pb_fault f)
node_fault seen (Keyed key c ∷ fs) =
    if not ((key == 0x0a) || (key == 0x12)) then Some pb.Field
    else if (key == 0x0a) && seen then Some pb.Twice
    else first (content_fault (node_content_fault key) c) (node_fault (seen || (key == 0x0a)) fs)

-- the node that fields without a fault stand for
abbrev pub node_of : List Field → Node
node_of fs = record {
  links = filter_map (λ f. option_and_then (λ b. link_of (fields b)) (bytes_of 0x12 f)) fs;
  content = first_of_all (bytes_of 0x0a) fs;
}

-- a value, where nothing is wrong
abbrev pub judged : {A : Type 0} → Option PbFault → A → Result A PbFault
judged None a = Ok a
judged (Some f) a = Err f

-- the node that the bytes spell, or their first fault
unfoldable pub node_reads : List ℕ → Result Node PbFault
node_reads bytes = judged (node_fault false (fields bytes)) (node_of (fields bytes))

-- what a call answered, unless there was no memory
abbrev pub Fails : {Y : Type 0} → PbFault → Result Y PbFault → Type 0
Fails fault said = (fault ≡ pb.Memory) ⊎ (said ≡ Err fault)

abbrev pub Gives : {X Y : Type 0} → (X → Y) → Result X PbFault → Result Y PbFault → Type 0
Gives view (Ok x) said = said ≡ Ok (view x)
Gives view (Err fault) said = Fails fault said
