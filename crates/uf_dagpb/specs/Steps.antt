-- The same reading in steps, one field on: what the code keeps of the fields after it.
use Rattle.std.specs.Prelude.{ℕ, List, [], ◌∷◌, ◌++◌, ◌==◌, if◌then◌else◌, is_some}
use Rattle.std.specs.declared.option.Option.{Option}
use Rattle.std.specs.declared.option.Option.TheVariants.{None, Some}
use Rattle.std.specs.declared.result.Result.{Result}
use Rattle.std.specs.declared.result.Result.TheVariants.{Ok, Err}
use Rattle.std.specs.Option.{unwrap_or}
use Rattle.std.specs.Str.{is_utf8}
use Rattle.uf_varint.specs.Fields.{◌>>=◌, Content, Number, Bytes, Field, NoKey, Keyed, fields, number_at, bytes_at}
use Rattle.uf_varint.specs.declared.fields.CutFault.{CutFault}
use Rattle.uf_dagpb.specs.declared.fault.PbFault.{PbFault}
use Rattle.uf_dagpb.specs.declared.fault.PbFault.TheVariants as pb
use Rattle.uf_dagpb.specs.declared.node.Link.{Link}
use Rattle.uf_dagpb.specs.declared.node.Node.{Node}
use Rattle.uf_dagpb.specs.declared.parts.LinkParts.{LinkParts}
use Rattle.uf_dagpb.specs.Reading.{pb_fault, hash_of}

-- a step of the cutting, with the fault that the reader answers
abbrev pub cut : {A : Type 0} → Result A CutFault → Result A PbFault
cut (Ok a) = Ok a
cut (Err f) = Err (pb_fault f)

-- something, or why it isn't there
abbrev pub or_fault : {A : Type 0} → PbFault → Option A → Result A PbFault
or_fault fault None = Err fault
or_fault fault (Some a) = Ok a

-- bytes that are text
abbrev pub text_of : List ℕ → Result (List ℕ) PbFault
text_of bytes = if is_utf8 bytes then Ok bytes else Err pb.NotText

-- the parts of a link after its hash, its name or its Tsize, and the bytes after that
abbrev pub hash_next : LinkParts → List ℕ → Result (LinkParts × List ℕ) PbFault
hash_next parts bytes =
    if is_some parts.cid then Err pb.Twice
    else (cut (bytes_at bytes) >>= λ b. or_fault pb.BadCid (hash_of b.0)
    >>= λ c. Ok (record parts { cid = Some c }, b.1))

abbrev pub name_next : LinkParts → List ℕ → Result (LinkParts × List ℕ) PbFault
name_next parts bytes =
    if is_some parts.name then Err pb.Twice
    else (cut (bytes_at bytes) >>= λ b. text_of b.0 >>= λ t. Ok (record parts { name = Some t }, b.1))

abbrev pub tsize_next : LinkParts → List ℕ → Result (LinkParts × List ℕ) PbFault
tsize_next parts bytes =
    if is_some parts.tsize then Err pb.Twice
    else (cut (number_at bytes) >>= λ n. Ok (record parts { tsize = Some n.0 }, n.1))

-- the parts of a link after one more field
abbrev pub keyed_next : LinkParts → ℕ → List ℕ → Result (LinkParts × List ℕ) PbFault
keyed_next parts key bytes =
    if key == 0x0a then hash_next parts bytes
    else if key == 0x12 then name_next parts bytes
    else if key == 0x18 then tsize_next parts bytes
    else Err pb.Field

unfoldable pub link_next : LinkParts → List ℕ → Result (LinkParts × List ℕ) PbFault
link_next parts bytes = cut (number_at bytes) >>= λ key. keyed_next parts key.0 key.1

-- the link of all its parts
unfoldable pub link_end : LinkParts → Result Link PbFault
link_end parts = or_fault pb.NoHash parts.cid
    >>= λ c. Ok (record { cid = c; name = unwrap_or parts.name []; tsize = unwrap_or parts.tsize 0 })

-- ---- over a list of fields

-- a content that is bytes, or a number
abbrev pub bytes_in : Content → Result (List ℕ) PbFault
bytes_in (Number n) = Err pb.Field
bytes_in (Bytes b) = Ok b

abbrev pub number_in : Content → Result ℕ PbFault
number_in (Number n) = Ok n
number_in (Bytes b) = Err pb.Field

abbrev pub took_hash : LinkParts → Result Content CutFault → Result LinkParts PbFault
took_hash parts c = if is_some parts.cid then Err pb.Twice else (cut c >>= λ x. bytes_in x
    >>= λ b. or_fault pb.BadCid (hash_of b) >>= λ h. Ok (record parts { cid = Some h }))

abbrev pub took_name : LinkParts → Result Content CutFault → Result LinkParts PbFault
took_name parts c = if is_some parts.name then Err pb.Twice else (cut c >>= λ x. bytes_in x >>= λ b. text_of b
    >>= λ t. Ok (record parts { name = Some t }))

abbrev pub took_tsize : LinkParts → Result Content CutFault → Result LinkParts PbFault
took_tsize parts c = if is_some parts.tsize then Err pb.Twice
    else (cut c >>= λ x. number_in x >>= λ n. Ok (record parts { tsize = Some n }))

abbrev pub took : LinkParts → ℕ → Result Content CutFault → Result LinkParts PbFault
took parts key c =
    if key == 0x0a then took_hash parts c
    else if key == 0x12 then took_name parts c
    else if key == 0x18 then took_tsize parts c
    else Err pb.Field

-- the link of some parts and the fields after them
unfoldable pub link_from : LinkParts → List Field → Result Link PbFault
link_from parts [] = link_end parts
link_from parts (NoKey f ∷ fs) = Err (pb_fault f)
link_from parts (Keyed key c ∷ fs) = took parts key c >>= λ p. link_from p fs

abbrev pub no_parts : LinkParts
no_parts = record { cid = None; name = None; tsize = None }

-- the link that bytes spell
unfoldable pub link_reads : List ℕ → Result Link PbFault
link_reads bytes = link_from no_parts (fields bytes)

-- a node and one link more, or its content, and the bytes after that
abbrev pub links_next : Node → List ℕ → Result (Node × List ℕ) PbFault
links_next node bytes = cut (bytes_at bytes) >>= λ b. link_reads b.0
    >>= λ l. Ok (record node { links = node.links ++ l ∷ [] }, b.1)

abbrev pub content_next : Node → List ℕ → Result (Node × List ℕ) PbFault
content_next node bytes = if is_some node.content then Err pb.Twice
    else (cut (bytes_at bytes) >>= λ b. Ok (record node { content = Some b.0 }, b.1))

-- a node after one more field
unfoldable pub node_next : Node → List ℕ → Result (Node × List ℕ) PbFault
node_next node bytes = cut (number_at bytes) >>= λ key.
    if key.0 == 0x12 then links_next node key.1
    else if key.0 == 0x0a then content_next node key.1
    else Err pb.Field

abbrev pub took_link : Node → Result Content CutFault → Result Node PbFault
took_link node c = cut c >>= λ x. bytes_in x >>= λ b. link_reads b
    >>= λ l. Ok (record node { links = node.links ++ l ∷ [] })

abbrev pub took_content : Node → Result Content CutFault → Result Node PbFault
took_content node c = if is_some node.content then Err pb.Twice
    else (cut c >>= λ x. bytes_in x >>= λ b. Ok (record node { content = Some b }))

-- the node of some links and a content, and the fields after them
unfoldable pub node_from : Node → List Field → Result Node PbFault
node_from node [] = Ok node
node_from node (NoKey f ∷ fs) = Err (pb_fault f)
node_from node (Keyed key c ∷ fs) =
    (if key == 0x12 then took_link node c else if key == 0x0a then took_content node c else Err pb.Field)
    >>= λ n. node_from n fs

abbrev pub no_node : Node
no_node = record { links = []; content = None }
