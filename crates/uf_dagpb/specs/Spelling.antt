-- The one canonical spelling of a DAG-PB node (IPLD DAG-PB, "Serial Format" and "Link Sorting"; Protocol Buffers wire
-- format).
use Rattle.std.specs.Prelude.{ℕ, ◌<◌, ◌^◌, Bool, true, ◌&&◌, IsTrue, List, [], ◌∷◌, ◌++◌}
use Rattle.std.specs.Cmp.Lexicographic.{slice_cmp}
use Rattle.std.specs.List.{flat_map, AllByRecursion}
use Rattle.std.specs.Ordering.{is_le, nat_cmp}
use Rattle.std.specs.Str.{IsUtf8}
use Rattle.uf_varint.specs.Fields.{content_field, number_field, optional}
use Rattle.uf_cid.specs.Cid.{cid_bytes}
use Rattle.uf_cid.specs.Read.{IsCid}
use Rattle.uf_dagpb.specs.declared.node.Link.{Link}
use Rattle.uf_dagpb.specs.declared.node.Node.{Node}

-- a link: its CID, its name and its Tsize, each always written
abbrev pub link_bytes : Link → List ℕ
link_bytes l = content_field 0x0a (cid_bytes l.cid) ++ content_field 0x12 l.name ++ number_field 0x18 l.tsize

-- links, each with its key and its length
abbrev pub links_bytes : List Link → List ℕ
links_bytes links = flat_map (λ l. content_field 0x12 (link_bytes l)) links

-- a node: its links in order, and then its content where it has one
unfoldable pub node_bytes : Node → List ℕ
node_bytes n = links_bytes n.links ++ optional (content_field 0x0a) n.content

-- no name stands after a greater one, in the order of their bytes
abbrev pub are_sorted : List Link → Bool
are_sorted [] = true
are_sorted (a ∷ []) = true
are_sorted (a ∷ b ∷ rest) = is_le (slice_cmp nat_cmp a.name b.name) && are_sorted (b ∷ rest)

-- what a link can be: a CID of 32 bytes of digest, a name in UTF-8 and a Tsize of 64 bits
pub record IsLink (l : Link) : Type 0 where
  pub cid : IsCid l.cid
  pub name : IsUtf8 l.name
  pub tsize : l.tsize < 2 ^ 64

abbrev pub AreLinks : List Link → Type 0
AreLinks links = AllByRecursion IsLink links

-- a node that has a canonical spelling: its links can be, and are sorted
pub record IsNode (n : Node) : Type 0 where
  pub links : AreLinks n.links
  pub sorted : IsTrue (are_sorted n.links)
