-- The text of a CAR (CARv1): the header with its roots, and a section for each block. Each has its length before it.
use Rattle.std.specs.Prelude.{ℕ, List, [], ◌∷◌, ◌++◌, length, codes}
use Rattle.std.specs.List.{flat_map}
use Rattle.std.specs.declared.option.Option.{Option}
use Rattle.std.specs.declared.option.Option.TheVariants.{None, Some}
use Rattle.uf_varint.specs.Varint.{varint}
use Rattle.uf_cid.specs.Blocks.{Held, Lookup}
use Rattle.uf_cid.specs.Cid.{cid_bytes}
use Rattle.uf_cid.specs.declared.cid.Cid.{Cid}

-- bytes with their number before them
abbrev pub framed : List ℕ → List ℕ
framed bytes = varint (length bytes) ++ bytes

-- a map of two entries, and the first of them: the array of the roots (DAG-CBOR)
abbrev pub roots_key : List ℕ
roots_key = 0xa2 ∷ 0x65 ∷ codes "roots"

abbrev pub version_key : List ℕ
version_key = 0x67 ∷ codes "version"

-- a CID of 36 bytes in DAG-CBOR: the tag 42, and 37 bytes of which the first is 0
abbrev pub link_key : List ℕ
link_key = 0xd8 ∷ 0x2a ∷ 0x58 ∷ 0x25 ∷ 0x00 ∷ []

-- the header with one root
abbrev pub header_bytes : Cid → List ℕ
header_bytes root = (roots_key ++ (0x81 ∷ link_key)) ++ (cid_bytes root ++ (version_key ++ (0x01 ∷ [])))

-- the section of a block
abbrev pub section_bytes : Held → List ℕ
section_bytes b = framed (cid_bytes b.0 ++ b.1)

abbrev pub sections_bytes : List Held → List ℕ
sections_bytes blocks = flat_map section_bytes blocks

-- a CAR with this root and these blocks
abbrev pub car_bytes : Cid → List Held → List ℕ
car_bytes root blocks = framed (header_bytes root) ++ sections_bytes blocks

-- the blocks that are held under these CIDs
abbrev pub with_held : Cid → Option (List ℕ) → List Held → List Held
with_held c None blocks = blocks
with_held c (Some bytes) blocks = (c, bytes) ∷ blocks

abbrev pub blocks_at : Lookup → List Cid → List Held
blocks_at held [] = []
blocks_at held (c ∷ cids) = with_held c (held c) (blocks_at held cids)

-- the CAR of the blocks in this order
abbrev pub car_text : Lookup → Cid → List Cid → List ℕ
car_text held root order = car_bytes root (blocks_at held order)
