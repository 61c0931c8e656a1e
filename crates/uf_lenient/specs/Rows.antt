-- Worked readings: blocks under CIDs of made-up digests, and what they denote.
use Rattle.std.specs.Prelude.{ℕ, pos, ◌+◌, ◌*◌, ◌/◌, ◌%◌, ◌==◌, List, [], ◌∷◌, ◌++◌, codes, length, replicate, if◌then◌else◌}
use Rattle.std.specs.declared.option.Option.{Option}
use Rattle.std.specs.declared.option.Option.TheVariants.{None, Some}
use Rattle.std.specs.List.{flat_map}
use Rattle.uf_cid.specs.Blocks.{Lookup}
use Rattle.uf_cid.specs.Cid.{cid_bytes}
use Rattle.uf_cid.specs.declared.cid.Cid.{Cid}
use Rattle.uf_cid.specs.declared.cid.Codec.TheVariants.{Raw, DagPb}
use Rattle.uf_tree.specs.declared.meta.Meta.{Meta}
use Rattle.std.specs.declared.result.Result.{Result}
use Rattle.uf_tree.specs.Metas.{none}
use Rattle.uf_tree.specs.Tree.{Tree, File}
use Rattle.uf_lenient.specs.declared.fault.DagFault.{DagFault}
use Rattle.uf_lenient.specs.declared.shapes.Limits.{Limits}
use Rattle.uf_lenient.specs.declared.shapes.Shape.{Shape}
use Rattle.uf_lenient.specs.Reading.{denotes, file_of, resolve_from, shallow_of}

-- the CID of a number, of a node and of a raw block
abbrev pub nth_digest : ℕ → List ℕ
nth_digest n = (n / 256) ∷ (n % 256) ∷ replicate 30 0

abbrev pub nth_node : ℕ → Cid
nth_node n = record { codec = DagPb; digest = nth_digest n }

abbrev pub nth_raw : ℕ → Cid
nth_raw n = record { codec = Raw; digest = nth_digest n }

-- a link whose hash is spelled so
abbrev pub link_spelled_as : List ℕ → List ℕ → List ℕ
link_spelled_as hash name =
    0x12 ∷ (length hash + length name + 4) ∷ 0x0a ∷ length hash ∷ hash ++ 0x12 ∷ length name ∷ name

abbrev pub link_spelled : Cid × List ℕ → List ℕ
link_spelled l = link_spelled_as (cid_bytes l.0) l.1

-- a node with these links and this content
abbrev pub node_spelled : List (Cid × List ℕ) → List ℕ → List ℕ
node_spelled links content = flat_map link_spelled links ++ 0x0a ∷ length content ∷ content

abbrev pub directory_content : List ℕ
directory_content = 8 ∷ 1 ∷ []

abbrev pub file_content : List ℕ
file_content = 8 ∷ 2 ∷ []

abbrev pub shard_content : List ℕ
shard_content = 8 ∷ 5 ∷ 0x28 ∷ 0x22 ∷ 0x30 ∷ 0x80 ∷ 2 ∷ []

-- a mode of 0644 and one of 0755, and an mtime of 1 second and some nanoseconds, in four bytes from the last one on
abbrev pub mode_644 : List ℕ
mode_644 = 0x38 ∷ 0xa4 ∷ 3 ∷ []

abbrev pub mode_755 : List ℕ
mode_755 = 0x38 ∷ 0xed ∷ 3 ∷ []

abbrev pub mtime_spelled : List ℕ → List ℕ
mtime_spelled nanos = 0x42 ∷ 7 ∷ 8 ∷ 1 ∷ 0x15 ∷ nanos

-- a file of two bytes with its bytes in its node, and the node of which `x` spells that as a CIDv0
abbrev pub hi : List ℕ
hi = 0x0a ∷ 8 ∷ 8 ∷ 2 ∷ 0x12 ∷ 2 ∷ 0x68 ∷ 0x69 ∷ 0x18 ∷ 2 ∷ []

abbrev pub over_hi : List ℕ
over_hi = link_spelled_as (0x12 ∷ 0x20 ∷ nth_digest 1) (codes "x") ++ 0x0a ∷ 2 ∷ directory_content

-- what is held under a number, whatever the codec
abbrev pub under : (ℕ → Option (List ℕ)) → Lookup
under block c = elim c.digest [ [] ↦ None | a ∷ [] ↦ None | a ∷ b ∷ rest ↦ block (256 * a + b) ]

-- some blocks: files, directories and shards, good ones and others
abbrev pub some_block : ℕ → Option (List ℕ)
some_block n =
    if n == 1 then Some hi
    else if n == 2 then Some over_hi
    else if n == 3 then Some (codes "ab")
    else if n == 4 then
    Some (node_spelled ((nth_raw 3, []) ∷ (nth_node 1, codes "n") ∷ (nth_raw 3, []) ∷ []) (8 ∷ 2 ∷ 0x12
    ∷ 1 ∷ 0x2d ∷ 0x18 ∷ 1 ∷ []))
    else if n == 5 then Some (node_spelled [] directory_content)
    else if n == 6 then Some (node_spelled [] (8 ∷ 4 ∷ []))
    else if n == 7 then Some (node_spelled [] (8 ∷ 5 ∷ []))
    else if n == 8 then Some (node_spelled ((nth_raw 3, []) ∷ (nth_node 5, []) ∷ (nth_raw 99, []) ∷ []) file_content)
    else if n == 9 then Some (node_spelled ((nth_node 6, []) ∷ []) file_content)
    else if n == 10 then Some (node_spelled ((nth_node 7, []) ∷ []) file_content)
    else if n == 11 then Some (node_spelled ((nth_raw 3, []) ∷ (nth_raw 99, []) ∷ (nth_node 5, []) ∷ []) file_content)
    else if n == 12 then Some (node_spelled ((nth_raw 3, codes "y") ∷ (nth_node 1, codes "x") ∷ []) directory_content)
    else if n == 13 then
    Some (node_spelled ((nth_raw 99, codes "x") ∷ (nth_raw 3, codes "x") ∷ (nth_raw 3, codes "..")
    ∷ []) directory_content)
    else if n == 14 then
    Some (node_spelled ((nth_raw 99, codes "x") ∷ (nth_raw 3, []) ∷ (nth_raw 3, codes "x") ∷ []) directory_content)
    else if n == 15 then Some (node_spelled ((nth_raw 99, codes "y") ∷ (nth_node 6, codes "x") ∷ []) directory_content)
    else if n == 16 then Some (node_spelled ((nth_raw 3, codes "FFx") ∷ (nth_node 1, codes "00y") ∷ []) shard_content)
    else if n == 17 then
    Some (node_spelled ((nth_raw 3, codes "00z") ∷ (nth_node 16, codes "01") ∷ (nth_raw 3, codes "00a")
    ∷ []) shard_content)
    else if n == 18 then
    Some (node_spelled ((nth_node 16, codes "01") ∷ (nth_node 99, codes "02") ∷ (nth_raw 3, codes "00x")
    ∷ []) shard_content)
    else if n == 19 then
    Some (node_spelled ((nth_node 16, codes "01") ∷ (nth_raw 3, codes "00x") ∷ (nth_node 99, codes "02")
    ∷ []) shard_content)
    else if n == 20 then Some (node_spelled ((nth_raw 3, codes "00x") ∷ (nth_node 16, codes "01") ∷ []) shard_content)
    else if n == 21 then Some (node_spelled ((nth_raw 3, codes "0ax") ∷ []) shard_content)
    else if n == 22 then Some (node_spelled ((nth_raw 3, codes "00/") ∷ []) shard_content)
    else if n == 23 then Some (node_spelled ((nth_raw 3, codes "00") ∷ []) shard_content)
    else if n == 24 then Some (node_spelled ((nth_node 5, codes "00") ∷ []) shard_content)
    else if n == 25 then Some (node_spelled ((nth_node 7, codes "00") ∷ []) shard_content)
    else if n == 26 then Some (node_spelled ((nth_node 6, codes "00") ∷ []) shard_content)
    else if n == 27 then Some []
    else if n == 28 then Some (0x0a ∷ 0 ∷ [])
    else if n == 29 then Some (0x1a ∷ 0 ∷ [])
    else if n == 30 then Some (node_spelled [] (8 ∷ 2 ∷ 0x12 ∷ 2 ∷ 0x68 ∷ 0x69 ∷ 0x18 ∷ 2 ∷ mode_644))
    else if n == 31 then Some (node_spelled [] (directory_content ++ mode_755))
    else if n == 32 then
    Some (node_spelled ((nth_node 30, []) ∷ []) (file_content ++ mtime_spelled (0 ∷ 0 ∷ 0 ∷ 0 ∷ [])))
    else if n == 33 then Some (node_spelled [] (file_content ++ mode_644 ++ mtime_spelled (0 ∷ 0xca ∷ 0x9a ∷ 0x3b ∷ [])))
    else if n == 34 then Some (node_spelled [] (file_content ++ mtime_spelled (0xff ∷ 0xc9 ∷ 0x9a ∷ 0x3b ∷ [])))
    else if n == 35 then Some (node_spelled ((nth_node 36, codes "01") ∷ []) (shard_content ++ mode_755))
    else if n == 36 then Some (node_spelled ((nth_raw 3, codes "00x") ∷ []) (shard_content ++ mode_644))
    else None

abbrev pub some_blocks : Lookup
some_blocks c = under some_block c

-- each directory links the next one by `d`, and the last of them links nothing; or each links the next one twice
abbrev pub directory_chain : ℕ → Lookup
directory_chain last c =
    under (λ n. Some (if n == last then node_spelled [] directory_content
    else node_spelled ((nth_node (n + 1), codes "d") ∷ []) directory_content)) c

abbrev pub doubled_chain : ℕ → Lookup
doubled_chain last c =
    under (λ n. Some (if n == last then node_spelled [] directory_content
    else node_spelled ((nth_node (n + 1), codes "a") ∷ (nth_node (n + 1), codes "b") ∷ []) directory_content)) c

-- metadata of a mode alone, and of an mtime alone
abbrev pub of_mode : ℕ → Meta
of_mode mode = record { mode = Some mode; mtime = None }

abbrev pub of_mtime : ℕ → Option ℕ → Meta
of_mtime seconds nanos = record { mode = None; mtime = Some (record { seconds = pos seconds; nanos = nanos }) }

abbrev pub usual_limits : Limits
usual_limits = record { depth = 256; visits = 1048576 }

abbrev pub with_limits : ℕ → ℕ → Limits
with_limits depth visits = record { depth = depth; visits = visits }

-- what the node of a number among these blocks denotes, its shape, the bytes of its file, and where names lead from it
abbrev pub denoted_at : ℕ → Result Tree DagFault
denoted_at n = denotes some_blocks usual_limits (nth_node n)

abbrev pub shape_at : ℕ → Result Shape DagFault
shape_at n = shallow_of some_blocks usual_limits (nth_node n)

abbrev pub bytes_of_file_at : ℕ → Result (List ℕ) DagFault
bytes_of_file_at n = file_of some_blocks usual_limits (nth_node n)

abbrev pub led_from : ℕ → List (List ℕ) → Result Cid DagFault
led_from n names = resolve_from some_blocks usual_limits 0 names (nth_node n)

-- the same within these levels and visits
abbrev pub denoted_within : ℕ → ℕ → ℕ → Result Tree DagFault
denoted_within depth visits n = denotes some_blocks (with_limits depth visits) (nth_node n)

-- the files of these two characters, with no metadata
abbrev pub file_hi : Tree
file_hi = File none (codes "hi")

abbrev pub file_ab : Tree
file_ab = File none (codes "ab")
