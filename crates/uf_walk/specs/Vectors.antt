-- Small DAGs for the rows of the order. Each CID has a digest of 32 equal bytes.
use Rattle.std.specs.Prelude.{ℕ, List, [], ◌∷◌, true, false, map, replicate}
use Rattle.std.specs.Ordering.{eq_by_cmp}
use Rattle.std.specs.declared.option.Option.TheVariants.{None, Some}
use Rattle.uf_cid.specs.Blocks.{Held, Lookup}
use Rattle.uf_cid.specs.Cid.{cid_cmp}
use Rattle.uf_cid.specs.declared.cid.Cid.{Cid}
use Rattle.uf_cid.specs.declared.cid.Codec.TheVariants.{Raw, DagPb}
use Rattle.uf_dagpb.specs.Spelling.{node_bytes}

abbrev pub node_named : ℕ → Cid
node_named n = record { codec = DagPb; digest = replicate 32 n }

abbrev pub leaf_named : ℕ → Cid
leaf_named n = record { codec = Raw; digest = replicate 32 n }

-- a node that links these, without names
abbrev pub linking : List Cid → List ℕ
linking cids = node_bytes (record { links = map (λ c. record { cid = c; name = []; tsize = 0 }) cids; content = None })

-- what is held where these blocks are
abbrev pub held_of : List Held → Lookup
held_of [] c = None
held_of (b ∷ blocks) c = elim (eq_by_cmp cid_cmp c b.0) [ true ↦ Some b.1 | false ↦ held_of blocks c ]

-- a root over two nodes that share a leaf, and that leaf itself twice
abbrev pub shared : Lookup
shared = held_of
    ((node_named 1, linking (node_named 3 ∷ node_named 2 ∷ leaf_named 9 ∷ leaf_named 9 ∷ []))
    ∷ (node_named 2, linking (leaf_named 8 ∷ node_named 3 ∷ []))
    ∷ (node_named 3, linking (leaf_named 9 ∷ leaf_named 7 ∷ []))
    ∷ (leaf_named 7, []) ∷ (leaf_named 8, []) ∷ (leaf_named 9, []) ∷ [])

-- a root over a block that isn't held, and one that is no node
abbrev pub broken : Lookup
broken = held_of
    ((node_named 1, linking (node_named 2 ∷ node_named 3 ∷ []))
    ∷ (node_named 2, linking (leaf_named 9 ∷ node_named 3 ∷ []))
    ∷ (node_named 3, 0x0a ∷ 0x02 ∷ 0x08 ∷ []) ∷ [])

-- a root over two raw blocks, the later in the order of CIDs first
abbrev pub falling : Lookup
falling = held_of
    ((node_named 1, linking (leaf_named 3 ∷ leaf_named 2 ∷ []))
    ∷ (leaf_named 3, []) ∷ (leaf_named 2, []) ∷ [])

-- a raw block whose bytes spell a node with links
abbrev pub only_raw : Lookup
only_raw = held_of ((leaf_named 1, linking (leaf_named 3 ∷ leaf_named 2 ∷ [])) ∷ [])
