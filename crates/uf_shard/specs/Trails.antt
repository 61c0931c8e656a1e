-- The CIDs of the blocks on a trail, and what a walk along it finds.
use Rattle.std.specs.Prelude.{List, ◌++◌, map}
use Rattle.std.specs.declared.option.Option.{Option}
use Rattle.uf_cid.specs.Blocks.{Held}
use Rattle.uf_cid.specs.declared.cid.Cid.{Cid}
use Rattle.uf_tree.specs.declared.nodes.Entry.{Entry}
use Rattle.uf_shard.specs.declared.traced.Traced.{Traced}

-- the CIDs of these blocks, in their order
abbrev pub trail_cids : List Held → List Cid
trail_cids blocks = map (λ (b : Held). b.0) blocks

-- the entry of a name, where it is there, and the CIDs of the blocks that decide it
abbrev pub traced : Option Entry → List Held → Traced
traced entry blocks = record { entry = entry; trail = trail_cids blocks }

-- the same, where the CIDs are put after others
abbrev pub traced_behind : List Cid → Option Entry → List Held → Traced
traced_behind above entry blocks = record { entry = entry; trail = above ++ trail_cids blocks }
