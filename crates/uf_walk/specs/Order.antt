-- The order in which a walk meets CIDs: each at its first visit, depth first, the links of a node from left to right.
use Rattle.std.specs.Prelude.{ℕ, zero, suc, Bool, true, false, List, [], ◌∷◌, ◌++◌, map}
use Rattle.std.specs.List.{list_any}
use Rattle.std.specs.Ordering.{eq_by_cmp}
use Rattle.std.specs.declared.option.Option.{Option}
use Rattle.std.specs.declared.option.Option.TheVariants.{None, Some}
use Rattle.std.specs.declared.result.Result.{Result}
use Rattle.std.specs.declared.result.Result.TheVariants.{Ok, Err}
use Rattle.uf_cid.specs.Blocks.{Lookup}
use Rattle.uf_cid.specs.Cid.{cid_cmp}
use Rattle.uf_cid.specs.declared.cid.Cid.{Cid}
use Rattle.uf_cid.specs.declared.cid.Codec.{Codec}
use Rattle.uf_cid.specs.declared.cid.Codec.TheVariants.{Raw, DagPb}
use Rattle.uf_dagpb.specs.Reading.{node_reads}
use Rattle.uf_dagpb.specs.declared.fault.PbFault.{PbFault}
use Rattle.uf_dagpb.specs.declared.fault.PbFault.TheVariants as pb
use Rattle.uf_dagpb.specs.declared.node.Link.{Link}
use Rattle.uf_dagpb.specs.declared.node.Node.{Node}

-- the number of a fault of the lenient reading of nodes, from 1 to 7 (and out of memory, which no reading answers)
abbrev pub pb_number : PbFault → ℕ
pb_number pb.Truncated = 1
pb_number pb.Varint = 2
pb_number pb.Field = 3
pb_number pb.Twice = 4
pb_number pb.NoHash = 5
pb_number pb.BadCid = 6
pb_number pb.NotText = 7
pb_number pb.Memory = 8

-- the CIDs that a node links, from left to right, or the number of its fault
abbrev pub linked : Result Node PbFault → Result (List Cid) ℕ
linked (Ok node) = Ok (map (λ (l : Link). l.cid) node.links)
linked (Err fault) = Err (pb_number fault)

-- the CIDs that a block links: none where it is raw, and else those of the node that it spells
abbrev pub block_links : Codec → List ℕ → Result (List Cid) ℕ
block_links Raw bytes = Ok []
block_links DagPb bytes = linked (node_reads bytes)

-- the CIDs that are followed from a CID; None where a walk can't go on from it
abbrev pub Follow : Type 0
Follow = Cid → Option (List Cid)

-- how a walk goes: it meets these CIDs and ends, it meets one new CID too many, or it stops at one
pub data Course : Type 0 where
  Whole : List Cid → Course
  TooMany : Course
  StopsAt : Cid → Course

-- the CID is one of these
abbrev pub is_met : List Cid → Cid → Bool
is_met met c = list_any (λ d. eq_by_cmp cid_cmp c d) met

-- passes over CIDs that were met, and goes on from the first new one; where there is none, the walk has ended
abbrev pub skip : (Cid → List Cid → Course) → List Cid → List Cid → Course
skip new met [] = Whole met
skip new met (c ∷ ahead) = elim (is_met met c) [ true ↦ skip new met ahead | false ↦ new c ahead ]

-- follows the links of a new CID first, and then what was ahead
abbrev pub then_follow : (List Cid → Course) → Cid → List Cid → Option (List Cid) → Course
then_follow visit c ahead None = StopsAt c
then_follow visit c ahead (Some links) = visit (links ++ ahead)

-- a walk that has met some CIDs, may meet n more, and has these ahead
unfoldable pub visit : Follow → ℕ → List Cid → List Cid → Course
visit follow zero met ahead = skip (λ c rest. TooMany) met ahead
visit follow (suc more) met ahead =
    skip (λ c rest. then_follow (visit follow more (met ++ c ∷ [])) c rest (follow c)) met ahead

-- a walk from some roots in turn that may meet n CIDs
abbrev pub goes : Follow → ℕ → List Cid → Course
goes follow most roots = visit follow most [] roots

-- ---- over what is held

-- what is linked, where that is readable
abbrev pub readable : Result (List Cid) ℕ → Option (List Cid)
readable (Ok links) = Some links
readable (Err why) = None

-- the links of the block that is held under a CID
abbrev pub follow_block : Cid → Option (List ℕ) → Option (List Cid)
follow_block c None = None
follow_block c (Some bytes) = readable (block_links c.codec bytes)

abbrev pub follow_held : Lookup → Follow
follow_held held c = follow_block c (held c)

-- why there is no order: a CID too many, a block that isn't held, or one that is no node, with the number of its fault
pub data OrderFault : Type 0 where
  OverMost : OrderFault
  Missing : Cid → OrderFault
  NotDagPb : Cid → ℕ → OrderFault

abbrev pub unreadable : Cid → Result (List Cid) ℕ → OrderFault
unreadable c (Ok links) = Missing c
unreadable c (Err why) = NotDagPb c why

-- why a walk over what is held stops at a CID
abbrev pub stop_at : Cid → Option (List ℕ) → OrderFault
stop_at c None = Missing c
stop_at c (Some bytes) = unreadable c (block_links c.codec bytes)

abbrev pub ordered : Lookup → Course → Result (List Cid) OrderFault
ordered held (Whole met) = Ok met
ordered held TooMany = Err OverMost
ordered held (StopsAt c) = Err (stop_at c (held c))

-- the CIDs below a root and itself in first-visit depth-first order, at most n, or the first fault in that order
abbrev pub order : Lookup → ℕ → Cid → Result (List Cid) OrderFault
order held most root = ordered held (goes (follow_held held) most (root ∷ []))
