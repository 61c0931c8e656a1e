use Rattle.uf_gen.specs.Grown.{stepped}
use Rattle.uf_mfs.specs.Standing.{IsMfs}
use Rattle.uf_edits.specs.Generated.{StandsFor, small_profile}
use Rattle.uf_edits.proofs.generating.step_all.Given as goal

abbrev pub invariant-loop-i : goal.invariant-loop-i
invariant-loop-i g l =
    (StandsFor g.S.X.BlockHash.block32 g.N.NameHash.name64 (stepped g.S.X.BlockHash.block32 g.N.NameHash.name64 small_profile l.fn.seed l.fn.step l.fn.n 0) (g.S.Store.seen l.initial.store) l.initial.tree
    → StandsFor g.S.X.BlockHash.block32 g.N.NameHash.name64 (stepped g.S.X.BlockHash.block32 g.N.NameHash.name64 small_profile l.fn.seed l.fn.step l.fn.n l.i) (g.S.Store.seen l.store) l.tree)
    × IsMfs l.tree
