use Rattle.std.proofs.Common.{ap, ◌∙◌, sym, ℕ, List, [], arith}
use Rattle.uf_fileedit.specs.Changes.{overlaid}
use Rattle.uf_fileedit.proofs.Bytes.{changed-covered}
use Rattle.uf_fileedit.proofs.Steps.{nothing-old, old-agrees, old-loss, old-part}
use Rattle.uf_fileedit.proofs.Touching.{climbs-one}
use Rattle.uf_fileedit.proofs.leaves.leaf_bytes.Goals as goal
use Rattle.uf_fileedit.proofs.leaves.leaf_bytes.Goals.{in_default-via-in-Some+else-piece-size, in_default-via-in_default}

pub returns-in-Some-clause-bytes : goal.returns-in-Some-clause-bytes
returns-in-Some-clause-bytes g c = λ p b is before now. c.over_block.ensures.bytes p b (old-part g.S.X.BlockHash.block32 p (g.S.Store.seen c.args.store.now).told c.args.old c.in-Some.part b c.in-Some.is is)
    (old-agrees g.S.X.BlockHash.block32 p (g.S.Store.seen c.args.store.now).told c.args.old c.in-Some.part b c.in-Some.is before) (old-agrees g.S.X.BlockHash.block32 p (g.S.Store.seen c.over_block.new.store).told c.args.old c.in-Some.part b c.in-Some.is now)

pub returns-in-Some-clause-lost : goal.returns-in-Some-clause-lost
returns-in-Some-clause-lost g c = λ p b is before now stood. old-loss g.S.X.BlockHash.block32 p (g.S.Store.seen c.over_block.new.store).told c.args.old c.in-Some.part b c.over_block.result c.in-Some.is
    (c.over_block.ensures.lost p b (old-part g.S.X.BlockHash.block32 p (g.S.Store.seen c.args.store.now).told c.args.old c.in-Some.part b c.in-Some.is is)
    (old-agrees g.S.X.BlockHash.block32 p (g.S.Store.seen c.args.store.now).told c.args.old c.in-Some.part b c.in-Some.is before) (old-agrees g.S.X.BlockHash.block32 p (g.S.Store.seen c.over_block.new.store).told c.args.old c.in-Some.part b c.in-Some.is now) stood)

pub returns-in_ok-laid_over-in_default-clause-bytes : goal.returns-in_ok-laid_over-in_default-clause-bytes
returns-in_ok-laid_over-in_default-clause-bytes g c = λ p b is before now. c.in_ok-laid_over-in_default.ensures.bytes ∙ elim c.in_default.branch [
  | in_default-via-in-Some+else-piece-size w ↦ changed-covered c.args.size [] b c.args.offset c.args.piece.now w.if-piece-size.false c.requires.within
  | in_default-via-in_default w ↦ ap (λ (l : List ℕ). overlaid c.args.size l c.args.offset c.args.piece.now) (sym (nothing-old g.S.X.BlockHash.block32 p (g.S.Store.seen c.args.store.now).told c.args.old b w.in_default.not-Some is))
]

pub returns-in-Some-clause-rises : goal.returns-in-Some-clause-rises
returns-in-Some-clause-rises g c = climbs-one c.over_block.result c.args.touches.now c.over_block.new.touches (let t = c.over_block.ensures.touches in omega arith)
