use Rattle.uf_store.proofs.Causes.{Answers-after}
use Rattle.uf_shard.specs.Placed.{IsBadOnWay}
use Rattle.uf_shard.proofs.Firsts.{found-calm, found-first, misplaced-reads}
use Rattle.uf_shard.proofs.Trails.{misplaced-value}
use Rattle.uf_shard.proofs.lookup.trace_below.Goals as goal

pub returns-then-is_first-clause-value : goal.returns-then-is_first-clause-value
returns-then-is_first-clause-value g c = λ before m l finds is agrees stood. c.trace_placed.ensures.value before m l
    (found-first g.S.X.BlockHash.block32 c.args.root.now before (g.S.Store.seen c.args.store.now) finds c.args.node.now c.requires.shard c.requires.lent g.N.NameHash.name64 c.args.name.now (c.is_first.ensures.0 c.if-is_first.true)) is agrees stood

pub returns-then-is_first-clause-cause : goal.returns-then-is_first-clause-cause
returns-then-is_first-clause-cause g c = λ before finds. Answers-after g.S.X.BlockHash.block32 (IsBadOnWay g.N.NameHash.name64 (g.N.NameHash.name64 c.args.name.now)) c.trace_placed.result before (g.S.Store.seen c.args.store.now) (g.S.Store.seen c.trace_placed.new.store)
    (found-calm g.S.X.BlockHash.block32 c.args.root.now before (g.S.Store.seen c.args.store.now) finds) c.trace_placed.ensures.reads.cause

pub returns-else-is_first-clause-value : goal.returns-else-is_first-clause-value
returns-else-is_first-clause-value g c = λ before m l finds is agrees stood. misplaced-value g.S.X.BlockHash.block32 g.N.NameHash.name64 (record { size = g.met.S.X.BlockHash.size; are_bytes = g.met.S.X.BlockHash.are_bytes }) c.args.name.now c.args.root.now before (g.S.Store.seen c.args.store.now) finds
    c.args.node.now c.requires.shard c.requires.lent c.is_first.result c.is_first.ensures c.if-is_first.false m l is agrees stood

pub returns-else-is_first-clause-cause : goal.returns-else-is_first-clause-cause
returns-else-is_first-clause-cause g c = λ before finds. (misplaced-reads g.S.X.BlockHash.block32 c.args.root.now before (g.S.Store.seen c.args.store.now) finds
    c.args.node.now c.requires.shard c.requires.lent g.N.NameHash.name64 c.args.name.now c.is_first.result c.is_first.ensures c.if-is_first.false).cause
