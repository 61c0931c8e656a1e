use Rattle.std.proofs.lemmas.Result.{IfOk-weaker}
use Rattle.uf_store.proofs.Calls.{reads-saves, saves-saves}
use Rattle.uf_store.proofs.Keeping.{KeepsGood-refl}
use Rattle.uf_store.proofs.Writing.{SavesOnly-refl}
use Rattle.uf_shard.specs.Placed.{IsBadOnWay}
use Rattle.uf_shard.proofs.Firsts.{found-first, found-reads, misplaced-never, misplaced-reads}
use Rattle.uf_shard.proofs.removing.remove_below.Goals as goal

pub returns-then-is_first-clause-value : goal.returns-then-is_first-clause-value
returns-then-is_first-clause-value g c = λ before m l finds is agrees faults clashes. c.remove_placed.ensures.value c.args.root.now before m l
    (found-first g.S.X.BlockHash.block32 c.args.root.now before (g.S.Store.seen c.args.store.now) finds c.args.node.now c.requires.shard c.requires.lent g.N.NameHash.name64 c.args.name.now (c.is_first.ensures.0 c.if-is_first.true)) is agrees faults clashes

pub returns-then-is_first-clause-after : goal.returns-then-is_first-clause-after
returns-then-is_first-clause-after g c = IfOk-weaker c.remove_placed.result _ _ (λ left after before m l finds is stays. after c.args.root.now before m l
    (found-first g.S.X.BlockHash.block32 c.args.root.now before (g.S.Store.seen c.args.store.now) finds c.args.node.now c.requires.shard c.requires.lent g.N.NameHash.name64 c.args.name.now (c.is_first.ensures.0 c.if-is_first.true)) is stays) c.remove_placed.ensures.after

pub returns-then-is_first-clause-cause : goal.returns-then-is_first-clause-cause
returns-then-is_first-clause-cause g c = λ before finds. (saves-saves (reads-saves (found-reads g.S.X.BlockHash.block32 c.args.root.now before (g.S.Store.seen c.args.store.now) finds (IsBadOnWay g.N.NameHash.name64 (g.N.NameHash.name64 c.args.name.now)))) c.remove_placed.ensures.saves).cause

pub returns-then-is_first-clause-no_other : goal.returns-then-is_first-clause-no_other
returns-then-is_first-clause-no_other g c = λ before m l finds is agrees. c.remove_placed.ensures.no_other c.args.root.now before m l
    (found-first g.S.X.BlockHash.block32 c.args.root.now before (g.S.Store.seen c.args.store.now) finds c.args.node.now c.requires.shard c.requires.lent g.N.NameHash.name64 c.args.name.now (c.is_first.ensures.0 c.if-is_first.true)) is agrees

pub returns-else-is_first-clause-value : goal.returns-else-is_first-clause-value
returns-else-is_first-clause-value g c = λ before m l finds is agrees faults clashes. absurd (misplaced-never g.S.X.BlockHash.block32 c.args.root.now before (g.S.Store.seen c.args.store.now) finds c.args.node.now c.requires.shard c.requires.lent g.N.NameHash.name64 c.args.name.now c.is_first.result c.is_first.ensures c.if-is_first.false
    (record { size = g.met.S.X.BlockHash.size; are_bytes = g.met.S.X.BlockHash.are_bytes }) m l is agrees)

pub returns-else-is_first-clause-cause : goal.returns-else-is_first-clause-cause
returns-else-is_first-clause-cause g c = λ before finds. (misplaced-reads g.S.X.BlockHash.block32 c.args.root.now before (g.S.Store.seen c.args.store.now) finds c.args.node.now c.requires.shard c.requires.lent g.N.NameHash.name64 c.args.name.now c.is_first.result c.is_first.ensures c.if-is_first.false).cause

pub returns-else-is_first-clause-good : goal.returns-else-is_first-clause-good
returns-else-is_first-clause-good g c = KeepsGood-refl g.S.X.BlockHash.block32 (g.S.Store.seen c.args.store.now).told

pub returns-else-is_first-clause-saves : goal.returns-else-is_first-clause-saves
returns-else-is_first-clause-saves g c = SavesOnly-refl g.S.X.BlockHash.block32 (g.S.Store.seen c.args.store.now).told

pub returns-else-is_first-clause-no_other : goal.returns-else-is_first-clause-no_other
returns-else-is_first-clause-no_other g c = λ before m l finds is agrees. absurd (misplaced-never g.S.X.BlockHash.block32 c.args.root.now before (g.S.Store.seen c.args.store.now) finds c.args.node.now c.requires.shard c.requires.lent g.N.NameHash.name64 c.args.name.now c.is_first.result c.is_first.ensures c.if-is_first.false
    (record { size = g.met.S.X.BlockHash.size; are_bytes = g.met.S.X.BlockHash.are_bytes }) m l is agrees)
