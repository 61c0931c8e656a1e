use Rattle.std.proofs.lemmas.Result.{err_from_is_err_and, on_ok_weaker}
use Rattle.uf_store.proofs.Calls.{reads-saves, saves-saves}
use Rattle.uf_tree.specs.Validity.{IsHash}
use Rattle.uf_shard.specs.Placed.{IsBadOnWay}
use Rattle.uf_shard.proofs.AtRoot.{root-lost}
use Rattle.uf_shard.proofs.Ends.{calm-loss}
use Rattle.uf_shard.proofs.putting.put.Goals as goal

pub returns-in_err-node-clause-value : goal.returns-in_err-node-clause-value
returns-in_err-node-clause-value g c = λ m l is agrees faults clashes.
    let out = err_from_is_err_and c.from_residual.result c.from_residual.ensures.1 in rw (out.1, out.2) (let good : IsHash g.S.X.BlockHash.block32 = record { size = g.met.S.X.BlockHash.size; are_bytes = g.met.S.X.BlockHash.are_bytes } in
    calm-loss g.S.X.BlockHash.block32 (IsBadOnWay g.N.NameHash.name64 (g.N.NameHash.name64 c.args.name.now)) (g.S.Store.seen c.args.store.now).told _ c.in_err-node.field-0.0 (g.S.Store.seen c.args.store.now) (g.S.Store.seen c.load_shard.new.store)
    (root-lost g.S.X.BlockHash.block32 g.N.NameHash.name64 good c.args.name.now c.args.root.now m l is (g.S.Store.seen c.args.store.now) agrees (g.S.Store.seen c.load_shard.new.store) c.in_err-node.field-0.0 c.in_err-node.ensures.loads) c.in_err-node.ensures.reads.cause faults clashes)

pub returns-clause-value : goal.returns-clause-value
returns-clause-value g c = λ m l is agrees faults clashes. c.put_placed.ensures.value c.args.root.now (g.S.Store.seen c.args.store.now) m l (record { has = c.in_ok-node.ensures.loads; reads = c.in_ok-node.ensures.reads }) is agrees faults clashes

pub returns-clause-after : goal.returns-clause-after
returns-clause-after g c = on_ok_weaker c.put_placed.result (λ after m l is stays. after c.args.root.now (g.S.Store.seen c.args.store.now) m l (record { has = c.in_ok-node.ensures.loads; reads = c.in_ok-node.ensures.reads }) is stays) c.put_placed.ensures.after

pub returns-in_err-node-clause-saves : goal.returns-in_err-node-clause-saves
returns-in_err-node-clause-saves g c = (reads-saves c.in_err-node.ensures.reads).saves

pub returns-clause-saves : goal.returns-clause-saves
returns-clause-saves g c = (saves-saves (reads-saves c.in_ok-node.ensures.reads) c.put_placed.ensures.saves).saves

pub returns-clause-no_other : goal.returns-clause-no_other
returns-clause-no_other g c = λ m l is agrees. c.put_placed.ensures.no_other c.args.root.now (g.S.Store.seen c.args.store.now) m l (record { has = c.in_ok-node.ensures.loads; reads = c.in_ok-node.ensures.reads }) is agrees
