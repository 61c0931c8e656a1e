use Rattle.std.proofs.Common.{List, [], Ok, Err, ◌∙◌}
use Rattle.std.proofs.lemmas.Result.{err_from_is_err_and}
use Rattle.uf_tree.specs.Nodes.{Named}
use Rattle.uf_shard.proofs.Rows.{adds-shard, listed-planned}
use Rattle.uf_shard.proofs.Touches.{below-touches}
use Rattle.uf_shard.proofs.Walks.{all-lost, root-planned}
use Rattle.uf_shard.proofs.listing.entries_in.Goals as goal

pub returns-in_err-gather_slots-clause-value : goal.returns-in_err-gather_slots-clause-value
returns-in_err-gather_slots-clause-value g c = λ N root before m l has reads is agrees stood.
    let out = err_from_is_err_and c.from_residual.result c.from_residual.ensures.1 in rw (out.1, out.2) (all-lost g.S.X.BlockHash.block32 N (record { size = g.met.S.X.BlockHash.size; are_bytes = g.met.S.X.BlockHash.are_bytes }) 7 root m l (root-planned g.S.X.BlockHash.block32 N root m l is) {A = List Named}
    c.args.items.now c.as_slice.result.now before (g.S.Store.seen c.args.store.now) (g.S.Store.seen c.gather_slots.new.store) (Err c.in_err-gather_slots.field-0.0) reads.told reads.cause c.as_slice.ensures has (c.in_err-gather_slots.ensures.lost N) agrees stood)

pub returns-clause-value : goal.returns-clause-value
returns-clause-value g c = λ N root before m l has reads is agrees stood. listed-planned g.S.X.BlockHash.block32 N (record { size = g.met.S.X.BlockHash.size; are_bytes = g.met.S.X.BlockHash.are_bytes }) before.told root m l _ _ _
    (root-planned g.S.X.BlockHash.block32 N root m l is) agrees c.new-rows.ensures.items
    (adds-shard {A = List Named} (Ok []) before.told _ 7 root has.node c.as_slice.result.now _ _ reads.told (c.as_slice.ensures ∙ has.are) has.above.valid has.is_held c.in_ok-gather_slots.ensures.adds) c.in_ok-pairs.ensures.order

pub returns-in_err-gather_slots-clause-touches : goal.returns-in_err-gather_slots-clause-touches
returns-in_err-gather_slots-clause-touches g c = λ N root before m l has reads is agrees. below-touches g.S.X.BlockHash.block32 N (record { size = g.met.S.X.BlockHash.size; are_bytes = g.met.S.X.BlockHash.are_bytes }) 7 root m l (root-planned g.S.X.BlockHash.block32 N root m l is)
    c.args.items.now c.as_slice.result.now before (g.S.Store.seen c.args.store.now) _ _ reads.told c.as_slice.ensures has (c.in_err-gather_slots.ensures.touches N) agrees

pub returns-clause-touches : goal.returns-clause-touches
returns-clause-touches g c = λ N root before m l has reads is agrees. below-touches g.S.X.BlockHash.block32 N (record { size = g.met.S.X.BlockHash.size; are_bytes = g.met.S.X.BlockHash.are_bytes }) 7 root m l (root-planned g.S.X.BlockHash.block32 N root m l is)
    c.args.items.now c.as_slice.result.now before (g.S.Store.seen c.args.store.now) _ _ reads.told c.as_slice.ensures has (c.in_ok-gather_slots.ensures.touches N) agrees

pub returns-in_err-pairs-clause-touches : goal.returns-in_err-pairs-clause-touches
returns-in_err-pairs-clause-touches g c = λ N root before m l has reads is agrees. below-touches g.S.X.BlockHash.block32 N (record { size = g.met.S.X.BlockHash.size; are_bytes = g.met.S.X.BlockHash.are_bytes }) 7 root m l (root-planned g.S.X.BlockHash.block32 N root m l is)
    c.args.items.now c.as_slice.result.now before (g.S.Store.seen c.args.store.now) _ _ reads.told c.as_slice.ensures has (c.in_ok-gather_slots.ensures.touches N) agrees
