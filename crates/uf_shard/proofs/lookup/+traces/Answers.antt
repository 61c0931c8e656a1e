use Rattle.std.proofs.Common.{Option, None}
use Rattle.std.specs.FinMap.Entries.{find}
use Rattle.std.proofs.lemmas.Result.{err_from_is_err_and}
use Rattle.uf_tree.specs.declared.nodes.Entry.{Entry}
use Rattle.uf_tree.specs.Metas.{none}
use Rattle.uf_tree.specs.Names.{names_cmp}
use Rattle.uf_tree.specs.ShardPlan.{shard_trail}
use Rattle.uf_shard.specs.Trails.{traced_behind}
use Rattle.uf_shard.specs.declared.traced.Traced.{Traced}
use Rattle.uf_shard.proofs.Reaching.{find-err}
use Rattle.uf_shard.proofs.Trails.{loses, trace-below-at, trace-here-at}
use Rattle.uf_shard.proofs.lookup.+traces.Goals as goal

pub trace_from-returns-in_err-node-clause-value : goal.trace_from-returns-in_err-node-clause-value
trace_from-returns-in_err-node-clause-value g t c = λ m l is agrees stood.
    let out = err_from_is_err_and c.from_residual.result c.from_residual.ensures.1 in
    let absent : Option Entry = None in
    rw (out.1, out.2) (loses {A = Option Entry} {B = Traced} (g.S.Store.seen c.args.store.now).told (shard_trail g.S.X.BlockHash.block32 g.N.NameHash.name64 c.args.left m l c.args.name.now) absent
    (traced_behind c.args.above (find names_cmp c.args.name.now l) (shard_trail g.S.X.BlockHash.block32 g.N.NameHash.name64 c.args.left m l c.args.name.now)) c.in_err-node.field-0.0
    (find-err g.S.X.BlockHash.block32 g.N.NameHash.name64 (record { size = g.met.S.X.BlockHash.size; are_bytes = g.met.S.X.BlockHash.are_bytes }) c.args.name.now c.args.left c.args.root.now m l c.requires _ _ _ absent c.in_err-node.ensures.loads c.in_err-node.ensures.reads.cause is agrees stood))

pub trace_from-returns-clause-value : goal.trace_from-returns-clause-value
trace_from-returns-clause-value g t c = λ m l is agrees stood. c.trace_in.ensures.value c.args.root.now c.args.above (g.S.Store.seen c.args.store.now) m l c.in_ok-push.ensures.ok c.in_ok-node.ensures.loads c.in_ok-node.ensures.reads is agrees stood

pub trace_in-returns-in-Here-clause-value : goal.trace_in-returns-in-Here-clause-value
trace_in-returns-in-Here-clause-value g t c = λ root above before m l pushed has reads is agrees stood. trace-here-at g.S.X.BlockHash.block32 g.N.NameHash.name64 (record { size = g.met.S.X.BlockHash.size; are_bytes = g.met.S.X.BlockHash.are_bytes }) c.args.name.now c.args.left root m l c.requires.left
    above _ before _ c.in-Here.entry pushed c.in-Here.is (record { node = c.args.node.now; has = has; says = c.spot_at-spot.ensures.says }) is agrees

pub trace_in-returns-in-Below-clause-value : goal.trace_in-returns-in-Below-clause-value
trace_in-returns-in-Below-clause-value g t c = λ root above before m l pushed has reads is agrees stood. trace-below-at g.S.X.BlockHash.block32 g.N.NameHash.name64 (record { size = g.met.S.X.BlockHash.size; are_bytes = g.met.S.X.BlockHash.are_bytes }) c.args.name.now c.args.left root c.in-Below.cid m l c.requires.left
    above _ before (g.S.Store.seen c.args.store.now) (g.S.Store.seen c.trace_from.new.store) _ _ pushed c.in-Below.is c.spot_at-spot.ensures.room (record { node = c.args.node.now; has = has; says = c.spot_at-spot.ensures.says }) reads.told
    reads.cause.faults (c.trace_from.ensures.value none) is agrees stood
