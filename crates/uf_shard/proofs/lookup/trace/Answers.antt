use Rattle.std.proofs.Common.{Option, None, ◌≤◌, arith}
use Rattle.std.specs.FinMap.Entries.{find}
use Rattle.std.proofs.lemmas.Result.{err_from_is_err_and}
use Rattle.uf_tree.specs.declared.nodes.Entry.{Entry}
use Rattle.uf_tree.specs.Names.{names_cmp}
use Rattle.uf_tree.specs.ShardPlan.{shard_trail}
use Rattle.uf_shard.specs.Trails.{traced}
use Rattle.uf_shard.specs.declared.traced.Traced.{Traced}
use Rattle.uf_shard.proofs.Reaching.{find-err, reached-root}
use Rattle.uf_shard.proofs.Trails.{loses}
use Rattle.uf_shard.proofs.lookup.trace.Goals as goal

pub returns-in_err-node-clause-value : goal.returns-in_err-node-clause-value
returns-in_err-node-clause-value g c = λ m l is agrees stood.
    let low : 7 ≤ 7 = omega arith in
    let out = err_from_is_err_and c.from_residual.result c.from_residual.ensures.1 in
    let absent : Option Entry = None in
    rw (out.1, out.2) (loses {A = Option Entry} {B = Traced} (g.S.Store.seen c.args.store.now).told (shard_trail g.S.X.BlockHash.block32 g.N.NameHash.name64 7 m l c.args.name.now) absent
    (traced (find names_cmp c.args.name.now l) (shard_trail g.S.X.BlockHash.block32 g.N.NameHash.name64 7 m l c.args.name.now)) c.in_err-node.field-0.0
    (find-err g.S.X.BlockHash.block32 g.N.NameHash.name64 (record { size = g.met.S.X.BlockHash.size; are_bytes = g.met.S.X.BlockHash.are_bytes }) c.args.name.now 7 c.args.root.now m l low _ _ _ absent c.in_err-node.ensures.loads c.in_err-node.ensures.reads.cause (reached-root g.S.X.BlockHash.block32 g.N.NameHash.name64 (record { size = g.met.S.X.BlockHash.size; are_bytes = g.met.S.X.BlockHash.are_bytes }) c.args.name.now c.args.root.now m l is) agrees stood))

pub returns-clause-value : goal.returns-clause-value
returns-clause-value g c = λ m l is agrees stood. c.trace_placed.ensures.value (g.S.Store.seen c.args.store.now) m l (record { has = c.in_ok-node.ensures.loads; reads = c.in_ok-node.ensures.reads }) is agrees stood
