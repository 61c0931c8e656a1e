use Rattle.std.proofs.Common.{arith}
use Rattle.std.proofs.lemmas.Result.{err_from_is_err_and}
use Rattle.uf_shard.proofs.Touches.{one-touch}
use Rattle.uf_shard.proofs.Walks.{load-lost, root-planned}
use Rattle.uf_shard.proofs.listing.entries.Goals as goal

pub returns-in_err-items-clause-value : goal.returns-in_err-items-clause-value
returns-in_err-items-clause-value g c = λ N m l is agrees stood.
    let out = err_from_is_err_and c.from_residual.result c.from_residual.ensures.1 in rw (out.1, out.2) (load-lost g.S.X.BlockHash.block32 N (record { size = g.met.S.X.BlockHash.size; are_bytes = g.met.S.X.BlockHash.are_bytes }) 7 c.args.root.now m l (root-planned g.S.X.BlockHash.block32 N c.args.root.now m l is) _ _ c.in_err-items.field-0.0 c.in_err-items.ensures.loads c.in_err-items.ensures.reads.cause agrees stood)

pub returns-clause-value : goal.returns-clause-value
returns-clause-value g c = λ N m l is agrees stood. c.entries_in.ensures.value N c.args.root.now (g.S.Store.seen c.args.store.now) m l c.in_ok-items.ensures.loads c.in_ok-items.ensures.reads is agrees stood

pub returns-clause-listed : goal.returns-clause-listed
returns-clause-listed g c = c.entries_in.ensures.listed c.args.root.now (g.S.Store.seen c.args.store.now) c.in_ok-items.ensures.loads c.in_ok-items.ensures.reads

pub returns-in_err-items-clause-touches : goal.returns-in_err-items-clause-touches
returns-in_err-items-clause-touches g c = λ N m l is agrees. one-touch g.S.X.BlockHash.block32 N (record { size = g.met.S.X.BlockHash.size; are_bytes = g.met.S.X.BlockHash.are_bytes }) 7 c.args.root.now m l (root-planned g.S.X.BlockHash.block32 N c.args.root.now m l is) _ _ c.in_err-items.ensures.touches

pub returns-clause-touches : goal.returns-clause-touches
returns-clause-touches g c = λ N m l is agrees. let less = c.entries_in.ensures.touches N c.args.root.now (g.S.Store.seen c.args.store.now) m l c.in_ok-items.ensures.loads c.in_ok-items.ensures.reads is agrees in omega (arith, less, c.in_ok-items.ensures.touches)
