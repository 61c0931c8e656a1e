use Rattle.std.proofs.Common.{◌∙◌, ap}
use Rattle.std.specs.FinMap.Entries.{find}
use Rattle.std.specs.declared.option.Option.TheVariants.{None}
use Rattle.std.proofs.lemmas.Result.{err_from_is_err_and}
use Rattle.uf_tree.specs.Names.{names_cmp}
use Rattle.uf_shard.specs.Placed.{IsBadOnWay}
use Rattle.uf_dir.specs.Bad.{IsBad}
use Rattle.uf_dir.proofs.Causes.{Answers-wider, blames-none, way-bad}
use Rattle.uf_dir.proofs.Trailing.{trace-one, trace-shards, trace-unread}
use Rattle.uf_dir.proofs.reading.trace.Goals as goal

pub returns-in_err-found-clause-value : goal.returns-in_err-found-clause-value
returns-in_err-found-clause-value g c = λ p meta l is agrees stood.
    let out = err_from_is_err_and c.from_residual.result c.from_residual.ensures.1 in
    rw (out.1, out.2) (trace-unread g.S.X.BlockHash.block32 (record { size = g.met.S.X.BlockHash.size; are_bytes = g.met.S.X.BlockHash.are_bytes }) g.N.NameHash.name64 p meta c.args.root.now l is c.args.name.now _ _ _ _ c.in_err-found.ensures.looks c.in_err-found.ensures.reads.cause agrees stood)

pub returns-in_ok-trail-in-Basic-clause-value : goal.returns-in_ok-trail-in-Basic-clause-value
returns-in_ok-trail-in-Basic-clause-value g c = λ p meta l is agrees stood. trace-one g.S.X.BlockHash.block32 (record { size = g.met.S.X.BlockHash.size; are_bytes = g.met.S.X.BlockHash.are_bytes }) g.N.NameHash.name64 p meta c.args.root.now l is c.args.name.now _ _ _ c.in-Basic.node _ _ c.in-Basic.is c.in_ok-found.ensures.looks
    (c.entry_of-entry.ensures ∙ ap (find names_cmp c.args.name.now) c.as_slice.ensures) c.in_ok-trail-in-Basic.ensures agrees

pub returns-in-Sharded-clause-value : goal.returns-in-Sharded-clause-value
returns-in-Sharded-clause-value g c = λ p meta l is agrees stood. trace-shards g.S.X.BlockHash.block32 (record { size = g.met.S.X.BlockHash.size; are_bytes = g.met.S.X.BlockHash.are_bytes }) g.N.NameHash.name64 p meta c.args.root.now l is c.args.name.now (g.S.Store.seen c.args.store.now) (g.S.Store.seen c.look_at_root.new.store) (g.S.Store.seen c.trace_below.new.store) _ _ _
    c.in-Sharded.is c.in_ok-found.ensures.looks c.in_ok-found.ensures.found (c.trace_below.ensures.value (g.S.Store.seen c.args.store.now)) agrees stood

pub returns-in-Sharded-clause-cause : goal.returns-in-Sharded-clause-cause
returns-in-Sharded-clause-cause g c = let hash = g.N.NameHash.name64 c.args.name.now in
    Answers-wider g.S.X.BlockHash.block32 (IsBadOnWay g.N.NameHash.name64 hash) (IsBad g.N.NameHash.name64 hash None) (way-bad g.N.NameHash.name64 hash None) _ _ _ (c.trace_below.ensures.cause (g.S.Store.seen c.args.store.now) c.in_ok-found.ensures.found)

pub returns-in-Sharded-clause-blames : goal.returns-in-Sharded-clause-blames
returns-in-Sharded-clause-blames g c = blames-none g.S.X.BlockHash.block32 (IsBadOnWay g.N.NameHash.name64 (g.N.NameHash.name64 c.args.name.now)) c.args.root.now _ _ _ (λ bytes h. h) (c.trace_below.ensures.cause (g.S.Store.seen c.args.store.now) c.in_ok-found.ensures.found)
