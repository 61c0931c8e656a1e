use Rattle.uf_tree.specs.Validity.{IsHash}
use Rattle.uf_shard.specs.Placed.{IsBadOnWay}
use Rattle.std.proofs.lemmas.Result.{err_from_is_err_and}
use Rattle.std.specs.declared.result.Result.TheVariants.{Ok, Err}
use Rattle.uf_store.proofs.Calls.{reads-saves, saves-saves}
use Rattle.uf_store.proofs.Among.{SavesAmong-trans}
use Rattle.uf_tree.specs.Changes.{with_name}
use Rattle.uf_tree.specs.ShardPlan.{shard}
use Rattle.uf_shard.specs.Changed.{below}
use Rattle.uf_shard.proofs.Among.{root-saves, tree-saves}
use Rattle.uf_shard.proofs.Saves.{saves-new, saves-within}
use Rattle.uf_shard.proofs.AtRoot.{keeps-from, root-among, root-below, root-entry, root-held, root-puts}
use Rattle.uf_shard.proofs.Ends.{on-ok, put-after, put-err, put-ok}
use Rattle.uf_shard.proofs.putting.put_placed.Goals as goal

pub returns-in_err-items-clause-value : goal.returns-in_err-items-clause-value
returns-in_err-items-clause-value g c = λ root before m l first is agrees faults clashes.
    let out = err_from_is_err_and c.from_residual.result c.from_residual.ensures.1 in rw (out.1, out.2) (let good : IsHash g.S.X.BlockHash.block32 = record { size = g.met.S.X.BlockHash.size; are_bytes = g.met.S.X.BlockHash.are_bytes } in
    put-err g.S.X.BlockHash.block32 g.N.NameHash.name64 good g.met.N.NameHash.fits c.args.name.now c.args.entry.now root m l is g.S.X.BlockHash.block32 (IsBadOnWay g.N.NameHash.name64 (g.N.NameHash.name64 c.args.name.now))
    before (g.S.Store.seen c.put_into.new.store) c.in_err-items.field-0.0
    (root-puts g.S.X.BlockHash.block32 g.N.NameHash.name64 good c.args.name.now root m l is before agrees (g.S.Store.seen c.args.store.now).told c.args.node.now first.reads.told first.has
    (g.S.Store.seen c.put_into.new.store).told c.args.entry.now (Err c.in_err-items.field-0.0) c.in_err-items.ensures.puts) (saves-saves (reads-saves first.reads) c.in_err-items.ensures.saves).cause faults clashes)

pub returns-clause-value : goal.returns-clause-value
returns-clause-value g c = λ root before m l first is agrees faults clashes.
    let good : IsHash g.S.X.BlockHash.block32 = record { size = g.met.S.X.BlockHash.size; are_bytes = g.met.S.X.BlockHash.are_bytes } in
    let mid = (g.S.Store.seen c.args.store.now).told in
    put-ok g.S.X.BlockHash.block32 g.N.NameHash.name64 good g.met.N.NameHash.fits c.args.name.now c.args.entry.now root m l is
    before.told (g.S.Store.seen c.put_into.new.store).told (g.S.Store.seen c.save_node.new.store).told c.in_ok-items.items c.in_ok-entry.entry c.within.result
    (root-puts g.S.X.BlockHash.block32 g.N.NameHash.name64 good c.args.name.now root m l is before agrees mid c.args.node.now first.reads.told first.has (g.S.Store.seen c.put_into.new.store).told c.args.entry.now (Ok c.in_ok-items.items) c.in_ok-items.ensures.puts)
    (root-entry g.S.X.BlockHash.block32 g.N.NameHash.name64 good c.args.name.now root m l is before agrees mid c.args.node.now first.reads.told first.has c.in_ok-items.items c.in_ok-entry.entry c.in_ok-entry.ensures.entry)
    (root-held g.S.X.BlockHash.block32 g.N.NameHash.name64 good c.args.name.now root m l is before agrees mid c.args.node.now first.reads.told first.has (g.S.Store.seen c.save_node.new.store).told c.in_ok-items.items c.in_ok-entry.entry c.in_ok-entry.ensures.held)
    c.save_node.ensures.saves.good c.within.ensures

pub returns-clause-after : goal.returns-clause-after
returns-clause-after g c = on-ok _ c.within.result (λ root before m l first is stays.
    let good : IsHash g.S.X.BlockHash.block32 = record { size = g.met.S.X.BlockHash.size; are_bytes = g.met.S.X.BlockHash.are_bytes } in
    let mid = (g.S.Store.seen c.args.store.now).told in
    put-after g.S.X.BlockHash.block32 g.N.NameHash.name64 good g.met.N.NameHash.fits c.args.name.now c.args.entry.now root m l is
    before.told (g.S.Store.seen c.put_into.new.store).told (g.S.Store.seen c.save_node.new.store).told c.in_ok-items.items c.in_ok-entry.entry
    (root-puts g.S.X.BlockHash.block32 g.N.NameHash.name64 good c.args.name.now root m l is before stays.first mid c.args.node.now first.reads.told first.has (g.S.Store.seen c.put_into.new.store).told c.args.entry.now (Ok c.in_ok-items.items) c.in_ok-items.ensures.puts)
    (root-entry g.S.X.BlockHash.block32 g.N.NameHash.name64 good c.args.name.now root m l is before stays.first mid c.args.node.now first.reads.told first.has c.in_ok-items.items c.in_ok-entry.entry c.in_ok-entry.ensures.entry)
    (root-held g.S.X.BlockHash.block32 g.N.NameHash.name64 good c.args.name.now root m l is before stays.first mid c.args.node.now first.reads.told first.has (g.S.Store.seen c.save_node.new.store).told c.in_ok-items.items c.in_ok-entry.entry c.in_ok-entry.ensures.held)
    (keeps-from g.S.X.BlockHash.block32 before.told mid (g.S.Store.seen c.put_into.new.store).told first.reads.told c.put_into.ensures.saves.good) c.save_node.ensures.saves.good stays)

pub returns-in_err-items-clause-no_other : goal.returns-in_err-items-clause-no_other
returns-in_err-items-clause-no_other g c = λ root before m l first is agrees.
    let good : IsHash g.S.X.BlockHash.block32 = record { size = g.met.S.X.BlockHash.size; are_bytes = g.met.S.X.BlockHash.are_bytes } in
    let new = with_name c.args.name.now c.args.entry.now in
    tree-saves g.S.X.BlockHash.block32 g.N.NameHash.name64 7 m (new l) before.told (g.S.Store.seen c.put_into.new.store).told
    (root-below g.S.X.BlockHash.block32 g.N.NameHash.name64 good c.args.name.now root m l is before agrees (g.S.Store.seen c.args.store.now).told c.args.node.now first.reads.told first.has (g.S.Store.seen c.put_into.new.store).told (λ k. below g.S.X.BlockHash.block32 g.N.NameHash.name64 7 (new k)) c.put_into.ensures.no_other)

pub returns-in_err-entry-clause-no_other : goal.returns-in_err-entry-clause-no_other
returns-in_err-entry-clause-no_other g c = λ root before m l first is agrees.
    let good : IsHash g.S.X.BlockHash.block32 = record { size = g.met.S.X.BlockHash.size; are_bytes = g.met.S.X.BlockHash.are_bytes } in
    let new = with_name c.args.name.now c.args.entry.now in
    SavesAmong-trans g.S.X.BlockHash.block32 (shard g.S.X.BlockHash.block32 g.N.NameHash.name64 7 m (new l)).blocks before.told (g.S.Store.seen c.put_into.new.store).told (g.S.Store.seen c.save_node.new.store).told
    (tree-saves g.S.X.BlockHash.block32 g.N.NameHash.name64 7 m (new l) before.told (g.S.Store.seen c.put_into.new.store).told
    (root-below g.S.X.BlockHash.block32 g.N.NameHash.name64 good c.args.name.now root m l is before agrees (g.S.Store.seen c.args.store.now).told c.args.node.now first.reads.told first.has (g.S.Store.seen c.put_into.new.store).told (λ k. below g.S.X.BlockHash.block32 g.N.NameHash.name64 7 (new k)) c.put_into.ensures.no_other))
    (root-saves g.S.X.BlockHash.block32 g.N.NameHash.name64 7 m c.in_ok-items.items (new l) (g.S.Store.seen c.put_into.new.store).told (g.S.Store.seen c.save_node.new.store).told
    (root-puts g.S.X.BlockHash.block32 g.N.NameHash.name64 good c.args.name.now root m l is before agrees (g.S.Store.seen c.args.store.now).told c.args.node.now first.reads.told first.has (g.S.Store.seen c.put_into.new.store).told c.args.entry.now (Ok c.in_ok-items.items) c.in_ok-items.ensures.puts).1.same
    (root-among g.S.X.BlockHash.block32 g.N.NameHash.name64 good c.args.name.now root m l is before agrees (g.S.Store.seen c.args.store.now).told c.args.node.now first.reads.told first.has (g.S.Store.seen c.put_into.new.store).told (g.S.Store.seen c.save_node.new.store).told c.in_ok-items.items c.save_node.ensures.no_other))

pub returns-clause-no_other : goal.returns-clause-no_other
returns-clause-no_other g c = λ root before m l first is agrees.
    let good : IsHash g.S.X.BlockHash.block32 = record { size = g.met.S.X.BlockHash.size; are_bytes = g.met.S.X.BlockHash.are_bytes } in
    let new = with_name c.args.name.now c.args.entry.now in
    SavesAmong-trans g.S.X.BlockHash.block32 (shard g.S.X.BlockHash.block32 g.N.NameHash.name64 7 m (new l)).blocks before.told (g.S.Store.seen c.put_into.new.store).told (g.S.Store.seen c.save_node.new.store).told
    (tree-saves g.S.X.BlockHash.block32 g.N.NameHash.name64 7 m (new l) before.told (g.S.Store.seen c.put_into.new.store).told
    (root-below g.S.X.BlockHash.block32 g.N.NameHash.name64 good c.args.name.now root m l is before agrees (g.S.Store.seen c.args.store.now).told c.args.node.now first.reads.told first.has (g.S.Store.seen c.put_into.new.store).told (λ k. below g.S.X.BlockHash.block32 g.N.NameHash.name64 7 (new k)) c.put_into.ensures.no_other))
    (root-saves g.S.X.BlockHash.block32 g.N.NameHash.name64 7 m c.in_ok-items.items (new l) (g.S.Store.seen c.put_into.new.store).told (g.S.Store.seen c.save_node.new.store).told
    (root-puts g.S.X.BlockHash.block32 g.N.NameHash.name64 good c.args.name.now root m l is before agrees (g.S.Store.seen c.args.store.now).told c.args.node.now first.reads.told first.has (g.S.Store.seen c.put_into.new.store).told c.args.entry.now (Ok c.in_ok-items.items) c.in_ok-items.ensures.puts).1.same
    (root-among g.S.X.BlockHash.block32 g.N.NameHash.name64 good c.args.name.now root m l is before agrees (g.S.Store.seen c.args.store.now).told c.args.node.now first.reads.told first.has (g.S.Store.seen c.put_into.new.store).told (g.S.Store.seen c.save_node.new.store).told c.in_ok-items.items c.save_node.ensures.no_other))

pub returns-in_err-entry-clause-saves : goal.returns-in_err-entry-clause-saves
returns-in_err-entry-clause-saves g c =
    let out = err_from_is_err_and c.from_residual-in_err-entry.result c.from_residual-in_err-entry.ensures.1 in rw (out.1, out.2) (saves-new c.in_ok-items.ensures.saves c.in_err-entry.ensures.saves)

pub returns-clause-saves : goal.returns-clause-saves
returns-clause-saves g c = saves-within c.in_ok-entry.entry c.within.result c.within.ensures (saves-new c.in_ok-items.ensures.saves c.in_ok-entry.ensures.saves)
