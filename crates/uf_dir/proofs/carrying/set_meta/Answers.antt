use Rattle.std.proofs.Common.{subst}
use Rattle.std.proofs.lemmas.Result.{err_from_is_err_and, on_ok_weaker}
use Rattle.uf_store.specs.Contents.{Told}
use Rattle.uf_store.specs.Keeping.{KeepsGood}
use Rattle.uf_store.specs.Writing.{SavesOnly}
use Rattle.uf_dir.proofs.Carried.{basic-made, no-collision, set-basic, set-basic-after, set-basic-saves, set-sharded, set-sharded-after, set-sharded-saves, set-unread}
use Rattle.std.proofs.Common.{[], ◌∷◌}
use Rattle.uf_store.proofs.Among.{SavesAmong-same}
use Rattle.uf_tree.specs.Roots.{dir_root}
use Rattle.uf_dir.proofs.carrying.set_meta.Goals as goal

pub returns-in_err-found-clause-value : goal.returns-in_err-found-clause-value
returns-in_err-found-clause-value g c = λ N m l is agrees faults clashes.
    let out = err_from_is_err_and c.from_residual.result c.from_residual.ensures.1 in rw (out.1, out.2) (set-unread g.S.X.BlockHash.block32 (record { size = g.met.S.X.BlockHash.size; are_bytes = g.met.S.X.BlockHash.are_bytes }) N c.args.p.now m c.args.entry.now.cid l is c.args.meta.now _ _ _ _ c.in_err-found.ensures.looks c.in_err-found.ensures.reads.cause agrees faults)

pub returns-in-Basic-clause-value : goal.returns-in-Basic-clause-value
returns-in-Basic-clause-value g c = λ N m l is agrees faults clashes. set-basic g.S.X.BlockHash.block32 (record { size = g.met.S.X.BlockHash.size; are_bytes = g.met.S.X.BlockHash.are_bytes }) N c.args.p.now m c.args.entry.now.cid l is c.args.meta.now (g.S.Store.seen c.args.store.now) (g.S.Store.seen c.look_at_root.new.store) _ _ c.in-Basic.is c.in_ok-found.ensures.looks
    (g.S.Store.seen c.build_basic.new.store) c.build_basic.result c.build_basic.ensures.answer c.in_ok-found.ensures.reads.cause c.build_basic.ensures.saves.cause agrees faults clashes

pub returns-in-Sharded-clause-value : goal.returns-in-Sharded-clause-value
returns-in-Sharded-clause-value g c = λ N m l is agrees faults clashes. set-sharded g.S.X.BlockHash.block32 (record { size = g.met.S.X.BlockHash.size; are_bytes = g.met.S.X.BlockHash.are_bytes }) N c.args.p.now m c.args.entry.now.cid l is c.args.meta.now (g.S.Store.seen c.args.store.now) (g.S.Store.seen c.look_at_root.new.store) _ _ c.in-Sharded.is c.in_ok-found.ensures.looks
    (g.S.Store.seen c.save_root.new.store) c.save_root.result c.save_root.ensures.answer c.in_ok-found.ensures.reads.cause c.save_root.ensures.saves.cause agrees faults clashes

pub returns-in-Basic-clause-made : goal.returns-in-Basic-clause-made
returns-in-Basic-clause-made g c = basic-made g.S.X.BlockHash.block32 (record { size = g.met.S.X.BlockHash.size; are_bytes = g.met.S.X.BlockHash.are_bytes }) c.args.p.now c.args.meta.now c.in-Basic.node _ c.requires.meta (rw c.in-Basic.is at c.in_ok-found.ensures.looks).1 (rw c.in-Basic.is at c.in_ok-found.ensures.light) c.build_basic.result c.build_basic.ensures.answer

pub returns-in-Basic-clause-apart : goal.returns-in-Basic-clause-apart
returns-in-Basic-clause-apart g c = no-collision _ _ c.build_basic.result (c.build_basic.ensures.answer (λ name. 0))

pub returns-in-Basic-clause-after : goal.returns-in-Basic-clause-after
returns-in-Basic-clause-after g c = on_ok_weaker c.build_basic.result (λ held N m l is stays. set-basic-after g.S.X.BlockHash.block32 (record { size = g.met.S.X.BlockHash.size; are_bytes = g.met.S.X.BlockHash.are_bytes }) N c.args.p.now m c.args.entry.now.cid l is c.args.meta.now
    (g.S.Store.seen c.args.store.now) (g.S.Store.seen c.look_at_root.new.store) _ _ c.in-Basic.is c.in_ok-found.ensures.looks (g.S.Store.seen c.build_basic.new.store).told
    (subst (λ (t : Told). SavesOnly g.S.X.BlockHash.block32 t (g.S.Store.seen c.build_basic.new.store).told) c.look_at_root.ensures.reads.told c.build_basic.ensures.saves.saves) held stays.first) c.build_basic.ensures.held

pub returns-in-Sharded-clause-after : goal.returns-in-Sharded-clause-after
returns-in-Sharded-clause-after g c = on_ok_weaker c.save_root.result (λ held N m l is stays. set-sharded-after g.S.X.BlockHash.block32 (record { size = g.met.S.X.BlockHash.size; are_bytes = g.met.S.X.BlockHash.are_bytes }) N c.args.p.now m c.args.entry.now.cid l is c.args.meta.now
    (g.S.Store.seen c.args.store.now) (g.S.Store.seen c.look_at_root.new.store) _ _ c.in-Sharded.is c.in_ok-found.ensures.looks (g.S.Store.seen c.save_root.new.store).told
    (subst (λ (t : Told). KeepsGood g.S.X.BlockHash.block32 t (g.S.Store.seen c.save_root.new.store).told) c.look_at_root.ensures.reads.told c.save_root.ensures.saves.good) held stays) c.save_root.ensures.held

pub returns-in_err-found-clause-no_other : goal.returns-in_err-found-clause-no_other
returns-in_err-found-clause-no_other g c = λ N m l is agrees. SavesAmong-same g.S.X.BlockHash.block32 (dir_root g.S.X.BlockHash.block32 N c.args.p.now c.args.meta.now l ∷ []) (g.S.Store.seen c.args.store.now).told (g.S.Store.seen c.look_at_root.new.store).told c.look_at_root.ensures.reads.told

pub returns-in-Basic-clause-no_other : goal.returns-in-Basic-clause-no_other
returns-in-Basic-clause-no_other g c = λ N m l is agrees. set-basic-saves g.S.X.BlockHash.block32 (record { size = g.met.S.X.BlockHash.size; are_bytes = g.met.S.X.BlockHash.are_bytes }) N c.args.p.now m c.args.entry.now.cid l is c.args.meta.now (g.S.Store.seen c.args.store.now) (g.S.Store.seen c.look_at_root.new.store) _ _ c.in-Basic.is c.in_ok-found.ensures.looks (g.S.Store.seen c.build_basic.new.store).told c.look_at_root.ensures.reads.told agrees c.build_basic.ensures.no_other

pub returns-in-Sharded-clause-no_other : goal.returns-in-Sharded-clause-no_other
returns-in-Sharded-clause-no_other g c = λ N m l is agrees. set-sharded-saves g.S.X.BlockHash.block32 (record { size = g.met.S.X.BlockHash.size; are_bytes = g.met.S.X.BlockHash.are_bytes }) N c.args.p.now m c.args.entry.now.cid l is c.args.meta.now (g.S.Store.seen c.args.store.now) (g.S.Store.seen c.look_at_root.new.store) _ _ c.in-Sharded.is c.in_ok-found.ensures.looks (g.S.Store.seen c.save_root.new.store).told c.look_at_root.ensures.reads.told agrees c.save_root.ensures.no_other
