use Rattle.std.proofs.Common.{Some, refl}
use Rattle.uf_tree.specs.Changes.{with_name}
use Rattle.uf_shard.specs.Placed.{IsBadOnWay}
use Rattle.uf_shard.specs.Answers.{dir_fault}
use Rattle.uf_dir.specs.Bad.{IsBad}
use Rattle.std.proofs.lemmas.Result.{err_from_is_err_and, on_ok_weaker}
use Rattle.uf_store.specs.Faults.{NoneIsBad}
use Rattle.uf_dir.proofs.Causes.{blames-none, way-bad}
use Rattle.uf_dir.proofs.Changing.{put-basic, put-basic-after, put-sharded, put-sharded-ok, put-sharded-saves, saves-same}
use Rattle.uf_dir.proofs.Looked.{basic-light, entries-basic, entries-unread, fitting-at}
use Rattle.uf_dir.proofs.Nodes.{shards-root}
use Rattle.uf_dir.proofs.Touching.{basic-touches}
use Rattle.std.proofs.Common.{subst}
use Rattle.uf_store.specs.Among.{SavesAmong}
use Rattle.uf_store.specs.Contents.{Told}
use Rattle.uf_store.proofs.Among.{SavesAmong-same}
use Rattle.uf_store.proofs.Calls.{shown-by}
use Rattle.uf_tree.specs.declared.nodes.DirNode.{DirNode}
use Rattle.uf_dir.specs.Planned.{own_blocks}
use Rattle.uf_dir.proofs.editing.put.Goals as goal

pub returns-in_err-found-clause-value : goal.returns-in_err-found-clause-value
returns-in_err-found-clause-value g c = λ meta l is agrees faults clashes.
    let out = err_from_is_err_and c.from_residual.result c.from_residual.ensures.1 in rw (out.1, out.2) (entries-unread g.S.X.BlockHash.block32 (record { size = g.met.S.X.BlockHash.size; are_bytes = g.met.S.X.BlockHash.are_bytes }) g.N.NameHash.name64 c.args.p.now meta c.args.root.now l is _ (Some c.args.p.now) _ _ _ l refl c.in_err-found.ensures.looks c.in_err-found.ensures.reads.cause agrees faults)

pub returns-in_err-found-clause-saves : goal.returns-in_err-found-clause-saves
returns-in_err-found-clause-saves g c = saves-same _ _ _ c.look_at_root.ensures.reads.told

pub returns-in-Basic-clause-value : goal.returns-in-Basic-clause-value
returns-in-Basic-clause-value g c = λ meta l is agrees faults clashes. put-basic g.S.X.BlockHash.block32 g.N.NameHash.name64 c.args.p.now c.args.name.now c.args.entry.now meta l c.in-Basic.node (g.S.Store.seen c.args.store.now).told _ c.put_basic.result (g.S.Store.seen c.args.store.now) (g.S.Store.seen c.look_at_root.new.store) (g.S.Store.seen c.put_basic.new.store)
    (entries-basic g.S.X.BlockHash.block32 (record { size = g.met.S.X.BlockHash.size; are_bytes = g.met.S.X.BlockHash.are_bytes }) g.N.NameHash.name64 c.args.p.now meta c.args.root.now l is _ _ _ _ c.in-Basic.is c.in_ok-found.ensures.looks agrees) c.put_basic.ensures.answer c.in_ok-found.ensures.reads.cause c.put_basic.ensures.saves.cause faults clashes

pub returns-in-Basic-clause-after : goal.returns-in-Basic-clause-after
returns-in-Basic-clause-after g c = put-basic-after g.S.X.BlockHash.block32 g.N.NameHash.name64 c.args.p.now c.args.root.now c.args.name.now c.args.entry.now c.in-Basic.node (g.S.Store.seen c.args.store.now).told (g.S.Store.seen c.look_at_root.new.store).told (g.S.Store.seen c.put_basic.new.store).told c.put_basic.result
    (λ meta l is agrees. entries-basic g.S.X.BlockHash.block32 (record { size = g.met.S.X.BlockHash.size; are_bytes = g.met.S.X.BlockHash.are_bytes }) g.N.NameHash.name64 c.args.p.now meta c.args.root.now l is _ _ _ _ c.in-Basic.is c.in_ok-found.ensures.looks agrees) c.look_at_root.ensures.reads.told c.put_basic.ensures.saves.saves c.put_basic.ensures.held

pub returns-in-Sharded-clause-value : goal.returns-in-Sharded-clause-value
returns-in-Sharded-clause-value g c = λ meta l is agrees faults clashes. put-sharded g.S.X.BlockHash.block32 (record { size = g.met.S.X.BlockHash.size; are_bytes = g.met.S.X.BlockHash.are_bytes }) g.N.NameHash.name64 c.args.p.now meta c.args.root.now l is (g.S.Store.seen c.args.store.now) (g.S.Store.seen c.look_at_root.new.store) _ _ c.in-Sharded.is c.in_ok-found.ensures.looks c.look_at_root.ensures.reads.told agrees
    c.args.name.now c.args.entry.now (g.S.Store.seen c.put_below.new.store) c.put_below.result (λ n k. c.put_below.ensures.value (g.S.Store.seen c.args.store.now) n k c.in_ok-found.ensures.found) faults clashes

pub returns-in-Sharded-clause-made : goal.returns-in-Sharded-clause-made
returns-in-Sharded-clause-made g c = shards-root g.S.X.BlockHash.block32 (Some c.args.p.now) c.put_below.result c.put_below.ensures.made

pub returns-in-Sharded-clause-after : goal.returns-in-Sharded-clause-after
returns-in-Sharded-clause-after g c = put-sharded-ok g.S.X.BlockHash.block32 (record { size = g.met.S.X.BlockHash.size; are_bytes = g.met.S.X.BlockHash.are_bytes }) g.N.NameHash.name64 c.args.p.now c.args.root.now (g.S.Store.seen c.args.store.now) (g.S.Store.seen c.look_at_root.new.store) _ _ c.in-Sharded.is c.in_ok-found.ensures.looks c.look_at_root.ensures.reads.told
    c.args.name.now c.args.entry.now (g.S.Store.seen c.put_below.new.store).told c.put_below.result
    (on_ok_weaker c.put_below.result (λ after n k. after (g.S.Store.seen c.args.store.now) n k c.in_ok-found.ensures.found) c.put_below.ensures.after)

pub returns-in-Sharded-clause-cause : goal.returns-in-Sharded-clause-cause
returns-in-Sharded-clause-cause g c = shown-by g.S.X.BlockHash.block32 (IsBadOnWay g.N.NameHash.name64 (g.N.NameHash.name64 c.args.name.now)) (IsBad g.N.NameHash.name64 (g.N.NameHash.name64 c.args.name.now) (Some c.args.p.now)) (dir_fault c.put_below.result) _ _ (way-bad g.N.NameHash.name64 (g.N.NameHash.name64 c.args.name.now) (Some c.args.p.now)) (c.put_below.ensures.cause (g.S.Store.seen c.args.store.now) c.in_ok-found.ensures.found)

pub returns-in-Basic-clause-touches : goal.returns-in-Basic-clause-touches
returns-in-Basic-clause-touches g c = λ meta l is agrees. basic-touches g.S.X.BlockHash.block32 g.N.NameHash.name64 c.args.p.now meta c.in-Basic.node l (with_name c.args.name.now c.args.entry.now) c.args.touches.now c.look_at_root.new.touches _ (entries-basic g.S.X.BlockHash.block32 (record { size = g.met.S.X.BlockHash.size; are_bytes = g.met.S.X.BlockHash.are_bytes }) g.N.NameHash.name64 c.args.p.now meta c.args.root.now l is _ _ _ _ c.in-Basic.is c.in_ok-found.ensures.looks agrees) (basic-light g.S.X.BlockHash.block32 (record { size = g.met.S.X.BlockHash.size; are_bytes = g.met.S.X.BlockHash.are_bytes }) g.N.NameHash.name64 c.args.p.now meta c.args.root.now l is _ _ _ _ c.in-Basic.is c.in_ok-found.ensures.looks agrees) c.look_at_root.ensures.touches c.put_basic.ensures.touches c.put_basic.ensures.early

pub returns-in-Basic-clause-fitting : goal.returns-in-Basic-clause-fitting
returns-in-Basic-clause-fitting g c = fitting-at c.put_basic.result c.args.p.now c.args.root.now (g.S.Store.seen c.args.store.now) (g.S.Store.seen c.look_at_root.new.store) _ c.in_ok-found.ensures.looks c.in_ok-found.ensures.light

pub returns-in-Sharded-clause-fitting : goal.returns-in-Sharded-clause-fitting
returns-in-Sharded-clause-fitting g c = fitting-at c.put_below.result c.args.p.now c.args.root.now (g.S.Store.seen c.args.store.now) (g.S.Store.seen c.look_at_root.new.store) _ c.in_ok-found.ensures.looks c.in_ok-found.ensures.light

pub returns-in-Basic-clause-blames : goal.returns-in-Basic-clause-blames
returns-in-Basic-clause-blames g c = blames-none g.S.X.BlockHash.block32 NoneIsBad c.args.root.now _ _ _ (λ bytes h. h) c.put_basic.ensures.saves.cause

pub returns-in-Sharded-clause-blames : goal.returns-in-Sharded-clause-blames
returns-in-Sharded-clause-blames g c = blames-none g.S.X.BlockHash.block32 (IsBadOnWay g.N.NameHash.name64 (g.N.NameHash.name64 c.args.name.now)) c.args.root.now _ _ _ (λ bytes h. h) (c.put_below.ensures.cause (g.S.Store.seen c.args.store.now) c.in_ok-found.ensures.found)

pub returns-in_err-found-clause-no_other : goal.returns-in_err-found-clause-no_other
returns-in_err-found-clause-no_other g c = λ meta l is agrees. SavesAmong-same g.S.X.BlockHash.block32 (own_blocks g.S.X.BlockHash.block32 g.N.NameHash.name64 c.args.p.now meta (with_name c.args.name.now c.args.entry.now l)) (g.S.Store.seen c.args.store.now).told (g.S.Store.seen c.look_at_root.new.store).told c.look_at_root.ensures.reads.told

pub returns-in-Basic-clause-no_other : goal.returns-in-Basic-clause-no_other
returns-in-Basic-clause-no_other g c = λ meta l is agrees.
    let node = entries-basic g.S.X.BlockHash.block32 (record { size = g.met.S.X.BlockHash.size; are_bytes = g.met.S.X.BlockHash.are_bytes }) g.N.NameHash.name64 c.args.p.now meta c.args.root.now l is _ _ _ _ c.in-Basic.is c.in_ok-found.ensures.looks agrees in
    subst (λ (t : Told). SavesAmong g.S.X.BlockHash.block32 (own_blocks g.S.X.BlockHash.block32 g.N.NameHash.name64 c.args.p.now meta (with_name c.args.name.now c.args.entry.now l)) t (g.S.Store.seen c.put_basic.new.store).told) c.look_at_root.ensures.reads.told
    (subst (λ (n : DirNode). SavesAmong g.S.X.BlockHash.block32 (own_blocks g.S.X.BlockHash.block32 g.N.NameHash.name64 c.args.p.now n.meta (with_name c.args.name.now c.args.entry.now n.pairs)) (g.S.Store.seen c.look_at_root.new.store).told (g.S.Store.seen c.put_basic.new.store).told) node c.put_basic.ensures.no_other)

pub returns-in-Sharded-clause-no_other : goal.returns-in-Sharded-clause-no_other
returns-in-Sharded-clause-no_other g c = λ meta l is agrees. put-sharded-saves g.S.X.BlockHash.block32 (record { size = g.met.S.X.BlockHash.size; are_bytes = g.met.S.X.BlockHash.are_bytes }) g.N.NameHash.name64 c.args.p.now meta c.args.root.now l is (g.S.Store.seen c.args.store.now) (g.S.Store.seen c.look_at_root.new.store) _ _ c.in-Sharded.is c.in_ok-found.ensures.looks c.look_at_root.ensures.reads.told agrees c.args.name.now c.args.entry.now (g.S.Store.seen c.put_below.new.store).told (λ n k. c.put_below.ensures.no_other (g.S.Store.seen c.args.store.now) n k c.in_ok-found.ensures.found)
