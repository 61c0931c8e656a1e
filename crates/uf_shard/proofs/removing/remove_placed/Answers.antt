use Rattle.std.proofs.Common.{None, Some}
use Rattle.std.specs.declared.result.Result.TheVariants.{Ok, Err}
use Rattle.std.proofs.lemmas.Result.{IfOk-weaker}
use Rattle.uf_store.proofs.Causes.{Answers-after}
use Rattle.uf_store.specs.Faults.{NoneIsBad}
use Rattle.uf_tree.specs.Validity.{IsHash}
use Rattle.uf_shard.specs.Placed.{IsBadOnWay}
use Rattle.std.proofs.lemmas.Result.{err_from_is_err_and}
use Rattle.uf_store.proofs.Calls.{reads-saves, saves-saves}
use Rattle.uf_store.proofs.Among.{SavesAmong-trans}
use Rattle.uf_tree.specs.Changes.{without}
use Rattle.uf_tree.specs.ShardPlan.{shard}
use Rattle.uf_shard.specs.Changed.{below}
use Rattle.uf_shard.proofs.Among.{root-saves, tree-saves}
use Rattle.uf_shard.proofs.Saves.{saves-new}
use Rattle.uf_shard.proofs.AtRoot.{keeps-from, root-among, root-below, root-left, root-takes}
use Rattle.uf_shard.proofs.Ends.{left-after, left-value, take-absent, take-err}
use Rattle.uf_shard.proofs.removing.remove_placed.Goals as goal

pub returns-in_err-left-clause-value : goal.returns-in_err-left-clause-value
returns-in_err-left-clause-value g c = λ root before m l first is agrees faults clashes.
    let out = err_from_is_err_and c.from_residual.result c.from_residual.ensures.1 in rw (out.1, out.2) (let good : IsHash g.S.X.BlockHash.block32 = record { size = g.met.S.X.BlockHash.size; are_bytes = g.met.S.X.BlockHash.are_bytes } in
    take-err g.S.X.BlockHash.block32 g.N.NameHash.name64 c.args.name.now m l g.S.X.BlockHash.block32 (IsBadOnWay g.N.NameHash.name64 (g.N.NameHash.name64 c.args.name.now))
    before (g.S.Store.seen c.take_from.new.store) c.in_err-left.field-0.0
    (root-takes g.S.X.BlockHash.block32 g.N.NameHash.name64 good c.args.name.now root m l is before agrees (g.S.Store.seen c.args.store.now).told c.args.node.now first.reads.told first.has
    (g.S.Store.seen c.take_from.new.store).told (Err c.in_err-left.field-0.0) c.in_err-left.ensures.takes) (saves-saves (reads-saves first.reads) c.in_err-left.ensures.saves).cause faults clashes)

pub returns-in-None-clause-value : goal.returns-in-None-clause-value
returns-in-None-clause-value g c = λ root before m l first is agrees faults clashes.
    let good : IsHash g.S.X.BlockHash.block32 = record { size = g.met.S.X.BlockHash.size; are_bytes = g.met.S.X.BlockHash.are_bytes } in
    take-absent g.S.X.BlockHash.block32 g.N.NameHash.name64 c.args.name.now m l
    (root-takes g.S.X.BlockHash.block32 g.N.NameHash.name64 good c.args.name.now root m l is before agrees (g.S.Store.seen c.args.store.now).told c.args.node.now first.reads.told first.has
    (g.S.Store.seen c.take_from.new.store).told (Ok None) (rw c.in-None.is at c.in_ok-left.ensures.takes))

pub returns-in-Some-clause-value : goal.returns-in-Some-clause-value
returns-in-Some-clause-value g c = λ root before m l first is agrees faults clashes.
    let good : IsHash g.S.X.BlockHash.block32 = record { size = g.met.S.X.BlockHash.size; are_bytes = g.met.S.X.BlockHash.are_bytes } in
    let mid = (g.S.Store.seen c.args.store.now).told in
    left-value g.S.X.BlockHash.block32 g.N.NameHash.name64 c.args.name.now m l is.valid.sorted before (g.S.Store.seen c.take_from.new.store).told (g.S.Store.seen c.left_of.new.store) c.in-Some.items
    (root-takes g.S.X.BlockHash.block32 g.N.NameHash.name64 good c.args.name.now root m l is before agrees mid c.args.node.now first.reads.told first.has
    (g.S.Store.seen c.take_from.new.store).told (Ok (Some c.in-Some.items)) (rw c.in-Some.is at c.in_ok-left.ensures.takes)) c.left_of.result c.left_of.ensures.saves.good
    (root-left g.S.X.BlockHash.block32 g.N.NameHash.name64 good c.args.name.now root m l is before agrees mid c.args.node.now first.reads.told first.has (g.S.Store.seen c.take_from.new.store).told (g.S.Store.seen c.left_of.new.store).told c.in-Some.items c.left_of.result c.left_of.ensures.left)
    c.left_of.ensures.fault (Answers-after g.S.X.BlockHash.block32 NoneIsBad c.left_of.result _ _ _ (saves-saves (reads-saves first.reads) c.in_ok-left.ensures.saves).cause c.left_of.ensures.saves.cause) faults clashes

pub returns-in-Some-clause-after : goal.returns-in-Some-clause-after
returns-in-Some-clause-after g c = IfOk-weaker c.left_of.result _ _ (λ left h root before m l first is stays.
    let good : IsHash g.S.X.BlockHash.block32 = record { size = g.met.S.X.BlockHash.size; are_bytes = g.met.S.X.BlockHash.are_bytes } in
    let mid = (g.S.Store.seen c.args.store.now).told in
    left-after g.S.X.BlockHash.block32 g.N.NameHash.name64 c.args.name.now m l is.valid.sorted before.told (g.S.Store.seen c.take_from.new.store).told (g.S.Store.seen c.left_of.new.store).told c.in-Some.items
    (root-takes g.S.X.BlockHash.block32 g.N.NameHash.name64 good c.args.name.now root m l is before stays.first mid c.args.node.now first.reads.told first.has
    (g.S.Store.seen c.take_from.new.store).told (Ok (Some c.in-Some.items)) (rw c.in-Some.is at c.in_ok-left.ensures.takes)) left
    (keeps-from g.S.X.BlockHash.block32 before.told mid (g.S.Store.seen c.take_from.new.store).told first.reads.told c.take_from.ensures.saves.good) c.left_of.ensures.saves.good
    (root-left g.S.X.BlockHash.block32 g.N.NameHash.name64 good c.args.name.now root m l is before stays.first mid c.args.node.now first.reads.told first.has (g.S.Store.seen c.take_from.new.store).told (g.S.Store.seen c.left_of.new.store).told c.in-Some.items (Ok left) h) stays) c.left_of.ensures.left

pub returns-in_err-left-clause-no_other : goal.returns-in_err-left-clause-no_other
returns-in_err-left-clause-no_other g c = λ root before m l first is agrees.
    let good : IsHash g.S.X.BlockHash.block32 = record { size = g.met.S.X.BlockHash.size; are_bytes = g.met.S.X.BlockHash.are_bytes } in
    let new = without c.args.name.now in
    tree-saves g.S.X.BlockHash.block32 g.N.NameHash.name64 7 m (new l) before.told (g.S.Store.seen c.take_from.new.store).told
    (root-below g.S.X.BlockHash.block32 g.N.NameHash.name64 good c.args.name.now root m l is before agrees (g.S.Store.seen c.args.store.now).told c.args.node.now first.reads.told first.has (g.S.Store.seen c.take_from.new.store).told (λ k. below g.S.X.BlockHash.block32 g.N.NameHash.name64 7 (new k)) c.take_from.ensures.no_other)

pub returns-in-None-clause-no_other : goal.returns-in-None-clause-no_other
returns-in-None-clause-no_other g c = λ root before m l first is agrees.
    let good : IsHash g.S.X.BlockHash.block32 = record { size = g.met.S.X.BlockHash.size; are_bytes = g.met.S.X.BlockHash.are_bytes } in
    let new = without c.args.name.now in
    tree-saves g.S.X.BlockHash.block32 g.N.NameHash.name64 7 m (new l) before.told (g.S.Store.seen c.take_from.new.store).told
    (root-below g.S.X.BlockHash.block32 g.N.NameHash.name64 good c.args.name.now root m l is before agrees (g.S.Store.seen c.args.store.now).told c.args.node.now first.reads.told first.has (g.S.Store.seen c.take_from.new.store).told (λ k. below g.S.X.BlockHash.block32 g.N.NameHash.name64 7 (new k)) c.take_from.ensures.no_other)

pub returns-in-Some-clause-no_other : goal.returns-in-Some-clause-no_other
returns-in-Some-clause-no_other g c = λ root before m l first is agrees.
    let good : IsHash g.S.X.BlockHash.block32 = record { size = g.met.S.X.BlockHash.size; are_bytes = g.met.S.X.BlockHash.are_bytes } in
    let new = without c.args.name.now in
    SavesAmong-trans g.S.X.BlockHash.block32 (shard g.S.X.BlockHash.block32 g.N.NameHash.name64 7 m (new l)).blocks before.told (g.S.Store.seen c.take_from.new.store).told (g.S.Store.seen c.left_of.new.store).told
    (tree-saves g.S.X.BlockHash.block32 g.N.NameHash.name64 7 m (new l) before.told (g.S.Store.seen c.take_from.new.store).told
    (root-below g.S.X.BlockHash.block32 g.N.NameHash.name64 good c.args.name.now root m l is before agrees (g.S.Store.seen c.args.store.now).told c.args.node.now first.reads.told first.has (g.S.Store.seen c.take_from.new.store).told (λ k. below g.S.X.BlockHash.block32 g.N.NameHash.name64 7 (new k)) c.take_from.ensures.no_other))
    (root-saves g.S.X.BlockHash.block32 g.N.NameHash.name64 7 m c.in-Some.items (new l) (g.S.Store.seen c.take_from.new.store).told (g.S.Store.seen c.left_of.new.store).told
    (root-takes g.S.X.BlockHash.block32 g.N.NameHash.name64 good c.args.name.now root m l is before agrees (g.S.Store.seen c.args.store.now).told c.args.node.now first.reads.told first.has (g.S.Store.seen c.take_from.new.store).told (Ok (Some c.in-Some.items)) (rw c.in-Some.is at c.in_ok-left.ensures.takes)).1.same
    (root-among g.S.X.BlockHash.block32 g.N.NameHash.name64 good c.args.name.now root m l is before agrees (g.S.Store.seen c.args.store.now).told c.args.node.now first.reads.told first.has (g.S.Store.seen c.take_from.new.store).told (g.S.Store.seen c.left_of.new.store).told c.in-Some.items c.left_of.ensures.no_other))

pub returns-in-Some-clause-saves : goal.returns-in-Some-clause-saves
returns-in-Some-clause-saves g c = saves-new c.in_ok-left.ensures.saves c.left_of.ensures.saves
