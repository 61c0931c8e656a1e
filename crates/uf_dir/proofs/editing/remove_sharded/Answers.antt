use Rattle.std.proofs.Common.{None, Some, arith, ◌∙◌}
use Rattle.std.specs.declared.result.Result.TheVariants.{Ok, Err}
use Rattle.std.proofs.lemmas.Result.{err_from_is_err_and}
use Rattle.uf_store.proofs.Calls.{saves-by, saves-saves}
use Rattle.uf_tree.specs.Changes.{without}
use Rattle.uf_dir.specs.Bad.{IsBadWeighed}
use Rattle.uf_shard.specs.Listing.{IsBadShard}
use Rattle.uf_shard.specs.Placed.{IsBadOnWay}
use Rattle.uf_dir.proofs.Causes.{blames-none, shard-weighed, way-weighed}
use Rattle.uf_dir.proofs.Changing.{none-bad, saves-behind}
use Rattle.uf_dir.proofs.Taking.{absent-takes, emptied-basic, settled-takes, shards-left, unread-takes, was-there}
use Rattle.uf_dir.proofs.Touching.{few-takes, left-takes}
use Rattle.uf_dir.proofs.Saving.{emptied-saves, settled-saves, shards-saved}
use Rattle.uf_dir.proofs.editing.remove_sharded.Goals as goal

pub returns-in_err-removed-clause-takes : goal.returns-in_err-removed-clause-takes
returns-in_err-removed-clause-takes g c = λ before finds. let out = err_from_is_err_and c.from_residual.result c.from_residual.ensures.1 in
    rw (out.1, out.2) (unread-takes g.S.X.BlockHash.block32 g.N.NameHash.name64 c.args.p.now c.args.node.now.meta c.args.root.now c.args.name.now before (g.S.Store.seen c.remove_below.new.store) c.in_err-removed.field-0.0 (λ l. c.in_err-removed.ensures.value before c.args.node.now.meta l finds))

pub returns-in_err-removed-clause-saves : goal.returns-in_err-removed-clause-saves
returns-in_err-removed-clause-saves g c = λ before finds. let out = err_from_is_err_and c.from_residual.result c.from_residual.ensures.1 in
    rw (out.1, out.2) (saves-by (IsBadWeighed g.N.NameHash.name64 (g.N.NameHash.name64 c.args.name.now) (Some c.args.p.now)) (way-weighed g.N.NameHash.name64 (g.N.NameHash.name64 c.args.name.now) (Some c.args.p.now))
    (saves-behind g.S.X.BlockHash.block32 (IsBadOnWay g.N.NameHash.name64 (g.N.NameHash.name64 c.args.name.now)) (Some c.in_err-removed.field-0.0) before (g.S.Store.seen c.args.store.now) (g.S.Store.seen c.remove_below.new.store) finds.same_told (c.in_err-removed.ensures.cause before finds) c.in_err-removed.ensures.good c.in_err-removed.ensures.saves))

pub returns-in-Absent-clause-takes : goal.returns-in-Absent-clause-takes
returns-in-Absent-clause-takes g c = λ before finds. absent-takes g.S.X.BlockHash.block32 g.N.NameHash.name64 c.args.p.now c.args.node.now.meta c.args.root.now c.args.name.now before (g.S.Store.seen c.remove_below.new.store)
    ((rw c.in-Absent.is at c.in_ok-removed.ensures.nothing) ∙ finds.same_told) (λ l. (rw c.in-Absent.is at c.in_ok-removed.ensures.value) before c.args.node.now.meta l finds)

pub returns-in_ok-entry-in-Empty-clause-takes : goal.returns-in_ok-entry-in-Empty-clause-takes
returns-in_ok-entry-in-Empty-clause-takes g c = λ before finds. emptied-basic g.S.X.BlockHash.block32 g.N.NameHash.name64 c.args.p.now c.args.node.now.meta c.args.root.now c.args.name.now before (g.S.Store.seen c.remove_below.new.store) (g.S.Store.seen c.save_basic.new.store) (c.in_ok-removed.ensures.cause before finds)
    (saves-behind g.S.X.BlockHash.block32 (IsBadOnWay g.N.NameHash.name64 (g.N.NameHash.name64 c.args.name.now)) None before (g.S.Store.seen c.args.store.now) (g.S.Store.seen c.remove_below.new.store) finds.same_told (c.in_ok-removed.ensures.cause before finds) c.in_ok-removed.ensures.good c.in_ok-removed.ensures.saves).saves c.save_basic.ensures.saves.saves (record { size = g.met.S.X.BlockHash.size; are_bytes = g.met.S.X.BlockHash.are_bytes }) c.requires.shard.meta c.in_ok-entry-in-Empty.entry c.new-nothing.result c.new-nothing.ensures
    c.in_ok-entry-in-Empty.ensures.entry c.in_ok-entry-in-Empty.ensures.held c.in_ok-entry-in-Empty.ensures.saves.cause (λ l. (rw c.in-Empty.is at c.in_ok-removed.ensures.value) before c.args.node.now.meta l finds)

pub returns-in_err-left-in-Left-clause-takes : goal.returns-in_err-left-in-Left-clause-takes
returns-in_err-left-in-Left-clause-takes g c = λ before finds. let out = err_from_is_err_and c.from_residual-in_err-left-in-Left.result c.from_residual-in_err-left-in-Left.ensures.1 in
    rw (out.1, out.2) (settled-takes g.S.X.BlockHash.block32 g.N.NameHash.name64 c.args.p.now c.args.node.now.meta c.args.root.now c.args.name.now before (g.S.Store.seen c.remove_below.new.store) (g.S.Store.seen c.entry_by_weight.new.store) (c.in_ok-removed.ensures.cause before finds)
    (saves-behind g.S.X.BlockHash.block32 (IsBadOnWay g.N.NameHash.name64 (g.N.NameHash.name64 c.args.name.now)) None before (g.S.Store.seen c.args.store.now) (g.S.Store.seen c.remove_below.new.store) finds.same_told (c.in_ok-removed.ensures.cause before finds) c.in_ok-removed.ensures.good c.in_ok-removed.ensures.saves).saves c.entry_by_weight.ensures.saves.saves c.in-Left.entry (λ l. (rw c.in-Left.is at c.in_ok-removed.ensures.value) before c.args.node.now.meta l finds) (λ l. (rw c.in-Left.is at c.in_ok-removed.ensures.after) before c.args.node.now.meta l finds)
    (Err c.in_err-left-in-Left.field-0.0) c.in_err-left-in-Left.ensures.saves.cause c.in_err-left-in-Left.ensures.settles)

pub returns-in_err-left-in-Left-clause-saves : goal.returns-in_err-left-in-Left-clause-saves
returns-in_err-left-in-Left-clause-saves g c = λ before finds. let out = err_from_is_err_and c.from_residual-in_err-left-in-Left.result c.from_residual-in_err-left-in-Left.ensures.1 in
    rw (out.1, out.2) (saves-saves
    (saves-by (IsBadWeighed g.N.NameHash.name64 (g.N.NameHash.name64 c.args.name.now) (Some c.args.p.now)) (way-weighed g.N.NameHash.name64 (g.N.NameHash.name64 c.args.name.now) (Some c.args.p.now))
    (saves-behind g.S.X.BlockHash.block32 (IsBadOnWay g.N.NameHash.name64 (g.N.NameHash.name64 c.args.name.now)) None before (g.S.Store.seen c.args.store.now) (g.S.Store.seen c.remove_below.new.store) finds.same_told (c.in_ok-removed.ensures.cause before finds) c.in_ok-removed.ensures.good c.in_ok-removed.ensures.saves))
    (saves-by (IsBadWeighed g.N.NameHash.name64 (g.N.NameHash.name64 c.args.name.now) (Some c.args.p.now)) (shard-weighed g.N.NameHash.name64 (g.N.NameHash.name64 c.args.name.now) (Some c.args.p.now)) c.in_err-left-in-Left.ensures.saves))

pub returns-in_err-left-in-Left-clause-touches : goal.returns-in_err-left-in-Left-clause-touches
returns-in_err-left-in-Left-clause-touches g c = λ before l finds stay. let was = was-there g.S.X.BlockHash.block32 g.N.NameHash.name64 c.args.p.now c.args.node.now.meta c.args.root.now c.args.name.now before (g.S.Store.seen c.remove_below.new.store) (g.S.Store.seen c.entry_by_weight.new.store) (c.in_ok-removed.ensures.cause before finds)
    (saves-behind g.S.X.BlockHash.block32 (IsBadOnWay g.N.NameHash.name64 (g.N.NameHash.name64 c.args.name.now)) None before (g.S.Store.seen c.args.store.now) (g.S.Store.seen c.remove_below.new.store) finds.same_told (c.in_ok-removed.ensures.cause before finds) c.in_ok-removed.ensures.good c.in_ok-removed.ensures.saves).saves c.entry_by_weight.ensures.saves.saves c.in-Left.entry (λ l. (rw c.in-Left.is at c.in_ok-removed.ensures.value) before c.args.node.now.meta l finds) (λ l. (rw c.in-Left.is at c.in_ok-removed.ensures.after) before c.args.node.now.meta l finds)
    c.entry_by_weight.result c.entry_by_weight.ensures.saves.cause l stay in left-takes g.S.X.BlockHash.block32 g.N.NameHash.name64 c.args.p.now c.args.node.now.meta c.args.name.now l was.old c.args.touches.now c.remove_below.new.touches _ was.there stay.plan.valid.sorted c.remove_below.ensures.touches
    (c.entry_by_weight.ensures.touches g.N.NameHash.name64 (without c.args.name.now l) (shards-left g.S.X.BlockHash.block32 g.N.NameHash.name64 c.args.p.now c.args.node.now.meta c.args.root.now c.args.name.now before (g.S.Store.seen c.remove_below.new.store) (g.S.Store.seen c.entry_by_weight.new.store) (c.in_ok-removed.ensures.cause before finds)
    (saves-behind g.S.X.BlockHash.block32 (IsBadOnWay g.N.NameHash.name64 (g.N.NameHash.name64 c.args.name.now)) None before (g.S.Store.seen c.args.store.now) (g.S.Store.seen c.remove_below.new.store) finds.same_told (c.in_ok-removed.ensures.cause before finds) c.in_ok-removed.ensures.good c.in_ok-removed.ensures.saves).saves c.entry_by_weight.ensures.saves.saves c.in-Left.entry (λ l. (rw c.in-Left.is at c.in_ok-removed.ensures.value) before c.args.node.now.meta l finds) (λ l. (rw c.in-Left.is at c.in_ok-removed.ensures.after) before c.args.node.now.meta l finds)
    c.entry_by_weight.result c.entry_by_weight.ensures.saves.cause l stay))

pub returns-in_ok-left-in-Left-clause-takes : goal.returns-in_ok-left-in-Left-clause-takes
returns-in_ok-left-in-Left-clause-takes g c = λ before finds. settled-takes g.S.X.BlockHash.block32 g.N.NameHash.name64 c.args.p.now c.args.node.now.meta c.args.root.now c.args.name.now before (g.S.Store.seen c.remove_below.new.store) (g.S.Store.seen c.entry_by_weight.new.store) (c.in_ok-removed.ensures.cause before finds)
    (saves-behind g.S.X.BlockHash.block32 (IsBadOnWay g.N.NameHash.name64 (g.N.NameHash.name64 c.args.name.now)) None before (g.S.Store.seen c.args.store.now) (g.S.Store.seen c.remove_below.new.store) finds.same_told (c.in_ok-removed.ensures.cause before finds) c.in_ok-removed.ensures.good c.in_ok-removed.ensures.saves).saves c.entry_by_weight.ensures.saves.saves c.in-Left.entry (λ l. (rw c.in-Left.is at c.in_ok-removed.ensures.value) before c.args.node.now.meta l finds) (λ l. (rw c.in-Left.is at c.in_ok-removed.ensures.after) before c.args.node.now.meta l finds)
    (Ok c.in_ok-left-in-Left.left) c.in_ok-left-in-Left.ensures.saves.cause c.in_ok-left-in-Left.ensures.settles

pub returns-in_ok-left-in-Left-clause-saves : goal.returns-in_ok-left-in-Left-clause-saves
returns-in_ok-left-in-Left-clause-saves g c = λ before finds. saves-saves
    (saves-by (IsBadWeighed g.N.NameHash.name64 (g.N.NameHash.name64 c.args.name.now) (Some c.args.p.now)) (way-weighed g.N.NameHash.name64 (g.N.NameHash.name64 c.args.name.now) (Some c.args.p.now))
    (saves-behind g.S.X.BlockHash.block32 (IsBadOnWay g.N.NameHash.name64 (g.N.NameHash.name64 c.args.name.now)) None before (g.S.Store.seen c.args.store.now) (g.S.Store.seen c.remove_below.new.store) finds.same_told (c.in_ok-removed.ensures.cause before finds) c.in_ok-removed.ensures.good c.in_ok-removed.ensures.saves))
    (saves-by (IsBadWeighed g.N.NameHash.name64 (g.N.NameHash.name64 c.args.name.now) (Some c.args.p.now)) (shard-weighed g.N.NameHash.name64 (g.N.NameHash.name64 c.args.name.now) (Some c.args.p.now)) c.in_ok-left-in-Left.ensures.saves)

pub returns-in_ok-left-in-Left-clause-touches : goal.returns-in_ok-left-in-Left-clause-touches
returns-in_ok-left-in-Left-clause-touches g c = λ before l finds stay. let was = was-there g.S.X.BlockHash.block32 g.N.NameHash.name64 c.args.p.now c.args.node.now.meta c.args.root.now c.args.name.now before (g.S.Store.seen c.remove_below.new.store) (g.S.Store.seen c.entry_by_weight.new.store) (c.in_ok-removed.ensures.cause before finds)
    (saves-behind g.S.X.BlockHash.block32 (IsBadOnWay g.N.NameHash.name64 (g.N.NameHash.name64 c.args.name.now)) None before (g.S.Store.seen c.args.store.now) (g.S.Store.seen c.remove_below.new.store) finds.same_told (c.in_ok-removed.ensures.cause before finds) c.in_ok-removed.ensures.good c.in_ok-removed.ensures.saves).saves c.entry_by_weight.ensures.saves.saves c.in-Left.entry (λ l. (rw c.in-Left.is at c.in_ok-removed.ensures.value) before c.args.node.now.meta l finds) (λ l. (rw c.in-Left.is at c.in_ok-removed.ensures.after) before c.args.node.now.meta l finds)
    c.entry_by_weight.result c.entry_by_weight.ensures.saves.cause l stay in left-takes g.S.X.BlockHash.block32 g.N.NameHash.name64 c.args.p.now c.args.node.now.meta c.args.name.now l was.old c.args.touches.now c.remove_below.new.touches _ was.there stay.plan.valid.sorted c.remove_below.ensures.touches
    (c.entry_by_weight.ensures.touches g.N.NameHash.name64 (without c.args.name.now l) (shards-left g.S.X.BlockHash.block32 g.N.NameHash.name64 c.args.p.now c.args.node.now.meta c.args.root.now c.args.name.now before (g.S.Store.seen c.remove_below.new.store) (g.S.Store.seen c.entry_by_weight.new.store) (c.in_ok-removed.ensures.cause before finds)
    (saves-behind g.S.X.BlockHash.block32 (IsBadOnWay g.N.NameHash.name64 (g.N.NameHash.name64 c.args.name.now)) None before (g.S.Store.seen c.args.store.now) (g.S.Store.seen c.remove_below.new.store) finds.same_told (c.in_ok-removed.ensures.cause before finds) c.in_ok-removed.ensures.good c.in_ok-removed.ensures.saves).saves c.entry_by_weight.ensures.saves.saves c.in-Left.entry (λ l. (rw c.in-Left.is at c.in_ok-removed.ensures.value) before c.args.node.now.meta l finds) (λ l. (rw c.in-Left.is at c.in_ok-removed.ensures.after) before c.args.node.now.meta l finds)
    c.entry_by_weight.result c.entry_by_weight.ensures.saves.cause l stay))

pub returns-in_err-removed-clause-blames : goal.returns-in_err-removed-clause-blames
returns-in_err-removed-clause-blames g c = λ before finds. let out = err_from_is_err_and c.from_residual.result c.from_residual.ensures.1 in
    rw (out.1, out.2) (blames-none g.S.X.BlockHash.block32 (IsBadOnWay g.N.NameHash.name64 (g.N.NameHash.name64 c.args.name.now)) c.args.root.now (Some c.in_err-removed.field-0.0) _ _ (λ bytes h. h) (c.in_err-removed.ensures.cause before finds))

pub returns-in_err-left-in-Left-clause-blames : goal.returns-in_err-left-in-Left-clause-blames
returns-in_err-left-in-Left-clause-blames g c = λ before finds. let out = err_from_is_err_and c.from_residual-in_err-left-in-Left.result c.from_residual-in_err-left-in-Left.ensures.1 in
    rw (out.1, out.2) (blames-none g.S.X.BlockHash.block32 IsBadShard c.args.root.now (Some c.in_err-left-in-Left.field-0.0) _ _ (λ bytes h. h) c.in_err-left-in-Left.ensures.saves.cause)

pub returns-in_err-removed-clause-touches : goal.returns-in_err-removed-clause-touches
returns-in_err-removed-clause-touches g c = λ before l finds stay. few-takes g.S.X.BlockHash.block32 g.N.NameHash.name64 c.args.p.now c.args.node.now.meta c.args.name.now l c.args.touches.now _ (omega (arith, c.remove_below.ensures.touches))

pub returns-in-Absent-clause-touches : goal.returns-in-Absent-clause-touches
returns-in-Absent-clause-touches g c = λ before l finds stay. few-takes g.S.X.BlockHash.block32 g.N.NameHash.name64 c.args.p.now c.args.node.now.meta c.args.name.now l c.args.touches.now _ (omega (arith, c.remove_below.ensures.touches))

pub returns-in_err-entry-in-Empty-clause-touches : goal.returns-in_err-entry-in-Empty-clause-touches
returns-in_err-entry-in-Empty-clause-touches g c = λ before l finds stay. few-takes g.S.X.BlockHash.block32 g.N.NameHash.name64 c.args.p.now c.args.node.now.meta c.args.name.now l c.args.touches.now _ (omega (arith, c.remove_below.ensures.touches, c.save_basic.ensures.touches))

pub returns-in_ok-entry-in-Empty-clause-touches : goal.returns-in_ok-entry-in-Empty-clause-touches
returns-in_ok-entry-in-Empty-clause-touches g c = λ before l finds stay. few-takes g.S.X.BlockHash.block32 g.N.NameHash.name64 c.args.p.now c.args.node.now.meta c.args.name.now l c.args.touches.now _ (omega (arith, c.remove_below.ensures.touches, c.save_basic.ensures.touches))

pub returns-in_err-removed-clause-no_other : goal.returns-in_err-removed-clause-no_other
returns-in_err-removed-clause-no_other g c = λ before l finds plan stays can. shards-saved g.S.X.BlockHash.block32 g.N.NameHash.name64 c.args.p.now c.args.node.now.meta c.args.name.now l before.told (g.S.Store.seen c.remove_below.new.store).told (c.remove_below.ensures.no_other before c.args.node.now.meta l finds plan stays.first)

pub returns-in-Absent-clause-no_other : goal.returns-in-Absent-clause-no_other
returns-in-Absent-clause-no_other g c = λ before l finds plan stays can. shards-saved g.S.X.BlockHash.block32 g.N.NameHash.name64 c.args.p.now c.args.node.now.meta c.args.name.now l before.told (g.S.Store.seen c.remove_below.new.store).told (c.remove_below.ensures.no_other before c.args.node.now.meta l finds plan stays.first)

pub returns-in_err-entry-in-Empty-clause-no_other : goal.returns-in_err-entry-in-Empty-clause-no_other
returns-in_err-entry-in-Empty-clause-no_other g c = λ before l finds plan stays can. emptied-saves g.S.X.BlockHash.block32 g.N.NameHash.name64 c.args.p.now c.args.node.now.meta c.args.root.now c.args.name.now l plan before (g.S.Store.seen c.remove_below.new.store) (g.S.Store.seen c.save_basic.new.store) stays (c.in_ok-removed.ensures.cause before finds) can (c.remove_below.ensures.no_other before c.args.node.now.meta l finds plan stays.first) c.new-nothing.result c.new-nothing.ensures
    ((rw c.in-Empty.is at c.in_ok-removed.ensures.value) before c.args.node.now.meta l finds) c.save_basic.ensures.no_other

pub returns-in_ok-entry-in-Empty-clause-no_other : goal.returns-in_ok-entry-in-Empty-clause-no_other
returns-in_ok-entry-in-Empty-clause-no_other g c = λ before l finds plan stays can. emptied-saves g.S.X.BlockHash.block32 g.N.NameHash.name64 c.args.p.now c.args.node.now.meta c.args.root.now c.args.name.now l plan before (g.S.Store.seen c.remove_below.new.store) (g.S.Store.seen c.save_basic.new.store) stays (c.in_ok-removed.ensures.cause before finds) can (c.remove_below.ensures.no_other before c.args.node.now.meta l finds plan stays.first) c.new-nothing.result c.new-nothing.ensures
    ((rw c.in-Empty.is at c.in_ok-removed.ensures.value) before c.args.node.now.meta l finds) c.save_basic.ensures.no_other

pub returns-in_err-left-in-Left-clause-no_other : goal.returns-in_err-left-in-Left-clause-no_other
returns-in_err-left-in-Left-clause-no_other g c = λ before l finds plan stays can. settled-saves g.S.X.BlockHash.block32 g.N.NameHash.name64 c.args.p.now c.args.node.now.meta c.args.root.now c.args.name.now l plan before (g.S.Store.seen c.remove_below.new.store) (g.S.Store.seen c.entry_by_weight.new.store) stays (c.in_ok-removed.ensures.cause before finds) can (c.remove_below.ensures.no_other before c.args.node.now.meta l finds plan stays.first)
    (saves-behind g.S.X.BlockHash.block32 (IsBadOnWay g.N.NameHash.name64 (g.N.NameHash.name64 c.args.name.now)) None before (g.S.Store.seen c.args.store.now) (g.S.Store.seen c.remove_below.new.store) finds.same_told (c.in_ok-removed.ensures.cause before finds) c.in_ok-removed.ensures.good c.in_ok-removed.ensures.saves).saves c.entry_by_weight.ensures.saves.saves c.in-Left.entry ((rw c.in-Left.is at c.in_ok-removed.ensures.value) before c.args.node.now.meta l finds) ((rw c.in-Left.is at c.in_ok-removed.ensures.after) before c.args.node.now.meta l finds)
    c.entry_by_weight.ensures.no_other

pub returns-in_ok-left-in-Left-clause-no_other : goal.returns-in_ok-left-in-Left-clause-no_other
returns-in_ok-left-in-Left-clause-no_other g c = λ before l finds plan stays can. settled-saves g.S.X.BlockHash.block32 g.N.NameHash.name64 c.args.p.now c.args.node.now.meta c.args.root.now c.args.name.now l plan before (g.S.Store.seen c.remove_below.new.store) (g.S.Store.seen c.entry_by_weight.new.store) stays (c.in_ok-removed.ensures.cause before finds) can (c.remove_below.ensures.no_other before c.args.node.now.meta l finds plan stays.first)
    (saves-behind g.S.X.BlockHash.block32 (IsBadOnWay g.N.NameHash.name64 (g.N.NameHash.name64 c.args.name.now)) None before (g.S.Store.seen c.args.store.now) (g.S.Store.seen c.remove_below.new.store) finds.same_told (c.in_ok-removed.ensures.cause before finds) c.in_ok-removed.ensures.good c.in_ok-removed.ensures.saves).saves c.entry_by_weight.ensures.saves.saves c.in-Left.entry ((rw c.in-Left.is at c.in_ok-removed.ensures.value) before c.args.node.now.meta l finds) ((rw c.in-Left.is at c.in_ok-removed.ensures.after) before c.args.node.now.meta l finds)
    c.entry_by_weight.ensures.no_other

pub returns-in-Absent-clause-saves : goal.returns-in-Absent-clause-saves
returns-in-Absent-clause-saves g c = λ before finds. saves-by (IsBadWeighed g.N.NameHash.name64 (g.N.NameHash.name64 c.args.name.now) (Some c.args.p.now)) (way-weighed g.N.NameHash.name64 (g.N.NameHash.name64 c.args.name.now) (Some c.args.p.now))
    (saves-behind g.S.X.BlockHash.block32 (IsBadOnWay g.N.NameHash.name64 (g.N.NameHash.name64 c.args.name.now)) None before (g.S.Store.seen c.args.store.now) (g.S.Store.seen c.remove_below.new.store) finds.same_told (c.in_ok-removed.ensures.cause before finds) c.in_ok-removed.ensures.good c.in_ok-removed.ensures.saves)

pub returns-in_err-entry-in-Empty-clause-saves : goal.returns-in_err-entry-in-Empty-clause-saves
returns-in_err-entry-in-Empty-clause-saves g c = λ before finds.
    let out = err_from_is_err_and c.from_residual-in_err-entry-in-Empty.result c.from_residual-in_err-entry-in-Empty.ensures.1 in
    rw (out.1, out.2) (saves-saves (saves-by (IsBadWeighed g.N.NameHash.name64 (g.N.NameHash.name64 c.args.name.now) (Some c.args.p.now)) (way-weighed g.N.NameHash.name64 (g.N.NameHash.name64 c.args.name.now) (Some c.args.p.now))
    (saves-behind g.S.X.BlockHash.block32 (IsBadOnWay g.N.NameHash.name64 (g.N.NameHash.name64 c.args.name.now)) None before (g.S.Store.seen c.args.store.now) (g.S.Store.seen c.remove_below.new.store) finds.same_told (c.in_ok-removed.ensures.cause before finds) c.in_ok-removed.ensures.good c.in_ok-removed.ensures.saves))
    (saves-by (IsBadWeighed g.N.NameHash.name64 (g.N.NameHash.name64 c.args.name.now) (Some c.args.p.now)) (none-bad (IsBadWeighed g.N.NameHash.name64 (g.N.NameHash.name64 c.args.name.now) (Some c.args.p.now))) c.in_err-entry-in-Empty.ensures.saves))

pub returns-in_ok-entry-in-Empty-clause-saves : goal.returns-in_ok-entry-in-Empty-clause-saves
returns-in_ok-entry-in-Empty-clause-saves g c = λ before finds. saves-saves (saves-by (IsBadWeighed g.N.NameHash.name64 (g.N.NameHash.name64 c.args.name.now) (Some c.args.p.now)) (way-weighed g.N.NameHash.name64 (g.N.NameHash.name64 c.args.name.now) (Some c.args.p.now))
    (saves-behind g.S.X.BlockHash.block32 (IsBadOnWay g.N.NameHash.name64 (g.N.NameHash.name64 c.args.name.now)) None before (g.S.Store.seen c.args.store.now) (g.S.Store.seen c.remove_below.new.store) finds.same_told (c.in_ok-removed.ensures.cause before finds) c.in_ok-removed.ensures.good c.in_ok-removed.ensures.saves))
    (saves-by (IsBadWeighed g.N.NameHash.name64 (g.N.NameHash.name64 c.args.name.now) (Some c.args.p.now)) (none-bad (IsBadWeighed g.N.NameHash.name64 (g.N.NameHash.name64 c.args.name.now) (Some c.args.p.now))) c.in_ok-entry-in-Empty.ensures.saves)
