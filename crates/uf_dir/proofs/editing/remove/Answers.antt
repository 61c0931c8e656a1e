use Rattle.std.proofs.Common.{Some, refl}
use Rattle.uf_dir.specs.Planned.{entry_without}
use Rattle.std.proofs.lemmas.Result.{err_from_is_err_and}
use Rattle.uf_dir.proofs.Changing.{basic-ok, basic-root, basic-answer, in_shards, removal-there, saves-same, stay-read, take-sharded, take-sharded-ok}
use Rattle.uf_store.specs.Faults.{NoneIsBad}
use Rattle.uf_dir.proofs.Causes.{blames-none}
use Rattle.uf_dir.proofs.Looked.{basic-light, entries-basic, entries-unread, fitting-at}
use Rattle.uf_dir.proofs.Refusals.{sharded-apart}
use Rattle.uf_dir.proofs.Touching.{absent-after, absent-here, basic-takes, sharded-takes}
use Rattle.uf_tree.specs.Changes.{without}
use Rattle.std.proofs.Common.{[], ◌∷◌, subst}
use Rattle.uf_store.specs.Among.{SavesAmong}
use Rattle.uf_store.specs.Contents.{Told}
use Rattle.uf_store.proofs.Among.{SavesAmong-same}
use Rattle.uf_tree.specs.declared.nodes.DirNode.{DirNode}
use Rattle.uf_dir.specs.Planned.{dir_held, removal_blocks}
use Rattle.uf_dir.proofs.Saving.{basic-removal, sharded-removal}
use Rattle.uf_dir.proofs.editing.remove.Goals as goal

pub returns-in_err-found-clause-value : goal.returns-in_err-found-clause-value
returns-in_err-found-clause-value g c = λ meta l is stays faults clashes.
    let out = err_from_is_err_and c.from_residual.result c.from_residual.ensures.1 in rw (out.1, out.2) (entries-unread g.S.X.BlockHash.block32 (record { size = g.met.S.X.BlockHash.size; are_bytes = g.met.S.X.BlockHash.are_bytes }) g.N.NameHash.name64 c.args.p.now meta c.args.root.now l is _ (Some c.args.p.now) _ _ _ (entry_without g.S.X.BlockHash.block32 g.N.NameHash.name64 c.args.p.now meta c.args.name.now l) refl c.in_err-found.ensures.looks c.in_err-found.ensures.reads.cause stays.first faults)

pub returns-in_err-found-clause-saves : goal.returns-in_err-found-clause-saves
returns-in_err-found-clause-saves g c = saves-same _ _ _ c.look_at_root.ensures.reads.told

pub returns-in-Basic-clause-value : goal.returns-in-Basic-clause-value
returns-in-Basic-clause-value g c = λ meta l is stays faults clashes. basic-answer g.S.X.BlockHash.block32 g.N.NameHash.name64 c.args.p.now c.args.name.now meta l c.in-Basic.node (g.S.Store.seen c.args.store.now).told _ _ _ c.remove_basic.result (g.S.Store.seen c.args.store.now) (g.S.Store.seen c.look_at_root.new.store) (g.S.Store.seen c.remove_basic.new.store)
    (entries-basic g.S.X.BlockHash.block32 (record { size = g.met.S.X.BlockHash.size; are_bytes = g.met.S.X.BlockHash.are_bytes }) g.N.NameHash.name64 c.args.p.now meta c.args.root.now l is _ _ _ _ c.in-Basic.is c.in_ok-found.ensures.looks stays.first) c.remove_basic.ensures.takes c.in_ok-found.ensures.reads.cause c.remove_basic.ensures.saves.cause faults clashes

pub returns-in-Basic-clause-made : goal.returns-in-Basic-clause-made
returns-in-Basic-clause-made g c = basic-root g.S.X.BlockHash.block32 g.N.NameHash.name64 c.args.p.now (record { size = g.met.S.X.BlockHash.size; are_bytes = g.met.S.X.BlockHash.are_bytes }) c.args.name.now c.in-Basic.node (rw c.in-Basic.is at c.in_ok-found.ensures.looks).1.0 _ _ c.remove_basic.result c.remove_basic.ensures.takes

pub returns-in-Basic-clause-after : goal.returns-in-Basic-clause-after
returns-in-Basic-clause-after g c = basic-ok g.S.X.BlockHash.block32 g.N.NameHash.name64 c.args.p.now c.args.root.now c.args.name.now c.in-Basic.node (g.S.Store.seen c.args.store.now).told (g.S.Store.seen c.look_at_root.new.store).told (g.S.Store.seen c.remove_basic.new.store).told c.remove_basic.result _ _
    (λ meta l is agrees. entries-basic g.S.X.BlockHash.block32 (record { size = g.met.S.X.BlockHash.size; are_bytes = g.met.S.X.BlockHash.are_bytes }) g.N.NameHash.name64 c.args.p.now meta c.args.root.now l is _ _ _ _ c.in-Basic.is c.in_ok-found.ensures.looks agrees) c.look_at_root.ensures.reads.told c.remove_basic.ensures.saves.saves c.remove_basic.ensures.takes

pub returns-in-Sharded-clause-value : goal.returns-in-Sharded-clause-value
returns-in-Sharded-clause-value g c = λ meta l is stays faults clashes. take-sharded g.S.X.BlockHash.block32 (record { size = g.met.S.X.BlockHash.size; are_bytes = g.met.S.X.BlockHash.are_bytes }) g.N.NameHash.name64 c.args.p.now meta c.args.root.now l is (g.S.Store.seen c.args.store.now) (g.S.Store.seen c.look_at_root.new.store) _ _ c.in-Sharded.is c.in_ok-found.ensures.looks c.look_at_root.ensures.reads.told stays.first
    c.args.name.now (g.S.Store.seen c.remove_sharded.new.store) c.remove_sharded.result (c.remove_sharded.ensures.takes (g.S.Store.seen c.args.store.now) c.in_ok-found.ensures.found) stays.last (record { faults = faults; clashes = clashes })

pub returns-in-Sharded-clause-after : goal.returns-in-Sharded-clause-after
returns-in-Sharded-clause-after g c = take-sharded-ok g.S.X.BlockHash.block32 (record { size = g.met.S.X.BlockHash.size; are_bytes = g.met.S.X.BlockHash.are_bytes }) g.N.NameHash.name64 c.args.p.now c.args.root.now (g.S.Store.seen c.args.store.now) (g.S.Store.seen c.look_at_root.new.store) _ _ c.in-Sharded.is c.in_ok-found.ensures.looks c.look_at_root.ensures.reads.told
    c.args.name.now (g.S.Store.seen c.remove_sharded.new.store) c.remove_sharded.result (c.remove_sharded.ensures.takes (g.S.Store.seen c.args.store.now) c.in_ok-found.ensures.found)

pub returns-in-Basic-clause-touches : goal.returns-in-Basic-clause-touches
returns-in-Basic-clause-touches g c = λ meta l is stays faults clashes. basic-takes g.S.X.BlockHash.block32 g.N.NameHash.name64 c.args.p.now meta c.args.name.now l (without c.args.name.now l) c.args.touches.now c.look_at_root.new.touches _ c.look_at_root.ensures.touches c.remove_basic.ensures.touches

pub returns-in-Basic-clause-fitting : goal.returns-in-Basic-clause-fitting
returns-in-Basic-clause-fitting g c = fitting-at c.remove_basic.result c.args.p.now c.args.root.now (g.S.Store.seen c.args.store.now) (g.S.Store.seen c.look_at_root.new.store) _ c.in_ok-found.ensures.looks c.in_ok-found.ensures.light

pub returns-in-Sharded-clause-fitting : goal.returns-in-Sharded-clause-fitting
returns-in-Sharded-clause-fitting g c = fitting-at c.remove_sharded.result c.args.p.now c.args.root.now (g.S.Store.seen c.args.store.now) (g.S.Store.seen c.look_at_root.new.store) _ c.in_ok-found.ensures.looks c.in_ok-found.ensures.light

pub returns-in-Sharded-clause-touches : goal.returns-in-Sharded-clause-touches
returns-in-Sharded-clause-touches g c = λ meta l is stays faults clashes.
    let heavy = in_shards g.S.X.BlockHash.block32 (record { size = g.met.S.X.BlockHash.size; are_bytes = g.met.S.X.BlockHash.are_bytes }) g.N.NameHash.name64 c.args.p.now meta c.args.root.now l is (g.S.Store.seen c.args.store.now) (g.S.Store.seen c.look_at_root.new.store) _ _ c.in-Sharded.is c.in_ok-found.ensures.looks c.look_at_root.ensures.reads.told stays.first in
    sharded-takes g.S.X.BlockHash.block32 g.N.NameHash.name64 c.args.p.now meta c.args.name.now l c.args.touches.now c.look_at_root.new.touches _ heavy (sharded-apart g.S.X.BlockHash.block32 g.N.NameHash.name64 g.met.N.NameHash.fits c.args.p.now meta l c.args.root.now is heavy) c.look_at_root.ensures.touches
    (c.remove_sharded.ensures.touches (g.S.Store.seen c.args.store.now) l c.in_ok-found.ensures.found (stay-read g.S.X.BlockHash.block32 (record { size = g.met.S.X.BlockHash.size; are_bytes = g.met.S.X.BlockHash.are_bytes }) g.N.NameHash.name64 c.args.p.now meta c.args.root.now l is (g.S.Store.seen c.args.store.now) (g.S.Store.seen c.look_at_root.new.store) _ _ c.in-Sharded.is c.in_ok-found.ensures.looks c.look_at_root.ensures.reads.told stays.first
    (g.S.Store.seen c.remove_sharded.new.store) stays.last (record { faults = faults; clashes = clashes })))

pub returns-in-Basic-clause-blames : goal.returns-in-Basic-clause-blames
returns-in-Basic-clause-blames g c = blames-none g.S.X.BlockHash.block32 NoneIsBad c.args.root.now _ _ _ (λ bytes h. h) c.remove_basic.ensures.saves.cause

pub returns-in-Basic-clause-absent : goal.returns-in-Basic-clause-absent
returns-in-Basic-clause-absent g c = absent-here c.remove_basic.result c.args.touches.now c.look_at_root.new.touches c.remove_basic.new.touches c.look_at_root.ensures.touches c.remove_basic.ensures.absent

pub returns-in-Sharded-clause-absent : goal.returns-in-Sharded-clause-absent
returns-in-Sharded-clause-absent g c = absent-after c.remove_sharded.result c.args.touches.now c.look_at_root.new.touches c.remove_sharded.new.touches c.look_at_root.ensures.touches c.remove_sharded.ensures.absent

pub returns-in_err-found-clause-no_other : goal.returns-in_err-found-clause-no_other
returns-in_err-found-clause-no_other g c = λ meta l is stays can. SavesAmong-same g.S.X.BlockHash.block32 (removal_blocks g.S.X.BlockHash.block32 g.N.NameHash.name64 c.args.p.now meta c.args.name.now l) (g.S.Store.seen c.args.store.now).told (g.S.Store.seen c.look_at_root.new.store).told c.look_at_root.ensures.reads.told

pub returns-in-Basic-clause-no_other : goal.returns-in-Basic-clause-no_other
returns-in-Basic-clause-no_other g c = λ meta l is stays can.
    let node = entries-basic g.S.X.BlockHash.block32 (record { size = g.met.S.X.BlockHash.size; are_bytes = g.met.S.X.BlockHash.are_bytes }) g.N.NameHash.name64 c.args.p.now meta c.args.root.now l is _ _ _ _ c.in-Basic.is c.in_ok-found.ensures.looks stays.first in
    basic-removal g.S.X.BlockHash.block32 g.N.NameHash.name64 c.args.p.now meta c.args.name.now l (g.S.Store.seen c.args.store.now).told (g.S.Store.seen c.remove_basic.new.store).told (basic-light g.S.X.BlockHash.block32 (record { size = g.met.S.X.BlockHash.size; are_bytes = g.met.S.X.BlockHash.are_bytes }) g.N.NameHash.name64 c.args.p.now meta c.args.root.now l is _ _ _ _ c.in-Basic.is c.in_ok-found.ensures.looks stays.first)
    (subst (λ (t : Told). SavesAmong g.S.X.BlockHash.block32 (dir_held g.S.X.BlockHash.block32 meta (without c.args.name.now l) ∷ []) t (g.S.Store.seen c.remove_basic.new.store).told) c.look_at_root.ensures.reads.told
    (subst (λ (n : DirNode). SavesAmong g.S.X.BlockHash.block32 (dir_held g.S.X.BlockHash.block32 n.meta (without c.args.name.now n.pairs) ∷ []) (g.S.Store.seen c.look_at_root.new.store).told (g.S.Store.seen c.remove_basic.new.store).told) node c.remove_basic.ensures.no_other))

pub returns-in-Sharded-clause-no_other : goal.returns-in-Sharded-clause-no_other
returns-in-Sharded-clause-no_other g c = λ meta l is stays can.
    sharded-removal g.S.X.BlockHash.block32 g.N.NameHash.name64 c.args.p.now meta c.args.name.now l (g.S.Store.seen c.args.store.now).told (g.S.Store.seen c.remove_sharded.new.store).told
    (in_shards g.S.X.BlockHash.block32 (record { size = g.met.S.X.BlockHash.size; are_bytes = g.met.S.X.BlockHash.are_bytes }) g.N.NameHash.name64 c.args.p.now meta c.args.root.now l is (g.S.Store.seen c.args.store.now) (g.S.Store.seen c.look_at_root.new.store) _ _ c.in-Sharded.is c.in_ok-found.ensures.looks c.look_at_root.ensures.reads.told stays.first)
    (removal-there g.S.X.BlockHash.block32 (record { size = g.met.S.X.BlockHash.size; are_bytes = g.met.S.X.BlockHash.are_bytes }) g.N.NameHash.name64 c.args.p.now meta c.args.root.now l is (g.S.Store.seen c.args.store.now) (g.S.Store.seen c.look_at_root.new.store) _ _ c.in-Sharded.is c.in_ok-found.ensures.looks c.look_at_root.ensures.reads.told stays.first c.args.name.now (g.S.Store.seen c.remove_sharded.new.store).told (λ k. c.remove_sharded.ensures.no_other (g.S.Store.seen c.args.store.now) k c.in_ok-found.ensures.found) stays.last can)

pub returns-in-Sharded-clause-made : goal.returns-in-Sharded-clause-made
returns-in-Sharded-clause-made g c = (c.remove_sharded.ensures.takes (g.S.Store.seen c.args.store.now) c.in_ok-found.ensures.found).made

pub returns-in-Sharded-clause-none : goal.returns-in-Sharded-clause-none
returns-in-Sharded-clause-none g c = (c.remove_sharded.ensures.takes (g.S.Store.seen c.args.store.now) c.in_ok-found.ensures.found).none

pub returns-in-Sharded-clause-cause : goal.returns-in-Sharded-clause-cause
returns-in-Sharded-clause-cause g c = (c.remove_sharded.ensures.saves (g.S.Store.seen c.args.store.now) c.in_ok-found.ensures.found).cause

pub returns-in-Sharded-clause-good : goal.returns-in-Sharded-clause-good
returns-in-Sharded-clause-good g c = (c.remove_sharded.ensures.saves (g.S.Store.seen c.args.store.now) c.in_ok-found.ensures.found).good

pub returns-in-Sharded-clause-saves : goal.returns-in-Sharded-clause-saves
returns-in-Sharded-clause-saves g c = (c.remove_sharded.ensures.saves (g.S.Store.seen c.args.store.now) c.in_ok-found.ensures.found).saves

pub returns-in-Sharded-clause-blames : goal.returns-in-Sharded-clause-blames
returns-in-Sharded-clause-blames g c = c.remove_sharded.ensures.blames (g.S.Store.seen c.args.store.now) c.in_ok-found.ensures.found
