use Rattle.std.proofs.Common.{[], Err, Ok, ◌≤◌, ◌+◌, ◌*◌, length, arith, subst, sym, true}
use Rattle.uf_tree.specs.declared.nodes.Entry.{Entry}
use Rattle.uf_tree.specs.Metas.{none}
use Rattle.uf_tree.specs.Tree.{Dir, Entries, Nothing}
use Rattle.uf_mfs.proofs.Removing.{removed-gives}
use Rattle.uf_tree.specs.TreePlan.{blocks}
use Rattle.uf_store.specs.Lost.{IsLossOf}
use Rattle.uf_store.proofs.Calls.{saves-by, saves-saves}
use Rattle.uf_plain.specs.Edits.{removed}
use Rattle.uf_plain.specs.Moves.{allowed_move, edited_at, placed_at, put_over, shifted, told_of}
use Rattle.uf_plain.specs.Rules.{allowed}
use Rattle.uf_mfs.specs.Moving.{GivesOver, shift_crossings}
use Rattle.uf_mfs.specs.Standing.{IsAfter, IsPlanOf}
use Rattle.uf_mfs.proofs.Folders.{over-first}
use Rattle.uf_mfs.proofs.Shifting.{allowed-stop, shift-moves, shift-told, shift-touches, taken-crossed, thing-plan}
use Rattle.uf_mfs.proofs.Spots.{gives-stop, meets-gives, tells-gives, tells-saves}
use Rattle.std.proofs.Common.{Some}
use Rattle.uf_mfs.specs.Bad.{IsBadInTree}
use Rattle.uf_mfs.proofs.Judging.{bad-below}
use Rattle.uf_store.specs.Among.{SavesAmong}
use Rattle.uf_store.proofs.Among.{SavesAmong-trans}
use Rattle.uf_mfs.specs.Saving.{next_blocks, removed_blocks, saved_for, taken_blocks}
use Rattle.uf_mfs.proofs.After.{back-among, front-among}
use Rattle.uf_mfs.proofs.Removing.{removes-at}
use Rattle.uf_mfs.proofs.Saving.{saved-more, throughout-first}
use Rattle.uf_mfs.proofs.SavingMoves.{shift-saves}
use Rattle.uf_mfs.proofs.placing.shifted_root.Goals as goal

pub returns-in-Err-clause-moves : goal.returns-in-Err-clause-moves
returns-in-Err-clause-moves g c = λ t spot same es o there thing.
    let X = g.S.X.BlockHash.block32 in let N = g.N.NameHash.name64 in let p = c.args.tree.now.profile in let source = c.args.source.now in
    let a = g.S.Store.seen c.args.store.now in let b = g.S.Store.seen c.edited_root.new.store in
    let May = IsLossOf a.told (blocks X N p (Dir es)) in
    let P = (λ (fs : Entries) (e : Entry). IsAfter X N a.told b.told (blocks X N p (Dir es)) p e (Dir fs)) in
    allowed-stop X N p May P P (shifted source spot t es) c.fault_of.result
    (gives-stop May P P (told_of source (removed true source es)) (λ left. placed_at spot t left) c.fault_of.result
    (tells-gives May P P source (removed true source es) c.in-Err.stop c.fault_of.result tt c.fault_of.ensures ((removed-gives X N (record { size = g.met.S.X.BlockHash.size; are_bytes = g.met.S.X.BlockHash.are_bytes }) g.met.N.NameHash.fits p c.requires.mfs a (g.S.Store.seen c.edited_root.new.store) c.args.tree.now.root source (Err c.in-Err.stop) (c.in-Err.ensures.edits (Dir (Nothing none)) tt)) es o)))

pub returns-in-Err-put_root-clause-moves : goal.returns-in-Err-put_root-clause-moves
returns-in-Err-put_root-clause-moves g c = λ t spot same es o there thing.
    let X = g.S.X.BlockHash.block32 in let N = g.N.NameHash.name64 in let p = c.args.tree.now.profile in let source = c.args.source.now in let names = c.args.names.now in
    let a = g.S.Store.seen c.args.store.now in let d = g.S.Store.seen c.put_root.new.store in
    let May = IsLossOf a.told (blocks X N p (Dir es)) in
    let P = (λ (fs : Entries) (e : Entry). IsAfter X N a.told d.told (blocks X N p (Dir es)) p e (Dir fs)) in
    shift-moves X N p c.in-Ok.ensures.saves c.in-Err-put_root.ensures.saves (GivesOver X N a.told p es P (allowed_move X N p (shifted source spot t es)) (Err c.fault_of-in-Err-put_root.result))
    c.args.tree.now.root c.in-Ok.left source names t c.args.thing es (Err c.in-Err-put_root.stop) o there (thing-plan X N p a.told t c.args.thing thing) (removed-gives X N (record { size = g.met.S.X.BlockHash.size; are_bytes = g.met.S.X.BlockHash.are_bytes }) g.met.N.NameHash.fits p c.requires.mfs a (g.S.Store.seen c.edited_root.new.store) c.args.tree.now.root source (Ok c.in-Ok.left) (c.in-Ok.ensures.edits (Dir (Nothing none)) tt))
    (λ u plan. c.in-Err-put_root.ensures.edits u (subst (λ e. IsPlanOf X N p e u) (sym c.entry_of-entry.ensures) plan))
    (λ fs is over h. shift-told X N p May P source names spot t es fs (Err c.fault_of-in-Err-put_root.result) same is
    (tells-gives May P P names (allowed X N p (edited_at (put_over t) names fs)) c.in-Err-put_root.stop c.fault_of-in-Err-put_root.result tt c.fault_of-in-Err-put_root.ensures h))

pub returns-in-Err-put_root-clause-saves : goal.returns-in-Err-put_root-clause-saves
returns-in-Err-put_root-clause-saves g c =
    let X = g.S.X.BlockHash.block32 in let N = g.N.NameHash.name64 in let p = c.args.tree.now.profile in let root = c.args.tree.now.root.cid in let left = c.in-Ok.left.cid in
    tells-saves Entry Entry X (IsBadInTree X N (Some p) root) c.args.names.now c.in-Err-put_root.stop c.fault_of-in-Err-put_root.result _ _ c.fault_of-in-Err-put_root.ensures
    (saves-saves c.in-Ok.ensures.saves (saves-by (IsBadInTree X N (Some p) root) (bad-below X N (Some p) root left c.in-Ok.ensures.made) c.in-Err-put_root.ensures.saves))

pub returns-in-Ok-put_root-clause-moves : goal.returns-in-Ok-put_root-clause-moves
returns-in-Ok-put_root-clause-moves g c = λ t spot same es o there thing.
    let X = g.S.X.BlockHash.block32 in let N = g.N.NameHash.name64 in let p = c.args.tree.now.profile in let source = c.args.source.now in let names = c.args.names.now in
    let a = g.S.Store.seen c.args.store.now in let d = g.S.Store.seen c.put_root.new.store in
    let May = IsLossOf a.told (blocks X N p (Dir es)) in
    let P = (λ (fs : Entries) (e : Entry). IsAfter X N a.told d.told (blocks X N p (Dir es)) p e (Dir fs)) in
    shift-moves X N p c.in-Ok.ensures.saves c.in-Ok-put_root.ensures.saves (GivesOver X N a.told p es P (allowed_move X N p (shifted source spot t es)) (Ok c.in-Ok-put_root.root))
    c.args.tree.now.root c.in-Ok.left source names t c.args.thing es (Ok c.in-Ok-put_root.root) o there (thing-plan X N p a.told t c.args.thing thing) (removed-gives X N (record { size = g.met.S.X.BlockHash.size; are_bytes = g.met.S.X.BlockHash.are_bytes }) g.met.N.NameHash.fits p c.requires.mfs a (g.S.Store.seen c.edited_root.new.store) c.args.tree.now.root source (Ok c.in-Ok.left) (c.in-Ok.ensures.edits (Dir (Nothing none)) tt))
    (λ u plan. c.in-Ok-put_root.ensures.edits u (subst (λ e. IsPlanOf X N p e u) (sym c.entry_of-entry.ensures) plan))
    (λ fs is over h. shift-told X N p May P source names spot t es fs (Ok c.in-Ok-put_root.root) same is
    (meets-gives May P names (allowed X N p (edited_at (put_over t) names fs)) c.in-Ok-put_root.root h))

pub returns-in-Ok-put_root-clause-saves : goal.returns-in-Ok-put_root-clause-saves
returns-in-Ok-put_root-clause-saves g c =
    let X = g.S.X.BlockHash.block32 in let N = g.N.NameHash.name64 in let p = c.args.tree.now.profile in let root = c.args.tree.now.root.cid in let left = c.in-Ok.left.cid in
    record {
      saves = saves-saves c.in-Ok.ensures.saves (saves-by (IsBadInTree X N (Some p) root) (bad-below X N (Some p) root left c.in-Ok.ensures.made) c.in-Ok-put_root.ensures.saves);
      in_tree = tt;
    }

pub returns-in-Err-put_root-clause-touches : goal.returns-in-Err-put_root-clause-touches
returns-in-Err-put_root-clause-touches g c = λ t spot same es o there thing.
    let X = g.S.X.BlockHash.block32 in let N = g.N.NameHash.name64 in let p = c.args.tree.now.profile in let source = c.args.source.now in let names = c.args.names.now in
    let a = g.S.Store.seen c.args.store.now in let plan = thing-plan X N p a.told t c.args.thing thing in
    let first = taken-crossed X N p source es c.args.touches.now c.edited_root.new.touches (c.in-Ok.ensures.touches (Dir (Nothing none)) (λ n. n) tt tt es (over-first X N p c.in-Ok.ensures.saves c.in-Err-put_root.ensures.saves [] c.args.tree.now.root es o)) in
    shift-moves X N p c.in-Ok.ensures.saves c.in-Err-put_root.ensures.saves (c.put_root.new.touches ≤ c.args.touches.now + (40 * (length source + length names) + shift_crossings X N p source spot t es))
    c.args.tree.now.root c.in-Ok.left source names t c.args.thing es (Err c.in-Err-put_root.stop) o there plan (removed-gives X N (record { size = g.met.S.X.BlockHash.size; are_bytes = g.met.S.X.BlockHash.are_bytes }) g.met.N.NameHash.fits p c.requires.mfs a (g.S.Store.seen c.edited_root.new.store) c.args.tree.now.root source (Ok c.in-Ok.left) (c.in-Ok.ensures.edits (Dir (Nothing none)) tt))
    (λ u plan. c.in-Err-put_root.ensures.edits u (subst (λ e. IsPlanOf X N p e u) (sym c.entry_of-entry.ensures) plan))
    (λ fs is over h. shift-touches X N p source names spot t es fs c.args.touches.now c.edited_root.new.touches c.put_root.new.touches same is first
    (c.in-Err-put_root.ensures.touches t (subst (λ e. IsPlanOf X N p e t) (sym c.entry_of-entry.ensures) plan) fs over))

pub returns-in-Ok-put_root-clause-touches : goal.returns-in-Ok-put_root-clause-touches
returns-in-Ok-put_root-clause-touches g c = λ t spot same es o there thing.
    let X = g.S.X.BlockHash.block32 in let N = g.N.NameHash.name64 in let p = c.args.tree.now.profile in let source = c.args.source.now in let names = c.args.names.now in
    let a = g.S.Store.seen c.args.store.now in let plan = thing-plan X N p a.told t c.args.thing thing in
    let first = taken-crossed X N p source es c.args.touches.now c.edited_root.new.touches (c.in-Ok.ensures.touches (Dir (Nothing none)) (λ n. n) tt tt es (over-first X N p c.in-Ok.ensures.saves c.in-Ok-put_root.ensures.saves [] c.args.tree.now.root es o)) in
    shift-moves X N p c.in-Ok.ensures.saves c.in-Ok-put_root.ensures.saves (c.put_root.new.touches ≤ c.args.touches.now + (40 * (length source + length names) + shift_crossings X N p source spot t es))
    c.args.tree.now.root c.in-Ok.left source names t c.args.thing es (Ok c.in-Ok-put_root.root) o there plan (removed-gives X N (record { size = g.met.S.X.BlockHash.size; are_bytes = g.met.S.X.BlockHash.are_bytes }) g.met.N.NameHash.fits p c.requires.mfs a (g.S.Store.seen c.edited_root.new.store) c.args.tree.now.root source (Ok c.in-Ok.left) (c.in-Ok.ensures.edits (Dir (Nothing none)) tt))
    (λ u plan. c.in-Ok-put_root.ensures.edits u (subst (λ e. IsPlanOf X N p e u) (sym c.entry_of-entry.ensures) plan))
    (λ fs is over h. shift-touches X N p source names spot t es fs c.args.touches.now c.edited_root.new.touches c.put_root.new.touches same is first
    (c.in-Ok-put_root.ensures.touches t (subst (λ e. IsPlanOf X N p e t) (sym c.entry_of-entry.ensures) plan) fs over))

pub returns-in-Err-clause-saves : goal.returns-in-Err-clause-saves
returns-in-Err-clause-saves g c =
    let X = g.S.X.BlockHash.block32 in let N = g.N.NameHash.name64 in let p = c.args.tree.now.profile in
    tells-saves Entry Entry X (IsBadInTree X N (Some p) c.args.tree.now.root.cid) c.args.source.now c.in-Err.stop c.fault_of.result _ _ c.fault_of.ensures c.in-Err.ensures.saves

pub returns-in-Err-clause-touches : goal.returns-in-Err-clause-touches
returns-in-Err-clause-touches g c = λ t spot same es o there thing.
    let X = g.S.X.BlockHash.block32 in let N = g.N.NameHash.name64 in let p = c.args.tree.now.profile in let source = c.args.source.now in
    let first = taken-crossed X N p source es c.args.touches.now c.edited_root.new.touches (c.in-Err.ensures.touches (Dir (Nothing none)) (λ n. n) tt tt es o) in
    omega (arith, first)

pub returns-in-Err-clause-no_other : goal.returns-in-Err-clause-no_other
returns-in-Err-clause-no_other g c =
    λ t spot same es in_it plan h there thing.
    let X = g.S.X.BlockHash.block32 in let N = g.N.NameHash.name64 in let p = c.args.tree.now.profile in let source = c.args.source.now in let root = c.args.tree.now.root in
    let a = g.S.Store.seen c.args.store.now in let b = g.S.Store.seen c.edited_root.new.store in
    saved-more X _ _ a.told b.told (front-among (removed_blocks X N p true source es) (next_blocks X N p (shifted source spot t es)))
    (subst (λ w. SavesAmong X (saved_for X N p (taken_blocks X N p source es) w) a.told b.told) (removes-at p true source es) (c.in-Err.ensures.no_other (Dir (Nothing none)) tt es plan h))

pub returns-in-Err-put_root-clause-no_other : goal.returns-in-Err-put_root-clause-no_other
returns-in-Err-put_root-clause-no_other g c =
    λ t spot same es in_it plan h there thing.
    let X = g.S.X.BlockHash.block32 in let N = g.N.NameHash.name64 in let p = c.args.tree.now.profile in let source = c.args.source.now in let root = c.args.tree.now.root in
    let a = g.S.Store.seen c.args.store.now in let b = g.S.Store.seen c.edited_root.new.store in let d = g.S.Store.seen c.put_root.new.store in
    let before = c.in-Ok.ensures.saves in let after = c.in-Err-put_root.ensures.saves in
    SavesAmong-trans X _ a.told b.told d.told
    (saved-more X _ _ a.told b.told (front-among (removed_blocks X N p true source es) (next_blocks X N p (shifted source spot t es)))
    (subst (λ w. SavesAmong X (saved_for X N p (taken_blocks X N p source es) w) a.told b.told) (removes-at p true source es) (c.in-Ok.ensures.no_other (Dir (Nothing none)) tt es plan (throughout-first X N p before after _ h))))
    (saved-more X _ _ b.told d.told (back-among (removed_blocks X N p true source es) (next_blocks X N p (shifted source spot t es)))
    (shift-saves X N p before after root c.in-Ok.left source c.args.names.now spot t c.args.thing es plan h there (thing-plan X N p a.told t c.args.thing thing) same
    (removed-gives X N (record { size = g.met.S.X.BlockHash.size; are_bytes = g.met.S.X.BlockHash.are_bytes }) g.met.N.NameHash.fits p c.requires.mfs a b root source (Ok c.in-Ok.left) (c.in-Ok.ensures.edits (Dir (Nothing none)) tt))
    (λ u put. c.in-Err-put_root.ensures.no_other u (subst (λ e. IsPlanOf X N p e u) (sym c.entry_of-entry.ensures) put))))

pub returns-in-Ok-put_root-clause-no_other : goal.returns-in-Ok-put_root-clause-no_other
returns-in-Ok-put_root-clause-no_other g c =
    λ t spot same es in_it plan h there thing.
    let X = g.S.X.BlockHash.block32 in let N = g.N.NameHash.name64 in let p = c.args.tree.now.profile in let source = c.args.source.now in let root = c.args.tree.now.root in
    let a = g.S.Store.seen c.args.store.now in let b = g.S.Store.seen c.edited_root.new.store in let d = g.S.Store.seen c.put_root.new.store in
    let before = c.in-Ok.ensures.saves in let after = c.in-Ok-put_root.ensures.saves in
    SavesAmong-trans X _ a.told b.told d.told
    (saved-more X _ _ a.told b.told (front-among (removed_blocks X N p true source es) (next_blocks X N p (shifted source spot t es)))
    (subst (λ w. SavesAmong X (saved_for X N p (taken_blocks X N p source es) w) a.told b.told) (removes-at p true source es) (c.in-Ok.ensures.no_other (Dir (Nothing none)) tt es plan (throughout-first X N p before after _ h))))
    (saved-more X _ _ b.told d.told (back-among (removed_blocks X N p true source es) (next_blocks X N p (shifted source spot t es)))
    (shift-saves X N p before after root c.in-Ok.left source c.args.names.now spot t c.args.thing es plan h there (thing-plan X N p a.told t c.args.thing thing) same
    (removed-gives X N (record { size = g.met.S.X.BlockHash.size; are_bytes = g.met.S.X.BlockHash.are_bytes }) g.met.N.NameHash.fits p c.requires.mfs a b root source (Ok c.in-Ok.left) (c.in-Ok.ensures.edits (Dir (Nothing none)) tt))
    (λ u put. c.in-Ok-put_root.ensures.no_other u (subst (λ e. IsPlanOf X N p e u) (sym c.entry_of-entry.ensures) put))))
