use Rattle.std.proofs.Common.{[], ◌+◌, List, subst, ℕ}
use Rattle.uf_tree.specs.declared.profile.Profile.{Profile}
use Rattle.uf_tree.specs.Metas.{none}
use Rattle.uf_tree.specs.Tree.{Dir, Nothing}
use Rattle.uf_tree.specs.TreePlan.{blocks}
use Rattle.uf_plain.specs.Edits.{removed}
use Rattle.uf_plain.specs.Rules.{allowed}
use Rattle.uf_mfs.specs.Answers.{EditsAfter}
use Rattle.uf_mfs.specs.Steps.{MovesTree}
use Rattle.uf_mfs.specs.Touches.{TouchesFolder, touch_bound, weighing_at, where_done}
use Rattle.uf_mfs.proofs.Removing.{removal-touches, removed-edits, removes-at}
use Rattle.uf_mfs.proofs.Settling.{moves-held, moves-tree}
use Rattle.uf_store.specs.Among.{SavesAmong}
use Rattle.uf_mfs.specs.Saving.{SavesFolder, removed_blocks, saved_for, taken_blocks}
use Rattle.uf_mfs.proofs.SavingActs.{for-edit}
use Rattle.uf_mfs.proofs.mfs.Mfs.rm.Goals as goal

pub returns-clause-lost : goal.returns-clause-lost
returns-clause-lost g c =
    let X = g.S.X.BlockHash.block32 in let N = g.N.NameHash.name64 in let p = c.args.self.now.profile in let names = c.as_slice-names.result.now in
    let a = g.S.Store.seen c.args.store.now in let b = g.S.Store.seen c.edited_root-edited.new.store in
    subst (λ (ns : List (List ℕ)). MovesTree X N a b [] c.args.self.now c.take_over.new.self ns (λ p es. removed c.args.recursive ns es) c.take_over.result) c.as_slice-names.ensures
    (moves-tree X N a b names c.args.self.now c.take_over.new.self (λ p es. removed c.args.recursive names es) c.edited_root-edited.result c.take_over.result c.take_over.ensures.settles
    (λ es o. removed-edits X N (record { size = g.met.S.X.BlockHash.size; are_bytes = g.met.S.X.BlockHash.are_bytes }) g.met.N.NameHash.fits p o.plan.profile a.told b.told _ c.args.recursive names es c.edited_root-edited.result o.plan.tree o.plan.planned
    (subst (λ w. EditsAfter X N a.told b.told (blocks X N p (Dir es)) p (allowed X N p w) c.edited_root-edited.result) (removes-at p c.args.recursive names es) (c.edited_root-edited.ensures.edits (Dir (Nothing none)) tt es o))))

pub returns-clause-answer : goal.returns-clause-answer
returns-clause-answer g c = λ p es s faults clashes.
    let X = g.S.X.BlockHash.block32 in let N = g.N.NameHash.name64 in
    moves-held X N (g.S.Store.seen c.args.store.now) (g.S.Store.seen c.edited_root-edited.new.store) c.args.path.now.names c.args.self.now c.take_over.new.self (λ p es. removed c.args.recursive c.args.path.now.names es) c.take_over.result c.edited_root-edited.ensures.saves.good
    (returns-clause-lost g c) p es s faults clashes

pub returns-clause-touches : goal.returns-clause-touches
returns-clause-touches g c = λ p same.
    let X = g.S.X.BlockHash.block32 in let N = g.N.NameHash.name64 in let root = c.args.self.now.root in
    let a = g.S.Store.seen c.args.store.now in let b = g.S.Store.seen c.edited_root-edited.new.store in
    let t0 = c.args.touches.now in let t1 = c.edited_root-edited.new.touches in
    subst (λ (q : Profile). TouchesFolder X N q a b [] root (λ es. touch_bound X N q c.args.path.now.names es (removed c.args.recursive c.args.path.now.names es) + where_done (removed c.args.recursive c.args.path.now.names es) (weighing_at X N q c.args.path.now.names es)) t0 t1) same
    (subst (λ (ns : List (List ℕ)). TouchesFolder X N c.args.self.now.profile a b [] root (λ es. touch_bound X N c.args.self.now.profile ns es (removed c.args.recursive ns es) + where_done (removed c.args.recursive ns es) (weighing_at X N c.args.self.now.profile ns es)) t0 t1) c.as_slice-names.ensures
    (removal-touches X N c.args.self.now.profile root c.args.recursive c.as_slice-names.result.now t0 t1 (c.edited_root-edited.ensures.touches (Dir (Nothing none)) (λ n. n) tt tt)))

pub returns-clause-no_other : goal.returns-clause-no_other
returns-clause-no_other g c =
    let X = g.S.X.BlockHash.block32 in let N = g.N.NameHash.name64 in let self = c.args.self.now in let q = self.profile in let names = c.as_slice-names.result.now in
    let a = g.S.Store.seen c.args.store.now in let b = g.S.Store.seen c.edited_root-edited.new.store in
    for-edit X N a b self (λ p es. removed_blocks X N p c.args.recursive c.args.path.now.names es)
    (subst (λ (ns : List (List ℕ)). SavesFolder X N a b q [] self.root (λ es. removed_blocks X N q c.args.recursive ns es)) c.as_slice-names.ensures (λ es plan h.
    subst (λ w. SavesAmong X (saved_for X N q (taken_blocks X N q names es) w) a.told b.told) (removes-at q c.args.recursive names es) (c.edited_root-edited.ensures.no_other (Dir (Nothing none)) tt es plan h)))
