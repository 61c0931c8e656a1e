use Rattle.std.proofs.Common.{[], Ok, ap, refl, subst, sym, ◌∙◌}
use Rattle.uf_store.proofs.Keeping.{KeepsGood-same}
use Rattle.uf_tree.specs.declared.nodes.Entry.{Entry}
use Rattle.uf_tree.specs.Tree.{Dir, Entries}
use Rattle.uf_tree.specs.TreePlan.{blocks}
use Rattle.uf_plain.specs.Moves.{allowed_move, lie_of, moved_along, told_of}
use Rattle.uf_plain.specs.Rules.{unless}
use Rattle.uf_mfs.specs.Moving.{GivesOver}
use Rattle.uf_mfs.specs.Standing.{IsAfter}
use Rattle.uf_mfs.proofs.After.{after-kept}
use Rattle.uf_mfs.proofs.Hinge.{are-good}
use Rattle.uf_store.proofs.Among.{SavesAmong-refl}
use Rattle.uf_plain.specs.Edits.{child}
use Rattle.uf_mfs.proofs.Saving.{saved-more}
use Rattle.uf_mfs.proofs.SavingMoves.{moved-among, replaced}
use Rattle.uf_mfs.proofs.placing.moved_to.Goals as goal

pub returns-in-Itself-clause-moves : goal.returns-in-Itself-clause-moves
returns-in-Itself-clause-moves g c = λ t found is es o there thing.
    let X = g.S.X.BlockHash.block32 in let N = g.N.NameHash.name64 in let p = c.args.tree.now.profile in let source = c.args.source.now in
    let a = g.S.Store.seen c.args.store.now in let root = c.args.tree.now.root in
    let P = (λ (fs : Entries) (e : Entry). IsAfter X N a.told a.told (blocks X N p (Dir es)) p e (Dir fs)) in
    let lie = ap (lie_of source) (sym is.names ∙ sym c.as_slice-names.ensures) ∙ sym c.lie_of.ensures ∙ c.in-Itself.is in
    subst (λ lie. GivesOver X N a.told p es P (allowed_move X N p (moved_along lie source found.0 found.1 t es)) (Ok root)) (sym lie)
    (subst (λ o. GivesOver X N a.told p es P (told_of [] (unless es o)) (Ok root)) (sym o.plan.planned)
    (record { plan = o.plan; after = after-kept X a.told a.told _ (are-good X N p (Dir es)) (KeepsGood-same X a.told a.told refl) o.stays }))

pub returns-in-Itself-clause-no_other : goal.returns-in-Itself-clause-no_other
returns-in-Itself-clause-no_other g c =
    λ t found is es lands plan h there thing. SavesAmong-refl g.S.X.BlockHash.block32 _ (g.S.Store.seen c.args.store.now).told

pub returns-in-Below-clause-no_other : goal.returns-in-Below-clause-no_other
returns-in-Below-clause-no_other g c =
    λ t found is es lands plan h there thing. SavesAmong-refl g.S.X.BlockHash.block32 _ (g.S.Store.seen c.args.store.now).told

pub returns-else-is_replaceable-clause-no_other : goal.returns-else-is_replaceable-clause-no_other
returns-else-is_replaceable-clause-no_other g c =
    λ t found is es lands plan h there thing. SavesAmong-refl g.S.X.BlockHash.block32 _ (g.S.Store.seen c.args.store.now).told

pub returns-then-is_replaceable-clause-no_other : goal.returns-then-is_replaceable-clause-no_other
returns-then-is_replaceable-clause-no_other g c =
    λ t found is es lands plan h there thing.
    let X = g.S.X.BlockHash.block32 in let N = g.N.NameHash.name64 in let p = c.args.tree.now.profile in let source = c.args.source.now in
    let a = g.S.Store.seen c.args.store.now in let d = g.S.Store.seen c.shifted_root.new.store in
    let lie = ap (lie_of source) (sym is.names ∙ sym c.as_slice-names.ensures) ∙ sym c.lie_of.ensures ∙ c.in-Apart.is in
    saved-more X _ _ a.told d.told (moved-among X N p source t found es lie lands (λ led. replaced X N a.told p led t c.args.thing (child found.0.name found.1) c.args.target.now.there thing is.there (sym c.is_replaceable.ensures ∙ c.if-is_replaceable.true)))
    (c.shifted_root.ensures.no_other t found.0 (c.as_slice-names.ensures ∙ is.names) es tt plan h there thing)
