use Rattle.std.proofs.Common.{[], ◌++◌, ◌∙◌, ◌∷◌, List, ap, subst, ℕ}
use Rattle.uf_plain.specs.Moves.{edited_at, put_over, spot_names}
use Rattle.uf_tree.specs.Tree.{Dir}
use Rattle.uf_plain.specs.Rules.{allowed}
use Rattle.uf_mfs.specs.Answers.{MovesTo}
use Rattle.uf_mfs.specs.Missing.{MissesOnly, put_needs}
use Rattle.uf_mfs.specs.Steps.{stop_fault}
use Rattle.uf_mfs.proofs.Missing.{settled-misses}
use Rattle.uf_mfs.proofs.Settling.{moves-held-with}
use Rattle.uf_store.specs.Among.{SavesAmong}
use Rattle.uf_store.proofs.Among.{SavesAmong-refl}
use Rattle.uf_tree.specs.declared.profile.Profile.{Profile}
use Rattle.uf_tree.specs.TreePlan.{blocks}
use Rattle.uf_mfs.specs.Saving.{AgreesThroughout, next_blocks}
use Rattle.uf_mfs.specs.Standing.{IsPlanOf}
use Rattle.uf_mfs.proofs.mfs.Mfs.place.Goals as goal

pub returns-clause-answer : goal.returns-clause-answer
returns-clause-answer g c = λ t p es i s faults clashes.
    let X = g.S.X.BlockHash.block32 in let N = g.N.NameHash.name64 in let now = (g.S.Store.seen c.put_root-edited.new.store).told in
    let names = c.as_slice-names.ensures ∙ c.in_ok-list.ensures ∙ ap (λ (ns : List (List ℕ)). ns ++ c.args.spot.now.name ∷ []) c.as_slice.ensures in
    subst (λ (ns : List (List ℕ)). MovesTo X N now p ns c.take_over.new.self (allowed X N p (edited_at (put_over t) ns es)) c.take_over.result) names
    (moves-held-with X N (g.S.Store.seen c.args.store.now) (g.S.Store.seen c.put_root-edited.new.store) c.as_slice-names.result.now c.args.self.now c.take_over.new.self c.args.entry.now t (edited_at (put_over t) c.as_slice-names.result.now)
    c.put_root-edited.result c.take_over.result c.put_root-edited.ensures.saves.good c.take_over.ensures.settles (c.put_root-edited.ensures.edits t) p es i s faults clashes)

pub returns-clause-missing : goal.returns-clause-missing
returns-clause-missing g c = λ es o.
    let X = g.S.X.BlockHash.block32 in let N = g.N.NameHash.name64 in let p = c.args.self.now.profile in let told = (g.S.Store.seen c.args.store.now).told in
    let names = c.as_slice-names.ensures ∙ c.in_ok-list.ensures ∙ ap (λ (ns : List (List ℕ)). ns ++ c.args.spot.now.name ∷ []) c.as_slice.ensures in
    settled-misses told (put_needs X N p (spot_names c.args.spot.now) (Dir es)) c.as_slice-names.result.now c.put_root-edited.result c.args.self.now c.take_over.new.self c.take_over.result c.take_over.ensures.settles
    (subst (λ (ns : List (List ℕ)). MissesOnly told (put_needs X N p ns (Dir es)) (stop_fault c.put_root-edited.result)) names (c.put_root-edited.ensures.missing es o))

pub returns-in_err-list-clause-no_other : goal.returns-in_err-list-clause-no_other
returns-in_err-list-clause-no_other g c =
    λ p t es new s h. SavesAmong-refl g.S.X.BlockHash.block32 _ (g.S.Store.seen c.args.store.now).told

pub returns-clause-no_other : goal.returns-clause-no_other
returns-clause-no_other g c =
    λ p t es new s h.
    let X = g.S.X.BlockHash.block32 in let N = g.N.NameHash.name64 in let self = c.args.self.now in let e = c.args.entry.now in
    let a = g.S.Store.seen c.args.store.now in let b = g.S.Store.seen c.put_root-edited.new.store in
    let names = c.as_slice-names.ensures ∙ c.in_ok-list.ensures ∙ ap (λ (ns : List (List ℕ)). ns ++ c.args.spot.now.name ∷ []) c.as_slice.ensures in
    subst (λ (ns : List (List ℕ)). SavesAmong X (next_blocks X N p (edited_at (put_over t) ns es)) a.told b.told) names
    (subst (λ (q : Profile). IsPlanOf X N q e t → IsPlanOf X N q self.root (Dir es) → AgreesThroughout a b (blocks X N q t ++ blocks X N q (Dir es))
    → SavesAmong X (next_blocks X N q (edited_at (put_over t) c.as_slice-names.result.now es)) a.told b.told) s.profile_is
    (λ new plan h. c.put_root-edited.ensures.no_other t new es plan h) new s.root.plan h)
