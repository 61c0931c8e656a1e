use Rattle.std.proofs.Common.{◌≡◌, ◌∙◌, ap, arith, subst, sym, Err, Ok}
use Rattle.std.proofs.lemmas.Bool.{false≢true}
use Rattle.std.proofs.lemmas.Result.{err_from_is_err_and}
use Rattle.uf_fileedit.proofs.SameMeta.{meta-decides}
use Rattle.uf_store.specs.Keeping.{StaysAgreed}
use Rattle.uf_store.proofs.Calls.{calm-then, reads-saves, saves-saves}
use Rattle.uf_tree.specs.declared.meta.Meta.{Meta}
use Rattle.uf_tree.specs.Tree.{meta_of}
use Rattle.uf_tree.specs.TreePlan.{blocks}
use Rattle.uf_plain.specs.Metas.{meta_after, with_meta}
use Rattle.uf_mfs.specs.Moving.{entry_in}
use Rattle.uf_mfs.specs.Remade.{GivesRemade}
use Rattle.uf_mfs.specs.Standing.{IsAgreedThing}
use Rattle.uf_mfs.proofs.After.{loss-among}
use Rattle.uf_mfs.proofs.Filling.{stood-before}
use Rattle.uf_mfs.proofs.Needed.{root-of-among}
use Rattle.uf_mfs.proofs.Remade.{remade-same, with-own}
use Rattle.uf_mfs.proofs.Renewing.{lost-remade, stat-meta, stat-saves, thing-itself, unseen-one}
use Rattle.uf_store.specs.Among.{SavesAmong}
use Rattle.uf_store.proofs.Among.{SavesAmong-same, SavesAmong-trans}
use Rattle.uf_mfs.proofs.Saving.{calm-of, throughout-since}
use Rattle.uf_mfs.proofs.remaking.change_meta.Goals as goal

pub returns-in_err-stat-clause-gives : goal.returns-in_err-stat-clause-gives
returns-in_err-stat-clause-gives g c = λ t thing stays calm.
    let X = g.S.X.BlockHash.block32 in let N = g.N.NameHash.name64 in let p = c.args.p.now in let f = c.in_err-stat.field-0.0 in
    let a = g.S.Store.seen c.args.store.now in let b = g.S.Store.seen c.stat_of.new.store in
    let out = err_from_is_err_and c.from_residual.result c.from_residual.ensures.1 in
    rw (out.1, out.2) (lost-remade X N p a.told b.told (meta_after c.args.what (meta_of t)) t f
    (loss-among a.told _ _ f (root-of-among X N p t) (c.in_err-stat.ensures.stat p t thing calm.faults)))

pub returns-in_err-stat-clause-saves : goal.returns-in_err-stat-clause-saves
returns-in_err-stat-clause-saves g c = λ root required.
    let out = err_from_is_err_and c.from_residual.result c.from_residual.ensures.1 in
    rw (out.1, out.2) (stat-saves g.S.X.BlockHash.block32 g.N.NameHash.name64 c.args.p.now root (reads-saves c.in_err-stat.ensures.reads))

pub returns-then-eq-clause-gives : goal.returns-then-eq-clause-gives
returns-then-eq-clause-gives g c = λ t thing stays calm.
    let X = g.S.X.BlockHash.block32 in let N = g.N.NameHash.name64 in let p = c.args.p.now in let stat = c.in_ok-stat.stat in let meta = c.meta_after-meta.result in
    let a = g.S.Store.seen c.args.store.now in let what = c.args.what in
    let f = stat-meta X N p a.told t c.args.thing stat thing (c.in_ok-stat.ensures.stat p t thing calm.faults) in
    let is : meta ≡ meta_after what stat.meta = c.meta_after-meta.ensures.after ∙ ap (meta_after what) (c.good.ensures.same f.1) in
    let same : stat.meta ≡ meta = (meta-decides stat.meta meta).0 (sym c.eq.ensures ∙ c.if-eq.true) in
    let kept : meta_after what (meta_of t) ≡ meta_of t = ap (meta_after what) (sym f.0) ∙ sym is ∙ sym same ∙ f.0 in
    ap (λ (m : Meta). with_meta m t) kept ∙ with-own t

pub returns-then-eq-clause-saves : goal.returns-then-eq-clause-saves
returns-then-eq-clause-saves g c = λ root required.
    stat-saves g.S.X.BlockHash.block32 g.N.NameHash.name64 c.args.p.now root (reads-saves c.in_ok-stat.ensures.reads)

pub returns-in_err-new-clause-gives : goal.returns-in_err-new-clause-gives
returns-in_err-new-clause-gives g c = λ t thing stays calm.
    let X = g.S.X.BlockHash.block32 in let N = g.N.NameHash.name64 in let p = c.args.p.now in let stat = c.in_ok-stat.stat in let meta = c.meta_after-meta.result in
    let a = g.S.Store.seen c.args.store.now in let b = g.S.Store.seen c.stat_of.new.store in let d = g.S.Store.seen c.set_thing_meta.new.store in let what = c.args.what in
    let reads = c.in_ok-stat.ensures.reads in let s = c.in_err-new.field-0.0 in
    let after = c.in_err-new.ensures.saves (entry_in c.args.thing).cid (thing-itself X N p c.args.thing) in
    let out = err_from_is_err_and c.from_residual-in_err-new.result c.from_residual-in_err-new.ensures.1 in
    let f = stat-meta X N p a.told t c.args.thing stat thing (c.in_ok-stat.ensures.stat p t thing (stood-before X _ _ _ a b d (reads-saves reads) after calm.faults)) in
    let is : meta ≡ meta_after what (meta_of t) = c.meta_after-meta.ensures.after ∙ ap (meta_after what) (c.good.ensures.same f.1 ∙ f.0) in
    rw (out.1, out.2) (subst (λ (m : Meta). GivesRemade X N p a.told d.told m t (Err s)) is
    (subst (λ told. GivesRemade X N p told d.told meta t (Err s)) reads.told
    (c.in_err-new.ensures.gives t (subst (λ told. IsAgreedThing X N told p t c.args.thing) (sym reads.told) thing) (subst (λ told. StaysAgreed told d.told (blocks X N p t)) (sym reads.told) stays) (calm-then (reads-saves reads) calm))))

pub returns-in_err-new-clause-saves : goal.returns-in_err-new-clause-saves
returns-in_err-new-clause-saves g c = λ root required.
    let out = err_from_is_err_and c.from_residual-in_err-new.result c.from_residual-in_err-new.ensures.1 in
    rw (out.1, out.2) (saves-saves (reads-saves c.in_ok-stat.ensures.reads) (c.in_err-new.ensures.saves root required))

pub returns-in_err-new-clause-idle : goal.returns-in_err-new-clause-idle
returns-in_err-new-clause-idle g c = λ p t thing stood left.
    let X = g.S.X.BlockHash.block32 in let N = g.N.NameHash.name64 in let what = c.args.what in let stat = c.in_ok-stat.stat in let meta = c.meta_after-meta.result in
    let a = g.S.Store.seen c.args.store.now in let b = g.S.Store.seen c.stat_of.new.store in let d = g.S.Store.seen c.set_thing_meta.new.store in let reads = c.in_ok-stat.ensures.reads in
    let after = c.in_err-new.ensures.saves (entry_in c.args.thing).cid (thing-itself X N c.args.p.now c.args.thing) in
    let f = stat-meta X N p a.told t c.args.thing stat thing (c.in_ok-stat.ensures.stat p t thing (stood-before X _ _ _ a b d (reads-saves reads) after stood)) in
    let is : meta ≡ meta_after what (meta_of t) = c.meta_after-meta.ensures.after ∙ ap (meta_after what) (c.good.ensures.same f.1 ∙ f.0) in
    absurd (false≢true (sym c.if-eq.false ∙ c.eq.ensures ∙ (meta-decides stat.meta meta).1 (f.0 ∙ sym (remade-same what t left) ∙ sym is)))

pub returns-clause-gives : goal.returns-clause-gives
returns-clause-gives g c = λ t thing stays calm.
    let X = g.S.X.BlockHash.block32 in let N = g.N.NameHash.name64 in let p = c.args.p.now in let stat = c.in_ok-stat.stat in let meta = c.meta_after-meta.result in
    let a = g.S.Store.seen c.args.store.now in let b = g.S.Store.seen c.stat_of.new.store in let d = g.S.Store.seen c.set_thing_meta.new.store in let what = c.args.what in
    let reads = c.in_ok-stat.ensures.reads in let new = c.in_ok-new.new in
    let after = c.in_ok-new.ensures.saves (entry_in c.args.thing).cid (thing-itself X N p c.args.thing) in
    let f = stat-meta X N p a.told t c.args.thing stat thing (c.in_ok-stat.ensures.stat p t thing (stood-before X _ _ _ a b d (reads-saves reads) after calm.faults)) in
    let is : meta ≡ meta_after what (meta_of t) = c.meta_after-meta.ensures.after ∙ ap (meta_after what) (c.good.ensures.same f.1 ∙ f.0) in
    subst (λ (m : Meta). GivesRemade X N p a.told d.told m t (Ok new)) is
    (subst (λ told. GivesRemade X N p told d.told meta t (Ok new)) reads.told
    (c.in_ok-new.ensures.gives t (subst (λ told. IsAgreedThing X N told p t c.args.thing) (sym reads.told) thing) (subst (λ told. StaysAgreed told d.told (blocks X N p t)) (sym reads.told) stays) (calm-then (reads-saves reads) calm)))

pub returns-clause-saves : goal.returns-clause-saves
returns-clause-saves g c = λ root required. saves-saves (reads-saves c.in_ok-stat.ensures.reads) (c.in_ok-new.ensures.saves root required)

pub returns-clause-idle : goal.returns-clause-idle
returns-clause-idle g c = λ p t thing stood left.
    let X = g.S.X.BlockHash.block32 in let N = g.N.NameHash.name64 in let what = c.args.what in let stat = c.in_ok-stat.stat in let meta = c.meta_after-meta.result in
    let a = g.S.Store.seen c.args.store.now in let b = g.S.Store.seen c.stat_of.new.store in let d = g.S.Store.seen c.set_thing_meta.new.store in let reads = c.in_ok-stat.ensures.reads in
    let after = c.in_ok-new.ensures.saves (entry_in c.args.thing).cid (thing-itself X N c.args.p.now c.args.thing) in
    let f = stat-meta X N p a.told t c.args.thing stat thing (c.in_ok-stat.ensures.stat p t thing (stood-before X _ _ _ a b d (reads-saves reads) after stood)) in
    let is : meta ≡ meta_after what (meta_of t) = c.meta_after-meta.ensures.after ∙ ap (meta_after what) (c.good.ensures.same f.1 ∙ f.0) in
    absurd (false≢true (sym c.if-eq.false ∙ c.eq.ensures ∙ (meta-decides stat.meta meta).1 (f.0 ∙ sym (remade-same what t left) ∙ sym is)))

pub returns-in_err-new-clause-touches : goal.returns-in_err-new-clause-touches
returns-in_err-new-clause-touches g c = (let one = unseen-one c.args.thing in let t1 = c.in_ok-stat.ensures.touches in let t2 = c.in_err-new.ensures.touches in omega (arith, one, t1, t2))

pub returns-clause-touches : goal.returns-clause-touches
returns-clause-touches g c = (let one = unseen-one c.args.thing in let t1 = c.in_ok-stat.ensures.touches in let t2 = c.in_ok-new.ensures.touches in omega (arith, one, t1, t2))

pub returns-then-eq-clause-touches : goal.returns-then-eq-clause-touches
returns-then-eq-clause-touches g c = (let one = unseen-one c.args.thing in let t1 = c.in_ok-stat.ensures.touches in omega (arith, one, t1))

pub returns-in_err-stat-clause-touches : goal.returns-in_err-stat-clause-touches
returns-in_err-stat-clause-touches g c = (let one = unseen-one c.args.thing in let t1 = c.in_err-stat.ensures.touches in omega (arith, one, t1))

pub returns-in_err-stat-clause-no_other : goal.returns-in_err-stat-clause-no_other
returns-in_err-stat-clause-no_other g c =
    λ t thing h. SavesAmong-same g.S.X.BlockHash.block32 _ _ _ c.in_err-stat.ensures.reads.told

pub returns-then-eq-clause-no_other : goal.returns-then-eq-clause-no_other
returns-then-eq-clause-no_other g c =
    λ t thing h. SavesAmong-same g.S.X.BlockHash.block32 _ _ _ c.in_ok-stat.ensures.reads.told

pub returns-in_err-new-clause-no_other : goal.returns-in_err-new-clause-no_other
returns-in_err-new-clause-no_other g c =
    λ t thing h.
    let X = g.S.X.BlockHash.block32 in let N = g.N.NameHash.name64 in let p = c.args.p.now in let stat = c.in_ok-stat.stat in let meta = c.meta_after-meta.result in let what = c.args.what in
    let a = g.S.Store.seen c.args.store.now in let b = g.S.Store.seen c.stat_of.new.store in let d = g.S.Store.seen c.set_thing_meta.new.store in
    let reads = c.in_ok-stat.ensures.reads in
    let f = stat-meta X N p a.told t c.args.thing stat thing (c.in_ok-stat.ensures.stat p t thing (calm-of a b h.can reads.cause).faults) in
    let is : meta ≡ meta_after what (meta_of t) = c.meta_after-meta.ensures.after ∙ ap (meta_after what) (c.good.ensures.same f.1 ∙ f.0) in
    subst (λ (m : Meta). SavesAmong X (blocks X N p (with_meta m t)) a.told d.told) is
    (SavesAmong-trans X _ a.told b.told d.told (SavesAmong-same X _ a.told b.told reads.told)
    (c.in_err-new.ensures.no_other t (subst (λ told. IsAgreedThing X N told p t c.args.thing) (sym reads.told) thing) (throughout-since X N p a b d _ reads.told reads.cause h)))

pub returns-clause-no_other : goal.returns-clause-no_other
returns-clause-no_other g c =
    λ t thing h.
    let X = g.S.X.BlockHash.block32 in let N = g.N.NameHash.name64 in let p = c.args.p.now in let stat = c.in_ok-stat.stat in let meta = c.meta_after-meta.result in let what = c.args.what in
    let a = g.S.Store.seen c.args.store.now in let b = g.S.Store.seen c.stat_of.new.store in let d = g.S.Store.seen c.set_thing_meta.new.store in
    let reads = c.in_ok-stat.ensures.reads in
    let f = stat-meta X N p a.told t c.args.thing stat thing (c.in_ok-stat.ensures.stat p t thing (calm-of a b h.can reads.cause).faults) in
    let is : meta ≡ meta_after what (meta_of t) = c.meta_after-meta.ensures.after ∙ ap (meta_after what) (c.good.ensures.same f.1 ∙ f.0) in
    subst (λ (m : Meta). SavesAmong X (blocks X N p (with_meta m t)) a.told d.told) is
    (SavesAmong-trans X _ a.told b.told d.told (SavesAmong-same X _ a.told b.told reads.told)
    (c.in_ok-new.ensures.no_other t (subst (λ told. IsAgreedThing X N told p t c.args.thing) (sym reads.told) thing) (throughout-since X N p a b d _ reads.told reads.cause h)))
