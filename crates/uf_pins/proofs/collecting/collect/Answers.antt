use Rattle.std.proofs.Common.{Err, refl, ap, ◌∙◌}
use Rattle.std.proofs.lemmas.Result.{err_from_is_err_and}
use Rattle.uf_store.specs.Contents.{changed, with_sync}
use Rattle.uf_pins.specs.Collecting.{CollectsAll}
use Rattle.uf_pins.proofs.Collected.{keeps-drops, keeps-fails, keeps-none, keeps-same, note-stops, reach-stops, sweep-drops, sweep-fails, sweep-none, sync-stops}
use Rattle.uf_pins.proofs.Touched.{each-kept}
use Rattle.uf_pins.proofs.collecting.collect.Goals as goal

pub returns-in_err-pins-clause-collected : goal.returns-in_err-pins-clause-collected
returns-in_err-pins-clause-collected g c t is =
    let out = err_from_is_err_and c.from_residual.result c.from_residual.ensures.1 in
    let h : CollectsAll t c.args.most c.args.roots.now (Err c.in_err-pins.field-0.0) (g.S.Store.seen c.list_pins.new.store).told =
    note-stops t c.args.most c.args.roots.now _ c.in_err-pins.field-0.0 (c.in_err-pins.ensures.pins t is) (c.in_err-pins.ensures.reads.told ∙ is) in
    rw (out.1, out.2) h

pub returns-in_err-pins-clause-kept : goal.returns-in_err-pins-clause-kept
returns-in_err-pins-clause-kept g c t is = keeps-same t c.args.most c.args.roots.now _ (c.in_err-pins.ensures.reads.told ∙ is)

pub returns-in_err-kept-clause-collected : goal.returns-in_err-kept-clause-collected
returns-in_err-kept-clause-collected g c t is =
    let a = c.in_ok-pins.ensures.reads.told ∙ is in
    let out = err_from_is_err_and c.from_residual-in_err-kept.result c.from_residual-in_err-kept.ensures.1 in
    let h : CollectsAll t c.args.most c.args.roots.now (Err c.in_err-kept.field-0.0) (g.S.Store.seen c.reach_all.new.store).told =
    reach-stops t c.args.most c.args.roots.now _ c.in_ok-pins.pins (c.in_ok-pins.ensures.pins t is) c.in_err-kept.field-0.0 (c.in_err-kept.ensures.reached t a) (c.in_err-kept.ensures.reads.told ∙ a) in
    rw (out.1, out.2) h

pub returns-in_err-kept-clause-kept : goal.returns-in_err-kept-clause-kept
returns-in_err-kept-clause-kept g c t is = keeps-same t c.args.most c.args.roots.now _ (c.in_err-kept.ensures.reads.told ∙ c.in_ok-pins.ensures.reads.told ∙ is)

pub returns-in_err-kept-clause-each : goal.returns-in_err-kept-clause-each
returns-in_err-kept-clause-each g c t pins is listed =
    let a = c.in_ok-pins.ensures.reads.told ∙ is in
    each-kept t c.args.most c.args.roots.now c.in_ok-pins.pins pins _ _ (c.in_ok-pins.ensures.pins t is) listed (c.in_err-kept.ensures.each t a)

pub returns-in_err-sync-clause-collected : goal.returns-in_err-sync-clause-collected
returns-in_err-sync-clause-collected g c t is =
    let b = c.in_ok-kept.ensures.reads.told ∙ c.in_ok-pins.ensures.reads.told ∙ is in
    let out = err_from_is_err_and c.from_residual-in_err-sync.result c.from_residual-in_err-sync.ensures.1 in
    let h : CollectsAll t c.args.most c.args.roots.now (Err c.in_err-sync.field-0.0) (g.S.Store.seen c.sync.new.store).told =
    sync-stops t c.args.most c.args.roots.now _ c.in_err-sync.field-0.0 c.in_err-sync.ensures.fault (c.in_err-sync.ensures.err ∙ b) in
    rw (out.1, out.2) h

pub returns-in_err-sync-clause-kept : goal.returns-in_err-sync-clause-kept
returns-in_err-sync-clause-kept g c t is = keeps-same t c.args.most c.args.roots.now _ (c.in_err-sync.ensures.err ∙ c.in_ok-kept.ensures.reads.told ∙ c.in_ok-pins.ensures.reads.told ∙ is)

pub returns-in_err-sync-clause-each : goal.returns-in_err-sync-clause-each
returns-in_err-sync-clause-each g c t pins is listed =
    let a = c.in_ok-pins.ensures.reads.told ∙ is in
    each-kept t c.args.most c.args.roots.now c.in_ok-pins.pins pins _ _ (c.in_ok-pins.ensures.pins t is) listed (c.in_ok-kept.ensures.each t a)

pub returns-in-Done-clause-collected : goal.returns-in-Done-clause-collected
returns-in-Done-clause-collected g c t is =
    let a = c.in_ok-pins.ensures.reads.told ∙ is in
    let b = c.in_ok-kept.ensures.reads.told ∙ a in
    sweep-drops t c.args.most c.args.roots.now _ c.in_ok-pins.pins c.in_ok-kept.kept (c.in_ok-pins.ensures.pins t is) (c.in_ok-kept.ensures.reached t a) _ _ (c.in_ok-sync.ensures.ok ∙ ap (changed with_sync) b) refl _ c.in-Done.ensures.swept

pub returns-in-Done-clause-kept : goal.returns-in-Done-clause-kept
returns-in-Done-clause-kept g c t is =
    let a = c.in_ok-pins.ensures.reads.told ∙ is in
    let b = c.in_ok-kept.ensures.reads.told ∙ a in
    keeps-drops t c.args.most c.args.roots.now _ c.in_ok-pins.pins c.in_ok-kept.kept (c.in_ok-pins.ensures.pins t is) (c.in_ok-kept.ensures.reached t a) _ _ (c.in_ok-sync.ensures.ok ∙ ap (changed with_sync) b) refl _ c.in-Done.ensures.swept

pub returns-in-Done-clause-each : goal.returns-in-Done-clause-each
returns-in-Done-clause-each g c t pins is listed =
    let a = c.in_ok-pins.ensures.reads.told ∙ is in
    each-kept t c.args.most c.args.roots.now c.in_ok-pins.pins pins _ _ (c.in_ok-pins.ensures.pins t is) listed (c.in_ok-kept.ensures.each t a)

pub returns-in-Failed-clause-collected : goal.returns-in-Failed-clause-collected
returns-in-Failed-clause-collected g c t is =
    let a = c.in_ok-pins.ensures.reads.told ∙ is in
    let b = c.in_ok-kept.ensures.reads.told ∙ a in
    sweep-fails t c.args.most c.args.roots.now _ c.in_ok-pins.pins c.in_ok-kept.kept (c.in_ok-pins.ensures.pins t is) (c.in_ok-kept.ensures.reached t a) _ _ (c.in_ok-sync.ensures.ok ∙ ap (changed with_sync) b) refl c.in-Failed.ensures.swept

pub returns-in-Failed-clause-kept : goal.returns-in-Failed-clause-kept
returns-in-Failed-clause-kept g c t is =
    let a = c.in_ok-pins.ensures.reads.told ∙ is in
    let b = c.in_ok-kept.ensures.reads.told ∙ a in
    keeps-fails t c.args.most c.args.roots.now _ c.in_ok-pins.pins c.in_ok-kept.kept (c.in_ok-pins.ensures.pins t is) (c.in_ok-kept.ensures.reached t a) _ _ (c.in_ok-sync.ensures.ok ∙ ap (changed with_sync) b) refl c.in-Failed.ensures.swept

pub returns-in-Failed-clause-each : goal.returns-in-Failed-clause-each
returns-in-Failed-clause-each g c t pins is listed =
    let a = c.in_ok-pins.ensures.reads.told ∙ is in
    each-kept t c.args.most c.args.roots.now c.in_ok-pins.pins pins _ _ (c.in_ok-pins.ensures.pins t is) listed (c.in_ok-kept.ensures.each t a)

pub returns-clause-collected : goal.returns-clause-collected
returns-clause-collected g c t is =
    let a = c.in_ok-pins.ensures.reads.told ∙ is in
    let b = c.in_ok-kept.ensures.reads.told ∙ a in
    sweep-none t c.args.most c.args.roots.now _ c.in_ok-pins.pins c.in_ok-kept.kept (c.in_ok-pins.ensures.pins t is) (c.in_ok-kept.ensures.reached t a) _ _ (c.in_ok-sync.ensures.ok ∙ ap (changed with_sync) b) refl c.in-Memory.ensures.swept

pub returns-clause-kept : goal.returns-clause-kept
returns-clause-kept g c t is =
    let a = c.in_ok-pins.ensures.reads.told ∙ is in
    let b = c.in_ok-kept.ensures.reads.told ∙ a in
    keeps-none t c.args.most c.args.roots.now _ c.in_ok-pins.pins c.in_ok-kept.kept (c.in_ok-pins.ensures.pins t is) (c.in_ok-kept.ensures.reached t a) _ _ (c.in_ok-sync.ensures.ok ∙ ap (changed with_sync) b) refl c.in-Memory.ensures.swept

pub returns-clause-each : goal.returns-clause-each
returns-clause-each g c t pins is listed =
    let a = c.in_ok-pins.ensures.reads.told ∙ is in
    each-kept t c.args.most c.args.roots.now c.in_ok-pins.pins pins _ _ (c.in_ok-pins.ensures.pins t is) listed (c.in_ok-kept.ensures.each t a)
