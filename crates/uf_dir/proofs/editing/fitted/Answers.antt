use Rattle.std.proofs.Common.{ap, refl, sym, ◌∙◌}
use Rattle.uf_tree.specs.DirPlan.{is_sharded}
use Rattle.uf_dir.proofs.Changing.{saved-fits}
use Rattle.uf_store.proofs.Among.{SavesAmong-same}
use Rattle.uf_dir.specs.Planned.{own_blocks}
use Rattle.uf_dir.proofs.Saving.{light-saves}
use Rattle.uf_dir.proofs.editing.fitted.Goals as goal

pub returns-clause-fits : goal.returns-clause-fits
returns-clause-fits g c = λ N. saved-fits g.S.X.BlockHash.block32 c.args.p.now c.args.meta.now c.args.entry c.args.pairs.now N c.save_basic.result _ (g.S.Store.seen c.save_basic.new.store).told
    (sym (c.needs_shards.ensures ∙ ap (is_sharded c.args.p.now) c.as_slice.ensures) ∙ c.if-needs_shards.false) c.save_basic.ensures.entry c.save_basic.ensures.held c.save_basic.ensures.fault

pub returns-then-needs_shards-clause-no_other : goal.returns-then-needs_shards-clause-no_other
returns-then-needs_shards-clause-no_other g c = λ N. SavesAmong-same g.S.X.BlockHash.block32 (own_blocks g.S.X.BlockHash.block32 N c.args.p.now c.args.meta.now c.args.pairs.now) (g.S.Store.seen c.args.store.now).told (g.S.Store.seen c.args.store.now).told refl

pub returns-clause-no_other : goal.returns-clause-no_other
returns-clause-no_other g c = λ N. light-saves g.S.X.BlockHash.block32 N c.args.p.now c.args.meta.now c.args.pairs.now (g.S.Store.seen c.args.store.now).told (g.S.Store.seen c.save_basic.new.store).told
    (sym (c.needs_shards.ensures ∙ ap (is_sharded c.args.p.now) c.as_slice.ensures) ∙ c.if-needs_shards.false) c.save_basic.ensures.no_other
