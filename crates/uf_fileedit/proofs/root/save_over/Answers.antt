use Rattle.uf_build.proofs.Up.{top-root}
use Rattle.uf_store.proofs.Among.{SavesAmong-either}
use Rattle.uf_store.specs.Among.{SavesAmong}
use Rattle.uf_tree.specs.Metas.{is_bare}
use Rattle.uf_tree.specs.FilePlan.{root_held}
use Rattle.uf_cid.specs.Blocks.{Held}
use Rattle.std.proofs.lemmas.Grind.{common_steps}
use Rattle.std.proofs.Common.{◌≡◌, ◌<◌, List, length, refl, arith, sym, subst, inl, inr, false}
use Rattle.uf_fileedit.proofs.root.save_over.Goals as goal

pub returns-then-parts-gt1-clause-no_other : goal.returns-then-parts-gt1-clause-no_other
returns-then-parts-gt1-clause-no_other g c =
    let many : 1 < length c.args.parts.now = grind (arith, common_steps) in
    subst (λ (l : List Held). SavesAmong g.S.X.BlockHash.block32 l (g.S.Store.seen c.args.store.now).told (g.S.Store.seen c.save_root.new.store).told) (sym (top-root g.S.X.BlockHash.block32 c.args.meta.now c.args.parts.now (inl many)))
    (SavesAmong-either g.S.X.BlockHash.block32 c.save_root.result (root_held g.S.X.BlockHash.block32 c.args.meta.now c.args.parts.now) (g.S.Store.seen c.args.store.now) (g.S.Store.seen c.save_root.new.store) refl c.save_root.ensures.kept c.save_root.ensures.err)

pub returns-clause-no_other : goal.returns-clause-no_other
returns-clause-no_other g c =
    let bare : is_bare c.args.meta.now ≡ false = grind (arith, common_steps) in
    subst (λ (l : List Held). SavesAmong g.S.X.BlockHash.block32 l (g.S.Store.seen c.args.store.now).told (g.S.Store.seen c.save_root-2.new.store).told) (sym (top-root g.S.X.BlockHash.block32 c.args.meta.now c.args.parts.now (inr (c.requires.some, bare))))
    (SavesAmong-either g.S.X.BlockHash.block32 c.save_root-2.result (root_held g.S.X.BlockHash.block32 c.args.meta.now c.args.parts.now) (g.S.Store.seen c.args.store.now) (g.S.Store.seen c.save_root-2.new.store) refl c.save_root-2.ensures.kept c.save_root-2.ensures.err)
