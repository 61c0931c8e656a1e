use Rattle.std.proofs.Common.{◌≡◌, ℕ, ◌<◌, List, length, refl, arith, sym, subst, inl, inr, false}
use Rattle.std.proofs.lemmas.Grind.{common_steps}
use Rattle.uf_cid.specs.Blocks.{Held}
use Rattle.uf_tree.specs.FilePlan.{root_held}
use Rattle.uf_tree.specs.Metas.{is_bare}
use Rattle.uf_store.specs.Among.{SavesAmong}
use Rattle.uf_store.proofs.Among.{SavesAmong-either}
use Rattle.uf_build.proofs.Up.{top-root}
use Rattle.uf_build.proofs.nodes.save_top.Goals as goal

pub returns-then-parts-gt1-clause-no_other : goal.returns-then-parts-gt1-clause-no_other
returns-then-parts-gt1-clause-no_other g c =
    let hash : List ℕ → List ℕ = g.S.X.BlockHash.block32 in
    let before = g.S.Store.seen c.args.store.now in
    let now = g.S.Store.seen c.save_root.new.store in
    let many : 1 < length c.args.parts.now = grind (arith, common_steps) in
    subst (λ (l : List Held). SavesAmong hash l before.told now.told) (sym (top-root hash c.args.meta.now c.args.parts.now (inl many)))
    (SavesAmong-either hash c.save_root.result (root_held hash c.args.meta.now c.args.parts.now) before now refl c.save_root.ensures.kept c.save_root.ensures.err)

pub returns-clause-no_other : goal.returns-clause-no_other
returns-clause-no_other g c =
    let hash : List ℕ → List ℕ = g.S.X.BlockHash.block32 in
    let before = g.S.Store.seen c.args.store.now in
    let now = g.S.Store.seen c.save_root-2.new.store in
    let bare : is_bare c.args.meta.now ≡ false = grind (arith, common_steps) in
    subst (λ (l : List Held). SavesAmong hash l before.told now.told) (sym (top-root hash c.args.meta.now c.args.parts.now (inr (c.requires.some, bare))))
    (SavesAmong-either hash c.save_root-2.result (root_held hash c.args.meta.now c.args.parts.now) before now refl c.save_root-2.ensures.kept c.save_root-2.ensures.err)
