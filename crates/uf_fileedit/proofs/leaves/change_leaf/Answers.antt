use Rattle.uf_tree.specs.FilePlan.{leaf_held}
use Rattle.uf_store.proofs.Among.{SavesAmong-same}
use Rattle.uf_store.specs.Among.{SavesAmong}
use Rattle.std.proofs.Common.{◌∙◌, sym, subst, rules, List, [], ◌∷◌, ℕ}
use Rattle.uf_store.specs.Contents.{Told}
use Rattle.uf_store.specs.Keeping.{Agrees}
use Rattle.uf_fileedit.specs.Ways.{IsBadOld}
use Rattle.uf_fileedit.specs.Changes.{overlaid, old_blocks}
use Rattle.uf_fileedit.proofs.Steps.{leaf-saved, saved-lost, saved-shows}
use Rattle.std.proofs.Common.{arith}
use Rattle.uf_fileedit.proofs.Touching.{climbs-one}
use Rattle.uf_fileedit.proofs.leaves.change_leaf.Goals as goal

pub returns-clause-gives : goal.returns-clause-gives
returns-clause-gives g c = (
  (λ p b is before now.
      leaf-saved g.S.X.BlockHash.block32 p (g.S.Store.seen c.save_leaf.new.store).told (old_blocks g.S.X.BlockHash.block32 p 0 c.args.old b) c.as_slice.result.now (overlaid c.args.size b c.args.offset c.args.piece.now) c.save_leaf.result
      c.save_leaf.ensures.part c.save_leaf.ensures.held
      (c.as_slice.ensures.value ∙ c.in_ok-bytes.ensures.bytes p b is before (subst (λ (t : Told). Agrees t (old_blocks g.S.X.BlockHash.block32 p 0 c.args.old b)) (sym c.in_ok-bytes.ensures.reads.1) before))),
  (λ p b is before now stood clash.
      saved-lost g.S.X.BlockHash.block32 (g.S.Store.seen c.args.store.now) (g.S.Store.seen c.leaf_bytes.new.store) (g.S.Store.seen c.save_leaf.new.store) (c.in_ok-bytes.ensures.reads.0 p 0) (old_blocks g.S.X.BlockHash.block32 p 0 c.args.old b) c.save_leaf.result c.save_leaf.ensures.saves.0 c.save_leaf.ensures.saves.1 stood clash),
)

pub returns-clause-saves : goal.returns-clause-saves
returns-clause-saves g c = (
  (λ p rows. saved-shows g.S.X.BlockHash.block32 (g.S.Store.seen c.args.store.now) (g.S.Store.seen c.leaf_bytes.new.store) (g.S.Store.seen c.save_leaf.new.store) (c.in_ok-bytes.ensures.reads.0 p rows) (IsBadOld g.S.X.BlockHash.block32 p (g.S.Store.seen c.save_leaf.new.store).told rows 0 c.args.old) c.save_leaf.result c.save_leaf.ensures.saves.0),
  search rules,
)

pub returns-clause-rises : goal.returns-clause-rises
returns-clause-rises g c = climbs-one c.save_leaf.result c.args.touches.now c.save_leaf.new.touches (let r = c.in_ok-bytes.ensures.rises in let t = c.save_leaf.ensures.touches in omega arith)

pub returns-in_err-bytes-clause-no_other : goal.returns-in_err-bytes-clause-no_other
returns-in_err-bytes-clause-no_other g c = λ p b is before now.
    SavesAmong-same g.S.X.BlockHash.block32 (leaf_held g.S.X.BlockHash.block32 (overlaid c.args.size b c.args.offset c.args.piece.now) ∷ []) (g.S.Store.seen c.args.store.now).told (g.S.Store.seen c.leaf_bytes.new.store).told c.in_err-bytes.ensures.reads.1

pub returns-clause-no_other : goal.returns-clause-no_other
returns-clause-no_other g c = λ p b is before now.
    subst (λ (t : Told). SavesAmong g.S.X.BlockHash.block32 (leaf_held g.S.X.BlockHash.block32 (overlaid c.args.size b c.args.offset c.args.piece.now) ∷ []) t (g.S.Store.seen c.save_leaf.new.store).told) c.in_ok-bytes.ensures.reads.1
    (subst (λ (l : List ℕ). SavesAmong g.S.X.BlockHash.block32 (leaf_held g.S.X.BlockHash.block32 l ∷ []) (g.S.Store.seen c.leaf_bytes.new.store).told (g.S.Store.seen c.save_leaf.new.store).told)
    (c.as_slice.ensures.value ∙ c.in_ok-bytes.ensures.bytes p b is before (subst (λ (t : Told). Agrees t (old_blocks g.S.X.BlockHash.block32 p 0 c.args.old b)) (sym c.in_ok-bytes.ensures.reads.1) before)) c.save_leaf.ensures.no_other)
