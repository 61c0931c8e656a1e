use Rattle.uf_tree.specs.FilePlan.{leaf_held}
use Rattle.uf_store.proofs.Among.{SavesAmong-kept, SavesAmong-same}
use Rattle.uf_store.specs.Seen.{KeepsHeld}
use Rattle.uf_cid.specs.declared.cid.Cid.{Cid}
use Rattle.std.proofs.Common.{refl, subst, [], ◌∷◌}
use Rattle.uf_fileedit.proofs.leaves.save_leaf.Goals as goal

pub returns-in_err-save_under-clause-no_other : goal.returns-in_err-save_under-clause-no_other
returns-in_err-save_under-clause-no_other g c = SavesAmong-same g.S.X.BlockHash.block32 (leaf_held g.S.X.BlockHash.block32 c.args.bytes.now ∷ []) (g.S.Store.seen c.args.store.now).told (g.S.Store.seen c.save_under.new.store).told c.in_err-save_under.ensures.err

pub returns-clause-no_other : goal.returns-clause-no_other
returns-clause-no_other g c =
    SavesAmong-kept g.S.X.BlockHash.block32 (leaf_held g.S.X.BlockHash.block32 c.args.bytes.now) (g.S.Store.seen c.args.store.now) (g.S.Store.seen c.save_under.new.store) refl
    (subst (λ (cid : Cid). KeepsHeld g.S.X.BlockHash.block32 (cid, c.args.bytes.now) (g.S.Store.seen c.args.store.now) (g.S.Store.seen c.save_under.new.store)) c.of-cid.ensures c.in_ok-save_under.ensures.kept)
