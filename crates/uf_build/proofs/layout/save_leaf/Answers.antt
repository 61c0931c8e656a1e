use Rattle.std.proofs.Common.{◌+◌, ◌≤◌, List, ℕ, [], ◌∷◌, length, refl, ap, subst, arith}
use Rattle.std.proofs.lemmas.Result.{on_ok_weaker}
use Rattle.uf_cid.specs.declared.cid.Cid.{Cid}
use Rattle.uf_store.specs.Keeping.{Holds}
use Rattle.uf_store.specs.Seen.{KeepsHeld}
use Rattle.uf_store.specs.Among.{SavesAmong}
use Rattle.uf_store.proofs.Among.{SavesAmong-append, SavesAmong-kept, SavesAmong-same}
use Rattle.uf_tree.specs.FilePlan.{leaf_held, leaf_part}
use Rattle.uf_tree.specs.declared.nodes.Part.{Part}
use Rattle.uf_tree.proofs.Told.{kept}
use Rattle.uf_build.specs.Rows.{add_held, groups_in}
use Rattle.uf_build.proofs.Counting.{saved-add}
use Rattle.uf_build.proofs.Feeding.{Adds-add}
use Rattle.uf_build.proofs.layout.save_leaf.Goals as goal

pub returns-clause-adds : goal.returns-clause-adds
returns-clause-adds g c =
    on_ok_weaker c.add.result (λ h. Adds-add g.S.X.BlockHash.block32 c.args.profile (kept c.args.profile c.requires.profile).two c.args.piece.now _ (groups_in c.args.opened.now) (groups_in c.add.new.opened)
    (g.S.Store.seen c.args.store.now).told (g.S.Store.seen c.save_under.new.store).told (g.S.Store.seen c.add.new.store).told c.args.touches.now c.add.new.touches c.requires.opened
    (ap (λ (cid : Cid). record { entry = record { cid = cid; tsize = length c.args.piece.now }; size = length c.args.piece.now }) c.requires.cid)
    h.added c.save_under.ensures.good c.add.ensures.builds.good
    (subst (λ (cid : Cid). Holds (g.S.Store.seen c.save_under.new.store).told ((cid, c.args.piece.now) ∷ [])) c.requires.cid c.in_ok-save_under.ensures.held)
    h.held (omega (arith, h.count, c.save_under.ensures.touches))) c.add.ensures.added

pub returns-in_err-save_under-clause-most : goal.returns-in_err-save_under-clause-most
returns-in_err-save_under-clause-most g c =
    let hash : List ℕ → List ℕ = g.S.X.BlockHash.block32 in
    let more = saved-add hash c.args.profile.width (groups_in c.args.opened.now) (leaf_part hash c.args.piece.now) c.requires.opened.short in
    omega (arith, more, c.save_under.ensures.touches)

pub returns-clause-most : goal.returns-clause-most
returns-clause-most g c =
    let hash : List ℕ → List ℕ = g.S.X.BlockHash.block32 in
    let more = saved-add hash c.args.profile.width (groups_in c.args.opened.now) (leaf_part hash c.args.piece.now) c.requires.opened.short in
    let part = ap (λ (cid : Cid). record { entry = record { cid = cid; tsize = length c.args.piece.now }; size = length c.args.piece.now }) c.requires.cid in
    let nodes : c.add.new.touches ≤ c.save_under.new.touches + length (add_held hash c.args.profile.width (leaf_part hash c.args.piece.now) (groups_in c.args.opened.now)) =
    subst (λ (m : Part). c.add.new.touches ≤ c.save_under.new.touches + length (add_held hash c.args.profile.width m (groups_in c.args.opened.now))) part c.add.ensures.touches in
    omega (arith, more, nodes, c.save_under.ensures.touches)

pub returns-in_err-save_under-clause-no_other : goal.returns-in_err-save_under-clause-no_other
returns-in_err-save_under-clause-no_other g c =
    let hash : List ℕ → List ℕ = g.S.X.BlockHash.block32 in
    SavesAmong-same hash (leaf_held hash c.args.piece.now ∷ add_held hash c.args.profile.width (leaf_part hash c.args.piece.now) (groups_in c.args.opened.now))
    (g.S.Store.seen c.args.store.now).told (g.S.Store.seen c.save_under.new.store).told c.in_err-save_under.ensures.err

pub returns-clause-no_other : goal.returns-clause-no_other
returns-clause-no_other g c =
    let hash : List ℕ → List ℕ = g.S.X.BlockHash.block32 in
    let before = g.S.Store.seen c.args.store.now in
    let mid = g.S.Store.seen c.save_under.new.store in
    let now = g.S.Store.seen c.add.new.store in
    let kept = subst (λ (cid : Cid). KeepsHeld hash (cid, c.args.piece.now) before mid) c.requires.cid c.in_ok-save_under.ensures.kept in
    let part = ap (λ (cid : Cid). record { entry = record { cid = cid; tsize = length c.args.piece.now }; size = length c.args.piece.now }) c.requires.cid in
    let nodes = subst (λ (m : Part). SavesAmong hash (add_held hash c.args.profile.width m (groups_in c.args.opened.now)) mid.told now.told) part c.add.ensures.no_other in
    SavesAmong-append hash (leaf_held hash c.args.piece.now ∷ []) (add_held hash c.args.profile.width (leaf_part hash c.args.piece.now) (groups_in c.args.opened.now)) before.told mid.told now.told
    (SavesAmong-kept hash (leaf_held hash c.args.piece.now) before mid refl kept) nodes
