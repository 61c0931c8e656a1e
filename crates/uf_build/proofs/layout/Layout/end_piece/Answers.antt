use Rattle.std.proofs.Common.{◌≡◌, ◌+◌, ◌≤◌, ℕ, List, ◌∷◌, refl, arith, subst}
use Rattle.std.proofs.lemmas.Grind.{common_steps}
use Rattle.uf_tree.specs.FilePlan.{leaf_held, leaf_part}
use Rattle.uf_store.specs.Among.{SavesAmong}
use Rattle.uf_build.specs.Rows.{add_held, add_row, groups_in, saved_all}
use Rattle.uf_build.proofs.layout.Layout.end_piece.Goals as goal

pub returns-in_err-save_leaf-clause-within : goal.returns-in_err-save_leaf-clause-within
returns-in_err-save_leaf-clause-within g c =
    let hash : List ℕ → List ℕ = g.S.X.BlockHash.block32 in
    let w = c.args.self.now.profile.width in
    let rows = groups_in c.args.self.now.opened in
    let before = g.S.Store.seen c.args.store.now in
    let now = g.S.Store.seen c.save_leaf.new.store in
    let piece : c.as_slice-2.result.now ≡ c.args.self.now.begun.items = grind (arith, common_steps) in
    record {
      same_profile = refl;
      most = subst (λ (l : List ℕ). c.save_leaf.new.touches + saved_all w rows ≤ c.args.touches.now + saved_all w (add_row hash w (leaf_part hash l) rows)) piece c.save_leaf.ensures.most;
      no_other = subst (λ (l : List ℕ). SavesAmong hash (leaf_held hash l ∷ add_held hash w (leaf_part hash l) rows) before.told now.told) piece c.save_leaf.ensures.no_other;
    }

pub returns-clause-within : goal.returns-clause-within
returns-clause-within g c =
    let hash : List ℕ → List ℕ = g.S.X.BlockHash.block32 in
    let w = c.args.self.now.profile.width in
    let rows = groups_in c.args.self.now.opened in
    let before = g.S.Store.seen c.args.store.now in
    let now = g.S.Store.seen c.save_leaf.new.store in
    let piece : c.as_slice-2.result.now ≡ c.args.self.now.begun.items = grind (arith, common_steps) in
    record {
      same_profile = refl;
      most = subst (λ (l : List ℕ). c.save_leaf.new.touches + saved_all w rows ≤ c.args.touches.now + saved_all w (add_row hash w (leaf_part hash l) rows)) piece c.save_leaf.ensures.most;
      no_other = subst (λ (l : List ℕ). SavesAmong hash (leaf_held hash l ∷ add_held hash w (leaf_part hash l) rows) before.told now.told) piece c.save_leaf.ensures.no_other;
    }
