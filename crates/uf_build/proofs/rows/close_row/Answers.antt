use Rattle.std.proofs.Common.{◌≡◌, ℕ, ◌+◌, Bool, true, false, List, [], ◌∷◌, ◌++◌, length, refl, sym, ◌∙◌, subst, Result, Ok, Err}
use Rattle.std.specs.Prelude.{IfOk, OnOk}
use Rattle.uf_tree.specs.FilePlan.{node_held, node_part, top_held, top_part}
use Rattle.uf_tree.specs.declared.meta.Meta.{Meta}
use Rattle.uf_tree.specs.declared.nodes.Part.{Part}
use Rattle.uf_store.specs.Among.{SavesAmong}
use Rattle.uf_store.specs.Contents.{Told}
use Rattle.uf_store.specs.Keeping.{Holds}
use Rattle.uf_store.specs.declared.store.StoreFault.{StoreFault}
use Rattle.uf_build.specs.Rows.{EndsRow, carry_held}
use Rattle.uf_store.proofs.Among.{SavesAmong-either}
use Rattle.uf_build.proofs.rows.close_row.Goals as goal

pub returns-clause-no_other : goal.returns-clause-no_other
returns-clause-no_other g c =
    let hash : List ℕ → List ℕ = g.S.X.BlockHash.block32 in
    let m = c.args.meta.now in
    let before = g.S.Store.seen c.args.store.now in
    let now = g.S.Store.seen c.save_node.new.store in
    let row : c.as_slice-2.result.now ≡ c.args.row ++ c.args.carried ∷ [] = c.as_slice-2.ensures ∙ c.in_ok-push.ensures.ok in
    let node = SavesAmong-either hash c.save_node.result (node_held hash c.as_slice-2.result.now) before now refl c.save_node.ensures.kept c.save_node.ensures.err in
    subst (λ (b : Bool). SavesAmong hash (carry_held hash m b (c.args.row ++ c.args.carried ∷ [])) before.told now.told) (sym c.if-is_top.false)
    (subst (λ (l : List Part). SavesAmong hash (node_held hash l ∷ []) before.told now.told) row node)

pub returns-then-is_top-clause-no_other : goal.returns-then-is_top-clause-no_other
returns-then-is_top-clause-no_other g c =
    let hash : List ℕ → List ℕ = g.S.X.BlockHash.block32 in
    let m = c.args.meta.now in
    let before = g.S.Store.seen c.args.store.now in
    let now = g.S.Store.seen c.save_top.new.store in
    let row : c.as_slice.result.now ≡ c.args.row ++ c.args.carried ∷ [] = c.as_slice.ensures ∙ c.in_ok-push.ensures.ok in
    subst (λ (b : Bool). SavesAmong hash (carry_held hash m b (c.args.row ++ c.args.carried ∷ [])) before.told now.told) (sym c.if-is_top.true)
    (subst (λ (l : List Part). SavesAmong hash (top_held hash m l) before.told now.told) row c.save_top.ensures.no_other)

node-ends : (hash : List ℕ → List ℕ) (m : Meta) (row : List Part) (r : Result Part StoreFault) (told : Told) (touches now : ℕ) → IfOk r (λ up. up ≡ node_part hash row)
    → OnOk r (Holds told (node_held hash row ∷ [])) → OnOk r (now ≡ touches + 1) → IfOk r (λ up. EndsRow hash m false row up told touches now)
node-ends hash m row (Ok up) told touches now is held one = record { goes_up = is; held = held; count = one }
node-ends hash m row (Err fault) told touches now is held one = tt

top-ends : (hash : List ℕ → List ℕ) (m : Meta) (row : List Part) (r : Result Part StoreFault) (told : Told) (touches now : ℕ) → IfOk r (λ up. up ≡ top_part hash m row)
    → OnOk r (Holds told (top_held hash m row)) → OnOk r (now ≡ touches + length (top_held hash m row)) → IfOk r (λ up. EndsRow hash m true row up told touches now)
top-ends hash m row (Ok up) told touches now is held count = record { goes_up = is; held = held; count = count }
top-ends hash m row (Err fault) told touches now is held count = tt

pub returns-clause-ends : goal.returns-clause-ends
returns-clause-ends g c =
    let hash : List ℕ → List ℕ = g.S.X.BlockHash.block32 in
    let m = c.args.meta.now in
    let told = (g.S.Store.seen c.save_node.new.store).told in
    let ends = node-ends hash m c.as_slice-2.result.now c.save_node.result told c.args.touches.now c.save_node.new.touches c.save_node.ensures.part c.save_node.ensures.held c.save_node.ensures.touch in
    subst (λ (b : Bool). IfOk c.save_node.result (λ up. EndsRow hash m b (c.args.row ++ c.args.carried ∷ []) up told c.args.touches.now c.save_node.new.touches)) (sym c.if-is_top.false)
    (subst (λ (l : List Part). IfOk c.save_node.result (λ up. EndsRow hash m false l up told c.args.touches.now c.save_node.new.touches)) (c.as_slice-2.ensures ∙ c.in_ok-push.ensures.ok) ends)

pub returns-then-is_top-clause-ends : goal.returns-then-is_top-clause-ends
returns-then-is_top-clause-ends g c =
    let hash : List ℕ → List ℕ = g.S.X.BlockHash.block32 in
    let m = c.args.meta.now in
    let told = (g.S.Store.seen c.save_top.new.store).told in
    let ends = top-ends hash m c.as_slice.result.now c.save_top.result told c.args.touches.now c.save_top.new.touches c.save_top.ensures.part c.save_top.ensures.held c.save_top.ensures.touch in
    subst (λ (b : Bool). IfOk c.save_top.result (λ up. EndsRow hash m b (c.args.row ++ c.args.carried ∷ []) up told c.args.touches.now c.save_top.new.touches)) (sym c.if-is_top.true)
    (subst (λ (l : List Part). IfOk c.save_top.result (λ up. EndsRow hash m true l up told c.args.touches.now c.save_top.new.touches)) (c.as_slice.ensures ∙ c.in_ok-push.ensures.ok) ends)
