use Rattle.std.proofs.Common.{◌≡◌, ℕ, ◌+◌, ◌<◌, List, [], ◌∷◌, None, length, refl, arith, ap, ◌∙◌, set, subst}
use Rattle.std.proofs.lemmas.Grind.{common_steps}
use Rattle.std.proofs.lemmas.Result.{on_ok_weaker}
use Rattle.uf_cid.specs.Blocks.{Held}
use Rattle.uf_store.specs.Keeping.{Holds}
use Rattle.uf_store.specs.Seen.{KeepsHeld}
use Rattle.uf_store.specs.Among.{SavesAmong}
use Rattle.uf_store.proofs.Among.{SavesAmong-append, SavesAmong-kept, SavesAmong-same}
use Rattle.uf_tree.specs.FilePlan.{node_part, node_held}
use Rattle.uf_tree.specs.declared.nodes.Part.{Part}
use Rattle.uf_build.specs.Answers.{OnlyBuilds}
use Rattle.uf_build.specs.Rows.{held_up}
use Rattle.uf_build.proofs.Calls.{builds-builds}
use Rattle.uf_build.proofs.Holding.{Holds-nil, Holds-more}
use Rattle.uf_build.proofs.Up.{push-first, held-first, push-room, push-node, one-held}
use Rattle.uf_build.proofs.rows.+push.Goals as goal

pub returns-then-level-len-clause-pushed : goal.returns-then-level-len-clause-pushed
returns-then-level-len-clause-pushed g t c =
    let hash : List ℕ → List ℕ = g.S.X.BlockHash.block32 in
    let top : c.args.level ≡ length c.args.rows.now.items = grind (arith, common_steps) in
    let none = held-first hash c.args.width c.args.level c.args.part c.args.rows.now.items top in
    record {
      pushed = c.in_ok-push_first.ensures ∙ push-first hash c.args.width c.args.level c.args.part c.args.rows.now.items top;
      held = subst (λ (l : List Held). Holds (g.S.Store.seen c.args.store.now).told l) none (Holds-nil _);
      count = omega (arith, ap length none);
    }

pub returns-then-len-width-clause-pushed : goal.returns-then-len-width-clause-pushed
returns-then-len-width-clause-pushed g t c =
    let hash : List ℕ → List ℕ = g.S.X.BlockHash.block32 in
    let lt : c.args.level < length c.args.rows.now.items = grind (arith, common_steps) in
    let room = push-room hash c.args.width c.args.level c.args.part c.args.rows.now.items c.index_mut-row.result.now c.push.new.self lt
    c.index_mut-row.ensures.value c.in_ok-push.ensures.ok (omega (arith, c.len-2.ensures)) in
    record {
      pushed = room.0;
      held = subst (λ (l : List Held). Holds (g.S.Store.seen c.args.store.now).told l) room.1 (Holds-nil _);
      count = omega (arith, ap length room.1);
    }

pub returns-in_err-node-clause-touches : goal.returns-in_err-node-clause-touches
returns-in_err-node-clause-touches g t c =
    let lt : c.args.level < length c.args.rows.now.items = grind (arith, common_steps) in
    let one = one-held g.S.X.BlockHash.block32 c.args.width c.args.level c.args.part c.args.rows.now.items c.index_mut-row.result.now c.push.new.self lt
    c.index_mut-row.ensures.value c.in_ok-push.ensures.ok (omega (arith, c.len-2.ensures)) in
    omega (arith, one, c.save_node.ensures.touches)

pub returns-clause-pushed : goal.returns-clause-pushed
returns-clause-pushed g t c =
    let hash : List ℕ → List ℕ = g.S.X.BlockHash.block32 in
    let lt : c.args.level < length c.args.rows.now.items = grind (arith, common_steps) in
    let made : c.in_ok-node.node ≡ node_part hash c.push.new.self = c.in_ok-node.ensures.part ∙ ap (node_part hash) c.as_slice.ensures in
    let same = push-node hash c.args.width c.args.level c.args.part c.in_ok-node.node c.args.rows.now.items c.index_mut-row.result.now c.push.new.self c.new.result lt
    c.index_mut-row.ensures.value c.in_ok-push.ensures.ok (omega (arith, c.len-2.ensures)) made c.new.ensures in
    let saved = subst (λ (h : List Part). Holds (g.S.Store.seen c.save_node.new.store).told (node_held hash h ∷ [])) c.as_slice.ensures c.in_ok-node.ensures.held in
    on_ok_weaker c.push-2.result (λ h. record {
      pushed = h.pushed ∙ same.0;
      held = subst (λ (l : List Held). Holds (g.S.Store.seen c.push-2.new.store).told l) same.1 (Holds-more hash _ _ _ _ refl c.push-2.ensures.builds.good saved h.held);
      count = omega (arith, ap length same.1, c.in_ok-node.ensures.touch, h.count);
    }) c.push-2.ensures.pushed

pub returns-clause-touches : goal.returns-clause-touches
returns-clause-touches g t c =
    let lt : c.args.level < length c.args.rows.now.items = grind (arith, common_steps) in
    let made : c.in_ok-node.node ≡ node_part g.S.X.BlockHash.block32 c.push.new.self = c.in_ok-node.ensures.part ∙ ap (node_part g.S.X.BlockHash.block32) c.as_slice.ensures in
    let same = push-node g.S.X.BlockHash.block32 c.args.width c.args.level c.args.part c.in_ok-node.node c.args.rows.now.items c.index_mut-row.result.now c.push.new.self c.new.result lt
    c.index_mut-row.ensures.value c.in_ok-push.ensures.ok (omega (arith, c.len-2.ensures)) made c.new.ensures in
    omega (arith, ap length same.1, c.save_node.ensures.touches, c.push-2.ensures.touches)

pub returns-clause-builds : goal.returns-clause-builds
returns-clause-builds g t c =
    let saved : OnlyBuilds g.S.X.BlockHash.block32 None (g.S.Store.seen c.args.store.now) (g.S.Store.seen c.save_node.new.store) = record {
      cause = c.in_ok-node.ensures.cause;
      good = c.save_node.ensures.good;
      saves = c.save_node.ensures.saves;
      saving = tt;
      unread = c.in_ok-node.ensures.unread;
    } in
    builds-builds saved c.push-2.ensures.builds

pub returns-in_err-node-clause-no_other : goal.returns-in_err-node-clause-no_other
returns-in_err-node-clause-no_other g t c =
    let hash : List ℕ → List ℕ = g.S.X.BlockHash.block32 in
    SavesAmong-same hash (held_up hash c.args.width c.args.level c.args.part c.args.rows.now.items) (g.S.Store.seen c.args.store.now).told (g.S.Store.seen c.save_node.new.store).told c.in_err-node.ensures.err

pub returns-clause-no_other : goal.returns-clause-no_other
returns-clause-no_other g t c =
    let hash : List ℕ → List ℕ = g.S.X.BlockHash.block32 in
    let lt : c.args.level < length c.args.rows.now.items = grind (arith, common_steps) in
    let made : c.in_ok-node.node ≡ node_part hash c.push.new.self = c.in_ok-node.ensures.part ∙ ap (node_part hash) c.as_slice.ensures in
    let same = push-node hash c.args.width c.args.level c.args.part c.in_ok-node.node c.args.rows.now.items c.index_mut-row.result.now c.push.new.self c.new.result lt
    c.index_mut-row.ensures.value c.in_ok-push.ensures.ok (omega (arith, c.len-2.ensures)) made c.new.ensures in
    let before = g.S.Store.seen c.args.store.now in
    let mid = g.S.Store.seen c.save_node.new.store in
    let now = g.S.Store.seen c.push-2.new.store in
    let kept = subst (λ (h : List Part). KeepsHeld hash (node_held hash h) before mid) c.as_slice.ensures c.in_ok-node.ensures.kept in
    let above : List Held = held_up hash c.args.width (c.args.level + 1) c.in_ok-node.node (set c.args.rows.now.items c.args.level c.new.result) in
    subst (λ (l : List Held). SavesAmong hash l before.told now.told) same.1
    (SavesAmong-append hash (node_held hash c.push.new.self ∷ []) above before.told mid.told now.told
    (SavesAmong-kept hash (node_held hash c.push.new.self) before mid refl kept) c.push-2.ensures.no_other)
