-- How many shards are loaded.
use Rattle.std.proofs.Common.{◌≡◌, ℕ, get_or, take, ◌+◌, ◌<◌, ◌≤◌, List, [], ◌∷◌, ◌++◌, length, ap, arith, sym, ◌∙◌, subst}
use Rattle.std.proofs.lemmas.Grind.{flat_map-append}
use Rattle.std.proofs.lemmas.List.{length-append, take_more}
use Rattle.std.proofs.lemmas.List.Folds.{length-flat_map-take}
use Rattle.uf_cid.specs.declared.cid.Cid.{Cid}
use Rattle.uf_cid.specs.Blocks.{Held}
use Rattle.uf_store.specs.Contents.{Told}
use Rattle.uf_store.specs.Keeping.{Agrees}
use Rattle.uf_store.specs.Seen.{Seen}
use Rattle.uf_tree.specs.declared.meta.Meta.{Meta}
use Rattle.uf_tree.specs.Nodes.{InSlot, Named}
use Rattle.uf_tree.specs.ShardPlan.{shard}
use Rattle.uf_tree.specs.Validity.{IsHash}
use Rattle.uf_shard.specs.Walked.{AreOver, HasItems, IsOver, IsRoot, all_blocks, blocks_over}
use Rattle.uf_shard.proofs.Reaching.{items_of}
use Rattle.uf_shard.proofs.Walks.{Agrees_below, Agrees_slot, blocks-are, each_at, loaded_items, over_items, pairs_of}

module _ (X : List ℕ → List ℕ) (N : List ℕ → ℕ) where
  -- ---- loads of a planned shard

  module _ (good : IsHash X) (left : ℕ) (root : Cid) (m : Meta) (l : List Named) (is : IsRoot X N left root m l) where
    -- of the shards below it, where it was loaded before
    pub below-touches : (items slice : List InSlot) (before mid : Seen) (t1 t2 : ℕ) → mid.told ≡ before.told → slice ≡ items → HasItems left root before items
        → ((over : ℕ → List Named) → AreOver X N left over slice → Agrees mid.told (all_blocks X N left over slice) → t2 ≤ t1 + length (all_blocks X N left over slice))
        → Agrees before.told (shard X N left m l).blocks → t2 < t1 + length (shard X N left m l).blocks
    below-touches items slice before mid t1 t2 same is_slice has touches agrees =
        let planned : slice ≡ items_of X N left l = is_slice ∙ loaded_items X N good left root m l is before items agrees has in
        let below = touches (pairs_of X N left l) (over_items X N good left root m l is slice planned)
        (subst (λ (i : List InSlot). Agrees mid.told (all_blocks X N left (pairs_of X N left l) i)) (sym planned)
        (subst (λ (told : Told). Agrees told (all_blocks X N left (pairs_of X N left l) (items_of X N left l))) (sym same) (Agrees_below X N good left root m l is before.told agrees))) in
        let blocks = ap (λ (b : List Held). length b) (blocks-are X N left m l) in
        let part = ap (λ (i : List InSlot). length (all_blocks X N left (pairs_of X N left l) i)) planned in
        omega (arith, below, blocks, part)

    pub all-touches : (items slice : List InSlot) (before mid : Seen) (t0 t1 t2 : ℕ) → mid.told ≡ before.told → slice ≡ items → HasItems left root before items → t1 ≡ t0 + 1
        → ((over : ℕ → List Named) → AreOver X N left over slice → Agrees mid.told (all_blocks X N left over slice) → t2 ≤ t1 + length (all_blocks X N left over slice))
        → Agrees before.told (shard X N left m l).blocks → t2 ≤ t0 + length (shard X N left m l).blocks
    all-touches items slice before mid t0 t1 t2 same is_slice has one touches agrees =
        let less = below-touches items slice before mid t1 t2 same is_slice has touches agrees in
        omega (arith, one, less)

    pub one-touch : (t0 t1 : ℕ) → t1 ≡ t0 + 1 → t1 ≤ t0 + length (shard X N left m l).blocks
    one-touch t0 t1 one = let blocks = ap (λ (b : List Held). length b) (blocks-are X N left m l) in omega (arith, one, blocks)

  module _ (left : ℕ) (over : ℕ → List Named) (items : List InSlot) (i : ℕ) (p : InSlot) (low : i < length items) (is : p ≡ get_or items i p) where
    -- what a slot touches where the store tells as before
    slot-touches : (before mid : Told) (t1 t2 : ℕ) → mid ≡ before → ((m : List Named) → IsOver X N left p.1 m → Agrees mid (blocks_over X N left p.1 m) → t2 ≤ t1 + length (blocks_over X N left p.1 m))
        → AreOver X N left over items → Agrees before (all_blocks X N left over items) → t2 ≤ t1 + length (blocks_over X N left p.1 (over p.0))
    slot-touches before mid t1 t2 same touches are agrees =
        touches (over p.0) (each_at (λ (p : InSlot). IsOver X N left p.1 (over p.0)) items i p low is are)
        (subst (λ (told : Told). Agrees told (blocks_over X N left p.1 (over p.0))) (sym same) (Agrees_slot X N left over before items i p low is agrees))

    -- one slot more
    pub more-touches : (before mid : Told) (t0 t1 t2 : ℕ) → mid ≡ before → ((m : List Named) → IsOver X N left p.1 m → Agrees mid (blocks_over X N left p.1 m) → t2 ≤ t1 + length (blocks_over X N left p.1 m))
        → AreOver X N left over items → Agrees before (all_blocks X N left over items) → t1 ≤ t0 + length (all_blocks X N left over (take i items)) → t2 ≤ t0 + length (all_blocks X N left over (take (i + 1) items))
    more-touches before mid t0 t1 t2 same touches are agrees so_far =
        let here = slot-touches before mid t1 t2 same touches are agrees in
        let items-are : take (i + 1) items ≡ take i items ++ p ∷ [] = take_more items i p low ∙ ap (λ (q : InSlot). take i items ++ q ∷ []) (sym is) in
        let split = ap (λ (l : List InSlot). length (all_blocks X N left over l)) items-are ∙ ap (λ (b : List Held). length b) (flat_map-append (λ (p : InSlot). blocks_over X N left p.1 (over p.0)) (take i items) (p ∷ []))
        ∙ length-append (all_blocks X N left over (take i items)) (all_blocks X N left over (p ∷ [])) in
        let one = length-append (blocks_over X N left p.1 (over p.0)) [] in
        omega (arith, here, so_far, split, one)

    -- the last slot that is looked at
    pub last-touches : (before mid : Told) (t0 t1 t2 : ℕ) → mid ≡ before → ((m : List Named) → IsOver X N left p.1 m → Agrees mid (blocks_over X N left p.1 m) → t2 ≤ t1 + length (blocks_over X N left p.1 m))
        → AreOver X N left over items → Agrees before (all_blocks X N left over items) → t1 ≤ t0 + length (all_blocks X N left over (take i items)) → t2 ≤ t0 + length (all_blocks X N left over items)
    last-touches before mid t0 t1 t2 same touches are agrees so_far =
        let here = slot-touches before mid t1 t2 same touches are agrees in
        let all = length-flat_map-take (λ (p : InSlot). blocks_over X N left p.1 (over p.0)) items i p low in
        let at = ap (λ (q : InSlot). length (blocks_over X N left q.1 (over q.0))) is in
        omega (arith, here, so_far, all, at)
