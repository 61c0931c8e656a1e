-- A shard is at least as large as its pairs, link for link.
use Rattle.std.proofs.Common.{◌≡◌, ℕ, zero, suc, ◌+◌, ◌-◌, ◌^◌, ◌<◌, ◌≤◌, List, [], ◌∷◌, length, map, refl, ap, arith, ◌∙◌, ◌⊎◌, inl, inr}
use Rattle.std.specs.Prelude.{◌==◌}
use Rattle.std.specs.List.{AllByRecursion, sum_by}
use Rattle.uf_murmur.specs.Slots.{slot}
use Rattle.uf_tree.specs.declared.meta.Meta.{Meta}
use Rattle.uf_tree.specs.declared.nodes.Entry.{Entry}
use Rattle.uf_tree.specs.FilePlan.{Plan}
use Rattle.uf_tree.specs.Metas.{none}
use Rattle.uf_tree.specs.Nodes.{Named, InSlot, capped, item_entry, shard_block}
use Rattle.uf_tree.specs.ShardPlan.{bucket, shard, shard_items, no_shard}
use Rattle.uf_tree.specs.Shardable.{HasShard}
use Rattle.uf_tree.specs.Validity.{IsHash, IsNamed}
use Rattle.uf_tree.proofs.Each.{each_filter}
use Rattle.uf_tree.proofs.ShardLaws.{slot-bound}
use Rattle.uf_tree.proofs.Valid.{node_entry-valid, shard-valid}
use Rattle.uf_laws.proofs.Blocks.{HaveCids, slot_cost, shard_size, bits, slots_cost, shard-size, items_size, items-carried, meta_size}
use Rattle.uf_laws.proofs.Totals.{total, total-mono, total-has, adds, adds-parts}
use Rattle.uf_laws.proofs.Widths.{cost, cost-least}

-- a size that isn't capped

pub cap-le : (n : ℕ) → capped n ≤ n
cap-le n = omega arith

pub cap-mono : (n m : ℕ) → n ≤ m → capped n ≤ capped m
cap-mono n m h = omega arith

pub cap-small : (n : ℕ) → capped n ≤ 2 ^ 62 → capped n ≡ n
cap-small n h = omega arith

pub cap-less : (n m : ℕ) → n < m → m ≤ 2 ^ 62 → capped n < capped m
cap-less n m h k = omega arith

-- what a pair adds to the Tsize of a shard that has it in a slot of its own
abbrev pub leaf_cost : Named → ℕ
leaf_cost e = cost (2 + length e.0) e.1.tsize

-- what a slot of more than one pair adds
pub slot-deeper : (deeper : List Named → Plan) (b : List Named) → 2 ≤ length b → slot_cost deeper b ≡ cost 2 (deeper b).entry.tsize
slot-deeper deeper [] h = absurd (omega arith)
slot-deeper deeper (e ∷ []) h = absurd (omega arith)
slot-deeper deeper (e ∷ f ∷ b) h = refl

-- what a slot of one pair at most adds
pub slot-few : (deeper : List Named → Plan) (b : List Named) → length b < 2 → slot_cost deeper b ≡ adds leaf_cost b
unfolding adds
slot-few deeper [] h = refl
slot-few deeper (e ∷ []) h = omega arith
slot-few deeper (e ∷ f ∷ b) h = absurd (omega arith)

slot-leaves : (deeper : List Named → Plan) (b : List Named) → (2 ≤ length b → adds leaf_cost b ≤ (deeper b).entry.tsize) → adds leaf_cost b ≤ slot_cost deeper b
slot-leaves deeper [] h = omega (arith, slot-few deeper [] (omega arith))
slot-leaves deeper (e ∷ []) h = omega (arith, slot-few deeper (e ∷ []) (omega arith))
slot-leaves deeper (e ∷ f ∷ b) h = omega (arith, h (omega arith), cost-least 2 (deeper (e ∷ f ∷ b)).entry.tsize)

whole-tsize : (meta : Meta) (items : List InSlot)
    → capped (length (shard_block meta items) + sum_by (λ (e : Entry). e.tsize) (map (λ (p : InSlot). item_entry p.1) items)) ≡ capped (items_size meta items)
unfolding items_size
whole-tsize meta items = refl

module _ (X : List ℕ → List ℕ) (N : List ℕ → ℕ) where
  -- the shards below one that has so many levels below it
  abbrev pub below : ℕ → List Named → Plan
  below zero = no_shard X N
  below (suc left) = shard X N left none

  abbrev pub level : ℕ → ℕ
  level zero = 7
  level (suc left) = 6 - left

  -- the Tsize of a shard, before it is capped
  abbrev pub size : ℕ → List Named → ℕ
  size left l = shard_size N (below left) (level left) l

  -- the pairs of a slot
  abbrev pub pairs_of : ℕ → ℕ → List Named → List Named
  pairs_of left s l = bucket N (level left) s l

  pub shard-tsize : (left : ℕ) (l : List Named) → (shard X N left none l).entry.tsize ≡ capped (size left l)
  unfolding shard items_size
  shard-tsize zero l = refl
  shard-tsize (suc left) l = refl

  -- and of one with metadata
  pub top-tsize : (left : ℕ) (meta : Meta) (l : List Named) → (shard X N left meta l).entry.tsize ≡ capped (size left l + meta_size meta)
  unfolding shard
  top-tsize zero meta l = whole-tsize meta (shard_items N (below zero) (level zero) l) ∙ ap capped (items-carried meta (shard_items N (below zero) (level zero) l))
  top-tsize (suc left) meta l = whole-tsize meta (shard_items N (below (suc left)) (level (suc left)) l) ∙ ap capped (items-carried meta (shard_items N (below (suc left)) (level (suc left)) l))

  module _ (good : IsHash X) where
    pub below-cids : (left : ℕ) → HaveCids (below left)
    below-cids zero = λ l. (node_entry-valid X good [] []).cid
    below-cids (suc left) = λ l. (shard-valid X good N left none l).cid

    pub size-is : (left : ℕ) (l : List Named) → AllByRecursion IsNamed l → size left l ≡ 11 + bits N (below left) (level left) l + slots_cost N (below left) (level left) l
    size-is left l h = shard-size N (below left) (level left) (below-cids left) l h

    pub pairs-named : (left s : ℕ) (l : List Named) → AllByRecursion IsNamed l → AllByRecursion IsNamed (pairs_of left s l)
    pairs-named left s l h = each_filter IsNamed (λ e. slot (N e.0) (level left) == s) l h

    -- a shard in a slot is no larger than the shard that has the slot
    pub slot-small : (left s : ℕ) (l : List Named) → s < 256 → AllByRecursion IsNamed l → slot_cost (below left) (pairs_of left s l) ≤ size left l
    slot-small left s l less h =
        let one : slot_cost (below left) (pairs_of left s l) ≤ slots_cost N (below left) (level left) l = total-has 256 0 s (λ s. slot_cost (below left) (pairs_of left s l)) (omega arith) (omega arith) in
        omega (arith, size-is left l h)

    -- so it isn't capped where that one is small
    pub deeper-small : (left s : ℕ) (l : List Named) → s < 256 → AllByRecursion IsNamed l → size (suc left) l ≤ 2 ^ 62 → 2 ≤ length (pairs_of (suc left) s l)
        → (size left (pairs_of (suc left) s l) ≤ 2 ^ 62) × ((shard X N left none (pairs_of (suc left) s l)).entry.tsize ≡ size left (pairs_of (suc left) s l))
    deeper-small left s l less h small two =
        let b = pairs_of (suc left) s l in
        let has : slot_cost (shard X N left none) b ≤ size (suc left) l = slot-small (suc left) s l less h in
        let is : slot_cost (shard X N left none) b ≡ cost 2 (shard X N left none b).entry.tsize = slot-deeper (shard X N left none) b two in
        let tsize : (shard X N left none b).entry.tsize ≡ capped (size left b) = shard-tsize left b in
        let most : (shard X N left none b).entry.tsize ≤ 2 ^ 62 = omega (arith, cost-least 2 (shard X N left none b).entry.tsize) in
        let same : capped (size left b) ≡ size left b = cap-small (size left b) (omega (arith, tsize, most)) in
        (omega (arith, tsize, most, same), tsize ∙ same)

    all-leaves : (left : ℕ) (l : List Named) → AllByRecursion IsNamed l → ((s : ℕ) → s < 256 → adds leaf_cost (pairs_of left s l) ≤ slot_cost (below left) (pairs_of left s l)) → 11 + adds leaf_cost l ≤ size left l
    all-leaves left l h each =
        let parts : adds leaf_cost l ≤ total 256 0 (λ s. adds leaf_cost (pairs_of left s l)) = adds-parts leaf_cost (λ name. slot (N name) (level left)) 256 (λ name. slot-bound (N name) (level left)) l in
        let more : total 256 0 (λ s. adds leaf_cost (pairs_of left s l)) ≤ slots_cost N (below left) (level left) l = total-mono 256 0 (λ s. adds leaf_cost (pairs_of left s l)) (λ s. slot_cost (below left) (pairs_of left s l)) (λ s le less. each s (omega arith)) in
        omega (arith, size-is left l h)

    -- at level 7 each slot has one pair at most
    leaves-7 : (l : List Named) → HasShard N zero l → (s : ℕ) → adds leaf_cost (pairs_of zero s l) ≤ slot_cost (below zero) (pairs_of zero s l)
    unfolding HasShard
    leaves-7 l has s = slot-leaves (below zero) (pairs_of zero s l) (λ two. absurd (omega (arith, has s, two)))

    -- above it a slot has one pair at most, or a shard that has its own pairs
    leaves-above : (left : ℕ) (l : List Named) → AllByRecursion IsNamed l → HasShard N (suc left) l → size (suc left) l ≤ 2 ^ 62
        → ((b : List Named) → AllByRecursion IsNamed b → HasShard N left b → size left b ≤ 2 ^ 62 → 11 + adds leaf_cost b ≤ size left b)
        → (s : ℕ) → s < 256 → adds leaf_cost (pairs_of (suc left) s l) ≤ slot_cost (below (suc left)) (pairs_of (suc left) s l)
    unfolding HasShard
    leaves-above left l h has small later s less = slot-leaves (shard X N left none) (pairs_of (suc left) s l) (λ two. by two (has s))
      where
        by : 2 ≤ length (pairs_of (suc left) s l) → (length (pairs_of (suc left) s l) ≤ 1) ⊎ HasShard N left (pairs_of (suc left) s l) → adds leaf_cost (pairs_of (suc left) s l) ≤ (shard X N left none (pairs_of (suc left) s l)).entry.tsize
        by two (inl few) = absurd (omega (arith, two, few))
        by two (inr deep) =
            let fits = deeper-small left s l less h small two in
            omega (arith, fits.1, later (pairs_of (suc left) s l) (pairs-named (suc left) s l h) deep fits.0)

    -- a shard is at least as large as its pairs, link for link
    pub shard-leaves : (left : ℕ) (l : List Named) → AllByRecursion IsNamed l → HasShard N left l → size left l ≤ 2 ^ 62 → 11 + adds leaf_cost l ≤ size left l
    shard-leaves zero l h has small = all-leaves zero l h (λ s less. leaves-7 l has s)
    shard-leaves (suc left) l h has small = all-leaves (suc left) l h (leaves-above left l h has small (shard-leaves left))

    -- so is each of its slots
    pub slot-holds : (left : ℕ) (l : List Named) → AllByRecursion IsNamed l → HasShard N left l → size left l ≤ 2 ^ 62 → (s : ℕ) → s < 256 → adds leaf_cost (pairs_of left s l) ≤ slot_cost (below left) (pairs_of left s l)
    slot-holds zero l h has small s less = leaves-7 l has s
    slot-holds (suc left) l h has small s less = leaves-above left l h has small (shard-leaves left) s less
