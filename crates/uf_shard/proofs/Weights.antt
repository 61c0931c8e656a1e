-- The weight of a shard tree, slot by slot.
use Rattle.std.proofs.Common.{◌≡◌, ◌≢◌, ℕ, zero, suc, ◌+◌, ◌<◌, ◌≤◌, List, [], ◌∷◌, length, refl, ap, arith, sym, ◌∙◌, cond, ◌⊎◌, inl, inr}
use Rattle.std.specs.List.{sum_by}
use Rattle.std.proofs.lemmas.Bool.{cases_eq}
use Rattle.std.proofs.lemmas.List.Sums.{sum_by-append, sum_by-cons}
use Rattle.uf_murmur.specs.Slots.{slot}
use Rattle.uf_tree.specs.DirPlan.{weight}
use Rattle.uf_tree.specs.Nodes.{InSlot, Named}
use Rattle.uf_tree.specs.ShardPlan.{bucket, flat_tabulate}
use Rattle.uf_tree.proofs.ShardLaws.{slot-bound}
use Rattle.uf_tree.proofs.Twins.{other_key, same_key}
use Rattle.uf_shard.proofs.Reaching.{deeper_of, items_of, level_of}
use Rattle.uf_shard.proofs.Rows.{all_pairs, pairs-tabulated}
use Rattle.uf_shard.proofs.Walks.{pairs_of}

-- ---- weights of all slots

-- the weight of all slots, where each slot has the pairs that `over` gives
abbrev pub weight_over_slots : (ℕ → List Named) → List InSlot → ℕ
weight_over_slots over items = sum_by (λ (p : InSlot). weight (over p.0)) items

all-weight : (over : ℕ → List Named) (items : List InSlot) → weight_over_slots over items ≡ weight (all_pairs over items)
all-weight over [] = refl
all-weight over (p ∷ items) = sum_by-cons (λ (p : InSlot). weight (over p.0)) p items ∙ ap (λ n. weight (over p.0) + n) (all-weight over items) ∙ sym (sum_by-append (λ (e : Named). length e.0 + 36) (over p.0) (all_pairs over items))

module _ (N : List ℕ → ℕ) (k : ℕ) where
  abbrev pub slots : ℕ → ℕ → List Named → List Named
  slots n a l = flat_tabulate n a (λ s. bucket N k s l)

  no_slots : (n a : ℕ) → slots n a [] ≡ []
  unfolding flat_tabulate
  no_slots zero a = refl
  no_slots (suc n) a = no_slots n (suc a)

  module _ (f : Named → ℕ) where
    empty : (a : ℕ) (l : List Named) → sum_by f (slots zero a l) ≡ 0
    unfolding flat_tabulate
    empty a l = refl

    split : (n a : ℕ) (l : List Named) → sum_by f (slots (suc n) a l) ≡ sum_by f (bucket N k a l) + sum_by f (slots n (suc a) l)
    unfolding flat_tabulate
    split n a l = sum_by-append f (bucket N k a l) (slots n (suc a) l)

    in_bucket : (s : ℕ) (e : Named) (l : List Named) → slot (N e.0) k ≡ s → sum_by f (bucket N k s (e ∷ l)) ≡ f e + sum_by f (bucket N k s l)
    in_bucket s e l at = ap (λ b. sum_by f (cond b (e ∷ bucket N k s l) (bucket N k s l))) (same_key (slot (N e.0) k) s at) ∙ sum_by-cons f e (bucket N k s l)

    off_bucket : (s : ℕ) (e : Named) (l : List Named) → slot (N e.0) k ≢ s → sum_by f (bucket N k s (e ∷ l)) ≡ sum_by f (bucket N k s l)
    off_bucket s e l off = ap (λ b. sum_by f (cond b (e ∷ bucket N k s l) (bucket N k s l))) (other_key (slot (N e.0) k) s off)

    past : (n a : ℕ) (e : Named) (l : List Named) → slot (N e.0) k < a → sum_by f (slots n a (e ∷ l)) ≡ sum_by f (slots n a l)
    past zero a e l low = empty a (e ∷ l) ∙ sym (empty a l)
    past (suc n) a e l low =
        split n a (e ∷ l) ∙ (λ i. off_bucket a e l (omega arith) i + past n (suc a) e l (omega arith) i) ∙ sym (split n a l)

    within : (n a : ℕ) (e : Named) (l : List Named) → a ≤ slot (N e.0) k → slot (N e.0) k < a + n → sum_by f (slots n a (e ∷ l)) ≡ f e + sum_by f (slots n a l)
    within zero a e l low high = absurd (omega arith)
    within (suc n) a e l low high = by (cases_eq (slot (N e.0) k) a) (λ less. within n (suc a) e l less (omega arith))
      where
        by : (slot (N e.0) k ≡ a) ⊎ (slot (N e.0) k ≢ a) → (suc a ≤ slot (N e.0) k → sum_by f (slots n (suc a) (e ∷ l)) ≡ f e + sum_by f (slots n (suc a) l))
            → sum_by f (slots (suc n) a (e ∷ l)) ≡ f e + sum_by f (slots (suc n) a l)
        by (inl at) later =
            let one = in_bucket a e l at in let rest = past n (suc a) e l (omega arith) in
            let all = split n a (e ∷ l) in let before = split n a l in omega (arith, one, rest, all, before)
        by (inr off) later =
            let one = off_bucket a e l off in let rest = later (omega arith) in
            let all = split n a (e ∷ l) in let before = split n a l in omega (arith, one, rest, all, before)

    -- what the pairs of all slots come to is what all pairs come to
    pub slots-sum : (l : List Named) → sum_by f (slots 256 0 l) ≡ sum_by f l
    slots-sum [] = ap (sum_by f) (no_slots 256 0)
    slots-sum (e ∷ l) = within 256 0 e l (omega arith) (let b : slot (N e.0) k < 256 = slot-bound (N e.0) k in omega arith) ∙ ap (λ n. f e + n) (slots-sum l) ∙ sym (sum_by-cons f e l)

module _ (X : List ℕ → List ℕ) (N : List ℕ → ℕ) where
  -- the pairs of all slots of a shard weigh what its pairs weigh
  pub planned-weight : (left : ℕ) (l : List Named) → weight_over_slots (pairs_of X N left l) (items_of X N left l) ≡ weight l
  planned-weight left l =
      all-weight (pairs_of X N left l) (items_of X N left l)
      ∙ ap weight (pairs-tabulated (deeper_of X N left) (pairs_of X N left l) 256 0)
      ∙ slots-sum N (level_of left) (λ (e : Named). length e.0 + 36) l
