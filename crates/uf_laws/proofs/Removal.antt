-- A shard after a name is taken away.
use Rattle.std.proofs.Common.{◌≡◌, ◌≢◌, ℕ, zero, suc, ◌+◌, ◌^◌, ◌<◌, ◌≤◌, List, [], ◌∷◌, length, Bool, true, false, cond, T, Some, None, refl, ap, arith, sym, ◌∙◌, ◌⊎◌, inl, inr, subst}
use Rattle.std.specs.Prelude.{◌==◌, not}
use Rattle.std.specs.List.{AllByRecursion}
use Rattle.std.specs.Ordering.{eq_by_cmp}
use Rattle.std.specs.FinMap.Entries.{find, is_sorted, find-where_key, is_sorted-where_key}
use Rattle.std.proofs.lemmas.Bool.{cases_eq, cases_lt}
use Rattle.uf_murmur.specs.Slots.{slot}
use Rattle.uf_tree.specs.FilePlan.{Plan}
use Rattle.uf_tree.specs.declared.nodes.Entry.{Entry}
use Rattle.uf_tree.specs.Changes.{without}
use Rattle.uf_tree.specs.Metas.{none}
use Rattle.uf_tree.specs.Names.{names_cmp}
use Rattle.uf_tree.specs.Nodes.{Named, bitfield}
use Rattle.uf_tree.specs.ShardPlan.{shard, shard_items, slot_item}
use Rattle.uf_tree.specs.Shardable.{HasShard}
use Rattle.uf_tree.specs.Validity.{IsHash, IsNamed}
use Rattle.uf_tree.proofs.Each.{each_filter}
use Rattle.uf_tree.proofs.ShardLaws.{slot-bound, bucket-remove, eqb_same, eqb_other, names_exact}
use Rattle.uf_laws.proofs.Blocks.{slot_cost, bits, slots_cost, bitfield-short, slots_of}
use Rattle.uf_laws.proofs.Totals.{total-less, adds, adds-without, there, tabulate-keys}
use Rattle.uf_laws.proofs.Widths.{cost, cost-least, cost-less}
use Rattle.uf_laws.proofs.Levels.{below, level, size, size-is, pairs_of, pairs-named, leaf_cost, slot-few, slot-deeper, slot-holds, deeper-small, shard-tsize, cap-less}

pub without-shorter : (name : List ℕ) (l : List Named) → length (without name l) ≤ length l
without-shorter name [] = omega arith
without-shorter name (e ∷ l) = elim (eq_by_cmp names_cmp name e.0) as (λ b. length (cond (not b) (e ∷ without name l) (without name l)) ≤ suc (length l)) [
  | true ↦ omega (arith, without-shorter name l)
  | false ↦ omega (arith, without-shorter name l)
]

-- something is there where a slot has a pair
pub something : (deeper : List Named → Plan) (b : List Named) → 1 ≤ length b → there (slot_item deeper b) ≡ true
something deeper [] h = absurd (omega arith)
something deeper (e ∷ []) h = refl
something deeper (e ∷ f ∷ b) h = refl

module _ (X : List ℕ → List ℕ) (N : List ℕ → ℕ) (good : IsHash X) (name : List ℕ) (old : Entry) where
  -- the name's own slot
  abbrev own : ℕ → ℕ
  own left = slot (N name) (level X N left)

  -- the pairs of the name's slot
  abbrev mine : ℕ → List Named → List Named
  mine left l = pairs_of X N left (own left) l

  at-own : (left : ℕ) (l : List Named) → T (is_sorted names_cmp l) → pairs_of X N left (own left) (without name l) ≡ without name (mine left l)
  at-own left l sorted = bucket-remove N (level X N left) (own left) name l sorted ∙ ap (λ b. cond b (without name (mine left l)) (mine left l)) (eqb_same (own left))

  at-other : (left q : ℕ) (l : List Named) → T (is_sorted names_cmp l) → q ≢ own left → pairs_of X N left q (without name l) ≡ pairs_of X N left q l
  at-other left q l sorted other = bucket-remove N (level X N left) q name l sorted ∙ ap (λ b. cond b (without name (pairs_of X N left q l)) (pairs_of X N left q l)) (eqb_other (own left) q other)

  found : (left : ℕ) (l : List Named) → find names_cmp name l ≡ Some old → find names_cmp name (mine left l) ≡ Some old
  found left l h = find-where_key names_cmp test name (λ x e. ap test (sym (names_exact name x e))) l ∙ ap (λ b. cond b (find names_cmp name l) None) (eqb_same (own left)) ∙ h
    where
      test : List ℕ → Bool
      test x = slot (N x) (level X N left) == own left

  -- the costs of all slots fall by as much as that of the name's slot
  falls : (left d : ℕ) (l : List Named) → T (is_sorted names_cmp l) → slot_cost (below X N left) (without name (mine left l)) + d ≤ slot_cost (below X N left) (mine left l)
      → slots_cost N (below X N left) (level X N left) (without name l) + d ≤ slots_cost N (below X N left) (level X N left) l
  falls left d l sorted less =
      total-less 256 0 (own left) d (λ s. slot_cost (below X N left) (pairs_of X N left s (without name l))) (λ s. slot_cost (below X N left) (pairs_of X N left s l))
      (omega arith) (omega (arith, slot-bound (N name) (level X N left)))
      (λ q other. same (slot_cost (below X N left) (pairs_of X N left q (without name l))) (slot_cost (below X N left) (pairs_of X N left q l)) (ap (slot_cost (below X N left)) (at-other left q l sorted other)))
      (subst (λ b. slot_cost (below X N left) b + d ≤ slot_cost (below X N left) (mine left l)) (sym (at-own left l sorted)) less)
    where
      same : (m n : ℕ) → m ≡ n → m ≤ n
      same m n e = omega arith

  -- the bitfield stays where the name's slot keeps a pair
  bits-stay : (left : ℕ) (l : List Named) → T (is_sorted names_cmp l) → 1 ≤ length (without name (mine left l)) → bits N (below X N left) (level X N left) (without name l) ≡ bits N (below X N left) (level X N left) l
  bits-stay left l sorted some = ap (λ slots. length (bitfield slots)) (tabulate-keys 256 0 (λ s. slot_item deeper (pairs_of X N left s (without name l))) (λ s. slot_item deeper (pairs_of X N left s l)) (λ s. by s (cases_eq s (own left))))
    where
      deeper : List Named → Plan
      deeper = below X N left

      by : (s : ℕ) → (s ≡ own left) ⊎ (s ≢ own left) → there (slot_item deeper (pairs_of X N left s (without name l))) ≡ there (slot_item deeper (pairs_of X N left s l))
      by s (inl e) = ap (λ q. there (slot_item deeper (pairs_of X N left q (without name l)))) e ∙ ap (λ b. there (slot_item deeper b)) (at-own left l sorted) ∙ something deeper (without name (mine left l)) some
          ∙ sym (ap (λ q. there (slot_item deeper (pairs_of X N left q l))) e ∙ something deeper (mine left l) (omega (arith, some, without-shorter name (mine left l))))
      by s (inr other) = ap (λ b. there (slot_item deeper b)) (at-other left s l sorted other)

  -- a slot that keeps one pair at most: the pair that goes took more than a bitfield does
  few : (left : ℕ) (l : List Named) → AllByRecursion IsNamed l → T (is_sorted names_cmp l) → HasShard N left l → size X N left l ≤ 2 ^ 62 → find names_cmp name l ≡ Some old
      → length (without name (mine left l)) < 2 → size X N left (without name l) < size X N left l
  few left l h sorted has small is less =
      let after = without name (mine left l) in
      let one : slot_cost (below X N left) after ≡ adds leaf_cost after = slot-few (below X N left) after less in
      let gone : adds leaf_cost after + 44 ≤ adds leaf_cost (mine left l) = adds-without leaf_cost 44 (λ e. omega (arith, cost-least (2 + length e.0) e.1.tsize)) name old (mine left l) (found left l is) in
      let there : adds leaf_cost (mine left l) ≤ slot_cost (below X N left) (mine left l) = slot-holds X N good left l h has small (own left) (slot-bound (N name) (level X N left)) in
      let all : slots_cost N (below X N left) (level X N left) (without name l) + 44 ≤ slots_cost N (below X N left) (level X N left) l = falls left 44 l sorted (omega (arith, one, gone, there)) in
      omega (arith, all, size-is X N good left l h, size-is X N good left (without name l) (each_filter IsNamed _ l h), bitfield-short (slots_of (shard_items N (below X N left) (level X N left) (without name l))))

  -- a slot that keeps more: its shard falls
  many : (left : ℕ) (l : List Named) → AllByRecursion IsNamed l → T (is_sorted names_cmp l) → size X N (suc left) l ≤ 2 ^ 62 → 2 ≤ length (without name (mine (suc left) l))
      → size X N left (without name (mine (suc left) l)) < size X N left (mine (suc left) l) → size X N (suc left) (without name l) < size X N (suc left) l
  many left l h sorted small two less =
      let b = mine (suc left) l in
      let after = without name b in
      let both : 2 ≤ length b = omega (arith, two, without-shorter name b) in
      let fits = deeper-small X N good left (own (suc left)) l (slot-bound (N name) (level X N (suc left))) h small both in
      let fall : (shard X N left none after).entry.tsize < (shard X N left none b).entry.tsize = omega (arith, cap-less (size X N left after) (size X N left b) less fits.0, shard-tsize X N left after, shard-tsize X N left b) in
      let links : cost 2 (shard X N left none after).entry.tsize < cost 2 (shard X N left none b).entry.tsize = cost-less 2 _ _ fall in
      let all : slots_cost N (shard X N left none) (level X N (suc left)) (without name l) + 1 ≤ slots_cost N (shard X N left none) (level X N (suc left)) l =
      falls (suc left) 1 l sorted (omega (arith, links, slot-deeper (shard X N left none) after two, slot-deeper (shard X N left none) b both)) in
      omega (arith, all, size-is X N good (suc left) l h, size-is X N good (suc left) (without name l) (each_filter IsNamed _ l h), bits-stay (suc left) l sorted (omega (arith, two)))

  -- a shard falls
  pub removal : (left : ℕ) (l : List Named) → AllByRecursion IsNamed l → T (is_sorted names_cmp l) → HasShard N left l → size X N left l ≤ 2 ^ 62 → find names_cmp name l ≡ Some old
      → size X N left (without name l) < size X N left l
  unfolding HasShard
  removal zero l h sorted has small is = few zero l h sorted has small is (omega (arith, has (own zero), without-shorter name (mine zero l)))
  removal (suc left) l h sorted has small is = by (cases_lt (length (without name (mine (suc left) l))) 2) (has (own (suc left))) (removal left (mine (suc left) l) (pairs-named X N good (suc left) (own (suc left)) l h) (is_sorted-where_key names_cmp _ l sorted))
    where
      by : (length (without name (mine (suc left) l)) < 2) ⊎ (2 ≤ length (without name (mine (suc left) l))) → (length (mine (suc left) l) ≤ 1) ⊎ HasShard N left (mine (suc left) l)
          → (HasShard N left (mine (suc left) l) → size X N left (mine (suc left) l) ≤ 2 ^ 62 → find names_cmp name (mine (suc left) l) ≡ Some old → size X N left (without name (mine (suc left) l)) < size X N left (mine (suc left) l))
          → size X N (suc left) (without name l) < size X N (suc left) l
      by (inl less) deep later = few (suc left) l h sorted has small is less
      by (inr two) (inl one) later = absurd (omega (arith, two, one, without-shorter name (mine (suc left) l)))
      by (inr two) (inr deep) later =
          let both : 2 ≤ length (mine (suc left) l) = omega (arith, two, without-shorter name (mine (suc left) l)) in
          let fits = deeper-small X N good left (own (suc left)) l (slot-bound (N name) (level X N (suc left))) h small both in
          many left l h sorted small two (later deep fits.0 (found (suc left) l is))
