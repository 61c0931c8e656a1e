-- A directory after a name is taken away.
use Rattle.std.proofs.Common.{◌≡◌, ℕ, ◌+◌, ◌^◌, ◌<◌, ◌≤◌, List, [], ◌∷◌, length, Bool, true, false, cond, Some, None, refl, arith, ◌∙◌, not}
use Rattle.std.specs.List.{AllByRecursion}
use Rattle.std.specs.Ordering.{eq_by_cmp}
use Rattle.std.specs.FinMap.Entries.{find}
use Rattle.std.proofs.lemmas.Bool.{le-ltb}
use Rattle.std.proofs.lemmas.List.Sums.{sum_by-cons}
use Rattle.uf_tree.specs.declared.meta.Meta.{Meta}
use Rattle.uf_tree.specs.declared.nodes.Entry.{Entry}
use Rattle.uf_tree.specs.declared.profile.Profile.{Profile}
use Rattle.uf_tree.specs.Changes.{without}
use Rattle.uf_tree.specs.DirPlan.{own_plan, basic_dir, is_sharded, weight}
use Rattle.uf_tree.specs.Names.{names_cmp}
use Rattle.uf_tree.specs.Nodes.{Named, capped}
use Rattle.uf_tree.specs.ShardPlan.{shard, same_hash}
use Rattle.uf_tree.specs.TreePlan.{dir_refusal}
use Rattle.uf_tree.specs.Validity.{IsHash, IsNamed, IsDirectory}
use Rattle.uf_tree.proofs.Canonical.{light}
use Rattle.uf_tree.proofs.Each.{each_filter}
use Rattle.uf_tree.proofs.Told.{as_T}
use Rattle.uf_tree.proofs.Twins.{Alone, Apart, Apart-twins}
use Rattle.uf_laws.proofs.Blocks.{meta_size, basic_size, basic-size, pair_cost}
use Rattle.uf_laws.proofs.Levels.{size, top-tsize, shard-leaves, leaf_cost, cap-le, cap-small}
use Rattle.uf_laws.proofs.Reasons.{collides, unrefused, allowed, no-collision, apart-collision, has-shard, basic-tsize}
use Rattle.uf_laws.proofs.Removal.{removal}
use Rattle.uf_laws.proofs.Totals.{adds, adds-without}
use Rattle.uf_laws.proofs.Widths.{cost-least, cost-mono}

-- names that have no twins have none after one is taken away
alone-without : (same : List ℕ → List ℕ → Bool) (name other : List ℕ) (l : List Named) → Alone same other l → Alone same other (without name l)
alone-without same name other l h = each_filter (λ (f : Named). same other f.0 ≡ false) _ l h

apart-without : (same : List ℕ → List ℕ → Bool) (name : List ℕ) (l : List Named) → Apart same l → Apart same (without name l)
apart-without same name [] h = tt
apart-without same name (e ∷ l) h = elim (eq_by_cmp names_cmp name e.0) as (λ b. Apart same (cond (not b) (e ∷ without name l) (without name l))) [
  | true ↦ apart-without same name l h.1
  | false ↦ (alone-without same name e.0 l h.0, apart-without same name l h.1)
]

-- a directory of fewer names weighs less
weight-without : (name : List ℕ) (l : List Named) → weight (without name l) ≤ weight l
weight-without name [] = omega arith
weight-without name (e ∷ l) = by (eq_by_cmp names_cmp name e.0) (weight-without name l)
  where
    all : (m : List Named) → weight (e ∷ m) ≡ length e.0 + 36 + weight m
    all m = sum_by-cons (λ (e : Named). length e.0 + 36) e m

    by : (b : Bool) → weight (without name l) ≤ weight l → weight (cond (not b) (e ∷ without name l) (without name l)) ≤ weight (e ∷ l)
    by true later = omega (arith, later, all l)
    by false later = omega (arith, later, all l, all (without name l))

stays-basic : (p : Profile) (name : List ℕ) (l : List Named) → is_sharded p l ≡ false → is_sharded p (without name l) ≡ false
stays-basic p name l h = le-ltb p.threshold (weight (without name l)) (omega (arith, light p l h, weight-without name l))

-- in one block a pair takes no more than in a slot
leaves-pairs : (l : List Named) → adds pair_cost l ≤ adds leaf_cost l
unfolding adds
leaves-pairs [] = omega arith
leaves-pairs (e ∷ l) = omega (arith, leaves-pairs l, cost-mono (length e.0) (2 + length e.0) e.1.tsize e.1.tsize (omega arith) (omega arith))

module _ (X : List ℕ → List ℕ) (N : List ℕ → ℕ) (meta : Meta) (name : List ℕ) (old : Entry) (l : List Named) (good : IsHash X) (fits : (name : List ℕ) → N name < 2 ^ 64) (dir : IsDirectory l) (is : find names_cmp name l ≡ Some old) where
  abbrev after : List Named
  after = without name l

  after-named : AllByRecursion IsNamed after
  after-named = each_filter IsNamed _ l dir.each

  abbrev tsize_as : Bool → List Named → ℕ
  tsize_as b m = (cond b (shard X N 7 meta m) (basic_dir X N meta m)).entry.tsize

  -- one block, and then a smaller one
  one-block : tsize_as false l ≤ 2 ^ 62 → tsize_as false after < tsize_as false l
  one-block most =
      let tsize : tsize_as false l ≡ capped (basic_size meta l) = basic-tsize X N meta l in
      let less : tsize_as false after ≡ capped (basic_size meta after) = basic-tsize X N meta after in
      let whole : capped (basic_size meta l) ≡ basic_size meta l = cap-small (basic_size meta l) (omega (arith, tsize, most)) in
      let gone : adds pair_cost after + 1 ≤ adds pair_cost l = adds-without pair_cost 1 (λ e. omega (arith, cost-least (length e.0) e.1.tsize)) name old l is in
      omega (arith, tsize, less, whole, gone, cap-le (basic_size meta after), basic-size meta l dir.each, basic-size meta after after-named)

  module _ (apart : Apart (same_hash N) l) (most : tsize_as true l ≤ 2 ^ 62) where
    whole : tsize_as true l ≡ size X N 7 l + meta_size meta
    whole =
        let tsize : tsize_as true l ≡ capped (size X N 7 l + meta_size meta) = top-tsize X N 7 meta l in
        tsize ∙ cap-small (size X N 7 l + meta_size meta) (omega (arith, tsize, most))

    -- shards, and then smaller ones
    shards : tsize_as true after < tsize_as true l
    shards =
        let less : tsize_as true after ≡ capped (size X N 7 after + meta_size meta) = top-tsize X N 7 meta after in
        let falls : size X N 7 after < size X N 7 l = removal X N good name old 7 l dir.each (as_T _ dir.sorted) (has-shard N fits l (Apart-twins (same_hash N) l apart)) (omega (arith, whole, most)) is in
        omega (arith, less, falls, whole, cap-le (size X N 7 after + meta_size meta))

    -- shards, and then one block
    crossing : tsize_as false after < tsize_as true l
    crossing =
        let less : tsize_as false after ≡ capped (basic_size meta after) = basic-tsize X N meta after in
        let gone : adds pair_cost after + 1 ≤ adds pair_cost l = adds-without pair_cost 1 (λ e. omega (arith, cost-least (length e.0) e.1.tsize)) name old l is in
        let leaves : 11 + adds leaf_cost l ≤ size X N 7 l = shard-leaves X N good 7 l dir.each (has-shard N fits l (Apart-twins (same_hash N) l apart)) (omega (arith, whole, most)) in
        omega (arith, less, gone, leaves, leaves-pairs l, whole, cap-le (basic_size meta after), basic-size meta after after-named)

    no-twins : collides N true after ≡ None
    no-twins = apart-collision N after (Apart-twins (same_hash N) after (apart-without (same_hash N) name l apart))

  falls-as : (b c : Bool) → (b ≡ false → c ≡ false) → collides N b l ≡ None → tsize_as b l ≤ 2 ^ 62 → (tsize_as c after < tsize_as b l) × (collides N c after ≡ None)
  falls-as true true stays h most = let apart = no-collision N l h in (shards apart most, no-twins apart most)
  falls-as true false stays h most = (crossing (no-collision N l h) most, refl)
  falls-as false true stays h most = absurd (no (stays refl))
    where
      no : true ≡ false → ⊥
      no e = cc
  falls-as false false stays h most = (one-block most, refl)

  removed : (p : Profile) → dir_refusal X N p meta l ≡ None → ((own_plan X N p meta after).entry.tsize < (own_plan X N p meta l).entry.tsize) × (collides N (is_sharded p after) after ≡ None)
  removed p h = let parts = unrefused X N p meta l h in falls-as (is_sharded p l) (is_sharded p after) (stays-basic p name l) parts.0 parts.1

  pub removed-less : (p : Profile) → dir_refusal X N p meta l ≡ None → (own_plan X N p meta (without name l)).entry.tsize < (own_plan X N p meta l).entry.tsize
  removed-less p h = (removed p h).0

  pub removed-plan : (p : Profile) → dir_refusal X N p meta l ≡ None → dir_refusal X N p meta (without name l) ≡ None
  removed-plan p h = let both = removed p h in allowed X N p meta after both.1 (omega (arith, both.0, (unrefused X N p meta l h).1))
