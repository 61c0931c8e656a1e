-- How many touches edits of directories need.
use Rattle.std.proofs.Common.{◌≡◌, ◌≢◌, Option, None, Some, ℕ, zero, suc, ◌+◌, ◌-◌, ◌*◌, ◌/◌, ◌≤◌, List, [], ◌∷◌, length, min, refl, arith, sym, subst, Bool, true, false, cond, T, length-append}
use Rattle.std.specs.Prelude.{◌==◌, IfOk, IsTrue, not}
use Rattle.std.specs.declared.result.Result.{Result}
use Rattle.std.specs.declared.result.Result.TheVariants.{Ok, Err}
use Rattle.std.specs.FinMap.Entries.{find, is_sorted, is_sorted-where_key}
use Rattle.std.specs.Ordering.{eq_by_cmp}
use Rattle.uf_cid.specs.Blocks.{Held}
use Rattle.uf_murmur.specs.Slots.{slot}
use Rattle.uf_store.specs.declared.store.StoreFault.{StoreFault}
use Rattle.uf_tree.specs.declared.meta.Meta.{Meta}
use Rattle.uf_tree.specs.declared.nodes.DirNode.{DirNode}
use Rattle.uf_tree.specs.declared.nodes.Entry.{Entry}
use Rattle.uf_tree.specs.declared.profile.Profile.{Profile}
use Rattle.uf_tree.specs.Changes.{without}
use Rattle.uf_tree.specs.DirPlan.{basic_dir, is_sharded}
use Rattle.uf_tree.specs.FilePlan.{Plan}
use Rattle.uf_tree.specs.Metas.{none}
use Rattle.uf_tree.specs.Names.{names_cmp}
use Rattle.uf_tree.specs.Nodes.{Named}
use Rattle.uf_tree.specs.ShardPlan.{bucket, flat_tabulate, no_shard, shard, shard_below, slot_blocks}
use Rattle.uf_tree.specs.TreePlan.{Refusal, collision}
use Rattle.uf_tree.proofs.ShardLaws.{bucket-remove}
use Rattle.uf_dir.specs.Bounds.{IsFree, crossing, gathering, settling, shard_count, splitting, weighing, weighing_from}
use Rattle.uf_dir.specs.Planned.{own_blocks}

as_T : (b : Bool) → b ≡ true → T b
as_T b e = subst T (sym e) tt

from_T : (b : Bool) → T b → b ≡ true
from_T true t = refl
from_T false t = absurd t

-- slot by slot no more
fewer-flat : (n a : ℕ) (f g : ℕ → List Held) → ((s : ℕ) → length (f s) ≤ length (g s)) → length (flat_tabulate n a f) ≤ length (flat_tabulate n a g)
unfolding flat_tabulate
fewer-flat zero a f g h = omega arith
fewer-flat (suc n) a f g h =
    let here : length (f a) ≤ length (g a) = h a in
    let rest = fewer-flat n (suc a) f g h in
    let left = length-append (f a) (flat_tabulate n (suc a) f) in
    let right = length-append (g a) (flat_tabulate n (suc a) g) in
    omega (arith, here, rest, left, right)

fewer-slot : (d : List Named → Plan) (name : List ℕ) → ((m : List Named) → IsTrue (is_sorted names_cmp m) → length (d (without name m)).blocks ≤ length (d m).blocks) → (b : List Named) → IsTrue (is_sorted names_cmp b)
    → length (slot_blocks d (without name b)) ≤ length (slot_blocks d b)
fewer-slot d name h [] sorted = omega arith
fewer-slot d name h (e ∷ []) sorted = elim (not (eq_by_cmp names_cmp name e.0)) as (λ (b : Bool). length (slot_blocks d (cond b (e ∷ []) [])) ≤ 0) [ true ↦ omega arith | false ↦ omega arith ]
fewer-slot d name h (e ∷ f ∷ l) sorted = by (without name (e ∷ f ∷ l)) (h (e ∷ f ∷ l) sorted)
  where
    by : (m : List Named) → length (d m).blocks ≤ length (d (e ∷ f ∷ l)).blocks → length (slot_blocks d m) ≤ length (d (e ∷ f ∷ l)).blocks
    by [] k = omega arith
    by (x ∷ []) k = omega arith
    by (x ∷ y ∷ m) k = k

sorted_bucket : (N : List ℕ → ℕ) (k s : ℕ) (l : List Named) → IsTrue (is_sorted names_cmp l) → IsTrue (is_sorted names_cmp (bucket N k s l))
sorted_bucket N k s l h = from_T _ (is_sorted-where_key names_cmp (λ n. slot (N n) k == s) l (as_T _ h))

fewer-below : (N : List ℕ → ℕ) (d : List Named → Plan) (k : ℕ) (name : List ℕ) → ((m : List Named) → IsTrue (is_sorted names_cmp m) → length (d (without name m)).blocks ≤ length (d m).blocks) → (l : List Named) → IsTrue (is_sorted names_cmp l)
    → length (shard_below N d k (without name l)) ≤ length (shard_below N d k l)
fewer-below N d k name h l sorted = fewer-flat 256 0 (λ s. slot_blocks d (bucket N k s (without name l))) (λ s. slot_blocks d (bucket N k s l)) each
  where
    each : (s : ℕ) → length (slot_blocks d (bucket N k s (without name l))) ≤ length (slot_blocks d (bucket N k s l))
    each s = subst (λ (b : List Named). length (slot_blocks d b) ≤ length (slot_blocks d (bucket N k s l))) (sym (bucket-remove N k s name l (as_T _ sorted))) (by (slot (N name) k == s))
      where
        by : (t : Bool) → length (slot_blocks d (cond t (without name (bucket N k s l)) (bucket N k s l))) ≤ length (slot_blocks d (bucket N k s l))
        by true = fewer-slot d name h (bucket N k s l) (sorted_bucket N k s l sorted)
        by false = omega arith

-- a removal adds no shard
pub fewer-shards : (X : List ℕ → List ℕ) (N : List ℕ → ℕ) (name : List ℕ) (left : ℕ) (l : List Named) → IsTrue (is_sorted names_cmp l) → length (shard X N left none (without name l)).blocks ≤ length (shard X N left none l).blocks
unfolding shard
fewer-shards X N name zero l sorted = let below = fewer-below N (no_shard X N) 7 name (λ m s. let z : 0 ≤ 0 = omega arith in z) l sorted in omega (arith, below)
fewer-shards X N name (suc left) l sorted = let below = fewer-below N (shard X N left none) (6 - left) name (λ m s. fewer-shards X N name left m s) l sorted in omega (arith, below)

pub some-shard : (X : List ℕ → List ℕ) (N : List ℕ → ℕ) (left : ℕ) (l : List Named) → 1 ≤ length (shard X N left none l).blocks
unfolding shard
some-shard X N zero l = omega arith
some-shard X N (suc left) l = omega arith

-- as many shards whatever the metadata
pub count-is : (X : List ℕ → List ℕ) (N : List ℕ → ℕ) (meta : Meta) (l : List Named) → length (shard X N 7 meta l).blocks ≡ shard_count X N l
unfolding shard
count-is X N meta l = refl

module _ (X : List ℕ → List ℕ) (N : List ℕ → ℕ) (p : Profile) (meta : Meta) where
  -- one block, or the shards that a light directory becomes, where no two of its names have one hash
  basic-crossing : (l m : List Named) (t1 t2 : ℕ) → is_sharded p l ≡ false → t2 ≤ t1 + length (own_blocks X N p meta m) → IsFree N p m t1 t2 → t2 ≤ t1 + (1 + crossing X N p l m)
  basic-crossing l m t1 t2 light most free =
      subst (λ (b : Bool). t2 ≤ t1 + (1 + cond b (cond (is_sharded p m) 0 (splitting X N l)) (cond (is_sharded p m) (splitting X N m) 0))) (sym light) (by (is_sharded p m) most free)
    where
      split : (o : Option Refusal) → t2 ≤ t1 + shard_count X N m → (o ≢ None → t2 ≡ t1) → t2 ≤ t1 + (1 + elim o [ None ↦ 4 * shard_count X N m | Some refusal ↦ 0 ])
      split None h same = omega (arith, h)
      split (Some refusal) h same = let stays : t2 ≡ t1 = same (λ no. let absurdity : Some refusal ≡ None = no in cc) in omega (arith, stays)

      by : (b : Bool) → t2 ≤ t1 + length (cond b (shard X N 7 meta m) (basic_dir X N meta m)).blocks → (b ≡ true → collision N m ≢ None → t2 ≡ t1) → t2 ≤ t1 + (1 + cond b (splitting X N m) 0)
      by true h same = let count = count-is X N meta m in split (collision N m) (omega (arith, h, count)) (same refl)
      by false h same = omega (arith, h)

  pub basic-touches : (node : DirNode) (l : List Named) (change : List Named → List Named) (t0 t1 t2 : ℕ) → node ≡ record { pairs = l; meta = meta } → is_sharded p l ≡ false → t1 ≡ t0 + 1 → t2 ≤ t1 + length (own_blocks X N p node.meta (change node.pairs))
      → IsFree N p (change node.pairs) t1 t2 → t2 ≤ t0 + (17 + crossing X N p l (change l))
  basic-touches node l change t0 t1 t2 same light first second free =
      let most : t2 ≤ t1 + (1 + crossing X N p l (change l)) = basic-crossing l (change l) t1 t2 light (subst (λ (n : DirNode). t2 ≤ t1 + length (own_blocks X N p n.meta (change n.pairs))) same second)
      (subst (λ (n : DirNode). IsFree N p (change n.pairs) t1 t2) same free) in
      omega (arith, most, first)

  pub basic-takes : (name : List ℕ) (l m : List Named) (t0 t1 t2 : ℕ) → t1 ≡ t0 + 1 → t2 ≤ t1 + 1 → t2 ≤ t0 + (18 + weighing_from X N p name l + crossing X N p l m)
  basic-takes name l m t0 t1 t2 first second = few (crossing X N p l m) (weighing_from X N p name l)
    where
      few : (c w : ℕ) → t2 ≤ t0 + (18 + w + c)
      few c w = omega (arith, first, second)

  -- few touches, whatever the name is
  pub few-takes : (name : List ℕ) (l : List Named) (t0 t2 : ℕ) → t2 ≤ t0 + 16 → t2 ≤ t0 + (16 + settling X N p name l)
  few-takes name l t0 t2 h = few (settling X N p name l)
    where
      few : (w : ℕ) → t2 ≤ t0 + (16 + w)
      few w = omega (arith, h)

  pub sharded-takes : (name : List ℕ) (l : List Named) (t0 t1 t2 : ℕ) → is_sharded p l ≡ true → collision N l ≡ None → t1 ≡ t0 + 1 → t2 ≤ t1 + (16 + settling X N p name l)
      → t2 ≤ t0 + (18 + weighing_from X N p name l + crossing X N p l (without name l))
  sharded-takes name l t0 t1 t2 heavy apart first second = found (find names_cmp name l) second
    where
      by : (b : Bool) (w s : ℕ) → 1 ≤ s → t2 ≤ t1 + (16 + (w + cond b 0 (s + 1))) → t2 ≤ t0 + (18 + w + cond b 0 (4 * s))
      by true w s some h = omega (arith, first)
      by false w s some h = omega (arith, first)

      found : (o : Option Entry) → t2 ≤ t1 + (16 + elim o [ None ↦ 0 | Some old ↦ weighing p (shard_count X N l) + gathering p (shard_count X N l) (without name l) ])
          → t2 ≤ t0 + (18 + elim o [ None ↦ 0 | Some old ↦ cond (is_sharded p l) (weighing p (shard_count X N l)) 0 ] + crossing X N p l (without name l))
      found None h = none (crossing X N p l (without name l))
        where
          none : (c : ℕ) → t2 ≤ t0 + (18 + 0 + c)
          none c = omega (arith, first, h)
      found (Some old) h =
          subst (λ (b : Bool). t2 ≤ t0 + (18 + cond b (weighing p (shard_count X N l)) 0 + cond b (cond (is_sharded p (without name l)) 0 (splitting X N l)) (cond (is_sharded p (without name l)) (splitting X N (without name l)) 0))) (sym heavy)
          (subst (λ (o : Option Refusal). t2 ≤ t0 + (18 + weighing p (shard_count X N l) + cond (is_sharded p (without name l)) 0 (elim o [ None ↦ 4 * shard_count X N l | Some refusal ↦ 0 ]))) (sym apart)
          (by (is_sharded p (without name l)) (weighing p (shard_count X N l)) (shard_count X N l) (some-shard X N 7 l) h))

  -- shards that were weighed
  weighed : (l : List Named) (limit t0 t1 : ℕ) → limit ≡ p.threshold → t1 ≤ t0 + min (length (shard X N 7 meta l).blocks) (4 * (limit / 37 + 1) + 8) → t1 ≤ t0 + weighing p (shard_count X N l)
  weighed l limit t0 t1 same h =
      subst (λ (n : ℕ). t1 ≤ t0 + min n (4 * (p.threshold / 37 + 1) + 8)) (count-is X N meta l)
      (subst (λ (k : ℕ). t1 ≤ t0 + min (length (shard X N 7 meta l).blocks) (4 * (k / 37 + 1) + 8)) same h)

  pub weighed-touches : (l : List Named) (limit t0 t1 : ℕ) → limit ≡ p.threshold → t1 ≤ t0 + min (length (shard X N 7 meta l).blocks) (4 * (limit / 37 + 1) + 8)
      → t1 ≤ t0 + (weighing p (shard_count X N l) + gathering p (shard_count X N l) l)
  weighed-touches l limit t0 t1 same h = more (weighing p (shard_count X N l)) (gathering p (shard_count X N l) l) (weighed l limit t0 t1 same h)
    where
      more : (a b : ℕ) → t1 ≤ t0 + a → t1 ≤ t0 + (a + b)
      more a b h = omega (arith, h)

  -- and then gathered
  pub gathered-touches : (l : List Named) (limit t0 t1 t2 : ℕ) → limit ≡ p.threshold → is_sharded p l ≡ false → t1 ≤ t0 + min (length (shard X N 7 meta l).blocks) (4 * (limit / 37 + 1) + 8) → t2 ≤ t1 + (shard_count X N l + 1)
      → t2 ≤ t0 + (weighing p (shard_count X N l) + gathering p (shard_count X N l) l)
  gathered-touches l limit t0 t1 t2 same light h second =
      subst (λ (b : Bool). t2 ≤ t0 + (weighing p (shard_count X N l) + cond b 0 (shard_count X N l + 1))) (sym light) (both (weighing p (shard_count X N l)) (shard_count X N l) (weighed l limit t0 t1 same h) second)
    where
      both : (a n : ℕ) → t1 ≤ t0 + a → t2 ≤ t1 + (n + 1) → t2 ≤ t0 + (a + (n + 1))
      both a n h k = omega (arith, h, k)

  less-weighing : (a b : ℕ) → a ≤ b → weighing p a ≤ weighing p b
  less-weighing a b h = by a b (4 * (p.threshold / 37 + 1) + 8) h
    where
      by : (a b c : ℕ) → a ≤ b → min a c ≤ min b c
      by a b c h = omega arith

  less-gathering : (a b : ℕ) (m : List Named) → a ≤ b → gathering p a m ≤ gathering p b m
  less-gathering a b m h = elim (is_sharded p m) as (λ (t : Bool). cond t 0 (a + 1) ≤ cond t 0 (b + 1)) [ true ↦ omega arith | false ↦ omega arith ]

  pub left-takes : (name : List ℕ) (l : List Named) (old : Entry) (t0 t1 t2 : ℕ) → find names_cmp name l ≡ Some old → IsTrue (is_sorted names_cmp l) → t1 ≤ t0 + 15
      → t2 ≤ t1 + (weighing p (shard_count X N (without name l)) + gathering p (shard_count X N (without name l)) (without name l)) → t2 ≤ t0 + (16 + settling X N p name l)
  left-takes name l old t0 t1 t2 there sorted first second =
      let fewer = fewer-shards X N name 7 l sorted in
      subst (λ (o : Option Entry). t2 ≤ t0 + (16 + elim o [ None ↦ 0 | Some old ↦ weighing p (shard_count X N l) + gathering p (shard_count X N l) (without name l) ])) (sym there)
      (sum t0 t1 t2 (weighing p (shard_count X N (without name l))) (weighing p (shard_count X N l)) (gathering p (shard_count X N (without name l)) (without name l)) (gathering p (shard_count X N l) (without name l)) first second
      (less-weighing (shard_count X N (without name l)) (shard_count X N l) fewer) (less-gathering (shard_count X N (without name l)) (shard_count X N l) (without name l) fewer))
    where
      sum : (t0 t1 t2 w v g h : ℕ) → t1 ≤ t0 + 15 → t2 ≤ t1 + (w + g) → w ≤ v → g ≤ h → t2 ≤ t0 + (16 + (v + h))
      sum t0 t1 t2 w v g h a b c d = omega (arith, a, b, c, d)

-- few touches where a name isn't there, behind the load of the root
pub absent-after : (r : Result (Option Entry) StoreFault) (t0 t1 t2 : ℕ) → t1 ≡ t0 + 1 → IfOk r (λ left. left ≡ None → t2 ≤ t1 + 7) → IfOk r (λ left. left ≡ None → t2 ≤ t0 + 9)
absent-after (Ok left) t0 t1 t2 first h = λ none. let few : t2 ≤ t1 + 7 = h none in omega (arith, first, few)
absent-after (Err fault) t0 t1 t2 first h = tt

pub absent-here : (r : Result (Option Entry) StoreFault) (t0 t1 t2 : ℕ) → t1 ≡ t0 + 1 → IfOk r (λ left. left ≡ None → t2 ≡ t1) → IfOk r (λ left. left ≡ None → t2 ≤ t0 + 9)
absent-here (Ok left) t0 t1 t2 first h = λ none. let same : t2 ≡ t1 = h none in omega (arith, first, same)
absent-here (Err fault) t0 t1 t2 first h = tt
