-- Shards of one root are of one list of names and entries.
use Rattle.std.proofs.Common.{◌≡◌, ℕ, zero, suc, ◌-◌, ◌<◌, ◌≤◌, List, [], ◌∷◌, length, refl, ap, arith, sym, ◌∙◌, ◌⊎◌, inl, inr, T, cond, None, Some}
use Rattle.std.specs.Prelude.{◌==◌, IsTrue}
use Rattle.std.specs.List.{AllByRecursion}
use Rattle.std.specs.Ordering.{nat_cmp}
use Rattle.std.specs.FinMap.Entries.{is_sorted, find, find-where_key, is_sorted-where_key, same_entries}
use Rattle.uf_cid.specs.Blocks.{Held, Lookup, Holds}
use Rattle.uf_murmur.specs.Slots.{slot}
use Rattle.uf_tree.specs.declared.meta.Meta.{Meta}
use Rattle.uf_tree.specs.declared.nodes.Entry.{Entry}
use Rattle.uf_tree.specs.FilePlan.{Plan}
use Rattle.uf_tree.specs.Metas.{is_meta, none}
use Rattle.uf_tree.specs.Names.{names_cmp}
use Rattle.uf_tree.specs.Nodes.{Named, InSlot, shard_block}
use Rattle.uf_tree.specs.Shardable.{HasShard}
use Rattle.uf_tree.specs.ShardPlan.{bucket, no_shard, shard, shard_at, shard_items, slot_blocks, slot_item}
use Rattle.uf_tree.specs.Validity.{IsHash, IsEntry, IsNamed, IsShard}
use Rattle.uf_tree.proofs.Each.{at_flat_tabulate, each_filter}
use Rattle.uf_tree.proofs.MetaNumbers.{none-is_meta}
use Rattle.uf_tree.proofs.ShardLaws.{eqb_same, find-tabulate, names_exact, names_total, slot-bound}
use Rattle.uf_tree.proofs.Valid.{node_entry-valid, shard-valid, shard_items-valid}
use Rattle.uf_laws.proofs.OneBlock.{one_block, one_shard_block}

module _ (N : List ℕ → ℕ) (k : ℕ) where
  -- a name is looked up in its slot's pairs
  in_bucket : (q : List ℕ) (l : List Named) → find names_cmp q (bucket N k (slot (N q) k) l) ≡ find names_cmp q l
  in_bucket q l =
      find-where_key names_cmp (λ name. slot (N name) k == slot (N q) k) q (λ x e. ap (λ name. slot (N name) k == slot (N q) k) (sym (names_exact q x e))) l
      ∙ ap (λ b. cond b (find names_cmp q l) None) (eqb_same (slot (N q) k))

  -- lists that have the same pairs in each slot are one
  same_by_slots : (l m : List Named) → T (is_sorted names_cmp l) → T (is_sorted names_cmp m) → ((s : ℕ) → s < 256 → bucket N k s l ≡ bucket N k s m) → l ≡ m
  same_by_slots l m h j same =
      same_entries names_cmp names_total names_exact l m h j (λ q. sym (in_bucket q l) ∙ ap (find names_cmp q) (same (slot (N q) k) (slot-bound (N q) k)) ∙ in_bucket q m)

  -- what a slot has is the same where all slots have the same
  same_at : (deeper : List Named → Plan) (l m : List Named) → shard_items N deeper k l ≡ shard_items N deeper k m → (s : ℕ) → s < 256
      → slot_item deeper (bucket N k s l) ≡ slot_item deeper (bucket N k s m)
  same_at deeper l m e s small =
      sym (find-tabulate 256 0 (λ s. slot_item deeper (bucket N k s l)) s (omega arith) (omega arith))
      ∙ ap (find nat_cmp s) e
      ∙ find-tabulate 256 0 (λ s. slot_item deeper (bucket N k s m)) s (omega arith) (omega arith)

-- the pairs of a slot are those that the slot has, where pairs of one shard below are one list
same_pairs : (deeper : List Named → Plan) (a b : List Named) → (2 ≤ length a → 2 ≤ length b → (deeper a).entry ≡ (deeper b).entry → a ≡ b) → slot_item deeper a ≡ slot_item deeper b → a ≡ b
same_pairs deeper [] [] h e = refl
same_pairs deeper [] (e ∷ []) h k = absurd cc
same_pairs deeper [] (e ∷ f ∷ l) h k = absurd cc
same_pairs deeper (e ∷ []) [] h k = absurd cc
same_pairs deeper (e ∷ []) (f ∷ []) h k = let name : e.0 ≡ f.0 = cc in let entry : e.1 ≡ f.1 = cc in λ i. (name i, entry i) ∷ []
same_pairs deeper (e ∷ []) (f ∷ g ∷ l) h k = absurd cc
same_pairs deeper (e ∷ f ∷ l) [] h k = absurd cc
same_pairs deeper (e ∷ f ∷ l) (g ∷ []) h k = absurd cc
same_pairs deeper (e ∷ f ∷ l) (g ∷ d ∷ m) h k = h (omega arith) (omega arith) (let one : (deeper (e ∷ f ∷ l)).entry ≡ (deeper (g ∷ d ∷ m)).entry = cc in one)

shared_held : (held : Lookup) (deeper : List Named → Plan) (a : List Named) → 2 ≤ length a → Holds held (slot_blocks deeper a) → Holds held (deeper a).blocks
shared_held held deeper [] two h = absurd (omega arith)
shared_held held deeper (e ∷ []) two h = absurd (omega arith)
shared_held held deeper (e ∷ f ∷ l) two h = h

module _ (X : List ℕ → List ℕ) (N : List ℕ → ℕ) (good : IsHash X) (held : Lookup) where
  -- pairs that have a shard with so many levels below it, whose blocks are held
  pub record Sharded (left : ℕ) (m : Meta) (l : List Named) : Type 0 where
    pub carried : IsTrue (is_meta m)
    pub sorted : T (is_sorted names_cmp l)
    pub named : AllByRecursion IsNamed l
    pub some : 1 ≤ length l
    pub has : HasShard N left l
    pub all : Holds held (shard X N left m l).blocks

  -- a slot's pairs, where they are more than one
  below_sharded : (left : ℕ) (m : Meta) (l : List Named) → Sharded (suc left) m l → (s : ℕ) → s < 256 → 2 ≤ length (bucket N (6 - left) s l) → Sharded left none (bucket N (6 - left) s l)
  unfolding shard HasShard
  below_sharded left m l h s small two = record {
    carried = none-is_meta;
    sorted = is_sorted-where_key names_cmp (λ name. slot (N name) (6 - left) == s) l h.sorted;
    named = each_filter IsNamed (λ (e : Named). slot (N e.0) (6 - left) == s) l h.named;
    some = omega arith;
    has = by (h.has s);
    all = shared_held held (shard X N left none) (bucket N (6 - left) s l) two
        (at_flat_tabulate (λ (b : Held). held b.0 ≡ Some b.1) 256 0 (λ s. slot_blocks (shard X N left none) (bucket N (6 - left) s l)) s (omega arith) (omega arith) h.all.1);
  }
    where
      by : (length (bucket N (6 - left) s l) ≤ 1) ⊎ HasShard N left (bucket N (6 - left) s l) → HasShard N left (bucket N (6 - left) s l)
      by (inl few) = absurd (omega arith)
      by (inr has) = has

  -- shards of one CID have the same metadata, and the same in each slot
  same_items : (deeper : List Named → Plan) → ((m : List Named) → IsEntry (deeper m).entry) → (k : ℕ) (a b : Meta) (l m : List Named) → IsTrue (is_meta a) → IsTrue (is_meta b)
      → AllByRecursion IsNamed l → AllByRecursion IsNamed m → 1 ≤ length l → 1 ≤ length m
      → Holds held (shard_at X N deeper k a l).blocks → Holds held (shard_at X N deeper k b m).blocks → (shard_at X N deeper k a l).entry.cid ≡ (shard_at X N deeper k b m).entry.cid
      → (a ≡ b) × (shard_items N deeper k l ≡ shard_items N deeper k m)
  same_items deeper valid k a b l m carried kept named others some one h j e =
      one_shard_block a b (shard_items N deeper k l) (shard_items N deeper k m) carried kept (shard_items-valid N deeper valid k l named some) (shard_items-valid N deeper valid k m others one)
      (one_block held (shard_at X N deeper k a l).entry.cid (shard_at X N deeper k b m).entry.cid _ _ e h.0 j.0)

  none_valid : (m : List Named) → IsEntry (no_shard X N m).entry
  none_valid m = node_entry-valid X good [] []

  -- pairs of one root are one list, with one metadata
  pub same_shard : (left : ℕ) (a b : Meta) (l m : List Named) → Sharded left a l → Sharded left b m → (shard X N left a l).entry.cid ≡ (shard X N left b m).entry.cid → (a ≡ b) × (l ≡ m)
  unfolding shard HasShard
  same_shard zero a b l m h j e =
      let same = same_items (no_shard X N) none_valid 7 a b l m h.carried j.carried h.named j.named h.some j.some h.all j.all e in (
        same.0,
        same_by_slots N 7 l m h.sorted j.sorted (λ s small.
            same_pairs (no_shard X N) (bucket N 7 s l) (bucket N 7 s m) (λ two more same. absurd (let few : length (bucket N 7 s l) ≤ 1 = h.has s in omega arith)) (same_at N 7 (no_shard X N) l m same.1 s small)),
      )
  same_shard (suc left) a b l m h j e =
      let below = same_shard left none none in
      let same = same_items (shard X N left none) (shard-valid X good N left none) (6 - left) a b l m h.carried j.carried h.named j.named h.some j.some h.all j.all e in (
        same.0,
        same_by_slots N (6 - left) l m h.sorted j.sorted (λ s small.
            same_pairs (shard X N left none) (bucket N (6 - left) s l) (bucket N (6 - left) s m)
            (λ two more one. (below (bucket N (6 - left) s l) (bucket N (6 - left) s m) (below_sharded left a l h s small two) (below_sharded left b m j s small more) (ap (λ (x : Entry). x.cid) one)).1)
            (same_at N (6 - left) (shard X N left none) l m same.1 s small)),
      )

  -- the slots of the root, and its block
  abbrev pub root_items : List Named → List InSlot
  root_items l = shard_items N (shard X N 6 none) 0 l

  pub root_valid : (m : Meta) (l : List Named) → Sharded 7 m l → IsShard (root_items l)
  root_valid m l h = shard_items-valid N (shard X N 6 none) (shard-valid X good N 6 none) 0 l h.named h.some

  pub root_held : (m : Meta) (l : List Named) → Sharded 7 m l → held (shard X N 7 m l).entry.cid ≡ Some (shard_block m (root_items l))
  unfolding shard
  root_held m l h = h.all.0
