-- The slots of shards on the way of a name, read where they stand.
use Rattle.std.proofs.Common.{◌≡◌, ℕ, zero, suc, ◌+◌, ◌-◌, ◌<◌, ◌≤◌, List, [], ◌∷◌, length, map, refl, ap, arith, sym, ◌∙◌, subst, Bool, true, false, cond, Option, None, Some, inl, inr, T}
use Rattle.std.specs.Prelude.{◌==◌, IfSome}
use Rattle.std.specs.FinMap.Entries.{find, is_sorted-where_key}
use Rattle.std.specs.List.{AllByRecursion}
use Rattle.std.specs.Ordering.{nat_cmp}
use Rattle.std.proofs.lemmas.Bool.Decides.{nat_tests}
use Rattle.uf_cid.specs.declared.cid.Cid.{Cid}
use Rattle.uf_cid.specs.Blocks.{Held}
use Rattle.uf_cid.specs.Blocks as blocks
use Rattle.uf_murmur.specs.Slots.{slot}
use Rattle.uf_store.specs.Contents.{Contents, Told, held_at}
use Rattle.uf_store.specs.Keeping.{Agrees, AreGood}
use Rattle.uf_store.specs.Lost.{IsLost, LosesOne}
use Rattle.uf_store.specs.Seen.{Seen}
use Rattle.uf_store.specs.declared.store.StoreFault.{StoreFault}
use Rattle.uf_store.specs.declared.store.StoreFault.TheVariants.{Failed, Damaged, Missing, BadBlock, Clash, Memory}
use Rattle.std.specs.declared.result.Result.TheVariants.{Err}
use Rattle.uf_tree.specs.declared.nodes.Entry.{Entry}
use Rattle.uf_tree.specs.declared.meta.Meta.{Meta}
use Rattle.uf_tree.specs.declared.nodes.Item.{Item}
use Rattle.uf_tree.specs.declared.nodes.ShardNode.{ShardNode}
use Rattle.uf_tree.specs.Codecs.{shard_node_block}
use Rattle.uf_tree.specs.FilePlan.{Plan}
use Rattle.uf_tree.specs.Metas.{none}
use Rattle.uf_tree.specs.Names.{names_cmp}
use Rattle.uf_tree.specs.Nodes.{InSlot, Named, item_entry, node_entry, shard_block}
use Rattle.uf_tree.specs.Roles.{IsCanonicalShard}
use Rattle.uf_tree.specs.Shardable.{HasShard}
use Rattle.uf_tree.specs.ShardPlan.{bucket, flat_tabulate, shard, shard_at, shard_held, shard_items, slot_blocks, slot_item}
use Rattle.uf_tree.specs.Validity.{IsDirectory, IsEntry, IsHash, IsNamed, IsShard}
use Rattle.uf_tree.proofs.Canonical.{shard-canonical}
use Rattle.uf_tree.proofs.Each.{at_flat_tabulate, each_filter, each_flat_tabulate}
use Rattle.uf_tree.proofs.ShardLaws.{find-tabulate, slot-bound}
use Rattle.uf_tree.proofs.Valid.{node_entry-valid, shard-valid, shard_items-valid}
use Rattle.uf_shard.specs.Buckets.{FitsSlot, deeper}
use Rattle.uf_shard.specs.Placed.{way}
use Rattle.uf_shard.specs.Reached.{HasPlaced, IsReached, LoadsPlaced}
use Rattle.uf_shard.proofs.Digests.{shard-digested}
use Rattle.uf_shard.proofs.One.{same-items, same-meta}
use Rattle.uf_shard.proofs.Ways.{further, way-length}
use Rattle.uf_shard.specs.Changed.{AreAlong, AreItems, IsSlot, MayLose, below, blocks_of, level, slots_of}
use Rattle.uf_shard.specs.Known.{IsIn}
use Rattle.uf_shard.proofs.Knowing.{AreIn, In-flat}

pub level-is : (left : ℕ) → left ≤ 7 → level left ≡ 7 - left
level-is zero h = refl
level-is (suc left) h = omega arith

as_T : (b : Bool) → b ≡ true → T b
as_T b e = subst T (sym e) tt

from_T : (b : Bool) → T b → b ≡ true
from_T true t = refl
from_T false t = absurd t

tested : (a b : ℕ) → (a == b) ≡ true → a ≡ b
tested a b h = grind (arith, nat_tests)

-- a lost block of a part is lost
pub in_lost : (held : blocks.Lookup) (c : Cid) (k l : List Held) → AreIn k l → IsLost held c k → IsLost held c l
in_lost held c [] l more h = absurd h
in_lost held c (b ∷ k) l more (inl h) = here l (more b (inl refl))
  where
    here : (l : List Held) → IsIn b l → IsLost held c l
    here [] i = absurd i
    here (a ∷ l) (inl same) = inl (h.0 ∙ ap (λ (x : Held). x.0) same, ap (λ (x : Held). held x.0) (sym same) ∙ h.1)
    here (a ∷ l) (inr later) = inr (here l later)
in_lost held c (b ∷ k) l more (inr h) = in_lost held c k l (λ x i. more x (inr i)) h

-- what may be lost of some blocks may be lost of more
pub may-more : (told : Told) (k l : List Held) (fault : StoreFault) → AreIn k l → MayLose told k fault → MayLose told l fault
may-more told k l Failed more h = h
may-more told k l (Damaged c) more h = h
may-more None k l (Missing c) more h = tt
may-more (Some t) k l (Missing c) more h = in_lost (held_at t) c k l more h
may-more told k l (BadBlock c role) more h = h
may-more told k l (Clash c x y) more h = h
may-more told k l Memory more h = h

module _ (X : List ℕ → List ℕ) (N : List ℕ → ℕ) where
  pub shard-is : (left : ℕ) (m : Meta) (l : List Named) → shard X N left m l ≡ shard_at X N (deeper X N left) (level left) m l
  unfolding shard
  shard-is zero m l = refl
  shard-is (suc left) m l = refl

  -- the blocks of a shard: its own, and those below it
  pub blocks-are : (left : ℕ) (m : Meta) (l : List Named) → (shard X N left m l).blocks ≡ shard_held X N m (slots_of X N left l) ∷ below X N left l
  blocks-are left m l = ap (λ (p : Plan). p.blocks) (shard-is left m l)

  pub entry-is : (left : ℕ) (m : Meta) (l : List Named) → (shard X N left m l).entry ≡ node_entry X (shard_block m (slots_of X N left l)) (map (λ (p : InSlot). item_entry p.1) (slots_of X N left l))
  entry-is left m l = ap (λ (p : Plan). p.entry) (shard-is left m l)

  pub below-in : (left : ℕ) (m : Meta) (l : List Named) → AreIn (below X N left l) (shard X N left m l).blocks
  below-in left m l b i = subst (IsIn b) (sym (blocks-are left m l)) (inr i)

  -- the blocks below one of its slots
  pub slot-in : (left : ℕ) (hash : ℕ) (l : List Named) → AreIn (blocks_of X N left (bucket N (level left) (slot hash (level left)) l)) (below X N left l)
  slot-in left hash l b i = In-flat b 256 0 (λ s. slot_blocks (deeper X N left) (bucket N (level left) s l)) (slot hash (level left)) (omega arith) (let bound : slot hash (level left) < 256 = slot-bound hash (level left) in omega arith) i

  -- ---- good blocks

  turned : (l : List Held) → AllByRecursion (λ (b : Held). b.0.digest ≡ X b.1) l → AreGood X l
  turned [] h = tt
  turned (b ∷ l) h = (sym h.0, turned l h.1)

  pub shard-good : (left : ℕ) (m : Meta) (l : List Named) → AreGood X (shard X N left m l).blocks
  shard-good left m l = turned _ (shard-digested X N left m l)

  deeper-good : (left : ℕ) (l : List Named) → AreGood X (deeper X N left l).blocks
  deeper-good zero l = tt
  deeper-good (suc left) l = shard-good left none l

  pub slot-good : (left : ℕ) (l : List Named) → AreGood X (blocks_of X N left l)
  slot-good left [] = tt
  slot-good left (e ∷ []) = tt
  slot-good left (e ∷ f ∷ l) = deeper-good left (e ∷ f ∷ l)

  pub below-good : (left : ℕ) (l : List Named) → AreGood X (below X N left l)
  below-good left l = each_flat_tabulate (λ (b : Held). X b.1 ≡ b.0.digest) 256 0 _ (λ s. slot-good left (bucket N (level left) s l))

  -- ---- a shard that is read

  pub valid_slot : (k s : ℕ) (l : List Named) → IsDirectory l → IsDirectory (bucket N k s l)
  valid_slot k s l valid = record {
    sorted = from_T _ (is_sorted-where_key names_cmp (λ n. slot (N n) k == s) l (as_T _ valid.sorted));
    each = each_filter IsNamed (λ (e : Named). slot (N e.0) k == s) l valid.each;
  }

  along_slot : (hash k : ℕ) (m : List Named) → AreAlong N hash k m → AreAlong N hash (k + 1) (bucket N k (slot hash k) m)
  along_slot hash k [] h = tt
  along_slot hash k (e ∷ m) h = by (slot (N e.0) k == slot hash k) refl (along_slot hash k m h.1)
    where
      by : (b : Bool) → (slot (N e.0) k == slot hash k) ≡ b → AreAlong N hash (k + 1) (bucket N k (slot hash k) m) → AreAlong N hash (k + 1) (cond b (e ∷ bucket N k (slot hash k) m) (bucket N k (slot hash k) m))
      by true t later = (further (N e.0) hash k h.0 (tested _ _ t), later)
      by false t later = later

  fits_slot : (left s : ℕ) (l : List Named) → HasShard N left l → FitsSlot N left (bucket N (level left) s l)
  unfolding HasShard
  fits_slot zero s l h = h s
  fits_slot (suc left) s l h = h s

  agrees_flat : (t : Contents) (n a : ℕ) (f : ℕ → List Held) (s : ℕ) → a ≤ s → s < a + n → blocks.Agrees (held_at t) (flat_tabulate n a f) → blocks.Agrees (held_at t) (f s)
  agrees_flat t n a f s low high h = at_flat_tabulate (λ (b : Held). IfSome (held_at t b.0) (λ bytes. bytes ≡ b.1)) n a f s low high h

  agrees_slot : (told : Told) (left hash : ℕ) (l : List Named) → Agrees told (below X N left l) → Agrees told (blocks_of X N left (bucket N (level left) (slot hash (level left)) l))
  agrees_slot None left hash l h = h
  agrees_slot (Some t) left hash l h =
      agrees_flat t 256 0 (λ s. slot_blocks (deeper X N left) (bucket N (level left) s l)) (slot hash (level left)) (omega arith) (let bound : slot hash (level left) < 256 = slot-bound hash (level left) in omega arith) h

  -- what a slot of it has
  pub slot-read : (hash left : ℕ) → left ≤ 7 → (told : Told) (items : List InSlot) (l : List Named) → AreItems X N hash left told items l → (s : ℕ) → s ≡ slot hash (7 - left) → (found : Option Item) → found ≡ find nat_cmp s items
      → IsSlot X N hash left told found (bucket N (level left) (slot hash (level left)) l)
  slot-read hash left low told items l is s at found seen = record {
    valid = valid_slot (level left) (slot hash (level left)) l is.valid;
    fits = fits_slot left (slot hash (level left)) l is.apart;
    along = subst (λ (n : ℕ). AreAlong N hash n (bucket N (level left) (slot hash (level left)) l)) (let n : level left + 1 ≡ 8 - left = omega (arith, level-is left low) in n)
        (along_slot hash (level left) l (subst (λ (n : ℕ). AreAlong N hash n l) (sym (level-is left low)) is.along));
    same = seen ∙ ap (λ (k : ℕ). find nat_cmp k items) (at ∙ ap (slot hash) (sym (level-is left low))) ∙ ap (find nat_cmp (slot hash (level left))) is.same
        ∙ find-tabulate 256 0 (λ s. slot_item (deeper X N left) (bucket N (level left) s l)) (slot hash (level left)) (omega arith) (let bound : slot hash (level left) < 256 = slot-bound hash (level left) in omega arith);
    agrees = agrees_slot told left hash l is.agrees;
  }

  module _ (good : IsHash X) where
    pub deeper-valid : (left : ℕ) (m : List Named) → IsEntry (deeper X N left m).entry
    deeper-valid zero m = node_entry-valid X good [] []
    deeper-valid (suc left) m = shard-valid X good N left none m

    module _ (hash left : ℕ) (root : Cid) (m : Meta) (l : List Named) (low : left ≤ 7) (is : IsReached X N hash left root m l) where
      slots-valid : IsShard (slots_of X N left l)
      slots-valid = shard_items-valid N (deeper X N left) (deeper-valid left) (level left) l is.valid.each is.some

      along_each : (m : List Named) → AreAlong N hash (7 - left) m → AllByRecursion (λ (e : Named). way (N e.0) (length (way hash (7 - left))) ≡ way hash (7 - left)) m
      along_each [] h = tt
      along_each (e ∷ m) h = (ap (way (N e.0)) (way-length hash (7 - left)) ∙ h.0, along_each m h.1)

      canonical : IsCanonicalShard N (way hash (7 - left)) (shard_block m (slots_of X N left l))
      canonical = subst (λ (k : ℕ). IsCanonicalShard N (way hash (7 - left)) (shard_block m (shard_items N (deeper X N left) k l))) (way-length hash (7 - left) ∙ sym (level-is left low))
          (shard-canonical N (deeper X N left) (deeper-valid left) left (way hash (7 - left)) m l (omega (arith, way-length hash (7 - left))) is.good is.carries is.valid.each is.some (along_each l is.along) is.apart)

      root-is : root ≡ (shard_held X N m (slots_of X N left l)).0
      root-is = is.cid ∙ ap (λ (e : Entry). e.cid) (entry-is left m l)

      -- the block that is held under the CID is the shard's
      the_block : (told : Told) (lent : List ℕ) → Agrees told (shard X N left m l).blocks → IfSome told (λ t. held_at t root ≡ Some lent) → lent ≡ shard_block m (slots_of X N left l)
      the_block None lent agrees held = absurd agrees
      the_block (Some t) lent agrees held = by (held_at t root) held (subst (λ (c : Cid). IfSome (held_at t c) (λ bytes. bytes ≡ shard_block m (slots_of X N left l))) (sym root-is) (first (subst (Agrees (Some t)) (blocks-are left m l) agrees)))
        where
          first : Agrees (Some t) (shard_held X N m (slots_of X N left l) ∷ below X N left l) → IfSome (held_at t (shard_held X N m (slots_of X N left l)).0) (λ bytes. bytes ≡ shard_block m (slots_of X N left l))
          first a = a.0

          by : (o : Option (List ℕ)) → o ≡ Some lent → IfSome o (λ bytes. bytes ≡ shard_block m (slots_of X N left l)) → lent ≡ shard_block m (slots_of X N left l)
          by None e h = absurd (let no : None ≡ Some lent = e in cc)
          by (Some b) e h = (let same : b ≡ lent = cc in sym same) ∙ h

      agrees_rest : (told : Told) → Agrees told (shard X N left m l).blocks → Agrees told (below X N left l)
      agrees_rest None a = a
      agrees_rest (Some t) a = by (subst (Agrees (Some t)) (blocks-are left m l) a)
        where
          by : Agrees (Some t) (shard_held X N m (slots_of X N left l) ∷ below X N left l) → Agrees (Some t) (below X N left l)
          by a = a.1

      -- its slots
      pub items-read : (before : Seen) (told : Told) (node : ShardNode) → told ≡ before.told → Agrees before.told (shard X N left m l).blocks → HasPlaced N hash (7 - left) root before node → AreItems X N hash left told node.items l
      items-read before told node same agrees has = record {
        valid = is.valid;
        apart = is.apart;
        along = is.along;
        same = same-items node m (slots_of X N left l) (record { items = has.is.placed.valid; meta = has.is.good }) is.good slots-valid (the_block before.told (shard_node_block node) agrees has.is_held);
        agrees = subst (λ (t : Told). Agrees t (below X N left l)) (sym same) (agrees_rest before.told agrees);
      }

      -- its metadata
      pub meta-read : (before : Seen) (node : ShardNode) → Agrees before.told (shard X N left m l).blocks → HasPlaced N hash (7 - left) root before node → node.meta ≡ m
      meta-read before node agrees has =
          same-meta node m (slots_of X N left l) (record { items = has.is.placed.valid; meta = has.is.good }) is.good slots-valid (the_block before.told (shard_node_block node) agrees has.is_held)

      -- a fault of the load
      pub load-lost : (before now : Seen) (fault : StoreFault) → LoadsPlaced N hash (7 - left) root before now (Err fault) → Agrees before.told (shard X N left m l).blocks → MayLose before.told (shard X N left m l).blocks fault
      load-lost before now Failed looks agrees = tt
      load-lost before now (Damaged c) looks agrees = tt
      load-lost before now (Missing c) looks agrees = lost before.told agrees looks.1
        where
          lost : (told : Told) → Agrees told (shard X N left m l).blocks → IfSome told (λ t. held_at t root ≡ None) → LosesOne told c (shard X N left m l).blocks
          lost None a h = tt
          lost (Some t) a h = subst (IsLost (held_at t) c) (sym (blocks-are left m l)) (inl (looks.0 ∙ root-is, ap (held_at t) (sym root-is) ∙ h))
      load-lost before now (BadBlock c role) looks agrees = looks.bad (subst (IsCanonicalShard N (way hash (7 - left))) (sym (the_block before.told now.lent agrees looks.held)) canonical)
      load-lost before now (Clash c held bytes) looks agrees = absurd looks
      load-lost before now Memory looks agrees = tt
