-- The shards of a plan loaded one by one.
use Rattle.std.proofs.Common.{◌≡◌, ℕ, zero, suc, get_or, ◌-◌, ◌<◌, ◌≤◌, List, [], ◌∷◌, ◌++◌, length, refl, ap, arith, sym, ◌∙◌, subst, Bool, true, false, T, Option, Some, None, ◌⊎◌, inl, inr, Result, Ok, Err}
use Rattle.std.specs.Prelude.{◌==◌, ◌↔◌, IfSome, IfErr, IsTrue}
use Rattle.std.specs.FinMap.Entries.{is_sorted-where_key}
use Rattle.std.specs.List.{AllByRecursion, flat_map, cons_option}
use Rattle.std.specs.Option.{option_map}
use Rattle.std.proofs.lemmas.Bool.{false≢true}
use Rattle.uf_cid.specs.declared.bytes.StrictFault.TheVariants.{NotCanonical}
use Rattle.uf_cid.specs.declared.cid.Cid.{Cid}
use Rattle.uf_cid.specs.Blocks.{Held, Lookup}
use Rattle.uf_cid.specs.Blocks as blocks
use Rattle.uf_edge.specs.Counts.{Stood}
use Rattle.uf_murmur.specs.Slots.{slot}
use Rattle.uf_store.specs.Contents.{Contents, Told, held_at}
use Rattle.uf_store.specs.Faults.{Answers, StaysCalm}
use Rattle.uf_store.specs.Keeping.{Agrees}
use Rattle.uf_store.specs.Lost.{IsLossOf, IsLost, LosesOne}
use Rattle.uf_store.specs.Seen.{Seen}
use Rattle.uf_store.specs.declared.store.StoreFault.{StoreFault}
use Rattle.uf_store.specs.declared.store.StoreFault.TheVariants.{Failed, Damaged, Missing, BadBlock, Clash, Memory}
use Rattle.uf_tree.specs.declared.meta.Meta.{Meta}
use Rattle.uf_tree.specs.declared.nodes.ShardNode.{ShardNode}
use Rattle.uf_tree.specs.Codecs.{Reads, shard_node_block}
use Rattle.uf_tree.specs.FilePlan.{Plan}
use Rattle.uf_tree.specs.Metas.{none}
use Rattle.uf_tree.specs.Names.{names_cmp}
use Rattle.uf_tree.specs.Nodes.{InSlot, Named, shard_block}
use Rattle.uf_tree.specs.Shardable.{HasShard}
use Rattle.uf_tree.specs.ShardPlan.{bucket, flat_tabulate, same_slots, shard, shard_held, slot_blocks, slot_item, tabulate, twins}
use Rattle.uf_tree.specs.Validity.{IsDirectory, IsEntry, IsHash, IsNamed, IsShard, IsShardNode}
use Rattle.uf_tree.proofs.Each.{each_filter, each_tabulate}
use Rattle.uf_tree.proofs.Twins.{Apart-HasShard, twins-Apart}
use Rattle.uf_tree.proofs.Valid.{node_entry-valid, shard-valid, shard_items-valid}
use Rattle.uf_shard.specs.Listing.{IsBadShard}
use Rattle.uf_shard.specs.Planned.{IsPlanned}
use Rattle.uf_shard.specs.Walked.{AreOver, HasItems, HasLevel, IsAbove, IsOver, IsRoot, LoadsItems, MayCarryAt, all_blocks, blocks_over}
use Rattle.uf_shard.proofs.Carrying.{none-at}
use Rattle.uf_shard.proofs.One.{one_shard, same-items}
use Rattle.uf_shard.proofs.Reaching.{deeper_of, items_of, level_of, shard-is}

as_T : (b : Bool) → b ≡ true → T b
as_T b e = subst T (sym e) tt

from_T : (b : Bool) → T b → b ≡ true
from_T true t = refl
from_T false t = absurd t

-- what holds of each holds of the one at a place
pub each_at : {A : Type 0} (P : A → Type 0) (xs : List A) (i : ℕ) (x : A) → i < length xs → x ≡ get_or xs i x → AllByRecursion P xs → P x
each_at P [] i x low is h = absurd (omega arith)
each_at P (y ∷ xs) zero x low is h = subst P (sym is) h.0
each_at P (y ∷ xs) (suc i) x low is h = each_at P xs i x (omega arith) is h.1

-- blocks that agree
pub agrees_front : (held : Lookup) (l m : List Held) → blocks.Agrees held (l ++ m) → blocks.Agrees held l
agrees_front held [] m h = tt
agrees_front held (b ∷ l) m h = (h.0, agrees_front held l m h.1)

pub agrees_back : (held : Lookup) (l m : List Held) → blocks.Agrees held (l ++ m) → blocks.Agrees held m
agrees_back held [] m h = h
agrees_back held (b ∷ l) m h = agrees_back held l m h.1

-- a lost block of a part is lost
pub lost_front : (held : Lookup) (c : Cid) (l m : List Held) → IsLost held c l → IsLost held c (l ++ m)
lost_front held c [] m h = absurd h
lost_front held c (b ∷ l) m (inl h) = inl h
lost_front held c (b ∷ l) m (inr h) = inr (lost_front held c l m h)

pub lost_back : (held : Lookup) (c : Cid) (l m : List Held) → IsLost held c m → IsLost held c (l ++ m)
lost_back held c [] m h = h
lost_back held c (b ∷ l) m h = inr (lost_back held c l m h)

-- a loss of some blocks is one of others that have them
pub loss_more : (told : Told) (l m : List Held) (fault : StoreFault) → ((held : Lookup) (c : Cid) → IsLost held c l → IsLost held c m) → IsLossOf told l fault → IsLossOf told m fault
loss_more told l m Failed more h = h
loss_more told l m (Damaged c) more h = h
loss_more None l m (Missing c) more h = tt
loss_more (Some t) l m (Missing c) more h = more (held_at t) c h
loss_more told l m (BadBlock c role) more h = h
loss_more told l m (Clash c x y) more h = h
loss_more told l m Memory more h = tt

pub loss_of_err : {A : Type 0} (told : Told) (l m : List Held) (r : Result A StoreFault) → ((held : Lookup) (c : Cid) → IsLost held c l → IsLost held c m) → IfErr r (IsLossOf told l) → IfErr r (IsLossOf told m)
loss_of_err told l m (Ok x) more h = tt
loss_of_err told l m (Err fault) more h = loss_more told l m fault more h

module _ {A : Type 0} (f : A → List Held) where
  agrees_at : (held : Lookup) (xs : List A) (i : ℕ) (x : A) → i < length xs → x ≡ get_or xs i x → blocks.Agrees held (flat_map f xs) → blocks.Agrees held (f x)
  agrees_at held [] i x low is h = absurd (omega arith)
  agrees_at held (y ∷ xs) zero x low is h = subst (λ (z : A). blocks.Agrees held (f z)) (sym is) (agrees_front held (f y) (flat_map f xs) h)
  agrees_at held (y ∷ xs) (suc i) x low is h = agrees_at held xs i x (omega arith) is (agrees_back held (f y) (flat_map f xs) h)

  pub lost_at : (held : Lookup) (c : Cid) (xs : List A) (i : ℕ) (x : A) → i < length xs → x ≡ get_or xs i x → IsLost held c (f x) → IsLost held c (flat_map f xs)
  lost_at held c [] i x low is h = absurd (omega arith)
  lost_at held c (y ∷ xs) zero x low is h = lost_front held c (f y) (flat_map f xs) (subst (λ (z : A). IsLost held c (f z)) is h)
  lost_at held c (y ∷ xs) (suc i) x low is h = lost_back held c (f y) (flat_map f xs) (lost_at held c xs i x (omega arith) is h)

  pub Agrees_at : (told : Told) (xs : List A) (i : ℕ) (x : A) → i < length xs → x ≡ get_or xs i x → Agrees told (flat_map f xs) → Agrees told (f x)
  Agrees_at None xs i x low is h = h
  Agrees_at (Some t) xs i x low is h = agrees_at (held_at t) xs i x low is h

module _ (X : List ℕ → List ℕ) (N : List ℕ → ℕ) where
  -- the pairs of each slot
  abbrev pub pairs_of : ℕ → List Named → ℕ → List Named
  pairs_of left l s = bucket N (level_of left) s l

  -- a slot has one pair at most, or pairs that have a shard
  abbrev Fits : ℕ → List Named → Type 0
  Fits zero m = length m ≤ 1
  Fits (suc left) m = (length m ≤ 1) ⊎ HasShard N left m

  fits : (left : ℕ) (l : List Named) → HasShard N left l → (s : ℕ) → Fits left (pairs_of left l s)
  unfolding HasShard
  fits zero l has s = has s
  fits (suc left) l has s = has s

  few : (n : ℕ) → suc (suc n) ≤ 1 → ⊥
  few n h = omega arith

  some : (n : ℕ) → 1 ≤ suc n
  some n = omega arith

  over_slot : (left : ℕ) (m : List Named) (s : ℕ) → IsDirectory m → Fits left m → IfSome (slot_item (deeper_of X N left) m) (λ x. IsOver X N left x m × HasLevel left (s, x))
  over_slot left [] s valid fit = tt
  over_slot left (e ∷ []) s valid fit = (refl, tt)
  over_slot zero (e ∷ f ∷ m) s valid fit = absurd (few (length m) fit)
  over_slot (suc left) (e ∷ f ∷ m) s valid (inl h) = absurd (few (length m) h)
  over_slot (suc left) (e ∷ f ∷ m) s valid (inr h) = (record { good = refl; carries = none-at (7 - left); valid = valid; some = some (length (f ∷ m)); apart = h; cid = refl }, some left)

  valid_slot : (k s : ℕ) (l : List Named) → IsDirectory l → IsDirectory (bucket N k s l)
  valid_slot k s l valid = record {
    sorted = from_T _ (is_sorted-where_key names_cmp (λ n. slot (N n) k == s) l (as_T _ valid.sorted));
    each = each_filter IsNamed (λ (e : Named). slot (N e.0) k == s) l valid.each;
  }

  -- the items of a planned shard, and its pairs slot by slot
  pub over_each : (left : ℕ) (l : List Named) → IsDirectory l → HasShard N left l → AllByRecursion (λ (p : InSlot). IsOver X N left p.1 (pairs_of left l p.0) × HasLevel left p) (items_of X N left l)
  over_each left l valid has = each_tabulate (λ (p : InSlot). IsOver X N left p.1 (pairs_of left l p.0) × HasLevel left p) 256 0 256 (λ s. slot_item (deeper_of X N left) (pairs_of left l s)) (omega arith)
      (λ s low. over_slot left (pairs_of left l s) s (valid_slot (level_of left) s l valid) (fits left l has s))

  are_over : (left : ℕ) (over : ℕ → List Named) (items : List InSlot) → AllByRecursion (λ (p : InSlot). IsOver X N left p.1 (over p.0) × HasLevel left p) items → AreOver X N left over items
  are_over left over [] h = tt
  are_over left over (p ∷ items) h = (h.0.0, are_over left over items h.1)

  are_levels : (left : ℕ) (over : ℕ → List Named) (items : List InSlot) → AllByRecursion (λ (p : InSlot). IsOver X N left p.1 (over p.0) × HasLevel left p) items → AllByRecursion (HasLevel left) items
  are_levels left over [] h = tt
  are_levels left over (p ∷ items) h = (h.0.1, are_levels left over items h.1)

  -- the blocks below its items are those of its plan
  below_slot : (left s : ℕ) (over : ℕ → List Named) (items : List InSlot) (rest : List Held) (m : List Named) → over s ≡ m → all_blocks X N left over items ≡ rest
      → all_blocks X N left over (cons_option (option_map (λ x. (s, x)) (slot_item (deeper_of X N left) m)) items) ≡ slot_blocks (deeper_of X N left) m ++ rest
  below_slot left s over items rest [] is h = h
  below_slot left s over items rest (e ∷ []) is h = h
  below_slot zero s over items rest (e ∷ f ∷ m) is h = h
  below_slot (suc left) s over items rest (e ∷ f ∷ m) is h = λ i. (shard X N left none (is i)).blocks ++ h i

  below_all : (left : ℕ) (over : ℕ → List Named) (n a : ℕ) → all_blocks X N left over (tabulate n a (λ s. slot_item (deeper_of X N left) (over s))) ≡ flat_tabulate n a (λ s. slot_blocks (deeper_of X N left) (over s))
  unfolding tabulate flat_tabulate
  below_all left over zero a = refl
  below_all left over (suc n) a = below_slot left a over (tabulate n (suc a) (λ s. slot_item (deeper_of X N left) (over s))) _ (over a) refl (below_all left over n (suc a))

  pub blocks-are : (left : ℕ) (m : Meta) (l : List Named) → (shard X N left m l).blocks ≡ shard_held X N m (items_of X N left l) ∷ all_blocks X N left (pairs_of left l) (items_of X N left l)
  blocks-are left m l = ap (λ (p : Plan). p.blocks) (shard-is X N left m l) ∙ ap (λ (b : List Held). shard_held X N m (items_of X N left l) ∷ b) (sym (below_all left (pairs_of left l) 256 0))

  -- the root of a plan
  pub root-planned : (root : Cid) (m : Meta) (l : List Named) → IsPlanned X N root m l → IsRoot X N 7 root m l
  root-planned root m [] is = absurd (no is.is_plan)
    where
      no : None ≡ Some is.plan → ⊥
      no e = cc
  root-planned root m (e ∷ l) is = by (twins (same_slots N 7) (e ∷ l)) refl is.is_plan
    where
      by : (o : Option (List ℕ × List ℕ)) → twins (same_slots N 7) (e ∷ l) ≡ o → elim o [ None ↦ Some (shard X N 7 m (e ∷ l)) | Some names ↦ None ] ≡ Some is.plan → IsRoot X N 7 root m (e ∷ l)
      by None t h = record {
        good = is.good;
        carries = tt;
        valid = is.valid;
        some = some (length l);
        apart = Apart-HasShard N 7 (e ∷ l) (twins-Apart (same_slots N 7) (e ∷ l) t);
        cid = is.cid ∙ ap (λ (p : Plan). p.entry.cid) (let same : shard X N 7 m (e ∷ l) ≡ is.plan = cc in sym same);
      }
      by (Some names) t h = absurd (let no : None ≡ Some is.plan = h in cc)

  module _ (good : IsHash X) where
    deeper-valid : (left : ℕ) (m : List Named) → IsEntry (deeper_of X N left m).entry
    deeper-valid zero m = node_entry-valid X good [] []
    deeper-valid (suc left) m = shard-valid X good N left none m

    module _ (left : ℕ) (root : Cid) (m : Meta) (l : List Named) (is : IsRoot X N left root m l) where
      abbrev own : Held
      own = shard_held X N m (items_of X N left l)

      abbrev below : List Held
      below = all_blocks X N left (pairs_of left l) (items_of X N left l)

      items-valid : IsShard (items_of X N left l)
      items-valid = shard_items-valid N (deeper_of X N left) (deeper-valid left) (level_of left) l is.valid.each is.some

      above : IsAbove left (record { items = items_of X N left l; meta = m })
      above = record { valid = record { items = items-valid; meta = is.good }; carries = is.carries; levels = are_levels left (pairs_of left l) (items_of X N left l) (over_each left l is.valid is.apart) }

      root-is : root ≡ own.0
      root-is = is.cid ∙ ap (λ (p : Plan). p.entry.cid) (shard-is X N left m l)

      -- the block that is held under its CID
      pub held_block : (t : Contents) (bytes : List ℕ) → Agrees (Some t) (shard X N left m l).blocks → held_at t root ≡ Some bytes → bytes ≡ shard_block m (items_of X N left l)
      held_block t bytes agrees held =
          let all : Agrees (Some t) (own ∷ below) = subst (Agrees (Some t)) (blocks-are left m l) agrees in
          by (held_at t own.0) (ap (held_at t) (sym root-is) ∙ held) all.0
        where
          by : (o : Option (List ℕ)) → o ≡ Some bytes → IfSome o (λ b. b ≡ shard_block m (items_of X N left l)) → bytes ≡ shard_block m (items_of X N left l)
          by None e h = absurd (let no : None ≡ Some bytes = e in cc)
          by (Some b) e h = (let same : b ≡ bytes = cc in sym same) ∙ h

      pub held_items : (t : Contents) (node : ShardNode) → IsShardNode node → Agrees (Some t) (shard X N left m l).blocks → held_at t root ≡ Some (shard_node_block node) → node.items ≡ items_of X N left l
      held_items t node valid agrees held = same-items node m (items_of X N left l) valid is.good items-valid (held_block t (shard_node_block node) agrees held)

      pub loaded_items : (before : Seen) (items : List InSlot) → Agrees before.told (shard X N left m l).blocks → HasItems left root before items → items ≡ items_of X N left l
      loaded_items before items agrees has = has.are ∙ by before.told agrees has.is_held
        where
          by : (told : Told) → Agrees told (shard X N left m l).blocks → IfSome told (λ t. held_at t root ≡ Some (shard_node_block has.node)) → has.node.items ≡ items_of X N left l
          by None agrees held = absurd agrees
          by (Some t) agrees held = held_items t has.node has.above.valid agrees held

      pub Agrees_below : (told : Told) → Agrees told (shard X N left m l).blocks → Agrees told below
      Agrees_below None a = absurd a
      Agrees_below (Some t) a = (let all : Agrees (Some t) (own ∷ below) = subst (Agrees (Some t)) (blocks-are left m l) a in all.1)

      pub lost_below : (held : Lookup) (c : Cid) → IsLost held c below → IsLost held c (shard X N left m l).blocks
      lost_below held c h = subst (IsLost held c) (sym (blocks-are left m l)) (inr h)

      -- a load that fails while the store stays calm has lost a block of the plan
      pub load-lost : (before now : Seen) (fault : StoreFault) → LoadsItems left root before now (Err fault) → Answers {A = List InSlot} X IsBadShard (Err fault) before now
          → Agrees before.told (shard X N left m l).blocks → Stood before.faults now.faults → IsLossOf before.told (shard X N left m l).blocks fault
      load-lost before now Failed loads cause agrees stood = let r = cause.rose in omega (arith, r, stood)
      load-lost before now (Damaged c) loads cause agrees stood = let r = cause.rose in omega (arith, r, stood)
      load-lost before now (Missing c) loads cause agrees stood = by before.told loads.1
        where
          by : (told : Told) → IfSome told (λ t. held_at t root ≡ None) → LosesOne told c (shard X N left m l).blocks
          by None h = tt
          by (Some t) h = subst (IsLost (held_at t) c) (sym (blocks-are left m l)) (inl (loads.0 ∙ root-is, ap (held_at t) (sym root-is) ∙ h))
      load-lost before now (BadBlock c role) loads cause agrees stood = by before.told agrees loads.is_held
        where
          by : (told : Told) → Agrees told (shard X N left m l).blocks → IfSome told (λ t. held_at t root ≡ Some now.lent) → ⊥
          by None a h = a
          by (Some t) a h = loads.no_shard (record { items = items_of X N left l; meta = m }) above (held_block t now.lent a h)
      load-lost before now (Clash c x y) loads cause agrees stood = loads
      load-lost before now Memory loads cause agrees stood = tt

      -- the pairs of its slots
      pub over_items : (items : List InSlot) → items ≡ items_of X N left l → AreOver X N left (pairs_of left l) items
      over_items items same = subst (AreOver X N left (pairs_of left l)) (sym same) (are_over left (pairs_of left l) (items_of X N left l) (over_each left l is.valid is.apart))

      -- a loss below is one here, where the shard was loaded before
      pub all-lost : {A : Type 0} (items slice : List InSlot) (before mid now : Seen) (r : Result A StoreFault) → mid.told ≡ before.told → StaysCalm before mid → slice ≡ items → HasItems left root before items
          → ((over : ℕ → List Named) → AreOver X N left over slice → Agrees mid.told (all_blocks X N left over slice) → Stood mid.faults now.faults → IfErr r (IsLossOf mid.told (all_blocks X N left over slice)))
          → Agrees before.told (shard X N left m l).blocks → Stood before.faults now.faults → IfErr r (IsLossOf before.told (shard X N left m l).blocks)
      all-lost items slice before mid now r same calm is_slice has lost agrees stood =
          let planned : slice ≡ items_of X N left l = is_slice ∙ loaded_items before items agrees has in
          loss_of_err before.told below (shard X N left m l).blocks r lost_below
          (subst (λ (told : Told). IfErr r (IsLossOf told below)) same
          (subst (λ (i : List InSlot). Agrees mid.told (all_blocks X N left (pairs_of left l) i) → Stood mid.faults now.faults → IfErr r (IsLossOf mid.told (all_blocks X N left (pairs_of left l) i))) planned
          (lost (pairs_of left l) (over_items slice planned))
          (subst (λ (told : Told). Agrees told below) (sym same) (Agrees_below before.told agrees))
          (subst (λ (n : ℕ). Stood n now.faults) (sym calm.faults) stood)))

  -- the blocks of one slot are among those of all
  module _ (left : ℕ) (over : ℕ → List Named) where
    pub Agrees_slot : (told : Told) (items : List InSlot) (i : ℕ) (p : InSlot) → i < length items → p ≡ get_or items i p → Agrees told (all_blocks X N left over items) → Agrees told (blocks_over X N left p.1 (over p.0))
    Agrees_slot told items i p low is h = Agrees_at (λ (p : InSlot). blocks_over X N left p.1 (over p.0)) told items i p low is h

    pub lost_slot : (items : List InSlot) (i : ℕ) (p : InSlot) → i < length items → p ≡ get_or items i p → (held : Lookup) (c : Cid) → IsLost held c (blocks_over X N left p.1 (over p.0)) → IsLost held c (all_blocks X N left over items)
    lost_slot items i p low is held c h = lost_at (λ (p : InSlot). blocks_over X N left p.1 (over p.0)) held c items i p low is h

    -- a loss below one slot is one below all
    pub slots-lost : (items : List InSlot) (i : ℕ) (p : InSlot) → i < length items → p ≡ get_or items i p → (before mid now : Seen) (fault : StoreFault) → mid.told ≡ before.told → StaysCalm before mid
        → ((m : List Named) → IsOver X N left p.1 m → Agrees mid.told (blocks_over X N left p.1 m) → Stood mid.faults now.faults → IsLossOf mid.told (blocks_over X N left p.1 m) fault)
        → AreOver X N left over items → Agrees before.told (all_blocks X N left over items) → Stood before.faults now.faults → IsLossOf before.told (all_blocks X N left over items) fault
    slots-lost items i p low is before mid now fault same calm lost are agrees stood =
        loss_more before.told (blocks_over X N left p.1 (over p.0)) (all_blocks X N left over items) fault (lost_slot items i p low is)
        (subst (λ (told : Told). IsLossOf told (blocks_over X N left p.1 (over p.0)) fault) same
        (lost (over p.0) (each_at (λ (p : InSlot). IsOver X N left p.1 (over p.0)) items i p low is are)
        (subst (λ (told : Told). Agrees told (blocks_over X N left p.1 (over p.0))) (sym same) (Agrees_slot before.told items i p low is agrees))
        (subst (λ (n : ℕ). Stood n now.faults) (sym calm.faults) stood)))

-- a shard whose levels don't suffice is no such shard
pub above-elsewhere : (left : ℕ) (bytes : List ℕ) (node : ShardNode) (b : Bool) → Reads IsShardNode shard_node_block bytes (Ok node) → IsTrue b ↔ (MayCarryAt (7 - left) node.meta × AllByRecursion (HasLevel left) node.items) → b ≡ false
    → Reads (IsAbove left) shard_node_block bytes (Err NotCanonical)
above-elsewhere left bytes node b read iff fails =
    inr (λ v k e. false≢true (sym fails ∙ iff.1 (subst (λ (n : ShardNode). MayCarryAt (7 - left) n.meta × AllByRecursion (HasLevel left) n.items) (one_shard v node k.valid read.0 (sym e ∙ read.1)) (k.carries, k.levels))))
