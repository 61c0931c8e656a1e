-- Saves among the blocks of a shard tree, level by level.
use Rattle.std.proofs.Common.{◌≡◌, ℕ, suc, ◌-◌, ◌^◌, ◌<◌, ◌≤◌, List, [], ◌∷◌, length, get_or, refl, arith, sym, ◌∙◌, subst, inl, inr, Some, false}
use Rattle.std.specs.declared.result.Result.TheVariants.{Ok}
use Rattle.std.specs.Ordering.{eq_by_cmp}
use Rattle.std.specs.List.{Contains}
use Rattle.std.proofs.lemmas.List.Elements.{Contains-append_right}
use Rattle.uf_cid.specs.Blocks.{Held}
use Rattle.uf_murmur.specs.Slots.{slot}
use Rattle.uf_store.specs.Among.{AreAmong, SavesAmong}
use Rattle.uf_store.specs.Contents.{Told}
use Rattle.uf_store.specs.Keeping.{Agrees}
use Rattle.uf_store.proofs.Among.{SavesAmong-more, SavesAmong-same, SavesAmong-trans}
use Rattle.uf_tree.specs.declared.meta.Meta.{Meta}
use Rattle.uf_tree.specs.declared.nodes.Entry.{Entry}
use Rattle.uf_tree.specs.declared.nodes.Item.TheVariants.{Leaf, Sub}
use Rattle.uf_tree.specs.Changes.{with_name, without}
use Rattle.uf_tree.specs.Metas.{none}
use Rattle.uf_tree.specs.Names.{names_cmp}
use Rattle.uf_tree.specs.Nodes.{InSlot, Named}
use Rattle.uf_tree.specs.ShardPlan.{bucket, flat_tabulate, shard, slot_blocks}
use Rattle.uf_shard.specs.declared.rest.Rest.{Rest}
use Rattle.uf_shard.specs.declared.rest.Rest.TheVariants.{Same, Of}
use Rattle.uf_shard.specs.declared.hashed.Hashed.{Hashed}
use Rattle.uf_shard.specs.Buckets.{blocks_at, deeper, pairs_of}
use Rattle.uf_shard.specs.Answers.{shard_node_held}
use Rattle.uf_shard.specs.Changed.{AreItems, IsSlot, PutsSlots, below, blocks_of, level, slots_of}
use Rattle.uf_shard.specs.Known.{IsIn}
use Rattle.uf_shard.specs.Reached.{IsReached}
use Rattle.uf_shard.specs.Taken.{SavesRest, TakesSlots, collapsed}
use Rattle.uf_shard.proofs.Knowing.{AreIn, In-flat}
use Rattle.uf_shard.proofs.Placing.{below-in, blocks-are, slot-in}
use Rattle.uf_shard.proofs.Puts.{alone-items, deeper-agrees, deeper-reached, differ-of, flat-none, one, one-blocks}
use Rattle.uf_shard.proofs.Slotted.{many-blocks, put-more, put-two}
use Rattle.uf_shard.proofs.Takes.{two_left}

-- ---- blocks among others

in-contains : (b : Held) (l : List Held) → IsIn b l → Contains l b
in-contains b [] i = absurd i
in-contains b (a ∷ l) (inl same) = (0, omega arith, sym same)
in-contains b (a ∷ l) (inr later) = Contains-append_right (a ∷ []) l b (in-contains b l later)

pub in-among : (few many : List Held) → AreIn few many → AreAmong few many
in-among [] many h = tt
in-among (b ∷ few) many h = (in-contains b many (h b (inl refl)), in-among few many (λ c i. h c (inr i)))

pub head-in : (h : Held) (l : List Held) → AreIn (h ∷ []) (h ∷ l)
head-in h l c (inl same) = inl same
head-in h l c (inr gone) = absurd gone

pub tail-in : (h : Held) (l : List Held) → AreIn l (h ∷ l)
tail-in h l c i = inr i

module _ (X : List ℕ → List ℕ) where
  pub saves-in : (few many : List Held) (a b : Told) → AreIn few many → SavesAmong X few a b → SavesAmong X many a b
  saves-in few many a b more h = SavesAmong-more X few many a b (in-among few many more) h

  -- a block over others
  pub under-saves : (held : Held) (under blocks : List Held) (a b : Told) → held ∷ under ≡ blocks → SavesAmong X under a b → SavesAmong X blocks a b
  under-saves held under blocks a b is h = subst (λ (l : List Held). SavesAmong X l a b) is (saves-in under (held ∷ under) a b (tail-in held under) h)

  pub own-saves : (held : Held) (under blocks : List Held) (a b : Told) → held ∷ under ≡ blocks → SavesAmong X (held ∷ []) a b → SavesAmong X blocks a b
  own-saves held under blocks a b is h = subst (λ (l : List Held). SavesAmong X l a b) is (saves-in (held ∷ []) (held ∷ under) a b (head-in held under) h)

  -- what is saved for one number is saved for all
  pub saves-flat : (f : ℕ → List Held) (q : ℕ) (a b : Told) → q < 256 → SavesAmong X (f q) a b → SavesAmong X (flat_tabulate 256 0 f) a b
  saves-flat f q a b low h = saves-in (f q) (flat_tabulate 256 0 f) a b (λ c i. In-flat c 256 0 f q (omega arith) (omega (arith, low)) i) h

module _ (X : List ℕ → List ℕ) (N : List ℕ → ℕ) where
  no-blocks : (left : ℕ) → below X N left [] ≡ []
  no-blocks left = flat-none X N 256 0 _ (λ q. refl)

  -- the rows of one slot
  pub one-slot : (left : ℕ) (slots : List (List Hashed)) (q : ℕ) (here : List Hashed) (a b : Told) → q < 256 → here ≡ get_or slots q [] → SavesAmong X (slot_blocks (deeper X N left) (pairs_of here)) a b
      → SavesAmong X (flat_tabulate 256 0 (blocks_at X N left slots)) a b
  one-slot left slots q here a b low is h = saves-flat X (blocks_at X N left slots) q a b low (subst (λ (l : List Hashed). SavesAmong X (slot_blocks (deeper X N left) (pairs_of l)) a b) is h)

  -- ---- a shard below a slot

  below-in-slot : (left : ℕ) (l : List Named) → AreIn (below X N left l) (blocks_of X N (suc left) l)
  below-in-slot left [] b i = absurd (subst (IsIn b) (no-blocks left) i)
  below-in-slot left (e ∷ []) b i = absurd (subst (IsIn b) (one-blocks X N left e.0 e.1) i)
  below-in-slot left (e ∷ f ∷ l) b i = below-in X N left none (e ∷ f ∷ l) b i

  root-in-slot : (left : ℕ) (l : List Named) → 2 ≤ length l → AreIn (shard_node_held X none (slots_of X N left l) ∷ []) (blocks_of X N (suc left) l)
  root-in-slot left l many b (inl same) = subst (IsIn b) (sym (many-blocks (shard X N left none) l many ∙ blocks-are X N left none l)) (inl same)
  root-in-slot left l many b (inr gone) = absurd gone

  module _ (left : ℕ) (some : 1 ≤ left) (l : List Named) where
    up : suc (left - 1) ≡ left
    up = omega (arith, some)

    -- what is saved below that shard, and the shard
    pub below-saves : (a b : Told) → SavesAmong X (below X N (left - 1) l) a b → SavesAmong X (blocks_of X N left l) a b
    below-saves a b h = saves-in X _ _ a b (subst (λ (n : ℕ). AreIn (below X N (left - 1) l) (blocks_of X N n l)) up (below-in-slot (left - 1) l)) h

    pub shard-saves : (items : List InSlot) (a b : Told) → 2 ≤ length l → items ≡ slots_of X N (left - 1) l → SavesAmong X (shard_node_held X none items ∷ []) a b → SavesAmong X (blocks_of X N left l) a b
    shard-saves items a b many is h = saves-in X (shard_node_held X none (slots_of X N (left - 1) l) ∷ []) (blocks_of X N left l) a b
        (subst (λ (n : ℕ). AreIn (shard_node_held X none (slots_of X N (left - 1) l) ∷ []) (blocks_of X N n l)) up (root-in-slot (left - 1) l many))
        (subst (λ (i : List InSlot). SavesAmong X (shard_node_held X none i ∷ []) a b) is h)

  -- ---- a slot with a shard, after the names below it are changed

  module _ (hash left : ℕ) (before : Told) (be : Entry) (l : List Named) (low : left ≤ 7) (some : 1 ≤ left) (slotted : IsSlot X N hash left before (Some (Sub be)) l) where
    -- what is given of the shard's names
    abbrev Inner : (List Named → Type 0) → Type 0
    Inner P = (m : List Named) → IsReached X N hash (left - 1) be.cid none m → Agrees before (shard X N (left - 1) none m).blocks → P m

    given : (P : List Named → Type 0) → Inner P → P l
    given P inner = inner l (deeper-reached X N hash left before be l low some slotted).reached (deeper-agrees X N hash left before be l low some slotted)

    pub sub-saves : (now : Told) (changed : List Named → List Named) → Inner (λ m. SavesAmong X (below X N (left - 1) (changed m)) before now) → SavesAmong X (blocks_of X N left (changed l)) before now
    sub-saves now changed inner = below-saves left some (changed l) before now (given _ inner)

    pub put-saves : (mid now : Told) (name : List ℕ) (e : Entry) (items : List InSlot) → Inner (λ m. PutsSlots X N before mid (shard X N (left - 1) none m).blocks (left - 1) name e m (Ok items))
        → Inner (λ m. SavesAmong X (below X N (left - 1) (with_name name e m)) before mid) → SavesAmong X (shard_node_held X none items ∷ []) mid now → SavesAmong X (blocks_of X N left (with_name name e l)) before now
    put-saves mid now name e items puts inner saved =
        let many : 2 ≤ length (with_name name e l) = omega (arith, (deeper-reached X N hash left before be l low some slotted).many, put-more name e l) in
        SavesAmong-trans X (blocks_of X N left (with_name name e l)) before mid now (sub-saves mid (with_name name e) inner)
        (shard-saves left some (with_name name e l) items mid now many (given _ puts).1.same saved)

    pub take-saves : (mid now : Told) (name : List ℕ) (items : List InSlot) → Inner (λ m. TakesSlots X N before mid (shard X N (left - 1) none m).blocks (left - 1) name m (Ok (Some items)))
        → Inner (λ m. SavesAmong X (below X N (left - 1) (without name m)) before mid) → SavesRest X items (collapsed items) mid now → SavesAmong X (blocks_of X N left (without name l)) before now
    take-saves mid now name items takes inner rest =
        SavesAmong-trans X (blocks_of X N left (without name l)) before mid now (sub-saves mid (without name) inner) (by (collapsed items) refl rest)
      where
        by : (r : Rest) → collapsed items ≡ r → SavesRest X items r mid now → SavesAmong X (blocks_of X N left (without name l)) mid now
        by Same is h = let same = (given _ takes).1.same in shard-saves left some (without name l) items mid now (two_left X N (left - 1) (without name l) items same is) same h
        by (Of item) is h = SavesAmong-same X (blocks_of X N left (without name l)) mid now h

  -- ---- the shard of two entries

  module _ (fits : (name : List ℕ) → N name < 2 ^ 64) (hash left : ℕ) (name other : List ℕ) (e old : Entry) (s : ℕ) (alone : List InSlot) (low : left ≤ 7) (some : 1 ≤ left) (before : Told) (is_hash : hash ≡ N name) (apart : eq_by_cmp names_cmp name other ≡ false)
      (place : s ≡ slot (N other) (8 - left)) (is : alone ≡ (s, Leaf other old) ∷ []) (l : List Named) (slotted : IsSlot X N hash left before (Some (Leaf other old)) l) where
    abbrev Beside : (List Named → Type 0) → Type 0
    Beside P = (m : List Named) → AreItems X N hash (left - 1) before alone m → P m

    beside : (P : List Named → Type 0) → Beside P → P ((other, old) ∷ [])
    beside P inner = inner ((other, old) ∷ []) (alone-items X N fits hash left name other e old s alone low some before is_hash apart place is l slotted)

    back : (now : Told) → SavesAmong X (blocks_of X N left (with_name name e ((other, old) ∷ []))) before now → SavesAmong X (blocks_of X N left (with_name name e l)) before now
    back now h = subst (λ (m : List Named). SavesAmong X (blocks_of X N left (with_name name e m)) before now)
        (sym (one X N fits hash left name other e old s alone low some before is_hash apart place is l slotted)) h

    pub beside-saves : (now : Told) → Beside (λ m. SavesAmong X (below X N (left - 1) (with_name name e m)) before now) → SavesAmong X (blocks_of X N left (with_name name e l)) before now
    beside-saves now inner = back now (below-saves left some (with_name name e ((other, old) ∷ [])) before now (beside _ inner))

    pub pair-saves : (mid now : Told) (items : List InSlot) → Beside (λ m. PutsSlots X N before mid (below X N (left - 1) m) (left - 1) name e m (Ok items))
        → Beside (λ m. SavesAmong X (below X N (left - 1) (with_name name e m)) before mid) → SavesAmong X (shard_node_held X none items ∷ []) mid now → SavesAmong X (blocks_of X N left (with_name name e l)) before now
    pair-saves mid now items puts inner saved =
        let pair = with_name name e ((other, old) ∷ []) in
        back now (SavesAmong-trans X (blocks_of X N left pair) before mid now (below-saves left some pair before mid (beside _ inner))
        (shard-saves left some pair items mid now (put-two name other e old (differ-of X N name other apart)) (beside _ puts).1.same saved))

  -- ---- a shard over its slots

  -- what is saved below one of its slots
  pub slot-saves : (left hash : ℕ) (here l : List Named) (a b : Told) → bucket N (level left) (slot hash (level left)) l ≡ here → SavesAmong X (blocks_of X N left here) a b → SavesAmong X (below X N left l) a b
  slot-saves left hash here l a b is h = saves-in X _ _ a b (λ c i. slot-in X N left hash l c (subst (λ (m : List Named). IsIn c (blocks_of X N left m)) (sym is) i)) h

  -- what is saved below it, and its own block
  pub root-saves : (left : ℕ) (m : Meta) (items : List InSlot) (l : List Named) (a b : Told) → items ≡ slots_of X N left l → SavesAmong X (shard_node_held X m items ∷ []) a b → SavesAmong X (shard X N left m l).blocks a b
  root-saves left m items l a b is h = saves-in X (shard_node_held X m (slots_of X N left l) ∷ []) (shard X N left m l).blocks a b (λ c i. subst (IsIn c) (sym (blocks-are X N left m l)) (head-in _ _ c i))
      (subst (λ (i : List InSlot). SavesAmong X (shard_node_held X m i ∷ []) a b) is h)

  pub tree-saves : (left : ℕ) (m : Meta) (l : List Named) (a b : Told) → SavesAmong X (below X N left l) a b → SavesAmong X (shard X N left m l).blocks a b
  tree-saves left m l a b h = saves-in X _ _ a b (below-in X N left m l) h

-- what needn't stand isn't saved, and where nothing is saved it may have to stand
pub rest-none : (X : List ℕ → List ℕ) (items : List InSlot) (r : Rest) (a : Told) → SavesRest X items r a a
rest-none X items Same a = SavesAmong-same X (shard_node_held X none items ∷ []) a a refl
rest-none X items (Of item) a = refl
