-- The slots that take the pairs of a directory, and the shards over them.
use Rattle.std.proofs.Common.{◌≡◌, ℕ, zero, suc, ◌+◌, ◌-◌, ◌<◌, ◌≤◌, List, [], ◌∷◌, ◌++◌, length, map, get_or, refl, ap, arith, sym, ◌∙◌, subst, inl, inr, Bool, true, false, cond, Option, Some, None, append_assoc, length-append}
use Rattle.std.specs.Prelude.{◌==◌, IfOk, OnOk}
use Rattle.std.specs.declared.result.Result.{Result}
use Rattle.std.specs.declared.result.Result.TheVariants.{Ok, Err}
use Rattle.std.specs.List.{AllByRecursion, cons_option}
use Rattle.std.specs.Option.{option_map}
use Rattle.std.proofs.lemmas.List.{append-nil, length-map}
use Rattle.uf_cid.specs.declared.cid.Codec.TheVariants.{DagPb}
use Rattle.uf_cid.specs.Blocks.{Held}
use Rattle.uf_cid.specs.Cid.{cid_of}
use Rattle.uf_store.specs.declared.store.StoreFault.{StoreFault}
use Rattle.uf_tree.specs.declared.meta.Meta.{Meta}
use Rattle.uf_tree.specs.declared.nodes.Entry.{Entry}
use Rattle.uf_murmur.specs.Slots.{slot}
use Rattle.uf_tree.specs.declared.nodes.Item.{Item}
use Rattle.uf_tree.specs.declared.nodes.Item.TheVariants.{Sub}
use Rattle.uf_tree.specs.FilePlan.{Plan}
use Rattle.uf_tree.specs.Metas.{none}
use Rattle.uf_tree.specs.Nodes.{InSlot, Named, item_entry, node_entry, shard_block}
use Rattle.uf_tree.specs.Shardable.{HasShard}
use Rattle.uf_tree.specs.ShardPlan.{bucket, flat_tabulate, shard, shard_at, shard_below, shard_held, shard_items, slot_blocks, slot_item, tabulate}
use Rattle.uf_tree.specs.Validity.{IsEntry, IsHash, IsNamed, IsShard}
use Rattle.uf_store.specs.Contents.{Told}
use Rattle.uf_store.specs.Keeping.{AreGood, Holds, KeepsGood}
use Rattle.uf_store.proofs.Keeping.{Holds-append, Holds-kept}
use Rattle.uf_tree.proofs.Each.{each_filter, each_flat_tabulate}
use Rattle.uf_shard.proofs.Digests.{shard-digested}
use Rattle.uf_tree.proofs.Valid.{node_entry-valid, shard-valid, shard_items-valid}
use Rattle.uf_shard.specs.declared.hashed.Hashed.{Hashed}
use Rattle.uf_shard.specs.Buckets.{AreForShard, AreForSlot, AreHashed, FitsSlot, blocks_at, deeper, item_at, pairs_of, rows_at}
use Rattle.uf_shard.specs.Saving.{PutsItem}

-- ---- lists by slots

tabulate-same : {A : Type 0} (n a : ℕ) (f g : ℕ → Option A) → ((s : ℕ) → s < a + n → f s ≡ g s) → tabulate n a f ≡ tabulate n a g
unfolding tabulate
tabulate-same zero a f g h = refl
tabulate-same {A} (suc n) a f g h =
    ap (λ (o : Option A). cons_option (option_map (λ x. (a, x)) o) (tabulate n (suc a) f)) (h a (omega arith))
    ∙ ap (λ (l : List (ℕ × A)). cons_option (option_map (λ x. (a, x)) (g a)) l) (tabulate-same n (suc a) f g (λ s k. h s (omega arith)))

flat_tabulate-same : {A : Type 0} (n a : ℕ) (f g : ℕ → List A) → ((s : ℕ) → s < a + n → f s ≡ g s) → flat_tabulate n a f ≡ flat_tabulate n a g
unfolding flat_tabulate
flat_tabulate-same zero a f g h = refl
flat_tabulate-same {A} (suc n) a f g h =
    ap (λ (l : List A). l ++ flat_tabulate n (suc a) f) (h a (omega arith)) ∙ ap (λ (l : List A). g a ++ l) (flat_tabulate-same n (suc a) f g (λ s k. h s (omega arith)))

-- what a slot adds
abbrev added : {A : Type 0} → ℕ → Option A → List (ℕ × A)
added s o = cons_option (option_map (λ x. (s, x)) o) []

added-behind : {A : Type 0} (o : Option A) (l m : List A) → cons_option o (l ++ m) ≡ cons_option o l ++ m
added-behind None l m = refl
added-behind (Some x) l m = refl

tabulate-last : {A : Type 0} (n a m : ℕ) (f : ℕ → Option A) → a + n ≡ m → tabulate (suc n) a f ≡ tabulate n a f ++ added m (f m)
unfolding tabulate
tabulate-last zero a m f h = let e : a ≡ m = omega arith in ap (λ k. added k (f k)) e
tabulate-last {A} (suc n) a m f h =
    ap (λ (l : List (ℕ × A)). cons_option (option_map (λ x. (a, x)) (f a)) l) (tabulate-last n (suc a) m f (omega arith))
    ∙ added-behind (option_map (λ x. (a, x)) (f a)) (tabulate n (suc a) f) (added m (f m))

flat_tabulate-last : {A : Type 0} (n a m : ℕ) (f : ℕ → List A) → a + n ≡ m → flat_tabulate (suc n) a f ≡ flat_tabulate n a f ++ f m
unfolding flat_tabulate
flat_tabulate-last zero a m f h = let e : a ≡ m = omega arith in append-nil (f a) ∙ ap f e
flat_tabulate-last {A} (suc n) a m f h =
    ap (λ (l : List A). f a ++ l) (flat_tabulate-last n (suc a) m f (omega arith)) ∙ sym (append_assoc (f a) (flat_tabulate n (suc a) f) (f m))

-- one slot more
pub tabulate-step : (n : ℕ) (f : ℕ → Option Item) (before now : List InSlot) → before ≡ tabulate n 0 f → PutsItem n (f n) before now → now ≡ tabulate (n + 1) 0 f
tabulate-step n f before now h puts =
    put (f n) puts ∙ ap (λ (l : List InSlot). l ++ added n (f n)) h ∙ sym (tabulate-last n 0 n f (omega arith)) ∙ ap (λ k. tabulate k 0 f) (let e : suc n ≡ n + 1 = omega arith in e)
  where
    put : (o : Option Item) → PutsItem n o before now → now ≡ before ++ added n o
    put None e = e ∙ sym (append-nil before)
    put (Some x) e = e

pub flat_tabulate-step : {A : Type 0} (n : ℕ) (f : ℕ → List A) → flat_tabulate n 0 f ++ f n ≡ flat_tabulate (n + 1) 0 f
flat_tabulate-step n f = sym (flat_tabulate-last n 0 n f (omega arith)) ∙ ap (λ k. flat_tabulate k 0 f) (let e : suc n ≡ n + 1 = omega arith in e)

-- fewer slots have no more
pub flat_tabulate-few : {A : Type 0} (n m a : ℕ) (f : ℕ → List A) → n ≤ m → length (flat_tabulate n a f) ≤ length (flat_tabulate m a f)
unfolding flat_tabulate
flat_tabulate-few zero m a f h = omega arith
flat_tabulate-few (suc n) zero a f h = absurd (omega arith)
flat_tabulate-few (suc n) (suc m) a f h =
    let less : length (flat_tabulate n (suc a) f) ≤ length (flat_tabulate m (suc a) f) = flat_tabulate-few n m (suc a) f (omega arith) in
    let one : length (f a ++ flat_tabulate n (suc a) f) ≡ length (f a) + length (flat_tabulate n (suc a) f) = length-append (f a) (flat_tabulate n (suc a) f) in
    let two : length (f a ++ flat_tabulate m (suc a) f) ≡ length (f a) + length (flat_tabulate m (suc a) f) = length-append (f a) (flat_tabulate m (suc a) f) in
    omega arith

-- up to a slot and at it
pub flat_tabulate-at : {A : Type 0} (n m : ℕ) (f : ℕ → List A) → n < m → length (flat_tabulate n 0 f) + length (f n) ≤ length (flat_tabulate m 0 f)
flat_tabulate-at n m f h =
    let both : length (flat_tabulate n 0 f ++ f n) ≡ length (flat_tabulate n 0 f) + length (f n) = length-append (flat_tabulate n 0 f) (f n) in
    let step : length (flat_tabulate n 0 f ++ f n) ≡ length (flat_tabulate (n + 1) 0 f) = ap length (flat_tabulate-step n f) in
    let few : length (flat_tabulate (n + 1) 0 f) ≤ length (flat_tabulate m 0 f) = flat_tabulate-few (n + 1) m 0 f (omega arith) in
    omega arith

pub Holds-nil : (a : Told) → Holds a []
Holds-nil None = tt
Holds-nil (Some t) = tt

-- ---- rows in slots

pub bucket-rows : (N : List ℕ → ℕ) (k s : ℕ) (rows : List Hashed) → AreHashed N rows → pairs_of (rows_at k s rows) ≡ bucket N k s (pairs_of rows)
bucket-rows N k s [] h = refl
bucket-rows N k s (r ∷ rows) h =
    ap (λ (hash : ℕ). pairs_of (cond (slot hash k == s) (r ∷ rows_at k s rows) (rows_at k s rows))) h.0 ∙ by (slot (N r.pair.now.0) k == s) (bucket-rows N k s rows h.1)
  where
    by : (b : Bool) → pairs_of (rows_at k s rows) ≡ bucket N k s (pairs_of rows)
        → pairs_of (cond b (r ∷ rows_at k s rows) (rows_at k s rows)) ≡ cond b (r.pair.now ∷ bucket N k s (pairs_of rows)) (bucket N k s (pairs_of rows))
    by true later = ap (λ (l : List Named). r.pair.now ∷ l) later
    by false later = later

fits : (N : List ℕ → ℕ) (left k s : ℕ) (l : List Named) → k ≡ 7 - left → HasShard N left l → FitsSlot N left (bucket N k s l)
unfolding HasShard
fits N zero k s l e h = let seven : 7 ≡ k = omega arith in subst (λ (n : ℕ). length (bucket N n s l) ≤ 1) seven (h s)
fits N (suc left) k s l e h = let level : 6 - left ≡ k = omega arith in subst (λ (n : ℕ). FitsSlot N (suc left) (bucket N n s l)) level (h s)

-- the rows of a shard that one of its slots takes
pub for-slot : (N : List ℕ → ℕ) (left k s : ℕ) (rows here : List Hashed) → k ≡ 7 - left → AreForShard N left rows → here ≡ rows_at k s rows → AreForSlot N left here
for-slot N left k s rows here e h is = subst (AreForSlot N left) (sym is) (record {
  hashed = each_filter (λ (r : Hashed). r.hash ≡ N r.pair.now.0) (λ r. slot r.hash k == s) rows h.hashed;
  named = subst (AllByRecursion IsNamed) (sym (bucket-rows N k s rows h.hashed)) (each_filter IsNamed (λ p. slot (N p.0) k == s) (pairs_of rows) h.named);
  fits = subst (FitsSlot N left) (sym (bucket-rows N k s rows h.hashed)) (fits N left k s (pairs_of rows) e h.apart);
})

two_rows : (N : List ℕ → ℕ) (left : ℕ) (l : List Named) → FitsSlot N left l → 2 ≤ length l → (less : ℕ) × (left ≡ suc less) × HasShard N less l
two_rows N zero l h two = absurd (omega arith)
two_rows N (suc left) l (inl few) two = absurd (omega arith)
two_rows N (suc left) l (inr deep) two = (left, refl, deep)

-- more than one row stands above the last level
pub has-room : (N : List ℕ → ℕ) (left : ℕ) (rows : List Hashed) → AreForSlot N left rows → 2 ≤ length rows → 1 ≤ left
has-room N left rows h two =
    let count : length (pairs_of rows) ≡ length rows = length-map rows _ in
    let deep = two_rows N left (pairs_of rows) h.fits (omega arith) in
    omega (arith, deep.1)

-- and has a shard one level deeper
pub for-shard : (N : List ℕ → ℕ) (left less : ℕ) (rows : List Hashed) → AreForSlot N left rows → 2 ≤ length rows → less ≡ left - 1 → AreForShard N less rows
for-shard N left less rows h two e =
    let count : length (pairs_of rows) ≡ length rows = length-map rows _ in
    let deep = two_rows N left (pairs_of rows) h.fits (omega arith) in
    let same : deep.0 ≡ less = omega (arith, deep.1) in
    record { hashed = h.hashed; named = h.named; some = omega arith; apart = subst (λ (n : ℕ). HasShard N n (pairs_of rows)) same deep.2 }

module _ (X : List ℕ → List ℕ) (N : List ℕ → ℕ) where
  deeper-is : (left less : ℕ) → left ≡ suc less → (l : List Named) → deeper X N left l ≡ shard X N less none l
  deeper-is left less e l = ap (λ n. deeper X N n l) e

  shared-item : (d : List Named → Plan) (l : List Named) → 2 ≤ length l → slot_item d l ≡ Some (Sub (d l).entry)
  shared-item d [] h = absurd (omega arith)
  shared-item d (e ∷ []) h = absurd (omega arith)
  shared-item d (e ∷ f ∷ l) h = refl

  shared-blocks : (d : List Named → Plan) (l : List Named) → 2 ≤ length l → slot_blocks d l ≡ (d l).blocks
  shared-blocks d [] h = absurd (omega arith)
  shared-blocks d (e ∷ []) h = absurd (omega arith)
  shared-blocks d (e ∷ f ∷ l) h = refl

  -- what a slot has of more than one row
  pub sub-item : (left less : ℕ) (rows : List Hashed) → 1 ≤ left → less ≡ left - 1 → 2 ≤ length rows → slot_item (deeper X N left) (pairs_of rows) ≡ Some (Sub (shard X N less none (pairs_of rows)).entry)
  sub-item left less rows some e two =
      let count : length (pairs_of rows) ≡ length rows = length-map rows _ in
      shared-item (deeper X N left) (pairs_of rows) (omega arith) ∙ ap (λ (p : Plan). Some (Sub p.entry)) (deeper-is left less (omega arith) (pairs_of rows))

  pub sub-blocks : (left less : ℕ) (rows : List Hashed) → 1 ≤ left → less ≡ left - 1 → 2 ≤ length rows → slot_blocks (deeper X N left) (pairs_of rows) ≡ (shard X N less none (pairs_of rows)).blocks
  sub-blocks left less rows some e two =
      let count : length (pairs_of rows) ≡ length rows = length-map rows _ in
      shared-blocks (deeper X N left) (pairs_of rows) (omega arith) ∙ ap (λ (p : Plan). p.blocks) (deeper-is left less (omega arith) (pairs_of rows))

  -- a shard is the one over the shards one level deeper
  pub shard-is : (left k : ℕ) (m : Meta) (l : List Named) → k ≡ 7 - left → shard X N left m l ≡ shard_at X N (deeper X N left) k m l
  unfolding shard
  shard-is zero k m l e = let seven : 7 ≡ k = omega arith in ap (λ (n : ℕ). shard_at X N (deeper X N zero) n m l) seven
  shard-is (suc left) k m l e = let level : 6 - left ≡ k = omega arith in ap (λ (n : ℕ). shard_at X N (shard X N left none) n m l) level

  module _ (left k : ℕ) (rows : List Hashed) (slots : List (List Hashed)) (hashed : AreHashed N rows) (each : (s : ℕ) → s < 256 → get_or slots s [] ≡ rows_at k s rows) where
    pub items-are : tabulate 256 0 (item_at X N left slots) ≡ shard_items N (deeper X N left) k (pairs_of rows)
    items-are = tabulate-same 256 0 _ _ (λ s h. ap (λ (here : List Hashed). slot_item (deeper X N left) (pairs_of here)) (each s (omega arith)) ∙ ap (slot_item (deeper X N left)) (bucket-rows N k s rows hashed))

    pub blocks-are : flat_tabulate 256 0 (blocks_at X N left slots) ≡ shard_below N (deeper X N left) k (pairs_of rows)
    blocks-are = flat_tabulate-same 256 0 _ _ (λ s h. ap (λ (here : List Hashed). slot_blocks (deeper X N left) (pairs_of here)) (each s (omega arith)) ∙ ap (slot_blocks (deeper X N left)) (bucket-rows N k s rows hashed))

  deeper-valid : IsHash X → (left : ℕ) (l : List Named) → IsEntry (deeper X N left l).entry
  deeper-valid good zero l = node_entry-valid X good [] []
  deeper-valid good (suc left) l = shard-valid X good N left none l

  pub items-valid : IsHash X → (left k : ℕ) (rows : List Hashed) → AreForShard N left rows → IsShard (shard_items N (deeper X N left) k (pairs_of rows))
  items-valid good left k rows h =
      let count : length (pairs_of rows) ≡ length rows = length-map rows _ in
      let some : 1 ≤ length rows = h.some in
      shard_items-valid N (deeper X N left) (deeper-valid good left) k (pairs_of rows) h.named (omega arith)

  -- ---- a shard over its slots

  -- the slots that stand in this list are those of the rows
  abbrev pub AreSlots : ℕ → List Hashed → List (List Hashed) → Type 0
  AreSlots k rows slots = (s : ℕ) → s < 256 → get_or slots s [] ≡ rows_at k s rows

  module _ (left k : ℕ) (rows : List Hashed) (slots : List (List Hashed)) (level : k ≡ 7 - left) (h : AreForShard N left rows) (each : AreSlots k rows slots) where
    pub whole-items : (items : List InSlot) → items ≡ tabulate 256 0 (item_at X N left slots) → items ≡ shard_items N (deeper X N left) k (pairs_of rows)
    whole-items items is = is ∙ items-are left k rows slots h.hashed each

    pub whole-blocks : (m : Meta) (items : List InSlot) → items ≡ tabulate 256 0 (item_at X N left slots)
        → shard_held X N m items ∷ flat_tabulate 256 0 (blocks_at X N left slots) ≡ (shard X N left m (pairs_of rows)).blocks
    whole-blocks m items is =
        ap (λ (l : List InSlot). shard_held X N m l ∷ flat_tabulate 256 0 (blocks_at X N left slots)) (whole-items items is)
        ∙ ap (λ (l : List Held). shard_held X N m (shard_items N (deeper X N left) k (pairs_of rows)) ∷ l) (blocks-are left k rows slots h.hashed each)
        ∙ ap (λ (p : Plan). p.blocks) (sym (shard-is left k m (pairs_of rows) level))

    pub whole-entry : (m : Meta) (items : List InSlot) → items ≡ tabulate 256 0 (item_at X N left slots)
        → node_entry X (shard_block m items) (map (λ (p : InSlot). item_entry p.1) items) ≡ (shard X N left m (pairs_of rows)).entry
    whole-entry m items is =
        ap (λ (l : List InSlot). node_entry X (shard_block m l) (map (λ (p : InSlot). item_entry p.1) l)) (whole-items items is)
        ∙ ap (λ (p : Plan). p.entry) (sym (shard-is left k m (pairs_of rows) level))

    pub whole-valid : IsHash X → (items : List InSlot) → items ≡ tabulate 256 0 (item_at X N left slots) → IsShard items
    whole-valid good items is = subst IsShard (sym (whole-items items is)) (items-valid good left k rows h)

  -- ---- good blocks

  turned : (l : List Held) → AllByRecursion (λ (b : Held). b.0.digest ≡ X b.1) l → AreGood X l
  turned [] h = tt
  turned (b ∷ l) h = (sym h.0, turned l h.1)

  deeper-good : (left : ℕ) (l : List Named) → AreGood X (deeper X N left l).blocks
  deeper-good zero l = tt
  deeper-good (suc left) l = turned _ (shard-digested X N left none l)

  slot-good : (left : ℕ) (l : List Named) → AreGood X (slot_blocks (deeper X N left) l)
  slot-good left [] = tt
  slot-good left (e ∷ []) = tt
  slot-good left (e ∷ f ∷ l) = deeper-good left (e ∷ f ∷ l)

  pub blocks-good : (n left : ℕ) (slots : List (List Hashed)) → AreGood X (flat_tabulate n 0 (blocks_at X N left slots))
  blocks-good n left slots = each_flat_tabulate (λ (b : Held). X b.1 ≡ b.0.digest) n 0 _ (λ s. slot-good left (pairs_of (get_or slots s [])))

  -- the blocks of one slot more
  pub Holds-step : (n left : ℕ) (slots : List (List Hashed)) (here : List Hashed) (a b : Told) → here ≡ get_or slots n [] → KeepsGood X a b
      → Holds a (flat_tabulate n 0 (blocks_at X N left slots)) → Holds b (slot_blocks (deeper X N left) (pairs_of here)) → Holds b (flat_tabulate (n + 1) 0 (blocks_at X N left slots))
  Holds-step n left slots here a b is keeps before now =
      subst (Holds b) (flat_tabulate-step n (blocks_at X N left slots))
      (Holds-append b (flat_tabulate n 0 (blocks_at X N left slots)) (blocks_at X N left slots n)
      (Holds-kept X a b (flat_tabulate n 0 (blocks_at X N left slots)) (blocks-good n left slots) keeps before)
      (subst (λ (l : List Hashed). Holds b (slot_blocks (deeper X N left) (pairs_of l))) is now))

  -- the block of a shard over the blocks below it
  pub Holds-over : (left : ℕ) (slots : List (List Hashed)) (held : Held) (blocks : List Held) (a b : Told) → held ∷ flat_tabulate 256 0 (blocks_at X N left slots) ≡ blocks → KeepsGood X a b
      → Holds a (flat_tabulate 256 0 (blocks_at X N left slots)) → Holds b (held ∷ []) → Holds b blocks
  Holds-over left slots held blocks a b is keeps below now =
      subst (Holds b) is
      (Holds-append b (held ∷ []) (flat_tabulate 256 0 (blocks_at X N left slots)) now
      (Holds-kept X a b (flat_tabulate 256 0 (blocks_at X N left slots)) (blocks-good 256 left slots) keeps below))

-- a block that is held under the CID of its entry is held under its own
pub held-own : (X : List ℕ → List ℕ) (block : List ℕ) (entries : List Entry) (told : Told) (r : Result Entry StoreFault) → IfOk r (λ e. e ≡ node_entry X block entries) → IfOk r (λ e. Holds told ((e.cid, block) ∷ []))
    → OnOk r (Holds told ((cid_of X DagPb block, block) ∷ []))
held-own X block entries told (Ok e) is held = subst (λ (x : Entry). Holds told ((x.cid, block) ∷ [])) is held
held-own X block entries told (Err fault) is held = tt
