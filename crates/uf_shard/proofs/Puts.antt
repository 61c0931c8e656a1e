-- An entry put under a name, level by level.
use Rattle.std.proofs.Common.{◌≡◌, ◌≢◌, ℕ, zero, suc, ◌+◌, ◌-◌, ◌<◌, ◌≤◌, List, [], ◌∷◌, ◌++◌, length, map, get_or, ◌^◌, refl, ap, arith, sym, ◌∙◌, subst, Bool, true, false, cond, T, Option, None, Some, Ordering, ◌⊎◌, inl, inr}
use Rattle.std.specs.Prelude.{◌==◌, IfSome}
use Rattle.std.specs.Cmp.{nat_cmp_total, tied_itself}
use Rattle.std.specs.declared.result.Result.{Result}
use Rattle.std.specs.declared.result.Result.TheVariants.{Ok, Err}
use Rattle.std.specs.declared.cmp.Ordering.TheVariants.{Less, Equal, Greater}
use Rattle.std.specs.FinMap.{nat_cmp-IsAntisymmetric}
use Rattle.std.specs.FinMap.Entries.{by_order, find, is_sorted, is_sorted-put, put}
use Rattle.std.specs.List.{AllByRecursion}
use Rattle.std.specs.Ordering.{eq_by_cmp, is_eq, nat_cmp}
use Rattle.std.proofs.lemmas.Bool.{cases_eq, false≢true}
use Rattle.uf_cid.specs.Blocks.{Held}
use Rattle.uf_murmur.specs.Slots.{slot}
use Rattle.uf_store.specs.Clashes.{IsSaving}
use Rattle.uf_store.specs.Contents.{Told}
use Rattle.uf_store.specs.Keeping.{Agrees, Holds, KeepsGood}
use Rattle.uf_store.specs.declared.store.StoreFault.{StoreFault}
use Rattle.uf_store.specs.declared.store.StoreFault.TheVariants.{Failed, Damaged, Missing, BadBlock, Clash, Memory}
use Rattle.uf_tree.specs.declared.meta.Meta.{Meta}
use Rattle.uf_tree.specs.declared.nodes.Entry.{Entry}
use Rattle.uf_tree.specs.declared.nodes.Item.{Item}
use Rattle.uf_tree.specs.declared.nodes.Item.TheVariants.{Leaf, Sub}
use Rattle.uf_tree.specs.Changes.{set_at, with_name}
use Rattle.uf_tree.specs.Metas.{none}
use Rattle.uf_tree.specs.Names.{names_cmp}
use Rattle.uf_tree.specs.Nodes.{InSlot, Named, item_entry, node_entry, shard_block}
use Rattle.uf_tree.specs.Roles.{IsOnWay}
use Rattle.uf_tree.specs.Shardable.{HasShard}
use Rattle.uf_tree.specs.ShardPlan.{bucket, flat_tabulate, same_slots, shard, shard_held, slot_blocks, tabulate}
use Rattle.uf_tree.specs.Validity.{IsDirectory, IsInSlot, IsItem, IsShard}
use Rattle.uf_tree.proofs.ShardLaws.{bucket-put, eqb_other, items-put, names_exact, names_total, slot-bound, tied}
use Rattle.uf_tree.proofs.Twins.{Apart-HasShard, few_apart, same_key, slots-hash}
use Rattle.uf_shard.specs.declared.fault.DirFault.{DirFault}
use Rattle.uf_shard.specs.declared.fault.DirFault.TheVariants.{Collision, TooBig, Store}
use Rattle.uf_shard.specs.Buckets.{FitsSlot, deeper}
use Rattle.uf_shard.specs.Answers.{AtCollision}
use Rattle.uf_shard.specs.Placed.{IsPlaced, way}
use Rattle.uf_shard.specs.Reached.{IsReached}
use Rattle.uf_shard.proofs.Ways.{from_way, further, on_way, way-at, way-length}
use Rattle.uf_shard.specs.Changed.{AreAlong, AreItems, AreTwins, GivesItem, GivesItems, HasNoTwin, IsItemAt, IsOrderedOr, IsSlot, LeafOr, MayLose, PutsSlot, PutsSlots, SavesBelow, below, blocks_of, item_of, level, slots_of}
use Rattle.uf_shard.specs.Known.{AreKnown, IsIn}
use Rattle.uf_shard.proofs.Carrying.{none-behind}
use Rattle.uf_shard.proofs.Knowing.{AreIn, In-flat, known-flat, known-in, known-more, known-old}
use Rattle.uf_shard.proofs.Pairing.{none_whole, twins_whole}
use Rattle.uf_shard.proofs.Placing.{below-good, blocks-are, entry-is, level-is, may-more, slot-in, slot-read}
use Rattle.uf_shard.proofs.Setting.{each_found}
use Rattle.uf_shard.proofs.Slotted.{free-none, leaf-one, many-blocks, many-item, put-more, put-two, sub-many}

pub T-of : (b : Bool) → b ≡ true → T b
T-of b e = subst T (sym e) tt

pub of-T : (b : Bool) → T b → b ≡ true
of-T true t = refl
of-T false t = absurd t

pub saving-lost : (told : Told) (l : List Held) (fault : StoreFault) → IsSaving fault → MayLose told l fault
saving-lost told l Failed h = tt
saving-lost told l (Damaged c) h = tt
saving-lost told l (Missing c) h = absurd h
saving-lost told l (BadBlock c role) h = absurd h
saving-lost told l (Clash c x y) h = tt
saving-lost told l Memory h = tt

memory-lost : (told : Told) (l : List Held) (fault : StoreFault) → fault ≡ Memory → MayLose told l fault
memory-lost told l fault is = subst (MayLose told l) (sym is) tt

pub agrees-nil : (told : Told) (l : List Held) → Agrees told l → Agrees told []
agrees-nil None l h = h
agrees-nil (Some t) l h = tt

module _ (X : List ℕ → List ℕ) (N : List ℕ → ℕ) where
  -- ---- one entry

  -- a free slot
  pub free-done : (before now : Told) (left : ℕ) (name : List ℕ) (e : Entry) (l : List Named) (r : Result Item DirFault) → None ≡ item_of X N left l → LeafOr name e r
      → PutsSlot X N before now (blocks_of X N left l) left name e l r
  free-done before now left name e l (Ok item) free is =
      subst (λ (m : List Named). HasNoTwin N name m × GivesItem X N now (blocks_of X N left m) left (Some item) (with_name name e m)) (sym (free-none (deeper X N left) l free))
      (tt, record { same = ap (λ (x : Item). Some x) is; known = tt })
  free-done before now left name e l (Err (Collision a b)) free is = absurd is
  free-done before now left name e l (Err TooBig) free is = absurd is
  free-done before now left name e l (Err (Store fault)) free is = memory-lost before (blocks_of X N left l) fault is

  -- the entry of the same name
  pub same-done : (before now : Told) (hash left : ℕ) (name other : List ℕ) (e old : Entry) (l : List Named) (r : Result Item DirFault) → eq_by_cmp names_cmp name other ≡ true
      → IsSlot X N hash left before (Some (Leaf other old)) l → LeafOr name e r → PutsSlot X N before now (blocks_of X N left l) left name e l r
  same-done before now hash left name other e old l (Ok item) same slot is =
      subst (λ (m : List Named). HasNoTwin N name m × GivesItem X N now (blocks_of X N left m) left (Some item) (with_name name e m)) (sym (leaf-one (deeper X N left) other old l slot.same)) (
        (λ one. sym one_name, tt),
        subst (λ (r : Ordering). GivesItem X N now [] left (Some item) (by_order r ((name, e) ∷ (other, old) ∷ []) ((other, e) ∷ []) ((other, old) ∷ (name, e) ∷ []))) (sym order)
            (record { same = ap (λ (x : Item). Some x) is ∙ ap (λ (n : List ℕ). Some (Leaf n e)) one_name; known = tt }),
      )
    where
      order : names_cmp name other ≡ Equal
      order = tied _ same

      one_name : name ≡ other
      one_name = names_exact name other order
  same-done before now hash left name other e old l (Err (Collision a b)) same slot is = absurd is
  same-done before now hash left name other e old l (Err TooBig) same slot is = absurd is
  same-done before now hash left name other e old l (Err (Store fault)) same slot is = memory-lost before (blocks_of X N left l) fault is

  pub differ-of : (name other : List ℕ) → eq_by_cmp names_cmp name other ≡ false → other ≢ name
  differ-of name other apart same = false≢true (sym apart ∙ ap (eq_by_cmp names_cmp name) same ∙ itself name)
    where
      itself : (a : List ℕ) → eq_by_cmp names_cmp a a ≡ true
      itself a = ap is_eq (tied_itself names_total a)

  -- the entry of another name of one hash
  pub twins-done : (before now : Told) (hash left : ℕ) (name other : List ℕ) (e old : Entry) (l : List Named) (fault : DirFault) → eq_by_cmp names_cmp name other ≡ false → N name ≡ N other
      → IsSlot X N hash left before (Some (Leaf other old)) l → IsOrderedOr name other fault → PutsSlot X N before now (blocks_of X N left l) left name e l (Err fault)
  twins-done before now hash left name other e old l (Collision first second) apart one slot is =
      subst (λ (m : List Named). AreTwins N name m first second) (sym (leaf-one (deeper X N left) other old l slot.same)) (record {
        other = other;
        entry = old;
        is_there = ap (λ (b : Bool). cond b (Some old) None) (ap is_eq (tied_itself names_total other));
        one_hash = sym one;
        differ = differ-of name other apart;
        are = is;
      })
  twins-done before now hash left name other e old l TooBig apart one slot is = absurd is
  twins-done before now hash left name other e old l (Store fault) apart one slot is = memory-lost before (blocks_of X N left l) fault is

  -- ---- a lone entry

  pub items-none : (n a : ℕ) → tabulate {A = Item} n a (λ s. None) ≡ []
  unfolding tabulate
  items-none zero a = refl
  items-none (suc n) a = items-none n (suc a)

  pub flat-none : (n a : ℕ) (f : ℕ → List Held) → ((q : ℕ) → f q ≡ []) → flat_tabulate n a f ≡ []
  unfolding flat_tabulate
  flat-none zero a f h = refl
  flat-none (suc n) a f h = ap (λ (l : List Held). l ++ flat_tabulate n (suc a) f) (h a) ∙ flat-none n (suc a) f h

  -- below one pair there is nothing
  pub one-blocks : (left : ℕ) (name : List ℕ) (e : Entry) → below X N left ((name, e) ∷ []) ≡ []
  one-blocks left name e = flat-none 256 0 (λ s. slot_blocks (deeper X N left) (bucket N (level left) s ((name, e) ∷ []))) (λ q. none (slot (N name) (level left) == q))
    where
      none : (b : Bool) → slot_blocks (deeper X N left) (cond b ((name, e) ∷ []) []) ≡ []
      none true = refl
      none false = refl

  one-shard : (left : ℕ) (name : List ℕ) (e : Entry) → HasShard N left ((name, e) ∷ [])
  one-shard left name e = Apart-HasShard N left ((name, e) ∷ []) (few_apart (same_slots N left) ((name, e) ∷ []) (let one : 1 ≤ 1 = omega arith in one))

  pub one-slots : (left : ℕ) (name : List ℕ) (e : Entry) → slots_of X N left ((name, e) ∷ []) ≡ (slot (N name) (level left), Leaf name e) ∷ []
  one-slots left name e = items-put N (deeper X N left) (level left) name [] tt e ∙ ap (put nat_cmp (slot (N name) (level left)) (Leaf name e)) (items-none 256 0)

  -- the slots of a shard of one pair
  pub one-items : (hash left : ℕ) → left ≤ 7 → (told : Told) (items : List InSlot) (name : List ℕ) (e : Entry) (s : ℕ) → s ≡ slot (N name) (7 - left) → items ≡ (s, Leaf name e) ∷ []
      → IsDirectory ((name, e) ∷ []) → AreAlong N hash (7 - left) ((name, e) ∷ []) → Agrees told [] → AreItems X N hash left told items ((name, e) ∷ [])
  one-items hash left low told items name e s at is valid along agrees = record {
    valid = valid;
    apart = one-shard left name e;
    along = along;
    same = is ∙ ap (λ (k : ℕ). (k, Leaf name e) ∷ []) (at ∙ ap (slot (N name)) (sym (level-is left low)))
        ∙ sym (one-slots left name e);
    agrees = subst (Agrees told) (sym (one-blocks left name e)) agrees;
  }

  -- ---- two entries in one slot

  module _ (fits : (name : List ℕ) → N name < 2 ^ 64) where
    same_at : (a b k n : ℕ) → k < n → way a n ≡ way b n → slot a k ≡ slot b k
    same_at a b k n h e = sym (way-at a n k h) ∙ ap (λ (l : List ℕ). get_or l k 0) e ∙ way-at b n k h

    -- names of two hashes part above the last level
    pub room-left : (left : ℕ) (name other : List ℕ) → left ≤ 7 → way (N other) (8 - left) ≡ way (N name) (8 - left) → N name ≢ N other → 1 ≤ left
    room-left zero name other low along differ = absurd (differ (slots-hash (N name) (N other) (fits name) (fits other) (λ k h. sym (same_at (N other) (N name) k 8 h along))))
    room-left (suc left) name other low along differ = omega arith

    less : (left : ℕ) → suc left - 1 ≡ left
    less left = omega arith

    up : (left : ℕ) → 1 ≤ left → 7 - (left - 1) ≡ 8 - left
    up left h = omega arith

    -- the names of a slot's entry and of a put share the slots down to it
    pub item-along : (left : ℕ) (name other : List ℕ) (old : Entry) → left ≤ 7 → IsItemAt N (way (N name) (7 - left)) (slot (N name) (7 - left)) (Leaf other old) → way (N other) (8 - left) ≡ way (N name) (8 - left)
    item-along left name other old low at =
        let parts = from_way (N other) (N name) (7 - left) (slot (N name) (7 - left)) at.on_way in
        let next : 7 - left + 1 ≡ 8 - left = omega arith in
        subst (λ (n : ℕ). way (N other) n ≡ way (N name) n) next (further (N other) (N name) (7 - left) parts.0 parts.1)

    -- the slots of the entry alone, one level deeper
    pub alone-placed : (left : ℕ) (name other : List ℕ) (old : Entry) (s : ℕ) (items : List InSlot) → left ≤ 7 → 1 ≤ left → IsItemAt N (way (N name) (7 - left)) (slot (N name) (7 - left)) (Leaf other old)
        → s ≡ slot (N other) (8 - left) → items ≡ (s, Leaf other old) ∷ [] → IsPlaced N (way (N name) (7 - (left - 1))) items
    alone-placed left name other old s items low some at place is =
        subst (IsPlaced N (way (N name) (7 - (left - 1)))) (sym is) (subst (λ (n : ℕ). IsPlaced N (way (N name) n) ((s, Leaf other old) ∷ [])) (sym (up left some)) (record {
          valid = record { some = (let one : 1 ≤ 1 = omega arith in one); sorted = refl; each = (record { slot = (let bound : slot (N other) (8 - left) < 256 = slot-bound (N other) (8 - left) in omega arith); item = at.valid }, tt) };
          on_way = (on_way (N other) (N name) (8 - left) s (item-along left name other old low at) (sym place), tt);
        }))

    module _ (hash left : ℕ) (name other : List ℕ) (e old : Entry) (s : ℕ) (alone : List InSlot) (low : left ≤ 7) (some : 1 ≤ left) (before : Told) (is_hash : hash ≡ N name) (apart : eq_by_cmp names_cmp name other ≡ false)
        (place : s ≡ slot (N other) (8 - left)) (is : alone ≡ (s, Leaf other old) ∷ []) (l : List Named) (slotted : IsSlot X N hash left before (Some (Leaf other old)) l) where
      pub one : l ≡ (other, old) ∷ []
      one = leaf-one (deeper X N left) other old l slotted.same

      pub alone-items : AreItems X N hash (left - 1) before alone ((other, old) ∷ [])
      alone-items = one-items hash (left - 1) (omega arith) before alone other old s (place ∙ ap (slot (N other)) (sym (up left some))) is (subst IsDirectory one slotted.valid)
          (subst (λ (n : ℕ). AreAlong N hash n ((other, old) ∷ [])) (sym (up left some)) (subst (AreAlong N hash (8 - left)) one slotted.along)) (agrees-nil before (blocks_of X N left l) slotted.agrees)

      -- where nothing is in the shard of both but a fault
      pub beside-err : (mid now : Told) (fault : DirFault) → ((m : List Named) → AreItems X N hash (left - 1) before alone m → PutsSlots X N before mid (below X N (left - 1) m) (left - 1) name e m (Err fault))
          → PutsSlot X N before now (blocks_of X N left l) left name e l (Err fault)
      beside-err mid now (Collision first second) inner = subst (λ (m : List Named). AreTwins N name m first second) (sym one) (inner ((other, old) ∷ []) alone-items)
      beside-err mid now TooBig inner = absurd (inner ((other, old) ∷ []) alone-items)
      beside-err mid now (Store fault) inner = may-more before (below X N (left - 1) ((other, old) ∷ [])) (blocks_of X N left l) fault
          (λ b i. absurd (subst (IsIn b) (one-blocks (left - 1) other old) i)) (inner ((other, old) ∷ []) alone-items)

      -- the shard of both
      pub beside-ok : (mid now : Told) (items : List InSlot) (r : Result Item DirFault)
          → ((m : List Named) → AreItems X N hash (left - 1) before alone m → PutsSlots X N before mid (below X N (left - 1) m) (left - 1) name e m (Ok items))
          → SavesBelow X N mid now items r → PutsSlot X N before now (blocks_of X N left l) left name e l r
      beside-ok mid now items (Ok item) inner saves =
          let given = inner ((other, old) ∷ []) alone-items in
          let after = saves (below X N (left - 1) ((other, old) ∷ [])) (left - 1) (with_name name e ((other, old) ∷ [])) (put-two name other e old (differ-of name other apart)) given.1 in
          let level : suc (left - 1) ≡ left = omega arith in
          subst (λ (m : List Named). HasNoTwin N name m × GivesItem X N now (blocks_of X N left m) left (Some item) (with_name name e m)) (sym one) (
            given.0,
            subst (λ (n : ℕ). GivesItem X N now [] n (Some item) (with_name name e ((other, old) ∷ []))) level
                (subst (λ (olds : List Held). GivesItem X N now olds (suc (left - 1)) (Some item) (with_name name e ((other, old) ∷ []))) (one-blocks (left - 1) other old) after),
          )
      beside-ok mid now items (Err (Collision a b)) inner saves = absurd saves
      beside-ok mid now items (Err TooBig) inner saves = absurd saves
      beside-ok mid now items (Err (Store fault)) inner saves = saving-lost before (blocks_of X N left l) fault saves

  -- ---- a shard below

  module _ (before now : Told) (m : Meta) (items : List InSlot) (e : Entry) (is : e ≡ node_entry X (shard_block m items) (map (λ (p : InSlot). item_entry p.1) items)) (held : Holds now ((e.cid, shard_block m items) ∷ []))
      (keeps : KeepsGood X before now) (old : List Held) (left : ℕ) (l : List Named) (gives : GivesItems X N before old left items l) where
    -- the entry of a shard that was saved of its slots
    pub saved-entry : e ≡ (shard X N left m l).entry
    saved-entry = is ∙ ap (λ (i : List InSlot). node_entry X (shard_block m i) (map (λ (p : InSlot). item_entry p.1) i)) gives.same ∙ sym (entry-is X N left m l)

    -- its blocks are held or old ones
    pub saved-known : AreKnown now old (shard X N left m l).blocks
    saved-known =
        let root : ◌≡◌ {A = Held} (e.cid, shard_block m items) (shard_held X N m (slots_of X N left l)) = λ i. ((ap (λ (x : Entry). x.cid) (saved-entry ∙ entry-is X N left m l)) i, shard_block m (gives.same i)) in
        subst (AreKnown now old) (sym (blocks-are X N left m l))
        (inl (subst (λ (b : Held). Holds now (b ∷ [])) root held), known-more X before now old old (below X N left l) (below-good X N left l) keeps (λ b i. i) gives.known)

  -- what the slot above has then
  pub saved-below : (before now : Told) (items : List InSlot) (e : Entry) → e ≡ node_entry X (shard_block none items) (map (λ (p : InSlot). item_entry p.1) items) → Holds now ((e.cid, shard_block none items) ∷ []) → KeepsGood X before now
      → (old : List Held) (left : ℕ) (l : List Named) → 2 ≤ length l → GivesItems X N before old left items l → GivesItem X N now old (suc left) (Some (Sub e)) l
  saved-below before now items e is held keeps old left l many gives = record {
    same = ap (λ (x : Entry). Some (Sub x)) (saved-entry before now none items e is held keeps old left l gives) ∙ sym (many-item (shard X N left none) l many);
    known = subst (AreKnown now old) (sym (many-blocks (shard X N left none) l many)) (saved-known before now none items e is held keeps old left l gives);
  }

  -- a shard that is saved shows no collision
  pub early-below : (a b mid now : Told) (items : List InSlot) (r : Result Item DirFault) → SavesBelow X N mid now items r → AtCollision r (b ≡ a)
  early-below a b mid now items (Ok item) h = tt
  early-below a b mid now items (Err (Collision first second)) h = absurd h
  early-below a b mid now items (Err TooBig) h = tt
  early-below a b mid now items (Err (Store fault)) h = tt

  -- a put over more old blocks, from a moment that told the same
  pub puts-more : (before mid now : Told) (k old : List Held) (left : ℕ) (name : List ℕ) (e : Entry) (l : List Named) (r : Result (List InSlot) DirFault) → mid ≡ before → AreIn k old
      → PutsSlots X N mid now k left name e l r → PutsSlots X N before now old left name e l r
  puts-more before mid now k old left name e l (Ok items) same more h = (h.0, record { same = h.1.same; known = known-in now k old _ more h.1.known })
  puts-more before mid now k old left name e l (Err (Collision a b)) same more h = h
  puts-more before mid now k old left name e l (Err TooBig) same more h = absurd h
  puts-more before mid now k old left name e l (Err (Store fault)) same more h = may-more before k old fault more (subst (λ (t : Told). MayLose t k fault) same h)

  -- there is a level below one with a shard in a slot
  pub sub-room : (hash left s : ℕ) (found : Option Item) (be : Entry) → left ≤ 7 → found ≡ Some (Sub be) → IfSome found (IsItemAt N (way hash (7 - left)) s) → 1 ≤ left
  sub-room hash left s found be low is at =
      let here : IfSome (Some (Sub be)) (IsItemAt N (way hash (7 - left)) s) = subst (λ (o : Option Item). IfSome o (IsItemAt N (way hash (7 - left)) s)) is at in
      by here (cases_eq left 0)
    where
      by : IsItemAt N (way hash (7 - left)) s (Sub be) → (left ≡ 0) ⊎ (left ≢ 0) → 1 ≤ left
      by here (inl none) = absurd (here.on_way (way-length hash (7 - left) ∙ (let seven : 7 - left ≡ 7 = omega arith in seven)))
      by here (inr some) = omega (arith, some)

  -- a slot with a shard has that of its pairs, which is reached
  module _ (hash left : ℕ) (before : Told) (be : Entry) (l : List Named) (low : left ≤ 7) (some : 1 ≤ left) (slotted : IsSlot X N hash left before (Some (Sub be)) l) where
    pub record Deeper : Type 0 where
      pub many : 2 ≤ length l
      pub reached : IsReached X N hash (left - 1) be.cid none l
      pub blocks : blocks_of X N left l ≡ (shard X N (left - 1) none l).blocks

    pub deeper-reached : Deeper
    deeper-reached = by left refl
      where
        sub : (k : ℕ) → left ≡ suc k → (2 ≤ length l) × (be ≡ (shard X N k none l).entry)
        sub k at = sub-many (shard X N k none) be l (subst (λ (n : ℕ). Some (Sub be) ≡ item_of X N n l) at slotted.same)

        apart : (k : ℕ) → 2 ≤ length l → FitsSlot N (suc k) l → HasShard N k l
        apart k many (inl few) = absurd (omega arith)
        apart k many (inr has) = has

        by : (n : ℕ) → left ≡ n → Deeper
        by zero at = absurd (omega arith)
        by (suc k) at =
            let parts = sub k at in
            let less : k ≡ left - 1 = omega arith in
            let levels : 8 - left ≡ 7 - (left - 1) = omega arith in
            record {
              many = parts.0;
              reached = record {
                good = refl;
                carries = none-behind (way hash (7 - (left - 1)));
                valid = slotted.valid;
                some = omega (arith, parts.0);
                apart = subst (λ (n : ℕ). HasShard N n l) less (apart k parts.0 (subst (λ (n : ℕ). FitsSlot N n l) at slotted.fits));
                along = subst (λ (n : ℕ). AreAlong N hash n l) levels slotted.along;
                cid = ap (λ (x : Entry). x.cid) parts.1 ∙ ap (λ (n : ℕ). (shard X N n none l).entry.cid) less;
              };
              blocks = ap (λ (n : ℕ). blocks_of X N n l) at ∙ many-blocks (shard X N k none) l parts.0 ∙ ap (λ (n : ℕ). (shard X N n none l).blocks) less;
            }

    pub deeper-agrees : Agrees before (shard X N (left - 1) none l).blocks
    deeper-agrees = subst (Agrees before) deeper-reached.blocks slotted.agrees

    -- a fault below
    pub sub-err : (mid now : Told) (name : List ℕ) (e : Entry) (fault : DirFault)
        → ((m : List Named) → IsReached X N hash (left - 1) be.cid none m → Agrees before (shard X N (left - 1) none m).blocks → PutsSlots X N before mid (shard X N (left - 1) none m).blocks (left - 1) name e m (Err fault))
        → PutsSlot X N before now (blocks_of X N left l) left name e l (Err fault)
    sub-err mid now name e (Collision first second) inner = inner l deeper-reached.reached deeper-agrees
    sub-err mid now name e TooBig inner = absurd (inner l deeper-reached.reached deeper-agrees)
    sub-err mid now name e (Store fault) inner = subst (λ (olds : List Held). MayLose before olds fault) (sym deeper-reached.blocks) (inner l deeper-reached.reached deeper-agrees)

    pub sub-ok : (mid now : Told) (name : List ℕ) (e : Entry) (items : List InSlot) (r : Result Item DirFault)
        → ((m : List Named) → IsReached X N hash (left - 1) be.cid none m → Agrees before (shard X N (left - 1) none m).blocks → PutsSlots X N before mid (shard X N (left - 1) none m).blocks (left - 1) name e m (Ok items))
        → SavesBelow X N mid now items r → PutsSlot X N before now (blocks_of X N left l) left name e l r
    sub-ok mid now name e items (Ok item) inner saves =
        let given = inner l deeper-reached.reached deeper-agrees in
        let more : 2 ≤ length (with_name name e l) = omega (arith, deeper-reached.many, put-more name e l) in
        let after = saves (shard X N (left - 1) none l).blocks (left - 1) (with_name name e l) more given.1 in
        let level : suc (left - 1) ≡ left = omega arith in (
          given.0,
          subst (λ (n : ℕ). GivesItem X N now (blocks_of X N left l) n (Some item) (with_name name e l)) level
              (subst (λ (olds : List Held). GivesItem X N now olds (suc (left - 1)) (Some item) (with_name name e l)) (sym deeper-reached.blocks) after),
        )
    sub-ok mid now name e items (Err (Collision a b)) inner saves = absurd saves
    sub-ok mid now name e items (Err TooBig) inner saves = absurd saves
    sub-ok mid now name e items (Err (Store fault)) inner saves = saving-lost before (blocks_of X N left l) fault saves

  -- ---- one slot of a shard

  -- what is found in a slot on the way
  pub found-at : (hash left s : ℕ) (items : List InSlot) (found : Option Item) → IsPlaced N (way hash (7 - left)) items → s ≡ slot hash (7 - left) → found ≡ find nat_cmp s items
      → IfSome found (IsItemAt N (way hash (7 - left)) (slot hash (7 - left)))
  found-at hash left s items None placed at is = tt
  found-at hash left s items (Some item) placed at is = subst (λ (k : ℕ). IsItemAt N (way hash (7 - left)) k item) at (record {
    valid = (each_found IsInSlot s item items placed.valid.each (sym is)).item;
    on_way = each_found (IsOnWay N (way hash (7 - left))) s item items placed.on_way (sym is);
  })

  module _ (hash left : ℕ) (low : left ≤ 7) (before : Told) (items : List InSlot) (name : List ℕ) (s : ℕ) (found : Option Item) (is_hash : hash ≡ N name) (at : s ≡ slot hash (7 - left)) (seen : found ≡ find nat_cmp s items)
      (l : List Named) (is : AreItems X N hash left before items l) where
    here : ℕ
    here = slot hash (level left)

    bucketed : List Named
    bucketed = bucket N (level left) (slot hash (level left)) l

    pub slotted : IsSlot X N hash left before found (bucket N (level left) (slot hash (level left)) l)
    slotted = slot-read X N hash left low before items l is s at found seen

    -- the test of the bucket
    whole-none : HasNoTwin N name (bucket N (level left) (slot hash (level left)) l) → HasNoTwin N name l
    whole-none h = none_whole N (λ other. slot (N other) (level left) == slot hash (level left)) name (λ other one. same_key _ _ (ap (λ (x : ℕ). slot x (level left)) (one ∙ sym is_hash))) l h

    -- a fault in the slot
    pub into-err : (mid now : Told) (e : Entry) (fault : DirFault)
        → ((m : List Named) → IsSlot X N hash left before found m → PutsSlot X N before mid (blocks_of X N left m) left name e m (Err fault)) → PutsSlots X N before now (below X N left l) left name e l (Err fault)
    into-err mid now e (Collision first second) inner = twins_whole N (λ other. slot (N other) (level left) == slot hash (level left)) name l first second (inner _ slotted)
    into-err mid now e TooBig inner = absurd (inner _ slotted)
    into-err mid now e (Store fault) inner = may-more before _ (below X N left l) fault (slot-in X N left hash l) (inner _ slotted)

    -- the blocks below after one slot changes
    pub known-done : (now : Told) (m : List Named) → ((q : ℕ) → q ≢ slot hash (level left) → bucket N (level left) q m ≡ bucket N (level left) q l)
        → AreKnown now (blocks_of X N left (bucket N (level left) (slot hash (level left)) l)) (blocks_of X N left (bucket N (level left) (slot hash (level left)) m))
        → AreKnown now (below X N left l) (below X N left m)
    known-done now m others here = known-flat now (below X N left l) 256 0 (λ s. slot_blocks (deeper X N left) (bucket N (level left) s m)) (λ q few high. each q high (cases_eq q (slot hash (level left))))
      where
        each : (q : ℕ) → q < 0 + 256 → (q ≡ slot hash (level left)) ⊎ (q ≢ slot hash (level left)) → AreKnown now (below X N left l) (slot_blocks (deeper X N left) (bucket N (level left) q m))
        each q high (inl same) = subst (λ (k : ℕ). AreKnown now (below X N left l) (slot_blocks (deeper X N left) (bucket N (level left) k m))) (sym same)
            (known-in now _ (below X N left l) _ (slot-in X N left hash l) here)
        each q high (inr other) = subst (λ (b : List Named). AreKnown now (below X N left l) (slot_blocks (deeper X N left) b)) (sym (others q other))
            (known-old now (below X N left l) (slot_blocks (deeper X N left) (bucket N (level left) q l))
            (λ b i. In-flat b 256 0 (λ s. slot_blocks (deeper X N left) (bucket N (level left) s l)) q (omega arith) high i))

    bucket_off : (e : Entry) (q : ℕ) → q ≢ slot hash (level left) → bucket N (level left) q (with_name name e l) ≡ bucket N (level left) q l
    bucket_off e q off = bucket-put N (level left) q name e l (T-of (is_sorted names_cmp l) is.valid.sorted)
        ∙ ap (λ (b : Bool). cond b (put names_cmp name e (bucket N (level left) q l)) (bucket N (level left) q l)) (eqb_other (slot (N name) (level left)) q (λ same. off (same ∙ ap (λ (x : ℕ). slot x (level left)) (sym is_hash))))

    pub bucket_at : (e : Entry) → bucket N (level left) (slot hash (level left)) (with_name name e l) ≡ with_name name e (bucket N (level left) (slot hash (level left)) l)
    bucket_at e = bucket-put N (level left) (slot hash (level left)) name e l (T-of (is_sorted names_cmp l) is.valid.sorted)
        ∙ ap (λ (b : Bool). cond b (put names_cmp name e (bucket N (level left) (slot hash (level left)) l)) (bucket N (level left) (slot hash (level left)) l))
        (same_key (slot (N name) (level left)) (slot hash (level left)) (ap (λ (x : ℕ). slot x (level left)) (sym is_hash)))

    -- the slots after one of them changes
    pub into-ok : (mid now : Told) (e : Entry) (item : Item) (changed : List InSlot) → mid ≡ now → changed ≡ set_at s (Some item) items
        → ((m : List Named) → IsSlot X N hash left before found m → PutsSlot X N before mid (blocks_of X N left m) left name e m (Ok item)) → PutsSlots X N before now (below X N left l) left name e l (Ok changed)
    into-ok mid now e item changed same set inner =
        let given = inner _ slotted in (
          whole-none given.0,
          record {
            same = set ∙ ap (λ (k : ℕ). set_at k (Some item) items) (at ∙ ap (slot hash) (sym (level-is left low))) ∙ ap (set_at (slot hash (level left)) (Some item)) is.same
                ∙ ap (λ (o : Option Item). set_at (slot hash (level left)) o (slots_of X N left l)) given.1.same
                ∙ ap (λ (x : ℕ). set_at (slot x (level left)) (item_of X N left (with_name name e (bucket N (level left) (slot x (level left)) l))) (slots_of X N left l)) is_hash
                ∙ sym (items-put N (deeper X N left) (level left) name l (T-of (is_sorted names_cmp l) is.valid.sorted) e);
            known = known-done now (with_name name e l) (bucket_off e)
                (subst (λ (m : List Named). AreKnown now (blocks_of X N left (bucket N (level left) (slot hash (level left)) l)) (blocks_of X N left m)) (sym (bucket_at e))
                (subst (λ (t : Told). AreKnown t (blocks_of X N left (bucket N (level left) (slot hash (level left)) l)) (blocks_of X N left (with_name name e (bucket N (level left) (slot hash (level left)) l)))) same given.1.known));
          },
        )

  -- ---- slots that are valid

  each_put : (P : InSlot → Type 0) (s : ℕ) (item : Item) (items : List InSlot) → P (s, item) → AllByRecursion P items → ((p : InSlot) → nat_cmp s p.0 ≡ Equal → P (p.0, item)) → AllByRecursion P (put nat_cmp s item items)
  each_put P s item [] one all tie = (one, tt)
  each_put P s item (p ∷ items) one all tie = by (nat_cmp s p.0) refl (each_put P s item items one all.1 tie)
    where
      by : (r : Ordering) → nat_cmp s p.0 ≡ r → AllByRecursion P (put nat_cmp s item items) → AllByRecursion P (by_order r ((s, item) ∷ p ∷ items) ((p.0, item) ∷ items) (p ∷ put nat_cmp s item items))
      by Less e later = (one, all)
      by Equal e later = (tie p e, all.1)
      by Greater e later = (all.0, later)

  pub some_put : (s : ℕ) (item : Item) (items : List InSlot) → 1 ≤ length (put nat_cmp s item items)
  some_put s item [] = omega arith
  some_put s item (p ∷ items) = elim (nat_cmp s p.0) as (λ (r : Ordering). 1 ≤ length {A = InSlot} (by_order r ((s, item) ∷ p ∷ items) ((p.0, item) ∷ items) (p ∷ put nat_cmp s item items))) [
    | Less ↦ omega arith
    | Equal ↦ omega arith
    | Greater ↦ omega arith
  ]

  -- a shard after an item is put into a slot
  pub valid-put : (s : ℕ) (item : Item) (items changed : List InSlot) → s < 256 → IsItem item → IsShard items → changed ≡ set_at s (Some item) items → IsShard changed
  valid-put s item items changed low valid shard is = subst IsShard (sym is) (record {
    some = some_put s item items;
    sorted = of-T (is_sorted nat_cmp (put nat_cmp s item items)) (is_sorted-put nat_cmp nat_cmp_total s item items (T-of (is_sorted nat_cmp items) shard.sorted));
    each = each_put IsInSlot s item items (record { slot = low; item = valid }) shard.each
        (λ p e. record { slot = subst (λ (k : ℕ). k < 256) (nat_cmp-IsAntisymmetric s p.0 e) low; item = valid });
  })
