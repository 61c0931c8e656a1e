-- The names of a shard tree in the order of its slots.
use Rattle.std.proofs.Common.{◌≡◌, ◌≢◌, ℕ, zero, suc, get_or, take, ◌+◌, ◌<◌, ◌≤◌, List, [], ◌∷◌, ◌++◌, length, refl, ap, arith, sym, ◌∙◌, subst, Bool, true, false, cond, T, Option, Some, None, ◌⊎◌, inl, inr, Result, Ok, Err}
use Rattle.std.specs.Prelude.{◌==◌, IfSome, OnOk}
use Rattle.std.specs.FinMap.Entries.{find, find-put, find-where_key, is_sorted, is_sorted-put, same_entries}
use Rattle.std.specs.List.{cons_option, flat_map}
use Rattle.std.specs.Option.{option_map, option_or}
use Rattle.std.specs.Ordering.{eq_by_cmp}
use Rattle.std.proofs.lemmas.Bool.{cases_eq}
use Rattle.std.proofs.lemmas.Bool.Decides.{nat_tests}
use Rattle.std.proofs.lemmas.List.{append-nil, append_assoc, take_more}
use Rattle.uf_cid.specs.declared.cid.Cid.{Cid}
use Rattle.uf_cid.specs.Blocks.{Held, Lookup}
use Rattle.uf_cid.specs.Blocks as blocks
use Rattle.uf_murmur.specs.Slots.{slot}
use Rattle.uf_store.specs.Contents.{Contents, Told, held_at}
use Rattle.uf_store.specs.Keeping.{Agrees}
use Rattle.uf_store.specs.declared.store.StoreFault.{StoreFault}
use Rattle.uf_tree.specs.declared.nodes.Entry.{Entry}
use Rattle.uf_tree.specs.declared.meta.Meta.{Meta}
use Rattle.uf_tree.specs.declared.nodes.Item.{Item}
use Rattle.uf_tree.specs.declared.nodes.ShardNode.{ShardNode}
use Rattle.uf_tree.specs.Codecs.{shard_node_block}
use Rattle.uf_tree.specs.declared.nodes.Item.TheVariants.{Leaf, Sub}
use Rattle.uf_tree.specs.FilePlan.{Plan}
use Rattle.uf_tree.specs.Metas.{none}
use Rattle.uf_tree.specs.Names.{names_cmp}
use Rattle.uf_tree.specs.Nodes.{InSlot, Named}
use Rattle.uf_tree.specs.ShardPlan.{bucket, flat_tabulate, shard, slot_item, tabulate}
use Rattle.uf_tree.specs.Validity.{IsHash, IsShardNode}
use Rattle.uf_tree.proofs.ShardLaws.{eqb_same, names_exact, names_total, slot-bound}
use Rattle.uf_shard.specs.Listing.{AddsShard, AddsSlot, AddsSlots, AreListed, AreRows, AreRowsBelow, IsListed, in_order}
use Rattle.uf_shard.specs.Walked.{AreOver, IsOver, IsRoot, all_blocks, blocks_over}
use Rattle.uf_shard.proofs.Reaching.{deeper_of, items_of, level_of}
use Rattle.uf_shard.proofs.Walks.{Agrees_below, agrees_back, agrees_front, held_items, over_items, pairs_of}

-- the names of the shard under a CID are those of its slots
rows_of : (held : Lookup) (left : ℕ) (cid : Cid) (node : ShardNode) (rows : List Named) → IsShardNode node → held cid ≡ Some (shard_node_block node) → AreListed (AreRowsBelow held left) node.items rows → AreRows held left cid rows
rows_of held zero cid node rows valid is_held are = record { meta = node.meta; items = node.items; good = valid.meta; valid = valid.items; is_held = is_held; listed = are }
rows_of held (suc left) cid node rows valid is_held are = record { meta = node.meta; items = node.items; good = valid.meta; valid = valid.items; is_held = is_held; listed = are }

pub adds-shard : {A : Type 0} (r : Result A StoreFault) (told mid : Told) (left : ℕ) (cid : Cid) (node : ShardNode) (slice : List InSlot) (before now : List Named) → mid ≡ told → slice ≡ node.items → IsShardNode node
    → IfSome told (λ t. held_at t cid ≡ Some (shard_node_block node)) → OnOk r (IfSome mid (λ t. AddsSlots (held_at t) left slice before now)) → OnOk r (IfSome told (λ t. AddsShard (held_at t) left cid before now))
adds-shard (Err fault) told mid left cid node slice before now same is valid held adds = tt
adds-shard (Ok x) told mid left cid node slice before now same is valid held adds =
    by told held (subst (λ (told : Told). IfSome told (λ t. AddsSlots (held_at t) left node.items before now)) same (subst (λ (l : List InSlot). IfSome mid (λ t. AddsSlots (held_at t) left l before now)) is adds))
  where
    by : (told : Told) → IfSome told (λ t. held_at t cid ≡ Some (shard_node_block node)) → IfSome told (λ t. AddsSlots (held_at t) left node.items before now) → IfSome told (λ t. AddsShard (held_at t) left cid before now)
    by None h k = tt
    by (Some t) h k = record { rows = k.rows; are = rows_of (held_at t) left cid node k.rows valid h k.are; added = k.added }

-- the names of one slot more
listed_more : (Below : Cid → List Named → Type 0) (items : List InSlot) (p : InSlot) (rows more : List Named) → AreListed Below items rows → IsListed Below p.1 more → AreListed Below (items ++ p ∷ []) (rows ++ more)
listed_more Below [] p rows more h k = by p.1 k
  where
    by : (x : Item) → IsListed Below x more → AreListed Below ((p.0, x) ∷ []) (rows ++ more)
    by (Leaf name e) k = ([], ap (λ (l : List Named). l ++ more) h ∙ k, refl)
    by (Sub e) k = (more, [], ap (λ (l : List Named). l ++ more) h ∙ sym (append-nil more), k, refl)
listed_more Below ((s, Leaf name e) ∷ items) p rows more h k = (h.0 ++ more, ap (λ (l : List Named). l ++ more) h.1, listed_more Below items p h.0 more h.2 k)
listed_more Below ((s, Sub e) ∷ items) p rows more h k = (h.0, h.1 ++ more, ap (λ (l : List Named). l ++ more) h.2 ∙ append_assoc h.0 h.1 more, h.3, listed_more Below items p h.1 more h.4 k)

pub adds-more : (told mid : Told) (left : ℕ) (items : List InSlot) (i : ℕ) (p : InSlot) (before so_far now : List Named) → i < length items → p ≡ get_or items i p → mid ≡ told
    → IfSome told (λ t. AddsSlots (held_at t) left (take i items) before so_far) → IfSome mid (λ t. AddsSlot (held_at t) left p.1 so_far now) → IfSome told (λ t. AddsSlots (held_at t) left (take (i + 1) items) before now)
adds-more told mid left items i p before so_far now low is same adds one = by told adds (subst (λ (told : Told). IfSome told (λ t. AddsSlot (held_at t) left p.1 so_far now)) same one)
  where
    by : (told : Told) → IfSome told (λ t. AddsSlots (held_at t) left (take i items) before so_far) → IfSome told (λ t. AddsSlot (held_at t) left p.1 so_far now) → IfSome told (λ t. AddsSlots (held_at t) left (take (i + 1) items) before now)
    by None h k = tt
    by (Some t) h k = record {
      rows = h.rows ++ k.rows;
      are = subst (λ (l : List InSlot). AreListed (AreRowsBelow (held_at t) left) l (h.rows ++ k.rows)) (sym (take_more items i p low ∙ ap (λ (q : InSlot). take i items ++ q ∷ []) (sym is))) (listed_more (AreRowsBelow (held_at t) left) (take i items) p h.rows k.rows h.are k.are);
      added = k.added ∙ ap (λ (l : List Named). l ++ k.rows) h.added ∙ append_assoc before h.rows k.rows;
    }

-- ---- found by name

found_append : (q : List ℕ) (xs ys : List Named) → find names_cmp q (xs ++ ys) ≡ option_or (find names_cmp q xs) (find names_cmp q ys)
found_append q [] ys = refl
found_append q (x ∷ xs) ys = ap (λ (o : Option Entry). cond (eq_by_cmp names_cmp q x.0) (Some x.1) o) (found_append q xs ys) ∙ by (eq_by_cmp names_cmp q x.0)
  where
    by : (b : Bool) → cond b (Some x.1) (option_or (find names_cmp q xs) (find names_cmp q ys)) ≡ option_or (cond b (Some x.1) (find names_cmp q xs)) (find names_cmp q ys)
    by true = refl
    by false = refl

-- putting names in order keeps what is found
pub found-in_order : (q : List ℕ) (l : List Named) → find names_cmp q (in_order l) ≡ find names_cmp q l
found-in_order q [] = refl
found-in_order q (e ∷ l) = find-put names_cmp names_total q e.0 e.1 (in_order l) ∙ ap (λ (o : Option Entry). cond (eq_by_cmp names_cmp q e.0) (Some e.1) o) (found-in_order q l)

pub sorted-in_order : (l : List Named) → T (is_sorted names_cmp (in_order l))
sorted-in_order [] = tt
sorted-in_order (e ∷ l) = is_sorted-put names_cmp names_total e.0 e.1 (in_order l) (sorted-in_order l)

-- lists in which the same is found have one order
pub one_order : (l m : List Named) → T (is_sorted names_cmp m) → ((q : List ℕ) → find names_cmp q l ≡ find names_cmp q m) → in_order l ≡ m
one_order l m sorted same = same_entries names_cmp names_total names_exact (in_order l) m (sorted-in_order l) sorted (λ q. found-in_order q l ∙ same q)

-- the pairs of all slots in order
abbrev pub all_pairs : (ℕ → List Named) → List InSlot → List Named
all_pairs over items = flat_map (λ (p : InSlot). over p.0) items

pairs_slot : (d : List Named → Plan) (over : ℕ → List Named) (s : ℕ) (items : List InSlot) (m : List Named) → over s ≡ m → all_pairs over (cons_option (option_map (λ x. (s, x)) (slot_item d m)) items) ≡ over s ++ all_pairs over items
pairs_slot d over s items [] is = ap (λ (l : List Named). l ++ all_pairs over items) (sym is)
pairs_slot d over s items (e ∷ []) is = refl
pairs_slot d over s items (e ∷ f ∷ m) is = refl

pub pairs-tabulated : (d : List Named → Plan) (over : ℕ → List Named) (n a : ℕ) → all_pairs over (tabulate n a (λ s. slot_item d (over s))) ≡ flat_tabulate n a over
unfolding tabulate flat_tabulate
pairs-tabulated d over zero a = refl
pairs-tabulated d over (suc n) a = pairs_slot d over a (tabulate n (suc a) (λ s. slot_item d (over s))) (over a) refl ∙ ap (λ (l : List Named). over a ++ l) (pairs-tabulated d over n (suc a))

module _ (q : List ℕ) (over : ℕ → List Named) (mine : ℕ) (other : (s : ℕ) → s ≢ mine → find names_cmp q (over s) ≡ None) where
  found_nowhere : (n a : ℕ) → (mine < a) ⊎ (a + n ≤ mine) → find names_cmp q (flat_tabulate n a over) ≡ None
  unfolding flat_tabulate
  found_nowhere zero a out = refl
  found_nowhere (suc n) a out = found_append q (over a) (flat_tabulate n (suc a) over) ∙ ap (λ (o : Option Entry). option_or o (find names_cmp q (flat_tabulate n (suc a) over))) (other a (apart out)) ∙ found_nowhere n (suc a) (later out)
    where
      apart : (mine < a) ⊎ (a + suc n ≤ mine) → a ≢ mine
      apart (inl low) = omega arith
      apart (inr high) = omega arith

      later : (mine < a) ⊎ (a + suc n ≤ mine) → (mine < suc a) ⊎ (suc a + n ≤ mine)
      later (inl low) = inl (omega arith)
      later (inr high) = inr (omega arith)

  found_there : (n a : ℕ) → a ≤ mine → mine < a + n → find names_cmp q (flat_tabulate n a over) ≡ find names_cmp q (over mine)
  unfolding flat_tabulate
  found_there zero a low high = absurd (omega arith)
  found_there (suc n) a low high = found_append q (over a) (flat_tabulate n (suc a) over) ∙ by (cases_eq a mine) (λ low. found_there n (suc a) low (omega arith))
    where
      or_none : (o : Option Entry) → option_or o None ≡ o
      or_none None = refl
      or_none (Some x) = refl

      by : (a ≡ mine) ⊎ (a ≢ mine) → (suc a ≤ mine → find names_cmp q (flat_tabulate n (suc a) over) ≡ find names_cmp q (over mine))
          → option_or (find names_cmp q (over a)) (find names_cmp q (flat_tabulate n (suc a) over)) ≡ find names_cmp q (over mine)
      by (inl at) later = ap (λ (o : Option Entry). option_or (find names_cmp q (over a)) o) (found_nowhere n (suc a) (inl (omega arith))) ∙ or_none (find names_cmp q (over a)) ∙ ap (λ (s : ℕ). find names_cmp q (over s)) at
      by (inr off) later = ap (λ (o : Option Entry). option_or o (find names_cmp q (flat_tabulate n (suc a) over))) (other a off) ∙ later (omega arith)

module _ (X : List ℕ → List ℕ) (N : List ℕ → ℕ) where
  elsewhere : (k : ℕ) (q : List ℕ) (l : List Named) (s : ℕ) → s ≢ slot (N q) k → find names_cmp q (bucket N k s l) ≡ None
  elsewhere k q l s off = find-where_key names_cmp (λ n. slot (N n) k == s) q (λ x e. ap (λ n. slot (N n) k == s) (sym (names_exact q x e))) l
      ∙ ap (λ b. cond b (find names_cmp q l) None) (test (slot (N q) k) s (λ e. off (sym e)))
    where
      test : (a b : ℕ) → a ≢ b → (a == b) ≡ false
      test a b h = grind (arith, nat_tests)

  here : (k : ℕ) (q : List ℕ) (l : List Named) → find names_cmp q (bucket N k (slot (N q) k) l) ≡ find names_cmp q l
  here k q l = find-where_key names_cmp (λ n. slot (N n) k == slot (N q) k) q (λ x e. ap (λ n. slot (N n) k == slot (N q) k) (sym (names_exact q x e))) l
      ∙ ap (λ b. cond b (find names_cmp q l) None) (eqb_same (slot (N q) k))

  -- a name is found among the pairs of all slots as among all pairs
  found_slots : (left : ℕ) (q : List ℕ) (l : List Named) → find names_cmp q (all_pairs (pairs_of X N left l) (items_of X N left l)) ≡ find names_cmp q l
  found_slots left q l =
      ap (find names_cmp q) (pairs-tabulated (deeper_of X N left) (pairs_of X N left l) 256 0)
      ∙ found_there q (pairs_of X N left l) (slot (N q) (level_of left)) (elsewhere (level_of left) q l) 256 0 (omega arith) (let b : slot (N q) (level_of left) < 256 = slot-bound (N q) (level_of left) in omega arith)
      ∙ here (level_of left) q l

  -- and among the rows of slots as among their pairs
  found_listed : (held : Lookup) (left : ℕ) (over : ℕ → List Named) (q : List ℕ)
      → ((e : Entry) (front m : List Named) → AreRowsBelow held left e.cid front → IsOver X N left (Sub e) m → blocks.Agrees held (blocks_over X N left (Sub e) m) → find names_cmp q front ≡ find names_cmp q m)
      → (items : List InSlot) (rows : List Named) → AreListed (AreRowsBelow held left) items rows → AreOver X N left over items → blocks.Agrees held (all_blocks X N left over items)
      → find names_cmp q rows ≡ find names_cmp q (all_pairs over items)
  found_listed held left over q deeper [] rows listed is agrees = ap (find names_cmp q) listed
  found_listed held left over q deeper ((s, Leaf name e) ∷ items) rows listed is agrees =
      ap (find names_cmp q) listed.1 ∙ found_append q ((name, e) ∷ []) listed.0
      ∙ (λ i. option_or (find names_cmp q (sym is.0 i)) (found_listed held left over q deeper items listed.0 listed.2 is.1 agrees i))
      ∙ sym (found_append q (over s) (all_pairs over items))
  found_listed held left over q deeper ((s, Sub e) ∷ items) rows listed is agrees =
      ap (find names_cmp q) listed.2 ∙ found_append q listed.0 listed.1
      ∙ (λ i. option_or (deeper e listed.0 (over s) listed.3 is.0 (agrees_front held (blocks_over X N left (Sub e) (over s)) (all_blocks X N left over items) agrees) i)
      (found_listed held left over q deeper items listed.1 listed.4 is.1 (agrees_back held (blocks_over X N left (Sub e) (over s)) (all_blocks X N left over items) agrees) i))
      ∙ sym (found_append q (over s) (all_pairs over items))

  module _ (good : IsHash X) (t : Contents) (q : List ℕ) where
    found_items : (left : ℕ) (root : Cid) (m : Meta) (l : List Named) (is : IsRoot X N left root m l) (agrees : Agrees (Some t) (shard X N left m l).blocks)
        → ((e : Entry) (front m : List Named) → AreRowsBelow (held_at t) left e.cid front → IsOver X N left (Sub e) m → blocks.Agrees (held_at t) (blocks_over X N left (Sub e) m) → find names_cmp q front ≡ find names_cmp q m)
        → (node : ShardNode) (rows : List Named) → IsShardNode node → held_at t root ≡ Some (shard_node_block node) → AreListed (AreRowsBelow (held_at t) left) node.items rows → find names_cmp q rows ≡ find names_cmp q l
    found_items left root m l is agrees deeper node rows valid held listed =
        let same = held_items X N good left root m l is t node valid agrees held in
        found_listed (held_at t) left (pairs_of X N left l) q deeper (items_of X N left l) rows (subst (λ (i : List InSlot). AreListed (AreRowsBelow (held_at t) left) i rows) same listed)
        (over_items X N good left root m l is (items_of X N left l) refl) (Agrees_below X N good left root m l is (Some t) agrees)
        ∙ found_slots left q l

    -- a name is found among the rows of a planned shard as among its pairs
    pub found_rows : (left : ℕ) (root : Cid) (m : Meta) (l rows : List Named) → IsRoot X N left root m l → Agrees (Some t) (shard X N left m l).blocks → AreRows (held_at t) left root rows → find names_cmp q rows ≡ find names_cmp q l
    found_rows zero root m l rows is agrees are = found_items zero root m l is agrees (λ e front k absent over held. absurd absent) (record { items = are.items; meta = are.meta }) rows (record { items = are.valid; meta = are.good }) are.is_held are.listed
    found_rows (suc left) root m l rows is agrees are = found_items (suc left) root m l is agrees (λ e front k below over held. found_rows left e.cid none k front over held below) (record { items = are.items; meta = are.meta }) rows (record { items = are.valid; meta = are.good }) are.is_held are.listed

  -- the rows of a plan in order are its pairs
  pub listed-planned : IsHash X → (told : Told) (root : Cid) (m : Meta) (l before rows pairs : List Named) → IsRoot X N 7 root m l → Agrees told (shard X N 7 m l).blocks → before ≡ [] → IfSome told (λ t. AddsShard (held_at t) 7 root before rows)
      → pairs ≡ in_order rows → pairs ≡ l
  listed-planned good None root m l before rows pairs is agrees empty adds ordered = absurd agrees
  listed-planned good (Some t) root m l before rows pairs is agrees empty adds ordered =
      ordered ∙ ap in_order (adds.added ∙ ap (λ (b : List Named). b ++ adds.rows) empty) ∙ one_order adds.rows l (subst T (sym is.valid.sorted) tt) (λ q. found_rows good t q 7 root m l adds.rows is agrees adds.are)
