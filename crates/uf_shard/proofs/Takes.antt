-- A name taken out, level by level.
use Rattle.std.proofs.Common.{◌≡◌, ◌≢◌, ℕ, suc, ◌-◌, ◌<◌, ◌≤◌, List, [], ◌∷◌, length, get_or, map, refl, ap, arith, sym, ◌∙◌, subst, Bool, true, false, cond, Option, None, Some}
use Rattle.std.specs.Prelude.{◌==◌, not, IfOk, IfSome, IsTrue}
use Rattle.std.specs.declared.result.Result.{Result}
use Rattle.std.specs.declared.result.Result.TheVariants.{Ok, Err}
use Rattle.std.specs.FinMap.Entries.{find, find-where_key, is_sorted, is_sorted-where_key, where_key}
use Rattle.std.specs.Ordering.{eq_by_cmp, nat_cmp}
use Rattle.uf_cid.specs.Blocks.{Held}
use Rattle.uf_cid.specs.declared.bytes.Memory.{Memory}
use Rattle.uf_murmur.specs.Slots.{slot}
use Rattle.uf_store.specs.Contents.{Told}
use Rattle.uf_store.specs.Keeping.{Agrees, Holds, KeepsGood}
use Rattle.uf_store.specs.declared.store.StoreFault.{StoreFault}
use Rattle.uf_tree.specs.declared.meta.Meta.{Meta}
use Rattle.uf_tree.specs.declared.nodes.Entry.{Entry}
use Rattle.uf_tree.specs.declared.nodes.Item.{Item}
use Rattle.uf_tree.specs.declared.nodes.Item.TheVariants.{Leaf, Sub}
use Rattle.uf_tree.specs.Changes.{set_at, without}
use Rattle.uf_tree.specs.Metas.{none}
use Rattle.uf_tree.specs.Names.{names_cmp}
use Rattle.uf_tree.specs.Nodes.{InSlot, Named, item_entry, node_entry, shard_block}
use Rattle.uf_tree.specs.ShardPlan.{bucket, shard}
use Rattle.uf_tree.specs.Validity.{IsInSlot, IsItem, IsShard}
use Rattle.uf_tree.proofs.Each.{each_filter}
use Rattle.uf_tree.proofs.ShardLaws.{bucket-remove, eqb_other, items-remove, names_exact}
use Rattle.uf_tree.proofs.Twins.{same_key}
use Rattle.uf_shard.specs.Buckets.{deeper}
use Rattle.uf_shard.specs.Reached.{IsReached}
use Rattle.uf_shard.specs.declared.removed.Removed.{Removed}
use Rattle.uf_shard.specs.declared.removed.Removed.TheVariants.{Absent, Empty, Left}
use Rattle.uf_shard.specs.declared.rest.Rest.{Rest}
use Rattle.uf_shard.specs.declared.rest.Rest.TheVariants.{Same, Of}
use Rattle.uf_shard.specs.Changed.{AreItems, GivesItem, GivesItems, IsSlot, MayLose, below, blocks_of, item_of, level, slots_of}
use Rattle.uf_shard.specs.Taken.{AreInSlots, IsLeftOf, HasName, LeafWithout, LeavesBelow, SavesNothing, TakesSlot, TakesSlots, UnsavedBelow, UnsavedItems, UnsavedRest, collapsed}
use Rattle.uf_shard.specs.Known.{AreKnown}
use Rattle.uf_shard.proofs.Alone.{no-items, one-item}
use Rattle.uf_shard.proofs.Knowing.{AreIn, known-in}
use Rattle.uf_shard.proofs.Placing.{level-is, may-more, slot-in, slot-read}
use Rattle.uf_shard.proofs.Puts.{Deeper, T-of, deeper-agrees, deeper-reached, items-none, known-done, of-T, one-slots, saved-below, saving-lost, some_put, valid-put}
use Rattle.uf_shard.proofs.Slotted.{free-none, leaf-one}

-- a name that is in a part of a list is in the list
find-part : (test : List ℕ → Bool) (name : List ℕ) (l : List Named) → find names_cmp name (where_key names_cmp test l) ≡ cond (test name) (find names_cmp name l) None
find-part test name l = find-where_key names_cmp test name (λ x e. ap test (sym (names_exact name x e))) l

module _ (X : List ℕ → List ℕ) (N : List ℕ → ℕ) where
  -- a free slot has no name
  pub none-there : (left : ℕ) (name : List ℕ) (l : List Named) → None ≡ item_of X N left l → find names_cmp name l ≡ None
  none-there left name l free = ap (find names_cmp name) (free-none (deeper X N left) l free)

  -- the entry of a name
  pub leaf-takes : (before now : Told) (hash left : ℕ) (name other : List ℕ) (old : Entry) (l : List Named) (rest : Rest) (same : Bool) → eq_by_cmp names_cmp name other ≡ same
      → IsSlot X N hash left before (Some (Leaf other old)) l → LeafWithout same rest → TakesSlot X N before now (blocks_of X N left l) left name l (Ok rest)
  leaf-takes before now hash left name other old l rest true same slotted is =
      subst (λ (r : Rest). TakesSlot X N before now (blocks_of X N left l) left name l (Ok r)) (sym is)
      (subst (λ (m : List Named). HasName name m × GivesItem X N now (blocks_of X N left m) left None (without name m)) (sym (leaf-one (deeper X N left) other old l slotted.same)) (
        (old, ap (λ (b : Bool). cond b (Some old) None) same),
        subst (λ (m : List Named). GivesItem X N now [] left None m) (sym (ap (λ (b : Bool). cond (not b) ((other, old) ∷ []) []) same)) (record { same = refl; known = tt }),
      ))
  leaf-takes before now hash left name other old l rest false same slotted is =
      subst (λ (r : Rest). TakesSlot X N before now (blocks_of X N left l) left name l (Ok r)) (sym is)
      (ap (find names_cmp name) (leaf-one (deeper X N left) other old l slotted.same) ∙ ap (λ (b : Bool). cond b (Some old) None) same)

  -- ---- what is left of a shard below

  pub two_left : (left : ℕ) (l : List Named) (items : List InSlot) → items ≡ slots_of X N left l → collapsed items ≡ Same → 2 ≤ length l
  two_left left [] items is same = absurd (let no : Of None ≡ Same = sym (ap collapsed (is ∙ items-none X N 256 0)) ∙ same in cc)
  two_left left (e ∷ []) items is same = absurd (let no : Of (Some (Leaf e.0 e.1)) ≡ Same = sym (ap collapsed (is ∙ one-slots X N left e.0 e.1)) ∙ same in cc)
  two_left left (e ∷ f ∷ l) items is same = omega arith

  -- where no shard has to stand
  pub small-below : (before now : Told) (items : List InSlot) (o : Option Item) → Of o ≡ collapsed items → (old : List Held) (left : ℕ) (l : List Named) → IsTrue (is_sorted names_cmp l) → GivesItems X N before old left items l
      → GivesItem X N now old (suc left) o l
  small-below before now [] o is old left l sorted gives =
      let none : o ≡ None = (let same : Of o ≡ Of None = is in cc) in
      let nothing : l ≡ [] = no-items N (deeper X N left) (level left) l (T-of _ sorted) gives.same in
      subst (λ (m : List Named). GivesItem X N now old (suc left) o m) (sym nothing) (record { same = none; known = tt })
  small-below before now ((s, Leaf name e) ∷ []) o is old left l sorted gives =
      let lone : o ≡ Some (Leaf name e) = (let same : Of o ≡ Of (Some (Leaf name e)) = is in cc) in
      let one : l ≡ (name, e) ∷ [] = one-item N (deeper X N left) (level left) l (T-of _ sorted) s name e gives.same in
      subst (λ (m : List Named). GivesItem X N now old (suc left) o m) (sym one) (record { same = lone; known = tt })
  small-below before now ((s, Sub e) ∷ []) o is old left l sorted gives = absurd (let no : Of o ≡ Same = is in cc)
  small-below before now (a ∷ b ∷ items) o is old left l sorted gives = absurd (let no : Of o ≡ Same = is in cc)

  -- where the shard was saved
  pub big-below : (before now : Told) (items : List InSlot) (e : Entry) → Same ≡ collapsed items → e ≡ node_entry X (shard_block none items) (map (λ (p : InSlot). item_entry p.1) items) → Holds now ((e.cid, shard_block none items) ∷ []) → KeepsGood X before now
      → (old : List Held) (left : ℕ) (l : List Named) → IsTrue (is_sorted names_cmp l) → GivesItems X N before old left items l → GivesItem X N now old (suc left) (Some (Sub e)) l
  big-below before now items e stands is held keeps old left l sorted gives = saved-below X N before now items e is held keeps old left l (two_left left l items gives.same (sym stands)) gives

  -- ---- a shard below

  sorted_without : (name : List ℕ) (l : List Named) → IsTrue (is_sorted names_cmp l) → IsTrue (is_sorted names_cmp (without name l))
  sorted_without name l h = of-T _ (is_sorted-where_key names_cmp (λ other. not (eq_by_cmp names_cmp name other)) l (T-of _ h))

  module _ (hash left : ℕ) (before : Told) (be : Entry) (l : List Named) (low : left ≤ 7) (some : 1 ≤ left) (slotted : IsSlot X N hash left before (Some (Sub be)) l) where
    deep : Deeper X N hash left before be l low some slotted
    deep = deeper-reached X N hash left before be l low some slotted

    pub sub-takes-err : (mid now : Told) (name : List ℕ) (fault : StoreFault)
        → ((m : List Named) → IsReached X N hash (left - 1) be.cid none m → Agrees before (shard X N (left - 1) none m).blocks → TakesSlots X N before mid (shard X N (left - 1) none m).blocks (left - 1) name m (Err fault))
        → TakesSlot X N before now (blocks_of X N left l) left name l (Err fault)
    sub-takes-err mid now name fault inner = subst (λ (olds : List Held). MayLose before olds fault) (sym deep.blocks) (inner l deep.reached (deeper-agrees X N hash left before be l low some slotted))

    pub sub-takes-none : (mid now : Told) (name : List ℕ)
        → ((m : List Named) → IsReached X N hash (left - 1) be.cid none m → Agrees before (shard X N (left - 1) none m).blocks → TakesSlots X N before mid (shard X N (left - 1) none m).blocks (left - 1) name m (Ok None))
        → TakesSlot X N before now (blocks_of X N left l) left name l (Ok Same)
    sub-takes-none mid now name inner = inner l deep.reached (deeper-agrees X N hash left before be l low some slotted)

    pub sub-takes-some : (mid now : Told) (name : List ℕ) (items : List InSlot) (r : Result Rest StoreFault)
        → ((m : List Named) → IsReached X N hash (left - 1) be.cid none m → Agrees before (shard X N (left - 1) none m).blocks → TakesSlots X N before mid (shard X N (left - 1) none m).blocks (left - 1) name m (Ok (Some items)))
        → LeavesBelow X N mid now items r → TakesSlot X N before now (blocks_of X N left l) left name l r
    sub-takes-some mid now name items (Ok Same) inner leaves = absurd leaves
    sub-takes-some mid now name items (Ok (Of item)) inner leaves =
        let given = inner l deep.reached (deeper-agrees X N hash left before be l low some slotted) in
        let after = leaves (shard X N (left - 1) none l).blocks (left - 1) (without name l) (sorted_without name l slotted.valid.sorted) given.1 in
        let level : suc (left - 1) ≡ left = omega arith in (
          given.0,
          subst (λ (n : ℕ). GivesItem X N now (blocks_of X N left l) n item (without name l)) level
              (subst (λ (olds : List Held). GivesItem X N now olds (suc (left - 1)) item (without name l)) (sym deep.blocks) after),
        )
    sub-takes-some mid now name items (Err fault) inner leaves = saving-lost before (blocks_of X N left l) fault leaves

  -- ---- one slot of a shard

  module _ (hash left : ℕ) (low : left ≤ 7) (before : Told) (items : List InSlot) (name : List ℕ) (s : ℕ) (found : Option Item) (is_hash : hash ≡ N name) (at : s ≡ slot hash (7 - left)) (seen : found ≡ find nat_cmp s items)
      (l : List Named) (is : AreItems X N hash left before items l) where
    pub slotted_here : IsSlot X N hash left before found (bucket N (level left) (slot hash (level left)) l)
    slotted_here = slot-read X N hash left low before items l is s at found seen

    found_whole : find names_cmp name (bucket N (level left) (slot hash (level left)) l) ≡ find names_cmp name l
    found_whole = find-part (λ other. slot (N other) (level left) == slot hash (level left)) name l
        ∙ ap (λ (b : Bool). cond b (find names_cmp name l) None) (same_key (slot (N name) (level left)) (slot hash (level left)) (ap (λ (x : ℕ). slot x (level left)) (sym is_hash)))

    pub into-takes-err : (mid now : Told) (fault : StoreFault)
        → ((m : List Named) → IsSlot X N hash left before found m → TakesSlot X N before mid (blocks_of X N left m) left name m (Err fault)) → TakesSlots X N before now (below X N left l) left name l (Err fault)
    into-takes-err mid now fault inner = may-more before _ (below X N left l) fault (slot-in X N left hash l) (inner _ slotted_here)

    pub into-takes-none : (mid now : Told)
        → ((m : List Named) → IsSlot X N hash left before found m → TakesSlot X N before mid (blocks_of X N left m) left name m (Ok Same)) → TakesSlots X N before now (below X N left l) left name l (Ok None)
    into-takes-none mid now inner = sym found_whole ∙ inner _ slotted_here

    bucket_off : (q : ℕ) → q ≢ slot hash (level left) → bucket N (level left) q (without name l) ≡ bucket N (level left) q l
    bucket_off q off = bucket-remove N (level left) q name l (T-of (is_sorted names_cmp l) is.valid.sorted)
        ∙ ap (λ (b : Bool). cond b (without name (bucket N (level left) q l)) (bucket N (level left) q l)) (eqb_other (slot (N name) (level left)) q (λ same. off (same ∙ ap (λ (x : ℕ). slot x (level left)) (sym is_hash))))

    pub bucket_at : bucket N (level left) (slot hash (level left)) (without name l) ≡ without name (bucket N (level left) (slot hash (level left)) l)
    bucket_at = bucket-remove N (level left) (slot hash (level left)) name l (T-of (is_sorted names_cmp l) is.valid.sorted)
        ∙ ap (λ (b : Bool). cond b (without name (bucket N (level left) (slot hash (level left)) l)) (bucket N (level left) (slot hash (level left)) l))
        (same_key (slot (N name) (level left)) (slot hash (level left)) (ap (λ (x : ℕ). slot x (level left)) (sym is_hash)))

    pub into-takes-some : (now : Told) (item : Option Item) (changed : List InSlot) → changed ≡ set_at s item items
        → ((m : List Named) → IsSlot X N hash left before found m → TakesSlot X N before now (blocks_of X N left m) left name m (Ok (Of item))) → TakesSlots X N before now (below X N left l) left name l (Ok (Some changed))
    into-takes-some now item changed set inner =
        let given = inner _ slotted_here in (
          (given.0.0, sym found_whole ∙ given.0.1),
          record {
            same = set ∙ ap (λ (k : ℕ). set_at k item items) (at ∙ ap (slot hash) (sym (level-is left low))) ∙ ap (set_at (slot hash (level left)) item) is.same
                ∙ ap (λ (o : Option Item). set_at (slot hash (level left)) o (slots_of X N left l)) given.1.same
                ∙ ap (λ (x : ℕ). set_at (slot x (level left)) (item_of X N left (without name (bucket N (level left) (slot x (level left)) l))) (slots_of X N left l)) is_hash
                ∙ sym (items-remove N (deeper X N left) (level left) name l (T-of (is_sorted names_cmp l) is.valid.sorted));
            known = known-done X N hash left low before items name s found is_hash at seen l is now (without name l) bucket_off
                (subst (λ (m : List Named). AreKnown now (blocks_of X N left (bucket N (level left) (slot hash (level left)) l)) (blocks_of X N left m)) (sym bucket_at) given.1.known);
          },
        )

  -- a removal over more old blocks, from a moment that told the same
  pub takes-more : (before mid now : Told) (k old : List Held) (left : ℕ) (name : List ℕ) (l : List Named) (r : Result (Option (List InSlot)) StoreFault) → mid ≡ before → AreIn k old
      → TakesSlots X N mid now k left name l r → TakesSlots X N before now old left name l r
  takes-more before mid now k old left name l (Ok None) same more h = h
  takes-more before mid now k old left name l (Ok (Some items)) same more h = (h.0, record { same = h.1.same; known = known-in now k old _ more h.1.known })
  takes-more before mid now k old left name l (Err fault) same more h = may-more before k old fault more (subst (λ (t : Told). MayLose t k fault) same h)

  -- ---- slots that are valid

  -- the slots of a shard after one of them is set
  pub valid-set : (s : ℕ) (item : Option Item) (items changed : List InSlot) → s < 256 → IfSome item IsItem → IsShard items → changed ≡ set_at s item items → AreInSlots changed
  valid-set s None items changed low valid shard is = subst AreInSlots (sym is) (record {
    sorted = of-T _ (is_sorted-where_key nat_cmp (λ k. not (k == s)) items (T-of _ shard.sorted));
    each = each_filter IsInSlot (λ (p : InSlot). not (p.0 == s)) items shard.each;
  })
  valid-set s (Some item) items changed low valid shard is =
      let whole = valid-put X N s item items changed low valid shard is in
      record { sorted = whole.sorted; each = whole.each }

-- ---- a list of one slot

pub one_slot : (items : List InSlot) (p : InSlot) → 1 ≤ length items → length items < 2 → p ≡ get_or items 0 p → items ≡ p ∷ []
one_slot [] p some few is = absurd (omega arith)
one_slot (a ∷ []) p some few is = ap (λ (x : InSlot). x ∷ []) (sym is)
one_slot (a ∷ b ∷ items) p some few is = absurd (omega arith)

pub collapsed-lone : (items : List InSlot) (p : InSlot) (s : ℕ) (item : Item) (r : Result Rest Memory) → 1 ≤ length items → length items < 2 → p ≡ get_or items 0 p → p ≡ (s, item) → IfOk r (λ rest. (s : ℕ) → rest ≡ collapsed ((s, item) ∷ []))
    → IfOk r (λ rest. rest ≡ collapsed items)
collapsed-lone items p s item (Ok rest) some few is at h = h s ∙ ap collapsed (ap (λ (x : InSlot). x ∷ []) (sym at) ∙ sym (one_slot items p some few is))
collapsed-lone items p s item (Err fault) some few is at h = tt

-- ---- where nothing was saved

pub unsaved-same : (rest : Rest) (before now : Told) → now ≡ before → UnsavedRest rest before now
unsaved-same Same before now h = h
unsaved-same (Of None) before now h = h
unsaved-same (Of (Some item)) before now h = tt

pub unsaved-items : (rest : Option (List InSlot)) (before now : Told) → now ≡ before → UnsavedItems rest before now
unsaved-items None before now h = h
unsaved-items (Some []) before now h = h
unsaved-items (Some (p ∷ items)) before now h = tt

-- where no shard has to stand, nothing is left of no slots alone
pub unsaved-small : (items : List InSlot) (o : Option Item) (a : Told) → Of o ≡ collapsed items → UnsavedBelow items (Of o) a a
unsaved-small items (Some item) a is = tt
unsaved-small [] None a is = (refl, refl)
unsaved-small ((s, Leaf name e) ∷ []) None a is = absurd (let no : Of None ≡ Of (Some (Leaf name e)) = is in cc)
unsaved-small ((s, Sub e) ∷ []) None a is = absurd (let no : Of None ≡ Same = is in cc)
unsaved-small (x ∷ y ∷ items) None a is = absurd (let no : Of None ≡ Same = is in cc)

-- a slot over a shard that is left
pub unsaved-below : (X : List ℕ → List ℕ) (N : List ℕ → ℕ) (before mid now : Told) (items : List InSlot) (r : Result Rest StoreFault) → UnsavedItems (Some items) before mid → LeavesBelow X N mid now items r
    → IfOk r (λ rest. UnsavedBelow items rest mid now) → IfOk r (λ rest. UnsavedRest rest before now)
unsaved-below X N before mid now items (Ok Same) h leaves below = absurd leaves
unsaved-below X N before mid now items (Ok (Of None)) h leaves below =
    let none : mid ≡ before = subst (λ (i : List InSlot). UnsavedItems (Some i) before mid) below.0 h in
    below.1 ∙ none
unsaved-below X N before mid now items (Ok (Of (Some item))) h leaves below = tt
unsaved-below X N before mid now items (Err fault) h leaves below = tt

-- the slots after one of them is set
pub unsaved-set : (X : List ℕ → List ℕ) (N : List ℕ → ℕ) (s : ℕ) (item : Option Item) (items changed : List InSlot) (before now : Told) → changed ≡ set_at s item items → UnsavedRest (Of item) before now → UnsavedItems (Some changed) before now
unsaved-set X N s None items changed before now is h = unsaved-items (Some changed) before now h
unsaved-set X N s (Some item) items [] before now is h =
    let some : 1 ≤ length (set_at s (Some item) items) = some_put X N s item items in
    let none : 0 ≡ length (set_at s (Some item) items) = ap length is in
    absurd (omega (arith, some, none))
unsaved-set X N s (Some item) items (p ∷ changed) before now is h = tt

-- what is left at the root
pub unsaved-left : (before mid now : Told) (X : List ℕ → List ℕ) (m : Meta) (items : List InSlot) (r : Result Removed StoreFault) → UnsavedItems (Some items) before mid → IfOk r (IsLeftOf X mid now m items) → IfOk r (λ left. SavesNothing left mid now)
    → IfOk r (λ left. SavesNothing left before now)
unsaved-left before mid now X m items (Ok Absent) h left nothing = absurd left
unsaved-left before mid now X m items (Ok Empty) h left nothing =
    let none : mid ≡ before = subst (λ (i : List InSlot). UnsavedItems (Some i) before mid) left h in
    nothing ∙ none
unsaved-left before mid now X m items (Ok (Left e)) h left nothing = tt
unsaved-left before mid now X m items (Err fault) h left nothing = tt

-- where something is left of a slot, the slot isn't as it was
pub not-same : (X : List ℕ → List ℕ) (N : List ℕ → ℕ) (before now : Told) (items : List InSlot) (r : Result Rest StoreFault) (P : Type 0) → LeavesBelow X N before now items r → IfOk r (λ rest. rest ≡ Same → P)
not-same X N before now items (Ok Same) P leaves = absurd leaves
not-same X N before now items (Ok (Of item)) P leaves = λ e. absurd (let no : Of item ≡ Same = e in cc)
not-same X N before now items (Err fault) P leaves = tt
