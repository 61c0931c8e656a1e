-- Shards on the way of a name.
use Rattle.std.proofs.Common.{◌≡◌, ℕ, zero, suc, ◌+◌, ◌-◌, ◌<◌, ◌≤◌, List, [], ◌∷◌, length, refl, ap, arith, sym, ◌∙◌, subst, Bool, true, false, cond, Option, None, Some, ◌⊎◌, inl, inr, Result, Ok, Err, T}
use Rattle.std.specs.Prelude.{◌==◌, IfSome}
use Rattle.std.specs.FinMap.Entries.{find, is_sorted-where_key, find-where_key}
use Rattle.std.specs.List.{AllByRecursion}
use Rattle.std.specs.Ordering.{nat_cmp, eq_by_cmp}
use Rattle.std.proofs.lemmas.Bool.Decides.{nat_tests}
use Rattle.uf_cid.specs.declared.cid.Cid.{Cid}
use Rattle.uf_cid.specs.Blocks.{Held}
use Rattle.uf_edge.specs.Counts.{Stood}
use Rattle.uf_murmur.specs.Slots.{slot}
use Rattle.uf_store.specs.Contents.{Contents, Told, held_at}
use Rattle.uf_store.specs.Faults.{Answers}
use Rattle.uf_store.specs.Keeping.{Agrees, Holds}
use Rattle.uf_store.specs.Seen.{Seen}
use Rattle.uf_store.specs.declared.store.StoreFault.{StoreFault}
use Rattle.uf_store.specs.declared.store.StoreFault.TheVariants.{Failed, Damaged, Missing, BadBlock, Clash, Memory}
use Rattle.uf_tree.specs.declared.nodes.Entry.{Entry}
use Rattle.uf_tree.specs.declared.nodes.ShardNode.{ShardNode}
use Rattle.uf_tree.specs.FilePlan.{Plan}
use Rattle.uf_tree.specs.declared.meta.Meta.{Meta}
use Rattle.uf_tree.specs.Codecs.{shard_node_block}
use Rattle.uf_tree.specs.Metas.{none}
use Rattle.uf_tree.specs.Names.{names_cmp}
use Rattle.uf_tree.specs.Nodes.{InSlot, Named, shard_block}
use Rattle.uf_tree.specs.Roles.{IsCanonicalShard}
use Rattle.uf_tree.specs.Shardable.{HasShard}
use Rattle.uf_tree.specs.ShardPlan.{bucket, no_shard, shard, shard_at, shard_held, shard_items, shard_trail, slot_item, where_shared, twins, same_slots}
use Rattle.uf_tree.specs.Validity.{IsHash, IsEntry, IsNamed, IsShard}
use Rattle.uf_tree.proofs.Canonical.{shard-canonical}
use Rattle.uf_tree.proofs.Each.{each_filter}
use Rattle.uf_tree.proofs.ShardLaws.{find-tabulate, names_exact, slot-bound, eqb_same}
use Rattle.uf_tree.proofs.Twins.{Apart-HasShard, twins-Apart}
use Rattle.uf_tree.proofs.Valid.{node_entry-valid, shard-valid, shard_items-valid}
use Rattle.uf_store.specs.Lost.{FindsOver}
use Rattle.uf_shard.specs.Placed.{IsBadOnWay, way}
use Rattle.uf_shard.specs.Planned.{IsPlanned}
use Rattle.uf_shard.specs.Reached.{HasPlaced, IsReached, LoadsPlaced}
use Rattle.uf_shard.specs.Spots.{spot_of}
use Rattle.uf_shard.specs.declared.spot.ShardAnswer.{ShardAnswer}
use Rattle.uf_shard.specs.declared.spot.ShardAnswer.TheVariants.{Here, Below}
use Rattle.uf_shard.proofs.Carrying.{none-behind}
use Rattle.uf_shard.proofs.One.{same-items}
use Rattle.uf_shard.proofs.Ways.{way-length, further}

-- the block was found, and is a shard that says this of a name
pub record SaysOf (N : List ℕ → ℕ) (hash level : ℕ) (cid : Cid) (name : List ℕ) (before : Seen) (spot : ShardAnswer) : Type 0 where
  pub node : ShardNode
  pub has : HasPlaced N hash level cid before node
  pub says : spot ≡ spot_of name (find nat_cmp (slot hash level) node.items)

-- the level that has so many below it
abbrev pub level_of : ℕ → ℕ
level_of zero = 7
level_of (suc left) = 6 - left

pub level-is : (left : ℕ) → left ≤ 7 → level_of left ≡ 7 - left
level-is zero h = refl
level-is (suc left) h = omega arith

as_T : (b : Bool) → b ≡ true → T b
as_T b e = subst T (sym e) tt

from_T : (b : Bool) → T b → b ≡ true
from_T true t = refl
from_T false t = absurd t

tested : (a b : ℕ) → (a == b) ≡ true → a ≡ b
tested a b h = grind (arith, nat_tests)

module _ (X : List ℕ → List ℕ) (N : List ℕ → ℕ) where
  -- what stands for the pairs that share a slot
  abbrev pub deeper_of : ℕ → List Named → Plan
  deeper_of zero l = no_shard X N l
  deeper_of (suc left) l = shard X N left none l

  -- the items of a shard
  abbrev pub items_of : ℕ → List Named → List InSlot
  items_of left l = shard_items N (deeper_of left) (level_of left) l

  pub shard-is : (left : ℕ) (m : Meta) (l : List Named) → shard X N left m l ≡ shard_at X N (deeper_of left) (level_of left) m l
  unfolding shard
  shard-is zero m l = refl
  shard-is (suc left) m l = refl

  -- the pairs in a name's slot
  abbrev pub slot_of : ℕ → ℕ → List Named → List Named
  slot_of hash left l = bucket N (level_of left) (slot hash (level_of left)) l

  -- the trail below a shard
  abbrev pub trail_below : ℕ → List Named → List ℕ → List Held
  trail_below zero l name = []
  trail_below (suc left) l name = where_shared (slot_of (N name) (suc left) l) (shard_trail X N left none (slot_of (N name) (suc left) l) name)

  pub trail-is : (left : ℕ) (m : Meta) (l : List Named) (name : List ℕ) → shard_trail X N left m l name ≡ shard_held X N m (items_of left l) ∷ trail_below left l name
  unfolding shard_trail shard
  trail-is zero m l name = refl
  trail-is (suc left) m l name = refl

  module _ (good : IsHash X) where
    deeper-valid : (left : ℕ) (m : List Named) → IsEntry (deeper_of left m).entry
    deeper-valid zero m = node_entry-valid X good [] []
    deeper-valid (suc left) m = shard-valid X good N left none m

    module _ (hash left : ℕ) (root : Cid) (m : Meta) (l : List Named) (low : left ≤ 7) (is : IsReached X N hash left root m l) where
      pub items-valid : IsShard (items_of left l)
      items-valid = shard_items-valid N (deeper_of left) (deeper-valid left) (level_of left) l is.valid.each is.some

      along_each : (m : List Named) → AllByRecursion (λ (e : Named). way (N e.0) (7 - left) ≡ way hash (7 - left)) m
          → AllByRecursion (λ (e : Named). way (N e.0) (length (way hash (7 - left))) ≡ way hash (7 - left)) m
      along_each [] h = tt
      along_each (e ∷ m) h = (ap (way (N e.0)) (way-length hash (7 - left)) ∙ h.0, along_each m h.1)

      canonical : IsCanonicalShard N (way hash (7 - left)) (shard_block m (items_of left l))
      canonical = subst (λ (k : ℕ). IsCanonicalShard N (way hash (7 - left)) (shard_block m (shard_items N (deeper_of left) k l))) (way-length hash (7 - left) ∙ sym (level-is left low))
          (shard-canonical N (deeper_of left) (deeper-valid left) left (way hash (7 - left)) m l (omega (arith, way-length hash (7 - left))) is.good is.carries is.valid.each is.some (along_each l is.along) is.apart)

      -- the block that is held under the CID is the shard's
      pub the_block : (told : Told) (name lent : List ℕ) → Agrees told (shard_trail X N left m l name) → IfSome told (λ t. held_at t root ≡ Some lent) → lent ≡ shard_block m (items_of left l)
      the_block None name lent agrees held = absurd agrees
      the_block (Some t) name lent agrees held = by (held_at t root) held (subst (λ (c : Cid). IfSome (held_at t c) (λ bytes. bytes ≡ shard_block m (items_of left l))) (sym (is.cid ∙ ap (λ (p : Plan). p.entry.cid) (shard-is left m l))) (first (subst (Agrees (Some t)) (trail-is left m l name) agrees)))
        where
          first : Agrees (Some t) (shard_held X N m (items_of left l) ∷ trail_below left l name) → IfSome (held_at t (shard_held X N m (items_of left l)).0) (λ bytes. bytes ≡ shard_block m (items_of left l))
          first a = a.0

          by : (o : Option (List ℕ)) → o ≡ Some lent → IfSome o (λ bytes. bytes ≡ shard_block m (items_of left l)) → lent ≡ shard_block m (items_of left l)
          by None e h = absurd (let no : None ≡ Some lent = e in cc)
          by (Some b) e h = (let same : b ≡ lent = cc in sym same) ∙ h

      -- it isn't bad
      pub not_bad : (told : Told) (name lent : List ℕ) → Agrees told (shard_trail X N left m l name) → IfSome told (λ t. held_at t root ≡ Some lent) → (IsCanonicalShard N (way hash (7 - left)) lent → ⊥) → ⊥
      not_bad told name lent agrees held bad = bad (subst (IsCanonicalShard N (way hash (7 - left))) (sym (the_block told name lent agrees held)) canonical)

      -- what it says is what its slot has
      pub it_says : (name : List ℕ) (before : Seen) (spot : ShardAnswer) → Agrees before.told (shard_trail X N left m l name) → SaysOf N hash (7 - left) root name before spot
          → spot ≡ spot_of name (slot_item (deeper_of left) (slot_of hash left l))
      it_says name before spot agrees says =
          let same : says.node.items ≡ items_of left l = same-items says.node m (items_of left l) (record { items = says.has.is.placed.valid; meta = says.has.is.good }) is.good items-valid (the_block before.told name (shard_node_block says.node) agrees says.has.is_held) in
          says.says
          ∙ ap (λ (k : ℕ). spot_of name (find nat_cmp (slot hash k) says.node.items)) (sym (level-is left low))
          ∙ ap (λ (i : List InSlot). spot_of name (find nat_cmp (slot hash (level_of left)) i)) same
          ∙ ap (spot_of name) (find-tabulate 256 0 (λ s. slot_item (deeper_of left) (bucket N (level_of left) s l)) (slot hash (level_of left)) (omega arith) (let b : slot hash (level_of left) < 256 = slot-bound hash (level_of left) in omega arith))

  -- a name is found in its slot's pairs
  pub find-slot : (k : ℕ) (name : List ℕ) (l : List Named) → find names_cmp name l ≡ find names_cmp name (bucket N k (slot (N name) k) l)
  find-slot k name l = sym (find-where_key names_cmp (λ n. slot (N n) k == slot (N name) k) name (λ x e. ap (λ n. slot (N n) k == slot (N name) k) (sym (names_exact name x e))) l
      ∙ ap (λ b. cond b (find names_cmp name l) None) (eqb_same (slot (N name) k)))

  -- an answer here is the value in the slot, and the trail ends
  pub here_value : (d : List Named → Plan) (name : List ℕ) (b : List Named) (path : List Held) (e : Option Entry) → Here e ≡ spot_of name (slot_item d b) → (e ≡ find names_cmp name b) × (where_shared b path ≡ [])
  here_value d name [] path e h = (cc, refl)
  here_value d name (x ∷ []) path e h = (cc, refl)
  here_value d name (x ∷ y ∷ b) path e h = absurd (no h)
    where
      no : Here e ≡ Below (d (x ∷ y ∷ b)).entry.cid → ⊥
      no h = cc

  -- an answer below is the shard of the slot's pairs
  pub record Goes (d : List Named → Plan) (c : Cid) (b : List Named) (path : List Held) : Type 0 where
    pub cid : c ≡ (d b).entry.cid
    pub shared : where_shared b path ≡ path
    pub some : 1 ≤ length b
    pub many : length b ≤ 1 → ⊥

  pub below_goes : (d : List Named → Plan) (name : List ℕ) (b : List Named) (path : List Held) (c : Cid) → Below c ≡ spot_of name (slot_item d b) → Goes d c b path
  below_goes d name [] path c h = absurd (no h)
    where
      no : Below c ≡ Here None → ⊥
      no h = cc
  below_goes d name (x ∷ []) path c h = absurd (no h)
    where
      no : Below c ≡ Here (cond (eq_by_cmp names_cmp name x.0) (Some x.1) None) → ⊥
      no h = cc
  below_goes d name (x ∷ y ∷ b) path c h = record { cid = cc; shared = refl; some = one (length (y ∷ b)); many = two (length b) }
    where
      one : (n : ℕ) → 1 ≤ suc n
      one n = omega arith

      two : (n : ℕ) → suc (suc n) ≤ 1 → ⊥
      two n h = omega arith

  module _ (good : IsHash X) (name : List ℕ) where
    -- the first block of the trail
    abbrev pub head_of : ℕ → Meta → List Named → Held
    head_of left m l = shard_held X N m (items_of left l)

    pub root-is : (left : ℕ) (root : Cid) (m : Meta) (l : List Named) → IsReached X N (N name) left root m l → root ≡ (head_of left m l).0
    root-is left root m l is = is.cid ∙ ap (λ (p : Plan). p.entry.cid) (shard-is left m l)

    pub head-held : (left : ℕ) (root : Cid) (m : Meta) (l : List Named) → left ≤ 7 → IsReached X N (N name) left root m l → (t : Contents) (lent : List ℕ) → Agrees (Some t) (shard_trail X N left m l name) → held_at t root ≡ Some lent
        → held_at t (head_of left m l).0 ≡ Some (head_of left m l).1
    head-held left root m l low is t lent agrees held = ap (held_at t) (sym (root-is left root m l is)) ∙ held ∙ ap (λ (b : List ℕ). Some b) (the_block good (N name) left root m l low is (Some t) name lent agrees held)

    -- a fault that shows its cause while the store stayed calm
    pub find-err : (left : ℕ) (root : Cid) (m : Meta) (l : List Named) → left ≤ 7 → (before now : Seen) (fault : StoreFault) (value : Option Entry)
        → LoadsPlaced N (N name) (7 - left) root before now (Err fault) → Answers {A = ShardAnswer} X (IsBadOnWay N (N name)) (Err fault) before now
        → IsReached X N (N name) left root m l → Agrees before.told (shard_trail X N left m l name) → Stood before.faults now.faults
        → FindsOver before.told (shard_trail X N left m l name) value (Err fault)
    find-err left root m l low before now Failed value looks cause is agrees stood = let r = cause.rose in omega (arith, r, stood)
    find-err left root m l low before now (Damaged c) value looks cause is agrees stood = let r = cause.rose in omega (arith, r, stood)
    find-err left root m l low before now (Missing c) value looks cause is agrees stood = lost before.told agrees looks.1
      where
        lost : (told : Told) → Agrees told (shard_trail X N left m l name) → IfSome told (λ t. held_at t root ≡ None) → FindsOver told (shard_trail X N left m l name) value (Err (Missing c))
        lost None a h = tt
        lost (Some t) a h = subst (λ (path : List Held). FindsOver (Some t) path value (Err (Missing c))) (sym (trail-is left m l name)) (inl (looks.0 ∙ root-is left root m l is, ap (held_at t) (sym (root-is left root m l is)) ∙ h))
    find-err left root m l low before now (BadBlock c role) value looks cause is agrees stood = not_bad good (N name) left root m l low is before.told name now.lent agrees looks.held looks.bad
    find-err left root m l low before now (Clash c held bytes) value looks cause is agrees stood = looks
    find-err left root m l low before now Memory value looks cause is agrees stood = tt

    -- the name is decided here
    pub find-here : (left : ℕ) (root : Cid) (m : Meta) (l : List Named) → left ≤ 7 → (before : Seen) (e : Option Entry) → SaysOf N (N name) (7 - left) root name before (Here e)
        → IsReached X N (N name) left root m l → Agrees before.told (shard_trail X N left m l name) → (e ≡ find names_cmp name l) × Holds before.told (shard_trail X N left m l name)
    find-here left root m l low before e says is agrees =
        let said = it_says good (N name) left root m l low is name before (Here e) agrees says in
        ((here_value (deeper_of left) name (slot_of (N name) left l) [] e said).0 ∙ sym (find-slot (level_of left) name l), subst (Holds before.told) (sym (trail-is left m l name)) (all before.told agrees says.has.is_held))
      where
        ends : (left : ℕ) (d : List Named → Plan) → Here e ≡ spot_of name (slot_item d (slot_of (N name) left l)) → trail_below left l name ≡ []
        ends zero d h = refl
        ends (suc left) d h = (here_value d name (slot_of (N name) (suc left) l) (shard_trail X N left none (slot_of (N name) (suc left) l) name) e h).1

        all : (told : Told) → Agrees told (shard_trail X N left m l name) → IfSome told (λ t. held_at t root ≡ Some (shard_node_block says.node)) → Holds told (head_of left m l ∷ trail_below left l name)
        all None a h = absurd a
        all (Some t) a h = subst (λ (path : List Held). Holds (Some t) (head_of left m l ∷ path)) (sym (ends left (deeper_of left) (it_says good (N name) left root m l low is name before (Here e) agrees says))) (head-held left root m l low is t (shard_node_block says.node) a h, tt)

    -- the names of a slot share one slot more
    along_slot : (left : ℕ) (m : List Named) → left ≤ 6 → AllByRecursion (λ (e : Named). way (N e.0) (7 - suc left) ≡ way (N name) (7 - suc left)) m
        → AllByRecursion (λ (e : Named). way (N e.0) (7 - left) ≡ way (N name) (7 - left)) (slot_of (N name) (suc left) m)
    along_slot left [] low h = tt
    along_slot left (e ∷ m) low h = by (slot (N e.0) (6 - left) == slot (N name) (6 - left)) refl (along_slot left m low h.1)
      where
        here : (k : ℕ) → k ≡ 7 - suc left → k + 1 ≡ 7 - left → slot (N e.0) k ≡ slot (N name) k → way (N e.0) (7 - left) ≡ way (N name) (7 - left)
        here k a b s = subst (λ (n : ℕ). way (N e.0) n ≡ way (N name) n) b (further (N e.0) (N name) k (subst (λ (n : ℕ). way (N e.0) n ≡ way (N name) n) (sym a) h.0) s)

        by : (b : Bool) → (slot (N e.0) (6 - left) == slot (N name) (6 - left)) ≡ b → AllByRecursion (λ (e : Named). way (N e.0) (7 - left) ≡ way (N name) (7 - left)) (slot_of (N name) (suc left) m)
            → AllByRecursion (λ (e : Named). way (N e.0) (7 - left) ≡ way (N name) (7 - left)) (cond b (e ∷ slot_of (N name) (suc left) m) (slot_of (N name) (suc left) m))
        by true k later = (here (6 - left) (omega arith) (omega arith) (tested _ _ k), later)
        by false k later = later

    -- the shard below is reached
    pub reached_below : (left : ℕ) (root c : Cid) (m : Meta) (l : List Named) (path : List Held) → suc left ≤ 7 → IsReached X N (N name) (suc left) root m l → Goes (shard X N left none) c (slot_of (N name) (suc left) l) path → IsReached X N (N name) left c none (slot_of (N name) (suc left) l)
    unfolding HasShard
    reached_below left root c m l path low is goes = record {
      good = refl;
      carries = none-behind (way (N name) (7 - left));
      valid = record {
        sorted = from_T _ (is_sorted-where_key names_cmp (λ n. slot (N n) (6 - left) == slot (N name) (6 - left)) l (as_T _ is.valid.sorted));
        each = each_filter IsNamed (λ (e : Named). slot (N e.0) (6 - left) == slot (N name) (6 - left)) l is.valid.each;
      };
      some = goes.some;
      apart = by (is.apart (slot (N name) (6 - left)));
      along = along_slot left l (omega arith) is.along;
      cid = goes.cid;
    }
      where
        by : (length (slot_of (N name) (suc left) l) ≤ 1) ⊎ HasShard N left (slot_of (N name) (suc left) l) → HasShard N left (slot_of (N name) (suc left) l)
        by (inl few) = absurd (goes.many few)
        by (inr has) = has

    -- what was found further on is found here, one block behind
    pub over_more : {A : Type 0} (told : Told) (b : Held) (path : List Held) (value : A) (r : Result A StoreFault) → Holds told (b ∷ []) → FindsOver told path value r → FindsOver told (b ∷ path) value r
    over_more None b path value (Ok a) held h = h
    over_more (Some t) b path value (Ok a) held h = (h.0, (held.0, h.1))
    over_more told b path value (Err Failed) held h = h
    over_more told b path value (Err (Damaged c)) held h = h
    over_more None b path value (Err (Missing c)) held h = tt
    over_more (Some t) b path value (Err (Missing c)) held h = inr (held.0, h)
    over_more told b path value (Err (BadBlock c role)) held h = h
    over_more told b path value (Err (Clash c x y)) held h = h
    over_more told b path value (Err Memory) held h = tt

    along_none : (m : List Named) → AllByRecursion (λ (e : Named). way (N e.0) (7 - 7) ≡ way (N name) (7 - 7)) m
    along_none [] = tt
    along_none (e ∷ m) = (refl, along_none m)

    -- the root of a plan is reached
    pub reached-root : (root : Cid) (m : Meta) (l : List Named) → IsPlanned X N root m l → IsReached X N (N name) 7 root m l
    reached-root root m [] is = absurd (no is.is_plan)
      where
        no : None ≡ Some is.plan → ⊥
        no e = cc
    reached-root root m (e ∷ l) is = by (twins (same_slots N 7) (e ∷ l)) refl is.is_plan
      where
        some : (n : ℕ) → 1 ≤ suc n
        some n = omega arith

        by : (o : Option (List ℕ × List ℕ)) → twins (same_slots N 7) (e ∷ l) ≡ o → elim o [ None ↦ Some (shard X N 7 m (e ∷ l)) | Some names ↦ None ] ≡ Some is.plan → IsReached X N (N name) 7 root m (e ∷ l)
        by None t h = record {
          good = is.good;
          carries = tt;
          valid = is.valid;
          some = some (length l);
          apart = Apart-HasShard N 7 (e ∷ l) (twins-Apart (same_slots N 7) (e ∷ l) t);
          along = along_none (e ∷ l);
          cid = is.cid ∙ ap (λ (p : Plan). p.entry.cid) (let same : shard X N 7 m (e ∷ l) ≡ is.plan = cc in sym same);
        }
        by (Some names) t h = absurd (let no : None ≡ Some is.plan = h in cc)

    pub find-here-at : (left : ℕ) (root : Cid) (m : Meta) (l : List Named) → left ≤ 7 → (before : Seen) (spot : ShardAnswer) (e : Option Entry) → spot ≡ Here e → SaysOf N (N name) (7 - left) root name before spot
        → IsReached X N (N name) left root m l → Agrees before.told (shard_trail X N left m l name) → (e ≡ find names_cmp name l) × Holds before.told (shard_trail X N left m l name)
    find-here-at left root m l low before spot e at says is agrees =
        find-here left root m l low before e (subst (λ (s : ShardAnswer). SaysOf N (N name) (7 - left) root name before s) at says) is agrees
