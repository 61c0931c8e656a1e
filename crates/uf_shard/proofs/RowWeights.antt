-- Shards weighed row by row.
use Rattle.std.proofs.Common.{◌≡◌, ℕ, zero, suc, get_or, take, ◌+◌, ◌-◌, ◌*◌, ◌/◌, ◌<◌, ◌≤◌, List, [], ◌∷◌, ◌++◌, length, min, refl, ap, arith, sym, ◌∙◌, subst, Bool, true, false, cond, Option, Some, None, ◌⊎◌, inl, inr, nat_lt, length-append, append_assoc, append-nil}
use Rattle.std.proofs.Math.Nat.{mul-le-mul}
use Rattle.std.specs.Prelude.{IfSome, ⊤}
use Rattle.std.specs.declared.result.Result.{Result}
use Rattle.std.specs.declared.result.Result.TheVariants.{Ok, Err}
use Rattle.std.specs.List.{AllByRecursion, flat_map}
use Rattle.std.proofs.lemmas.Bool.{cases_lt, le-ltb, lt-ltb}
use Rattle.std.proofs.lemmas.List.{take_more}
use Rattle.std.proofs.lemmas.List.Concat.{flat_map-append}
use Rattle.std.proofs.lemmas.List.Sums.{sum_by-append, sum_by-cons, sum_by_more, sum_by_more_le}
use Rattle.uf_cid.specs.declared.cid.Cid.{Cid}
use Rattle.uf_cid.specs.declared.cid.Codec.TheVariants.{Raw}
use Rattle.uf_cid.specs.Blocks.{Held, Lookup}
use Rattle.uf_cid.specs.Blocks as blocks
use Rattle.uf_edge.specs.Counts.{Stood}
use Rattle.uf_store.specs.Contents.{Told, held_at}
use Rattle.uf_store.specs.Faults.{Answers, StaysCalm}
use Rattle.uf_store.specs.Keeping.{Agrees}
use Rattle.uf_store.specs.Lost.{IsLossOf, IsLost, ReadsOver}
use Rattle.uf_store.specs.Seen.{Seen}
use Rattle.uf_store.specs.declared.store.StoreFault.{StoreFault}
use Rattle.uf_tree.specs.declared.nodes.Item.{Item}
use Rattle.uf_tree.specs.declared.nodes.Item.TheVariants.{Leaf, Sub}
use Rattle.uf_tree.specs.DirPlan.{weight}
use Rattle.uf_tree.specs.declared.meta.Meta.{Meta}
use Rattle.uf_tree.specs.Metas.{none}
use Rattle.uf_tree.specs.Nodes.{InSlot, Named}
use Rattle.uf_tree.specs.ShardPlan.{shard, shard_held, slot_item}
use Rattle.uf_tree.specs.Validity.{IsHash, IsNamed}
use Rattle.uf_tree.proofs.Each.{each_tabulate}
use Rattle.uf_tree.proofs.Sizes.{name_length}
use Rattle.uf_shard.specs.Changed.{slots_of}
use Rattle.uf_shard.specs.Listing.{IsBadShard}
use Rattle.uf_shard.specs.Walked.{AreOver, HasItems, IsRoot, LoadsItems, all_blocks}
use Rattle.uf_shard.specs.Weighed.{AreRoots, LeavesRoom, least_of, least_weight, room_after, row_below, row_blocks, row_least, row_weight, shard_in, shards_in}
use Rattle.uf_shard.proofs.Reaching.{deeper_of, items_of}
use Rattle.uf_shard.proofs.Walks.{Agrees_at, agrees_back, agrees_front, blocks-are, load-lost, loaded_items, loss_more, lost_at, lost_back, lost_front, over_items, pairs_of}
use Rattle.uf_shard.proofs.Weights.{planned-weight, weight_over_slots}

-- the item at a place, whatever stands in for one beyond the end
pub read_same : {A : Type 0} (xs : List A) (i : ℕ) (d : A) → i < length xs → get_or xs i d ≡ get_or xs i (get_or xs i d)
read_same [] i d low = absurd (omega arith)
read_same (x ∷ xs) zero d low = refl
read_same (x ∷ xs) (suc i) d low = other xs i d (get_or xs i d) (omega arith)
  where
    other : {A : Type 0} (xs : List A) (i : ℕ) (d e : A) → i < length xs → get_or xs i d ≡ get_or xs i e
    other [] i d e low = absurd (omega arith)
    other (x ∷ xs) zero d e low = refl
    other (x ∷ xs) (suc i) d e low = other xs i d e (omega arith)

-- what stands in for a CID beyond the end
abbrev pub no_cid : Cid
no_cid = record { codec = Raw; digest = [] }

-- ---- rooms

fits : (room w : ℕ) → w ≤ room → room_after room w ≡ Some (room - w)
fits room w h = ap (λ b. cond b None (Some (room - w))) (le-ltb room w h)

beyond : (room w : ℕ) → room < w → room_after room w ≡ None
beyond room w h = ap (λ b. cond b None (Some (room - w))) (lt-ltb room w h)

pub record Left (room w rest : ℕ) : Type 0 where
  pub within : w ≤ room
  pub is : rest + w ≡ room

pub left_is : (room w rest : ℕ) → Some rest ≡ room_after room w → Left room w rest
left_is room w rest e = by (cases_lt room w)
  where
    by : (room < w) ⊎ (w ≤ room) → Left room w rest
    by (inl h) = absurd (let no : Some rest ≡ None = e ∙ beyond room w h in cc)
    by (inr h) = let same : rest ≡ room - w = (let some : Some rest ≡ Some (room - w) = e ∙ fits room w h in cc) in record { within = h; is = omega (arith, same, h) }

pub none_left : (room w : ℕ) → None ≡ room_after room w → room < w
none_left room w e = by (cases_lt room w)
  where
    by : (room < w) ⊎ (w ≤ room) → room < w
    by (inl h) = h
    by (inr h) = absurd (let no : None ≡ Some (room - w) = e ∙ fits room w h in cc)

-- ---- slots

module _ (items : List InSlot) (i : ℕ) (p : InSlot) (low : i < length items) (is : p ≡ get_or items i p) where
  more-least : least_of (take (i + 1) items) ≡ least_of (take i items) + least_weight p.1
  more-least = sum_by_more (λ (p : InSlot). least_weight p.1) items i p low ∙ ap (λ (q : InSlot). least_of (take i items) + least_weight q.1) (sym is)

  most-least : least_of (take i items) + least_weight p.1 ≤ least_of items
  most-least = let le = sum_by_more_le (λ (p : InSlot). least_weight p.1) items i p low in let same = ap (λ (q : InSlot). least_weight q.1) is in omega (arith, le, same)

  -- the room behind one slot more
  pub slot-room : (room rest now : ℕ) (o : Option ℕ) → o ≡ Some now → o ≡ room_after rest (least_weight p.1) → room_after room (least_of (take i items)) ≡ Some rest → room_after room (least_of (take (i + 1) items)) ≡ Some now
  slot-room room rest now o some one so_far =
      let before = left_is room (least_of (take i items)) rest (sym so_far) in
      let here = left_is rest (least_weight p.1) now (sym some ∙ one) in
      let w : least_of (take (i + 1) items) ≤ room = omega (arith, more-least, before.within, before.is, here.within, here.is) in
      let n : room - least_of (take (i + 1) items) ≡ now = omega (arith, more-least, before.within, before.is, here.within, here.is) in
      fits room (least_of (take (i + 1) items)) w ∙ ap (λ (n : ℕ). Some n) n

  pub slot-none : (room rest : ℕ) (o : Option ℕ) → o ≡ None → o ≡ room_after rest (least_weight p.1) → room_after room (least_of (take i items)) ≡ Some rest → None ≡ room_after room (least_of items)
  slot-none room rest o none one so_far =
      let before = left_is room (least_of (take i items)) rest (sym so_far) in
      let here = none_left rest (least_weight p.1) (sym none ∙ one) in
      let out : room < least_of items = omega (arith, most-least, before.within, before.is, here) in
      sym (beyond room (least_of items) out)

  pub slot-below : (old before now : List Cid) → before ≡ old ++ shards_in (take i items) → now ≡ before ++ shard_in p.1 → now ≡ old ++ shards_in (take (i + 1) items)
  slot-below old before now so_far one =
      let items-are : take (i + 1) items ≡ take i items ++ p ∷ [] = take_more items i p low ∙ ap (λ (q : InSlot). take i items ++ q ∷ []) (sym is) in
      let split = ap shards_in items-are ∙ flat_map-append (λ (p : InSlot). shard_in p.1) (take i items) (p ∷ []) in
      let nil : shard_in p.1 ++ [] ≡ shard_in p.1 = simp append-nil in
      one ∙ ap (λ (l : List Cid). l ++ shard_in p.1) so_far ∙ append_assoc old (shards_in (take i items)) (shard_in p.1)
      ∙ ap (λ (l : List Cid). old ++ (shards_in (take i items) ++ l)) (sym nil) ∙ ap (λ (l : List Cid). old ++ l) (sym split)

-- a shard weighs as two names where it is counted
pub few-shards : (items : List InSlot) → 74 * length (shards_in items) ≤ least_of items
few-shards [] = omega arith
few-shards ((s, Leaf name e) ∷ items) = let rest = few-shards items in let one = sum_by-cons (λ (p : InSlot). least_weight p.1) (s, Leaf name e) items in omega (arith, rest, one)
few-shards ((s, Sub e) ∷ items) = let rest = few-shards items in let one = sum_by-cons (λ (p : InSlot). least_weight p.1) (s, Sub e) items in omega (arith, rest, one)

-- no CID was taken away
pub grown : (items : List InSlot) (before after : List Cid) → after ≡ before ++ shards_in items → length before ≤ length after
grown items before after is = let count = ap (λ (l : List Cid). length l) is ∙ length-append before (shards_in items) in omega (arith, count)

-- what is left of the room and of what the shards below were given
pub within-more : (items : List InSlot) (before after : List Cid) (rest now most : ℕ) (o : Option ℕ) → o ≡ Some now → o ≡ room_after (rest + 74) (least_of items) → after ≡ before ++ shards_in items
    → rest + 74 * length before ≤ most → now + 74 * length after ≤ most + 74
within-more items before after rest now most o some one is so_far =
    let here = left_is (rest + 74) (least_of items) now (sym some ∙ one) in
    let count = ap (λ (l : List Cid). length l) is ∙ length-append before (shards_in items) in
    let few = few-shards items in
    omega (arith, here.is, count, few, so_far)

-- ---- the shards below a shard

-- the pairs of each shard in these slots
abbrev pub parts_over : (ℕ → List Named) → List InSlot → List (List Named)
parts_over over items = flat_map (λ (p : InSlot). elim p.1 [ Leaf name e ↦ [] | Sub e ↦ over p.0 ∷ [] ]) items

-- a shard in a slot has two pairs at least
abbrev IsShared : Item → List Named → Type 0
IsShared (Leaf name e) l = ⊤
IsShared (Sub e) l = 2 ≤ length l

-- each name weighs at least 37
heavy : (l : List Named) → AllByRecursion IsNamed l → 37 * length l ≤ weight l
heavy [] h = omega arith
heavy (e ∷ l) h =
    let some : 1 ≤ length e.0 = (name_length e.0 h.0.name).some in
    let rest : 37 * length l ≤ weight l = heavy l h.1 in
    let all = sum_by-cons (λ (e : Named). length e.0 + 36) e l in omega (arith, some, rest, all)

module _ (X : List ℕ → List ℕ) (N : List ℕ → ℕ) where
  shared_slot : (left : ℕ) (l : List Named) → IfSome (slot_item (deeper_of X N left) l) (λ x. IsShared x l)
  shared_slot left [] = tt
  shared_slot left (e ∷ []) = tt
  shared_slot left (e ∷ f ∷ l) = (let two : 2 ≤ length (e ∷ f ∷ l) = omega arith in two)

  shared-items : (left : ℕ) (l : List Named) → AllByRecursion (λ (p : InSlot). IsShared p.1 (pairs_of X N left l p.0)) (items_of X N left l)
  shared-items left l = each_tabulate (λ (p : InSlot). IsShared p.1 (pairs_of X N left l p.0)) 256 0 256 (λ s. slot_item (deeper_of X N left) (pairs_of X N left l s)) (omega arith)
      (λ s low. shared_slot left (pairs_of X N left l s))

  roots-over : (left : ℕ) (over : ℕ → List Named) (items : List InSlot) → AreOver X N (suc left) over items → AllByRecursion (λ (p : InSlot). IsShared p.1 (over p.0)) items → AreRoots X N left (shards_in items) (parts_over over items)
  roots-over left over [] are shared = tt
  roots-over left over ((s, Leaf name e) ∷ items) are shared = roots-over left over items are.1 shared.1
  roots-over left over ((s, Sub e) ∷ items) are shared = (are.0, shared.0, roots-over left over items are.1 shared.1)

  -- what slots weigh at least, and what their shards weigh beside that
  weight-over : (left : ℕ) (over : ℕ → List Named) (items : List InSlot) → AreOver X N left over items → least_of items + row_weight (parts_over over items) ≡ weight_over_slots over items + 74 * length (parts_over over items)
  weight-over left over [] are = refl
  weight-over left over ((s, Leaf name e) ∷ items) are =
      let rest = weight-over left over items are.1 in
      let least = sum_by-cons (λ (p : InSlot). least_weight p.1) (s, Leaf name e) items in
      let all = sum_by-cons (λ (p : InSlot). weight (over p.0)) (s, Leaf name e) items in
      let here : weight (over s) ≡ 0 + (length name + 36) = ap weight are.0 in
      omega (arith, rest, least, all, here)
  weight-over zero over ((s, Sub e) ∷ items) are = absurd are.0
  weight-over (suc left) over ((s, Sub e) ∷ items) are =
      let rest = weight-over (suc left) over items are.1 in
      let least = sum_by-cons (λ (p : InSlot). least_weight p.1) (s, Sub e) items in
      let all = sum_by-cons (λ (p : InSlot). weight (over p.0)) (s, Sub e) items in
      let row = sum_by-cons weight (over s) (parts_over over items) in
      omega (arith, rest, least, all, row)

  blocks-over : (left : ℕ) (over : ℕ → List Named) (items : List InSlot) → all_blocks X N (suc left) over items ≡ row_blocks X N left (parts_over over items)
  blocks-over left over [] = refl
  blocks-over left over ((s, Leaf name e) ∷ items) = blocks-over left over items
  blocks-over left over ((s, Sub e) ∷ items) = ap (λ (b : List Held). (shard X N left none (over s)).blocks ++ b) (blocks-over left over items)

  none-over : (over : ℕ → List Named) (items : List InSlot) → AreOver X N zero over items → parts_over over items ≡ []
  none-over over [] are = refl
  none-over over ((s, Leaf name e) ∷ items) are = none-over over items are.1
  none-over over ((s, Sub e) ∷ items) are = absurd are.0

  -- the pairs of the shards below a shard
  abbrev pub parts : ℕ → List Named → List (List Named)
  parts left l = parts_over (pairs_of X N left l) (items_of X N left l)

  abbrev pub row_parts : ℕ → List (List Named) → List (List Named)
  row_parts left ls = flat_map (λ (l : List Named). parts left l) ls

  -- the slots of a shard, as they are said of it
  slots-are : (left : ℕ) (l : List Named) → slots_of X N left l ≡ items_of X N left l
  slots-are zero l = refl
  slots-are (suc left) l = refl

  -- ---- a row

  pub roots_length : (left : ℕ) (cids : List Cid) (ls : List (List Named)) → AreRoots X N left cids ls → length ls ≡ length cids
  roots_length left [] [] are = refl
  roots_length left [] (l ∷ ls) are = absurd are
  roots_length left (c ∷ cids) [] are = absurd are
  roots_length left (c ∷ cids) (l ∷ ls) are = ap (λ (n : ℕ). suc n) (roots_length left cids ls are.2)

  roots-append : (left : ℕ) (cids more : List Cid) (ls ms : List (List Named)) → AreRoots X N left cids ls → AreRoots X N left more ms → AreRoots X N left (cids ++ more) (ls ++ ms)
  roots-append left [] more [] ms are then = then
  roots-append left [] more (l ∷ ls) ms are then = absurd are
  roots-append left (c ∷ cids) more [] ms are then = absurd are
  roots-append left (c ∷ cids) more (l ∷ ls) ms are then = (are.0, are.1, roots-append left cids more ls ms are.2 then)

  -- the pairs of one shard of a row
  abbrev pub one_of : List (List Named) → ℕ → List Named
  one_of ls i = get_or ls i []

  pub root_at : (left : ℕ) (cids : List Cid) (ls : List (List Named)) → AreRoots X N left cids ls → (i : ℕ) (c : Cid) → i < length cids → c ≡ get_or cids i c → IsRoot X N left c none (one_of ls i)
  root_at left [] ls are i c low is = absurd (omega arith)
  root_at left (d ∷ cids) [] are i c low is = absurd are
  root_at left (d ∷ cids) (l ∷ ls) are zero c low is = subst (λ (x : Cid). IsRoot X N left x none l) (sym is) are.0
  root_at left (d ∷ cids) (l ∷ ls) are (suc i) c low is = root_at left cids ls are.2 i c (omega arith) is

  pub Agrees_one : (told : Told) (left : ℕ) (ls : List (List Named)) (i : ℕ) → i < length ls → Agrees told (row_blocks X N left ls) → Agrees told (shard X N left none (one_of ls i)).blocks
  Agrees_one told left ls i low h = Agrees_at (λ (l : List Named). (shard X N left none l).blocks) told ls i (one_of ls i) low (read_same ls i [] low) h

  pub lost_one : (left : ℕ) (ls : List (List Named)) (i : ℕ) → i < length ls → (held : Lookup) (c : Cid) → IsLost held c (shard X N left none (one_of ls i)).blocks → IsLost held c (row_blocks X N left ls)
  lost_one left ls i low held c h = lost_at (λ (l : List Named). (shard X N left none l).blocks) held c ls i (one_of ls i) low (read_same ls i [] low) h

  module _ (good : IsHash X) where
    -- of a shard
    module _ (left : ℕ) (root : Cid) (m : Meta) (l : List Named) (is : IsRoot X N left root m l) where
      are-over : AreOver X N left (pairs_of X N left l) (items_of X N left l)
      are-over = over_items X N good left root m l is (items_of X N left l) refl

      pub whole-weight : least_of (items_of X N left l) + row_weight (parts left l) ≡ weight l + 74 * length (parts left l)
      whole-weight = weight-over left (pairs_of X N left l) (items_of X N left l) are-over ∙ ap (λ (n : ℕ). n + 74 * length (parts left l)) (planned-weight X N left l)

    pub parts-roots : (left : ℕ) (root : Cid) (m : Meta) (l : List Named) → IsRoot X N (suc left) root m l → AreRoots X N left (shards_in (items_of X N (suc left) l)) (parts (suc left) l)
    parts-roots left root m l is = roots-over left (pairs_of X N (suc left) l) (items_of X N (suc left) l) (are-over (suc left) root m l is) (shared-items (suc left) l)

    -- a row of shards weighs as two names each at least
    row-heavy : (left : ℕ) (cids : List Cid) (ls : List (List Named)) → AreRoots X N left cids ls → 74 * length ls ≤ row_weight ls
    row-heavy left [] [] are = omega arith
    row-heavy left [] (l ∷ ls) are = absurd are
    row-heavy left (c ∷ cids) [] are = absurd are
    row-heavy left (c ∷ cids) (l ∷ ls) are =
        let rest = row-heavy left cids ls are.2 in let one = sum_by-cons weight l ls in let each = heavy l are.0.valid.each in let two : 2 ≤ length l = are.1 in
        omega (arith, rest, one, each, two)

    pub least-most : (left : ℕ) (root : Cid) (m : Meta) (l : List Named) → IsRoot X N left root m l → least_of (items_of X N left l) ≤ weight l
    least-most zero root m l is =
        let whole = whole-weight zero root m l is in
        let nothing = none-over (pairs_of X N zero l) (items_of X N zero l) (are-over zero root m l is) in
        let n : length (parts zero l) ≡ 0 = ap (λ (k : List (List Named)). length k) nothing in
        omega (arith, whole, n)
    least-most (suc left) root m l is =
        let whole = whole-weight (suc left) root m l is in
        let row = row-heavy left (shards_in (items_of X N (suc left) l)) (parts (suc left) l) (parts-roots left root m l is) in
        omega (arith, whole, row)

    -- what is left of the room behind the first shards of a row and one more
    module _ (left : ℕ) (cids : List Cid) (ls : List (List Named)) (are : AreRoots X N left cids ls) where
      rows-heavy : (i : ℕ) → i ≤ length ls → row_least X N left (take i ls) + 74 * (length ls - i) ≤ row_weight ls
      rows-heavy i low = each cids ls are i low
        where
          each : (cids : List Cid) (ls : List (List Named)) → AreRoots X N left cids ls → (i : ℕ) → i ≤ length ls → row_least X N left (take i ls) + 74 * (length ls - i) ≤ row_weight ls
          each [] [] are zero low = omega arith
          each [] [] are (suc i) low = absurd (omega arith)
          each [] (l ∷ ls) are i low = absurd are
          each (c ∷ cids) [] are i low = absurd are
          each (c ∷ cids) (l ∷ ls) are zero low = let h = row-heavy left (c ∷ cids) (l ∷ ls) are in omega (arith, h)
          each (c ∷ cids) (l ∷ ls) are (suc i) low =
              let rest = each cids ls are.2 i (omega arith) in
              let one = sum_by-cons weight l ls in
              let least = sum_by-cons (λ (l : List Named). least_of (slots_of X N left l)) l (take i ls) in
              let here = least-most left c none l are.0 in
              let same = ap least_of (slots-are left l) in
              omega (arith, rest, one, least, here, same)

      module _ (i : ℕ) (low : i < length ls) (room rest : ℕ) (so_far : rest + row_least X N left (take i ls) ≡ room + 74 * i) where
        next-least : row_least X N left (take (i + 1) ls) ≡ row_least X N left (take i ls) + least_of (slots_of X N left (one_of ls i))
        next-least = sum_by_more (λ (l : List Named). least_of (slots_of X N left l)) ls i [] low

        pub row-room : (now : ℕ) (o : Option ℕ) → o ≡ Some now → o ≡ room_after (rest + 74) (least_of (slots_of X N left (one_of ls i))) → now + row_least X N left (take (i + 1) ls) ≡ room + 74 * (i + 1)
        row-room now o some one = let here = left_is (rest + 74) (least_of (slots_of X N left (one_of ls i))) now (sym some ∙ one) in omega (arith, so_far, next-least, here.is)

        pub row-none : (o : Option ℕ) → o ≡ None → o ≡ room_after (rest + 74) (least_of (slots_of X N left (one_of ls i))) → room + 74 * length ls < row_weight ls
        row-none o none one =
            let here = none_left (rest + 74) (least_of (slots_of X N left (one_of ls i))) (sym none ∙ one) in
            let all = rows-heavy (i + 1) (omega (arith, low)) in
            omega (arith, so_far, next-least, here, all, low)

        pub row-more : (old before now : List Cid) → before ≡ old ++ row_below X N left (take i ls) → now ≡ before ++ shards_in (slots_of X N left (one_of ls i)) → now ≡ old ++ row_below X N left (take (i + 1) ls)
        row-more old before now so one =
            let split = ap (row_below X N left) (take_more ls i [] low) ∙ flat_map-append (λ (l : List Named). shards_in (slots_of X N left l)) (take i ls) (one_of ls i ∷ []) in
            let nil : shards_in (slots_of X N left (one_of ls i)) ++ [] ≡ shards_in (slots_of X N left (one_of ls i)) = simp append-nil in
            one ∙ ap (λ (l : List Cid). l ++ shards_in (slots_of X N left (one_of ls i))) so ∙ append_assoc old (row_below X N left (take i ls)) (shards_in (slots_of X N left (one_of ls i)))
            ∙ ap (λ (l : List Cid). old ++ (row_below X N left (take i ls) ++ l)) (sym nil) ∙ ap (λ (l : List Cid). old ++ l) (sym split)

    -- the shard at a place of a row that was loaded
    module _ (left : ℕ) (cids : List Cid) (ls : List (List Named)) (are : AreRoots X N left cids ls) (i : ℕ) (c : Cid) (low : i < length cids) (is : c ≡ get_or cids i c) where
      pub low_there : i < length ls
      low_there = let n = roots_length left cids ls are in omega (arith, n, low)

      root_is : IsRoot X N left c none (one_of ls i)
      root_is = root_at left cids ls are i c low is

      agrees_there : (before mid : Told) → mid ≡ before → Agrees before (row_blocks X N left ls) → Agrees mid (shard X N left none (one_of ls i)).blocks
      agrees_there before mid same agrees = subst (λ (told : Told). Agrees told (shard X N left none (one_of ls i)).blocks) (sym same) (Agrees_one before left ls i low_there agrees)

      pub loaded-slots : (before mid : Seen) (items slice : List InSlot) → mid.told ≡ before.told → slice ≡ items → HasItems left c mid items → Agrees before.told (row_blocks X N left ls) → slice ≡ slots_of X N left (one_of ls i)
      loaded-slots before mid items slice same is_slice has agrees =
          is_slice ∙ loaded_items X N good left c none (one_of ls i) root_is mid items (agrees_there before.told mid.told same agrees) has ∙ sym (slots-are left (one_of ls i))

      pub row-load-lost : (before mid now : Seen) (fault : StoreFault) → mid.told ≡ before.told → StaysCalm before mid → LoadsItems left c mid now (Err fault) → Answers {A = List InSlot} X IsBadShard (Err fault) mid now
          → Agrees before.told (row_blocks X N left ls) → Stood before.faults now.faults → IsLossOf before.told (row_blocks X N left ls) fault
      row-load-lost before mid now fault same calm loads cause agrees stood =
          loss_more before.told (shard X N left none (one_of ls i)).blocks (row_blocks X N left ls) fault (lost_one left ls i low_there)
          (subst (λ (told : Told). IsLossOf told (shard X N left none (one_of ls i)).blocks fault) same
          (load-lost X N good left c none (one_of ls i) root_is mid now fault loads cause (agrees_there before.told mid.told same agrees) (subst (λ (n : ℕ). Stood n now.faults) (sym calm.faults) stood)))

    -- ---- from one row to the next

    row-roots : (left : ℕ) (cids : List Cid) (ls : List (List Named)) → AreRoots X N (suc left) cids ls → AreRoots X N left (row_below X N (suc left) ls) (row_parts (suc left) ls)
    row-roots left [] [] are = tt
    row-roots left [] (l ∷ ls) are = absurd are
    row-roots left (c ∷ cids) [] are = absurd are
    row-roots left (c ∷ cids) (l ∷ ls) are = roots-append left (shards_in (items_of X N (suc left) l)) (row_below X N (suc left) ls) (parts (suc left) l) (row_parts (suc left) ls) (parts-roots left c none l are.0) (row-roots left cids ls are.2)

    row-whole : (left : ℕ) (cids : List Cid) (ls : List (List Named)) → AreRoots X N left cids ls → row_least X N left ls + row_weight (row_parts left ls) ≡ row_weight ls + 74 * length (row_parts left ls)
    row-whole left [] [] are = refl
    row-whole left [] (l ∷ ls) are = absurd are
    row-whole left (c ∷ cids) [] are = absurd are
    row-whole left (c ∷ cids) (l ∷ ls) are =
        let rest = row-whole left cids ls are.2 in
        let here = whole-weight left c none l are.0 in
        let least = sum_by-cons (λ (l : List Named). least_of (slots_of X N left l)) l ls in
        let one = sum_by-cons weight l ls in
        let both = sum_by-append weight (parts left l) (row_parts left ls) in
        let count = length-append (parts left l) (row_parts left ls) in
        let same = ap least_of (slots-are left l) in
        omega (arith, rest, here, least, one, both, count, same)

    row-last : (cids : List Cid) (ls : List (List Named)) → AreRoots X N zero cids ls → row_parts zero ls ≡ []
    row-last [] [] are = refl
    row-last [] (l ∷ ls) are = absurd are
    row-last (c ∷ cids) [] are = absurd are
    row-last (c ∷ cids) (l ∷ ls) are =
        ap (λ (m : List (List Named)). m ++ row_parts zero ls) (none-over (pairs_of X N zero l) (items_of X N zero l) (are-over zero c none l are.0)) ∙ row-last cids ls are.2

  -- ---- the blocks below are among those of a shard, and those of the next row among those of a row

  below-are : (left : ℕ) (m : Meta) (l : List Named) → (shard X N (suc left) m l).blocks ≡ shard_held X N m (items_of X N (suc left) l) ∷ row_blocks X N left (parts (suc left) l)
  below-are left m l = blocks-are X N (suc left) m l ∙ ap (λ (b : List Held). shard_held X N m (items_of X N (suc left) l) ∷ b) (blocks-over left (pairs_of X N (suc left) l) (items_of X N (suc left) l))

  pub shard-lost : (left : ℕ) (m : Meta) (l : List Named) (held : Lookup) (c : Cid) → IsLost held c (row_blocks X N left (parts (suc left) l)) → IsLost held c (shard X N (suc left) m l).blocks
  shard-lost left m l held c h = subst (IsLost held c) (sym (below-are left m l)) (inr h)

  shard-agrees : (left : ℕ) (m : Meta) (l : List Named) (held : Lookup) → blocks.Agrees held (shard X N (suc left) m l).blocks → blocks.Agrees held (row_blocks X N left (parts (suc left) l))
  shard-agrees left m l held h = (let all : blocks.Agrees held (shard_held X N m (items_of X N (suc left) l) ∷ row_blocks X N left (parts (suc left) l)) = subst (blocks.Agrees held) (below-are left m l) h in all.1)

  pub Agrees_parts : (told : Told) (left : ℕ) (m : Meta) (l : List Named) → Agrees told (shard X N (suc left) m l).blocks → Agrees told (row_blocks X N left (parts (suc left) l))
  Agrees_parts None left m l h = h
  Agrees_parts (Some t) left m l h = shard-agrees left m l (held_at t) h

  pub shard-count : (left : ℕ) (m : Meta) (l : List Named) → length (shard X N (suc left) m l).blocks ≡ suc (length (row_blocks X N left (parts (suc left) l)))
  shard-count left m l = ap (λ (b : List Held). length b) (below-are left m l)

  row-split : (left : ℕ) (l : List Named) (ls : List (List Named)) → row_blocks X N left (row_parts (suc left) (l ∷ ls)) ≡ row_blocks X N left (parts (suc left) l) ++ row_blocks X N left (row_parts (suc left) ls)
  row-split left l ls = flat_map-append (λ (l : List Named). (shard X N left none l).blocks) (parts (suc left) l) (row_parts (suc left) ls)

  lost-split : (held : Lookup) (c : Cid) (k m : List Held) → IsLost held c (k ++ m) → IsLost held c k ⊎ IsLost held c m
  lost-split held c [] m h = inr h
  lost-split held c (b ∷ k) m (inl h) = inl (inl h)
  lost-split held c (b ∷ k) m (inr h) = by (lost-split held c k m h)
    where
      by : IsLost held c k ⊎ IsLost held c m → IsLost held c (b ∷ k) ⊎ IsLost held c m
      by (inl x) = inl (inr x)
      by (inr y) = inr y

  pub row-lost : (left : ℕ) (ls : List (List Named)) (held : Lookup) (c : Cid) → IsLost held c (row_blocks X N left (row_parts (suc left) ls)) → IsLost held c (row_blocks X N (suc left) ls)
  row-lost left [] held c h = h
  row-lost left (l ∷ ls) held c h = by (row-lost left ls held c) (lost-split held c (row_blocks X N left (parts (suc left) l)) (row_blocks X N left (row_parts (suc left) ls)) (subst (IsLost held c) (row-split left l ls) h))
    where
      by : (IsLost held c (row_blocks X N left (row_parts (suc left) ls)) → IsLost held c (row_blocks X N (suc left) ls)) → IsLost held c (row_blocks X N left (parts (suc left) l)) ⊎ IsLost held c (row_blocks X N left (row_parts (suc left) ls))
          → IsLost held c ((shard X N (suc left) none l).blocks ++ row_blocks X N (suc left) ls)
      by later (inl x) = lost_front held c (shard X N (suc left) none l).blocks (row_blocks X N (suc left) ls) (shard-lost left none l held c x)
      by later (inr y) = lost_back held c (shard X N (suc left) none l).blocks (row_blocks X N (suc left) ls) (later y)

  agrees-both : (held : Lookup) (k m : List Held) → blocks.Agrees held k → blocks.Agrees held m → blocks.Agrees held (k ++ m)
  agrees-both held [] m a b = b
  agrees-both held (x ∷ k) m a b = (a.0, agrees-both held k m a.1 b)

  row-agrees : (left : ℕ) (ls : List (List Named)) (held : Lookup) → blocks.Agrees held (row_blocks X N (suc left) ls) → blocks.Agrees held (row_blocks X N left (row_parts (suc left) ls))
  row-agrees left [] held h = h
  row-agrees left (l ∷ ls) held h = subst (blocks.Agrees held) (sym (row-split left l ls)) (agrees-both held (row_blocks X N left (parts (suc left) l)) (row_blocks X N left (row_parts (suc left) ls))
      (shard-agrees left none l held (agrees_front held (shard X N (suc left) none l).blocks (row_blocks X N (suc left) ls) h)) (row-agrees left ls held (agrees_back held (shard X N (suc left) none l).blocks (row_blocks X N (suc left) ls) h)))

  pub Agrees_row : (told : Told) (left : ℕ) (ls : List (List Named)) → Agrees told (row_blocks X N (suc left) ls) → Agrees told (row_blocks X N left (row_parts (suc left) ls))
  Agrees_row None left ls h = h
  Agrees_row (Some t) left ls h = row-agrees left ls (held_at t) h

  pub row-count : (left : ℕ) (ls : List (List Named)) → length (row_blocks X N (suc left) ls) ≡ length ls + length (row_blocks X N left (row_parts (suc left) ls))
  row-count left [] = refl
  row-count left (l ∷ ls) =
      let rest = row-count left ls in
      let here = shard-count left none l in
      let all = length-append (shard X N (suc left) none l).blocks (row_blocks X N (suc left) ls) in
      let both = ap (λ (b : List Held). length b) (row-split left l ls) ∙ length-append (row_blocks X N left (parts (suc left) l)) (row_blocks X N left (row_parts (suc left) ls)) in
      omega (arith, rest, here, all, both)

  -- each shard of a row has a block
  pub row-some : (left : ℕ) (ls : List (List Named)) → length ls ≤ length (row_blocks X N left ls)
  row-some left [] = omega arith
  row-some left (l ∷ ls) =
      let rest = row-some left ls in
      let own = ap (λ (b : List Held). length b) (blocks-are X N left none l) in
      let all = length-append (shard X N left none l).blocks (row_blocks X N left ls) in
      omega (arith, rest, own, all)

-- ---- answers

take_whole : (ls : List (List Named)) (i : ℕ) → length ls ≤ i → take i ls ≡ ls
take_whole [] zero h = refl
take_whole [] (suc i) h = refl
take_whole (l ∷ ls) zero h = absurd (omega arith)
take_whole (l ∷ ls) (suc i) h = ap (λ (m : List (List Named)). l ∷ m) (take_whole ls i (omega arith))

-- a row at its end
pub row-done : (X : List ℕ → List ℕ) (N : List ℕ → ℕ) (left : ℕ) (cids : List Cid) (ls : List (List Named)) → AreRoots X N left cids ls → (i room rest : ℕ) (before now : List Cid) → i ≡ length cids
    → (rest + row_least X N left (take i ls) ≡ room + 74 * i) × (now ≡ before ++ row_below X N left (take i ls)) → LeavesRoom X N left ls room before now (Some rest)
row-done X N left cids ls are i room rest before now end so_far =
    let n : i ≡ length ls = end ∙ sym (roots_length X N left cids ls are) in
    let all : take i ls ≡ ls = take_whole ls i (omega (arith, n)) in (
      ap (λ (m : List (List Named)). rest + row_least X N left m) (sym all) ∙ so_far.0 ∙ ap (λ (k : ℕ). room + 74 * k) n,
      so_far.1 ∙ ap (λ (m : List (List Named)). before ++ row_below X N left m) all,
    )

-- two tests of which both sides differ alike
test-same : (a b c d : ℕ) → a + d ≡ b + c → nat_lt a c ≡ nat_lt b d
test-same a b c d e = by (cases_lt a c)
  where
    by : (a < c) ⊎ (c ≤ a) → nat_lt a c ≡ nat_lt b d
    by (inl h) = lt-ltb a c h ∙ sym (lt-ltb b d (omega arith))
    by (inr h) = le-ltb a c h ∙ sym (le-ltb b d (omega arith))

-- what is read of some blocks is read of more
pub reads-more : {A : Type 0} (a b : Told) (k l : List Held) (v w : A) (r : Result A StoreFault) → b ≡ a → ((held : Lookup) (c : Cid) → IsLost held c k → IsLost held c l) → v ≡ w → ReadsOver b k v r → ReadsOver a l w r
reads-more a b k l v w (Ok x) same more e h = h ∙ e
reads-more a b k l v w (Err fault) same more e h = loss_more a k l fault more (subst (λ (told : Told). IsLossOf told k fault) same h)

one-less : (n : ℕ) → suc n - 1 ≡ n
one-less n = omega arith

module _ (X : List ℕ → List ℕ) (N : List ℕ → ℕ) (good : IsHash X) where
  -- what is left of a room behind a row that has been weighed
  module _ (left : ℕ) (cids : List Cid) (ls : List (List Named)) (are : AreRoots X N left cids ls) (room : ℕ) where
    count : length ls ≡ length cids
    count = roots_length X N left cids ls are

    pub over-none : (below : List Cid) (o : Option ℕ) → o ≡ None → LeavesRoom X N left ls room [] below o → true ≡ nat_lt (room + 74 * length cids) (row_weight ls)
    over-none below o none leaves =
        let out : room + 74 * length ls < row_weight ls = subst (LeavesRoom X N left ls room [] below) none leaves in
        sym (lt-ltb (room + 74 * length cids) (row_weight ls) (omega (arith, out, count)))

    pub over-last : left ≡ 0 → (below : List Cid) (o : Option ℕ) (rest : ℕ) → o ≡ Some rest → LeavesRoom X N left ls room [] below o → false ≡ nat_lt (room + 74 * length cids) (row_weight ls)
    over-last zero_is below o rest some leaves =
        let has : (rest + row_least X N left ls ≡ room + 74 * length ls) × (below ≡ row_below X N left ls) = subst (LeavesRoom X N left ls room [] below) some leaves in
        let whole = row-whole X N good left cids ls are in
        let none : row_parts X N left ls ≡ [] = subst (λ (n : ℕ). AreRoots X N n cids ls → row_parts X N n ls ≡ []) (sym zero_is) (λ a. row-last X N good cids ls a) are in
        let few : length (row_parts X N left ls) ≡ 0 = ap (λ (m : List (List Named)). length m) none in
        let light : row_weight (row_parts X N left ls) ≡ 0 = ap (λ (m : List (List Named)). row_weight m) none in
        sym (le-ltb (room + 74 * length cids) (row_weight ls) (omega (arith, has.0, whole, few, light, count)))

  -- the answer of the next row is that of a row
  module _ (left : ℕ) (cids : List Cid) (ls : List (List Named)) (are : AreRoots X N (suc left) cids ls) (room rest : ℕ) (below : List Cid) (o : Option ℕ) (some : o ≡ Some rest) (leaves : LeavesRoom X N (suc left) ls room [] below o) where
    has : (rest + row_least X N (suc left) ls ≡ room + 74 * length ls) × (below ≡ row_below X N (suc left) ls)
    has = subst (LeavesRoom X N (suc left) ls room [] below) some leaves

    next : AreRoots X N left below (row_parts X N (suc left) ls)
    next = subst (λ (c : List Cid). AreRoots X N left c (row_parts X N (suc left) ls)) (sym has.1) (row-roots X N good left cids ls are)

    one-answer : nat_lt (rest + 74 * length below) (row_weight (row_parts X N (suc left) ls)) ≡ nat_lt (room + 74 * length cids) (row_weight ls)
    one-answer =
        let whole = row-whole X N good (suc left) cids ls are in
        let n = roots_length X N (suc left) cids ls are in
        let m = roots_length X N left below (row_parts X N (suc left) ls) next in
        test-same _ _ _ _ (omega (arith, has.0, whole, n, m))

    pub next-value : (before mid now : Seen) (r : Result Bool StoreFault) → mid.told ≡ before.told → mid.faults ≡ before.faults
        → ((ms : List (List Named)) → AreRoots X N left below ms → Agrees mid.told (row_blocks X N left ms) → Stood mid.faults now.faults → ReadsOver mid.told (row_blocks X N left ms) (nat_lt (rest + 74 * length below) (row_weight ms)) r)
        → Agrees before.told (row_blocks X N (suc left) ls) → Stood before.faults now.faults → ReadsOver before.told (row_blocks X N (suc left) ls) (nat_lt (room + 74 * length cids) (row_weight ls)) r
    next-value before mid now r same calm value agrees stood =
        reads-more before.told mid.told (row_blocks X N left (row_parts X N (suc left) ls)) (row_blocks X N (suc left) ls) _ _ r same (row-lost X N left ls) one-answer
        (value (row_parts X N (suc left) ls) next (subst (λ (told : Told). Agrees told (row_blocks X N left (row_parts X N (suc left) ls))) (sym same) (Agrees_row X N before.told left ls agrees))
        (subst (λ (n : ℕ). Stood n now.faults) (sym calm) stood))

    pub next-touches : (before mid : Told) (t0 t1 t2 : ℕ) → mid ≡ before → t1 ≤ t0 + length cids → ((ms : List (List Named)) → AreRoots X N left below ms → Agrees mid (row_blocks X N left ms) → t2 ≤ t1 + length (row_blocks X N left ms))
        → Agrees before (row_blocks X N (suc left) ls) → t2 ≤ t0 + length (row_blocks X N (suc left) ls)
    next-touches before mid t0 t1 t2 same first touches agrees =
        let more = touches (row_parts X N (suc left) ls) next (subst (λ (told : Told). Agrees told (row_blocks X N left (row_parts X N (suc left) ls))) (sym same) (Agrees_row X N before left ls agrees)) in
        let n = roots_length X N (suc left) cids ls are in
        omega (arith, first, more, n, row-count X N left ls)

  -- the same where a row has so many levels below it, at least one
  module _ (cids : List Cid) (ls : List (List Named)) (room rest : ℕ) (below : List Cid) (o : Option ℕ) (some : o ≡ Some rest) where
    pub next-value-at : (left : ℕ) → 1 ≤ left → AreRoots X N left cids ls → LeavesRoom X N left ls room [] below o → (before mid now : Seen) (r : Result Bool StoreFault) → mid.told ≡ before.told → mid.faults ≡ before.faults
        → ((ms : List (List Named)) → AreRoots X N (left - 1) below ms → Agrees mid.told (row_blocks X N (left - 1) ms) → Stood mid.faults now.faults → ReadsOver mid.told (row_blocks X N (left - 1) ms) (nat_lt (rest + 74 * length below) (row_weight ms)) r)
        → Agrees before.told (row_blocks X N left ls) → Stood before.faults now.faults → ReadsOver before.told (row_blocks X N left ls) (nat_lt (room + 74 * length cids) (row_weight ls)) r
    next-value-at zero level are leaves before mid now r same calm value agrees stood = absurd (omega arith)
    next-value-at (suc left) level are leaves before mid now r same calm value agrees stood =
        next-value left cids ls are room rest below o some leaves before mid now r same calm
        (subst (λ (n : ℕ). (ms : List (List Named)) → AreRoots X N n below ms → Agrees mid.told (row_blocks X N n ms) → Stood mid.faults now.faults → ReadsOver mid.told (row_blocks X N n ms) (nat_lt (rest + 74 * length below) (row_weight ms)) r) (one-less left) value)
        agrees stood

    pub next-touches-at : (left : ℕ) → 1 ≤ left → AreRoots X N left cids ls → LeavesRoom X N left ls room [] below o → (before mid : Told) (t0 t1 t2 : ℕ) → mid ≡ before → t1 ≤ t0 + length cids
        → ((ms : List (List Named)) → AreRoots X N (left - 1) below ms → Agrees mid (row_blocks X N (left - 1) ms) → t2 ≤ t1 + length (row_blocks X N (left - 1) ms))
        → Agrees before (row_blocks X N left ls) → t2 ≤ t0 + length (row_blocks X N left ls)
    next-touches-at zero level are leaves before mid t0 t1 t2 same first touches agrees = absurd (omega arith)
    next-touches-at (suc left) level are leaves before mid t0 t1 t2 same first touches agrees =
        next-touches left cids ls are room rest below o some leaves before mid t0 t1 t2 same first
        (subst (λ (n : ℕ). (ms : List (List Named)) → AreRoots X N n below ms → Agrees mid (row_blocks X N n ms) → t2 ≤ t1 + length (row_blocks X N n ms)) (one-less left) touches)
        agrees

  -- a row that is loaded alone
  pub row-alone : (left : ℕ) (cids : List Cid) (ls : List (List Named)) → AreRoots X N left cids ls → (t0 t1 : ℕ) → t1 ≤ t0 + length cids → t1 ≤ t0 + length (row_blocks X N left ls)
  row-alone left cids ls are t0 t1 h = let n = roots_length X N left cids ls are in omega (arith, h, n, row-some X N left ls)

  -- ---- at the root

  module _ (left : ℕ) (root : Cid) (m : Meta) (l : List Named) (is : IsRoot X N (suc left) root m l) (limit : ℕ) (o : Option ℕ) (behind : o ≡ room_after limit (least_of (items_of X N (suc left) l))) where
    pub root-none : o ≡ None → true ≡ nat_lt limit (weight l)
    root-none fails =
        let out = none_left limit (least_of (items_of X N (suc left) l)) (sym fails ∙ behind) in
        let most = least-most X N good (suc left) root m l is in
        sym (lt-ltb limit (weight l) (omega (arith, out, most)))

    module _ (rest : ℕ) (below : List Cid) (some : o ≡ Some rest) (below_is : below ≡ shards_in (items_of X N (suc left) l)) where
      root-next : AreRoots X N left below (parts X N (suc left) l)
      root-next = subst (λ (c : List Cid). AreRoots X N left c (parts X N (suc left) l)) (sym below_is) (parts-roots X N good left root m l is)

      root-answer : nat_lt (rest + 74 * length below) (row_weight (parts X N (suc left) l)) ≡ nat_lt limit (weight l)
      root-answer =
          let here = left_is limit (least_of (items_of X N (suc left) l)) rest (sym some ∙ behind) in
          let whole = whole-weight X N good (suc left) root m l is in
          let n = roots_length X N left below (parts X N (suc left) l) root-next in
          test-same _ _ _ _ (omega (arith, here.is, whole, n))

      pub root-value : (before mid now : Seen) (r : Result Bool StoreFault) → mid.told ≡ before.told → mid.faults ≡ before.faults
          → ((ms : List (List Named)) → AreRoots X N left below ms → Agrees mid.told (row_blocks X N left ms) → Stood mid.faults now.faults → ReadsOver mid.told (row_blocks X N left ms) (nat_lt (rest + 74 * length below) (row_weight ms)) r)
          → Agrees before.told (shard X N (suc left) m l).blocks → Stood before.faults now.faults → ReadsOver before.told (shard X N (suc left) m l).blocks (nat_lt limit (weight l)) r
      root-value before mid now r same calm value agrees stood =
          reads-more before.told mid.told (row_blocks X N left (parts X N (suc left) l)) (shard X N (suc left) m l).blocks _ _ r same (shard-lost X N left m l) root-answer
          (value (parts X N (suc left) l) root-next (subst (λ (told : Told). Agrees told (row_blocks X N left (parts X N (suc left) l))) (sym same) (Agrees_parts X N before.told left m l agrees))
          (subst (λ (n : ℕ). Stood n now.faults) (sym calm) stood))

      pub root-touches : (before mid : Told) (t0 t1 t2 : ℕ) → mid ≡ before → t1 ≡ t0 + 1 → ((ms : List (List Named)) → AreRoots X N left below ms → Agrees mid (row_blocks X N left ms) → t2 ≤ t1 + length (row_blocks X N left ms))
          → Agrees before (shard X N (suc left) m l).blocks → t2 ≤ t0 + length (shard X N (suc left) m l).blocks
      root-touches before mid t0 t1 t2 same first touches agrees =
          let more = touches (parts X N (suc left) l) root-next (subst (λ (told : Told). Agrees told (row_blocks X N left (parts X N (suc left) l))) (sym same) (Agrees_parts X N before left m l agrees)) in
          omega (arith, first, more, shard-count X N left m l)

-- ---- few loads

-- what is left at the root, and two names for each shard below it
pub within-root : (items : List InSlot) (old below : List Cid) (rest limit : ℕ) (o : Option ℕ) → old ≡ [] → o ≡ Some rest → o ≡ room_after limit (least_of items) → below ≡ old ++ shards_in items → rest + 74 * length below ≤ limit
within-root items old below rest limit o empty some behind is =
    let here = left_is limit (least_of items) rest (sym some ∙ behind) in
    let count = ap (λ (l : List Cid). length l) is ∙ length-append old (shards_in items) in
    let none = ap (λ (l : List Cid). length l) empty in
    let few = few-shards items in
    omega (arith, here.is, count, none, few)

-- two names of each shard of the next row were taken from the room
pub few-next : (left t0 t1 t2 n m room rest : ℕ) → 1 ≤ left → t1 ≤ t0 + n → rest + 74 * m ≤ room + 74 * n → 74 * t2 ≤ 74 * (t1 + m) + (left - 1) * (rest + 74 * m) → 74 * t2 ≤ 74 * (t0 + n) + left * (room + 74 * n)
few-next left t0 t1 t2 n m room rest some first within few =
    let less : (left - 1) * (rest + 74 * m) ≤ (left - 1) * (room + 74 * n) = mul-le-mul (omega arith) within in
    let all : left * (room + 74 * n) ≡ (left - 1) * (room + 74 * n) + (room + 74 * n) = split left (room + 74 * n) some in
    omega (arith, first, within, few, less, all)
  where
    split : (k w : ℕ) → 1 ≤ k → k * w ≡ (k - 1) * w + w
    split zero w h = absurd (omega arith)
    split (suc k) w h = suc_mul k w ∙ ap (λ (n : ℕ). n * w + w) (sym (one-less k))
      where
        suc_mul : (k w : ℕ) → suc k * w ≡ k * w + w
        suc_mul k w = omega arith

-- the bound at the root
pub few-root : (t0 t2 blocks limit : ℕ) → t2 ≤ t0 + blocks → 74 * t2 ≤ 74 * (t0 + 1) + 7 * limit → t2 ≤ t0 + min blocks (4 * (limit / 37 + 1) + 8)
few-root t0 t2 blocks limit h few = omega (arith, h, few)
