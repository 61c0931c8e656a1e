-- The slots of hashes down to a level.
use Rattle.std.proofs.Common.{◌≡◌, ◌≢◌, ℕ, zero, suc, ◌+◌, ◌<◌, List, [], ◌∷◌, ◌++◌, length, get_or, map, refl, ap, arith, sym, ◌∙◌, add-one}
use Rattle.std.proofs.Common.{Bool, true, false, nat_eq, nat_lt, subst}
use Rattle.std.specs.Prelude.{IsTrue, ◌↔◌}
use Rattle.std.proofs.lemmas.Bool.Decides.{nat_tests}
use Rattle.std.proofs.lemmas.Bool.{false≢true}
use Rattle.std.proofs.lemmas.List.{map-append}
use Rattle.uf_tree.specs.Nodes.{InSlot}
use Rattle.uf_tree.specs.Roles.{IsOnWay}
use Rattle.uf_tree.specs.declared.nodes.Entry.{Entry}
use Rattle.uf_tree.specs.declared.nodes.Item.{Item}
use Rattle.uf_tree.specs.declared.nodes.Item.TheVariants.{Leaf, Sub}
use Rattle.std.specs.List.{range_with_len}
use Rattle.uf_murmur.specs.Slots.{slot}
use Rattle.std.proofs.Common.{Some, cond}
use Rattle.std.specs.FinMap.Entries.{find}
use Rattle.std.specs.List.{AllByRecursion}
use Rattle.std.specs.Ordering.{nat_cmp, eq_by_cmp}
use Rattle.uf_shard.specs.Placed.{way}
use Rattle.uf_shard.specs.Spots.{HasRoom, spot_of}
use Rattle.uf_shard.specs.declared.spot.ShardAnswer.{ShardAnswer}

one_more : (n a : ℕ) → range_with_len a (suc n) ≡ range_with_len a n ++ (a + n) ∷ []
one_more zero a = let e : a ≡ a + 0 = omega arith in ap (λ n. n ∷ []) e
one_more (suc n) a = ap (λ l. a ∷ l) (one_more n (a + 1) ∙ ap (λ m. range_with_len (a + 1) n ++ m ∷ []) (let e : a + 1 + n ≡ a + suc n = omega arith in e))

-- the way to one level more
pub way-more : (hash level : ℕ) → way hash (level + 1) ≡ way hash level ++ slot hash level ∷ []
way-more hash level =
    ap (way hash) (add-one level)
    ∙ ap (map (slot hash)) (one_more level 0)
    ∙ map-append (slot hash) (range_with_len 0 level) ((0 + level) ∷ [])
    ∙ ap (λ m. way hash level ++ slot hash m ∷ []) (let z : 0 + level ≡ level = omega arith in z)

range-length : (n a : ℕ) → length (range_with_len a n) ≡ n
range-length zero a = refl
range-length (suc n) a = ap suc (range-length n (a + 1))

map-length : (f : ℕ → ℕ) (l : List ℕ) → length (map f l) ≡ length l
map-length f [] = refl
map-length f (x ∷ l) = ap suc (map-length f l)

pub way-length : (hash level : ℕ) → length (way hash level) ≡ level
way-length hash level = map-length (slot hash) (range_with_len 0 level) ∙ range-length level 0

at_range : (f : ℕ → ℕ) (n a k d : ℕ) → k < n → get_or (map f (range_with_len a n)) k d ≡ f (a + k)
at_range f zero a k d h = absurd (omega arith)
at_range f (suc n) a zero d h = ap f (let e : a ≡ a + 0 = omega arith in e)
at_range f (suc n) a (suc k) d h = at_range f n (a + 1) k d (omega arith) ∙ ap f (let e : a + 1 + k ≡ a + suc k = omega arith in e)

-- a slot on a way
pub way-at : (hash level k : ℕ) → k < level → get_or (way hash level) k 0 ≡ slot hash k
way-at hash level k h = at_range (slot hash) level 0 k 0 h ∙ ap (slot hash) (let e : 0 + k ≡ k = omega arith in e)

-- ways that part at a level above are two
pub parted : (other hash level k : ℕ) → k < level → slot other k ≢ slot hash k → way other level ≢ way hash level
parted other hash level k h apart e = apart (sym (way-at other level k h) ∙ ap (λ l. get_or l k 0) e ∙ way-at hash level k h)

-- ways that are one go on as one where the slots are the same
pub further : (other hash level : ℕ) → way other level ≡ way hash level → slot other level ≡ slot hash level → way other (level + 1) ≡ way hash (level + 1)
further other hash level e s =
    way-more other level ∙ ap (λ l. l ++ slot other level ∷ []) e ∙ ap (λ m. way hash level ++ m ∷ []) s ∙ sym (way-more hash level)

take_front : (a b : List ℕ) (x y : ℕ) → a ++ x ∷ [] ≡ b ++ y ∷ [] → length a ≡ length b → (a ≡ b) × (x ≡ y)
take_front [] [] x y e n = (refl, cc)
take_front [] (d ∷ b) x y e n = absurd (omega arith)
take_front (c ∷ a) [] x y e n = absurd (omega arith)
take_front (c ∷ a) (d ∷ b) x y e n =
    let head : c ≡ d = cc in
    let tail : a ++ x ∷ [] ≡ b ++ y ∷ [] = cc in
    let rest = take_front a b x y tail (omega arith) in
    (λ i. head i ∷ rest.0 i, rest.1)

-- an item's way is the way above and its slot
pub on_way : (other hash level s : ℕ) → way other level ≡ way hash level → slot other level ≡ s → way other (length (way hash level) + 1) ≡ way hash level ++ s ∷ []
on_way other hash level s e k =
    ap (λ n. way other (n + 1)) (way-length hash level) ∙ way-more other level ∙ ap (λ l. l ++ slot other level ∷ []) e ∙ ap (λ m. way hash level ++ m ∷ []) k

pub from_way : (other hash level s : ℕ) → way other (length (way hash level) + 1) ≡ way hash level ++ s ∷ [] → (way other level ≡ way hash level) × (slot other level ≡ s)
from_way other hash level s e =
    take_front (way other level) (way hash level) (slot other level) s (sym (way-more other level) ∙ ap (λ n. way other (n + 1)) (sym (way-length hash level)) ∙ e) (way-length other level ∙ sym (way-length hash level))

tested : (a b : ℕ) → nat_eq a b ≡ true → a ≡ b
tested a b h = grind (arith, nat_tests)

tests : (a b : ℕ) → a ≡ b → nat_eq a b ≡ true
tests a b h = grind (arith, nat_tests)

-- from the test of two slots
pub apart : (other hash level k x y : ℕ) → k < level → x ≡ slot other k → y ≡ slot hash k → x ≢ y → IsTrue false ↔ (way other level ≡ way hash level)
apart other hash level k x y low p q test = (λ f. absurd (false≢true f), λ e. absurd (parted other hash level k low (λ same. test (p ∙ same ∙ sym q)) e))

pub same_slots : (other hash k x y : ℕ) → x ≡ slot other k → y ≡ slot hash k → x ≡ y → slot other k ≡ slot hash k
same_slots other hash k x y p q test = sym p ∙ test ∙ q

module _ (N : List ℕ → ℕ) (hash level : ℕ) where
  -- a name that goes the way stands there where its slot is the item's
  pub leaf-then : (s sl other : ℕ) (shares : Bool) (name : List ℕ) (e : Entry) (p : InSlot) → p ≡ (s, Leaf name e) → other ≡ N name → IsTrue shares ↔ (way other level ≡ way hash level) → shares ≡ true
      → sl ≡ slot other level → IsTrue (nat_eq sl s) ↔ IsOnWay N (way hash level) p
  leaf-then s sl other shares name e p is same iff holds at = subst (λ (p : InSlot). IsTrue (nat_eq sl s) ↔ IsOnWay N (way hash level) p) (sym is) (
    λ t. subst (λ (h : ℕ). way h (length (way hash level) + 1) ≡ way hash level ++ s ∷ []) same (on_way other hash level s (iff.0 holds) (sym at ∙ tested sl s t)),
    λ k. tests sl s (at ∙ (from_way other hash level s (subst (λ (h : ℕ). way h (length (way hash level) + 1) ≡ way hash level ++ s ∷ []) (sym same) k)).1),
  )

  pub leaf-else : (s other : ℕ) (shares : Bool) (name : List ℕ) (e : Entry) (p : InSlot) → p ≡ (s, Leaf name e) → other ≡ N name → IsTrue shares ↔ (way other level ≡ way hash level) → shares ≡ false
      → IsTrue shares ↔ IsOnWay N (way hash level) p
  leaf-else s other shares name e p is same iff fails = subst (λ (p : InSlot). IsTrue shares ↔ IsOnWay N (way hash level) p) (sym is) (
    λ t. absurd (false≢true (sym fails ∙ t)),
    λ k. iff.1 (from_way other hash level s (subst (λ (h : ℕ). way h (length (way hash level) + 1) ≡ way hash level ++ s ∷ []) (sym same) k)).0,
  )

  low_test : nat_lt level 7 ≡ true → level < 7
  low_test h = grind (arith, nat_tests)

  low_tests : level < 7 → nat_lt level 7 ≡ true
  low_tests h = grind (arith, nat_tests)

  -- a shard stands below a level less than 7
  pub sub-there : (s : ℕ) (e : Entry) (p : InSlot) → p ≡ (s, Sub e) → level < 8 → IsTrue (nat_lt level 7) ↔ IsOnWay N (way hash level) p
  sub-there s e p is small = subst (λ (p : InSlot). IsTrue (nat_lt level 7) ↔ IsOnWay N (way hash level) p) (sym is) (
    λ t seven. let low : level < 7 = low_test t in absurd (omega (arith, seven, way-length hash level)),
    λ k. low_tests (let no : level ≢ 7 = (λ seven. k (way-length hash level ∙ seven)) in omega (arith, no)),
  )

  -- no shard stands below level 7
  pub room : (s : ℕ) (name : List ℕ) (items : List InSlot) → level < 8 → AllByRecursion (IsOnWay N (way hash level)) items → HasRoom level (spot_of name (find nat_cmp s items))
  room s name [] small h = tt
  room s name (p ∷ items) small h = elim (eq_by_cmp nat_cmp s p.0) as (λ b. HasRoom level (spot_of name (cond b (Some p.1) (find nat_cmp s items)))) [
    | true ↦ by p.1 h.0
    | false ↦ room s name items small h.1
  ]
    where
      by : (x : Item) → IsOnWay N (way hash level) (p.0, x) → HasRoom level (spot_of name (Some x))
      by (Leaf n e) k = tt
      by (Sub e) k = let no : level ≢ 7 = (λ seven. k (way-length hash level ∙ seven)) in omega (arith, no)

  pub room_at : (s : ℕ) (name : List ℕ) (items slice : List InSlot) (spot : ShardAnswer) → level < 8 → slice ≡ items → AllByRecursion (IsOnWay N (way hash level)) items → spot ≡ spot_of name (find nat_cmp s slice) → HasRoom level spot
  room_at s name items slice spot small same on is = subst (HasRoom level) (sym is) (subst (λ (l : List InSlot). HasRoom level (spot_of name (find nat_cmp s l))) (sym same) (room s name items small on))
