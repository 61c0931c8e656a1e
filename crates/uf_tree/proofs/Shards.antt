-- Blocks of shards.
use Rattle.std.proofs.Common.{◌≡◌, ◌≢◌, ℕ, zero, suc, get_or, ◌+◌, ◌/◌, ◌%◌, ◌^◌, ◌<◌, ◌≤◌, List, [], ◌∷◌, ◌++◌, length, map, refl, ap, arith, subst, sym, ◌∙◌, ◌⊎◌, inl, inr, Ok, Err, Result, Bool, true, cond, Some, None, nat_eq, Less, Equal, Greater}
use Rattle.std.specs.Prelude.{◌&&◌, IfOk, IsTrue, MatchResult}
use Rattle.std.specs.Cmp.{nat_cmp_total}
use Rattle.std.specs.Cmp.Lexicographic.{slice_cmp}
use Rattle.std.specs.List.{AllByRecursion}
use Rattle.std.specs.Ordering.{is_lt, is_le, nat_cmp, ordering_then}
use Rattle.std.proofs.lemmas.Bool.{le-ltb, lt-ltb, eq-eqb, cases_lt}
use Rattle.std.proofs.lemmas.Bool.Decides.{nat_tests}
use Rattle.std.proofs.lemmas.Str.{IsUtf8-from_is_utf8, IsUtf8-append, IsUtf8-from_ascii, IsUtf8-nil}
use Rattle.std.specs.Str.{IsUtf8}
use Rattle.uf_cid.specs.declared.bytes.Memory.{Memory}
use Rattle.uf_cid.specs.declared.bytes.StrictFault.{StrictFault}
use Rattle.uf_cid.specs.declared.bytes.StrictFault.TheVariants as strict
use Rattle.uf_dagpb.specs.declared.node.Link.{Link}
use Rattle.uf_dagpb.specs.declared.node.Node.{Node}
use Rattle.uf_dagpb.specs.Spelling.{node_bytes, are_sorted, AreLinks, IsLink, IsNode}
use Rattle.uf_message.specs.Spelling.{message_bytes, IsMessage}
use Rattle.uf_message.specs.Strict.{GivesValue}
use Rattle.uf_message.proofs.Again.{one_message}
use Rattle.uf_message.specs.declared.message.Message.{Message}
use Rattle.uf_tree.specs.declared.meta.Meta.{Meta}
use Rattle.uf_tree.specs.declared.nodes.ShardNode.{ShardNode}
use Rattle.uf_tree.specs.Codecs.{MetaOf, Reads, meta_in, shard_dag, shard_node_block, shard_spelling}
use Rattle.uf_tree.specs.Metas.{is_meta}
use Rattle.uf_tree.specs.Nodes.{InSlot, bitfield, hex_digit, item_entry, item_name, shard_block, shard_message, slot_digits, slot_link}
use Rattle.uf_tree.specs.Rising.{rises}
use Rattle.uf_tree.specs.Validity.{IsEntry, IsInSlot, IsItem, IsShard, IsShardNode}
use Rattle.uf_tree.specs.declared.nodes.Item.{Item}
use Rattle.uf_tree.specs.declared.nodes.Item.TheVariants.{Leaf, Sub}
use Rattle.uf_tree.proofs.Reading.{node_refused, node_read}
use Rattle.uf_tree.proofs.Rises.{rises-sorted}
use Rattle.uf_tree.proofs.MetaNumbers.{mode_fits, nanos_fit, seconds_fit}
use Rattle.uf_tree.proofs.Sizes.{bitfield_length, shard_length, name_length}
use Rattle.uf_tree.proofs.Twins.{both_true}

-- ---- written

pub shard_is : (r : Result (List ℕ) Memory) (m : Meta) (items first second : List InSlot) (content slice : List ℕ) → first ≡ items → second ≡ items → content ≡ shard_spelling m first → slice ≡ content
    → IfOk r (λ b. b ≡ node_bytes (record { links = map slot_link second; content = Some slice })) → IfOk r (λ b. b ≡ shard_block m items)
unfolding shard_block
shard_is (Err e) m items first second content slice a b c s k = tt
shard_is (Ok x) m items first second content slice a b c s k =
    k ∙ ap (λ (l : List InSlot). node_bytes (record { links = map slot_link l; content = Some slice })) b
    ∙ ap (λ (y : List ℕ). node_bytes (record { links = map slot_link items; content = Some y })) (s ∙ c ∙ ap (shard_spelling m) a)

pub shard_small : (r : Result (List ℕ) Memory) (m : Meta) (items : List InSlot) → IsShard items → IfOk r (λ b. b ≡ shard_block m items) → IfOk r (λ b. length b ≤ 2097152)
shard_small (Err e) m items h k = tt
shard_small (Ok b) m items h k = omega (arith, shard_length m items h, ap length k)

-- ---- digits

digit_low : (n : ℕ) → n < 10 → hex_digit n ≡ 48 + n
digit_low n h = ap (λ b. cond b (48 + n) (55 + n)) (lt-ltb n 10 h)

digit_high : (n : ℕ) → 10 ≤ n → hex_digit n ≡ 55 + n
digit_high n h = ap (λ b. cond b (48 + n) (55 + n)) (le-ltb n 10 h)

pub digit_bounds : (n : ℕ) → n < 16 → ((48 ≤ hex_digit n) × (hex_digit n ≤ 57) × (hex_digit n ≡ 48 + n)) ⊎ ((65 ≤ hex_digit n) × (hex_digit n ≤ 70) × (hex_digit n ≡ 55 + n))
digit_bounds n h = by (cases_lt n 10)
  where
    by : (n < 10) ⊎ (10 ≤ n) → ((48 ≤ hex_digit n) × (hex_digit n ≤ 57) × (hex_digit n ≡ 48 + n)) ⊎ ((65 ≤ hex_digit n) × (hex_digit n ≤ 70) × (hex_digit n ≡ 55 + n))
    by (inl low) = let e : hex_digit n ≡ 48 + n = digit_low n low in inl (omega (arith, e), omega (arith, e), e)
    by (inr high) = let e : hex_digit n ≡ 55 + n = digit_high n high in inr (omega (arith, e), omega (arith, e), e)

digit_ascii : (n : ℕ) → n < 16 → hex_digit n < 128
digit_ascii n h = by (digit_bounds n h)
  where
    by : ((48 ≤ hex_digit n) × (hex_digit n ≤ 57) × (hex_digit n ≡ 48 + n)) ⊎ ((65 ≤ hex_digit n) × (hex_digit n ≤ 70) × (hex_digit n ≡ 55 + n)) → hex_digit n < 128
    by (inl x) = omega (arith, x.1)
    by (inr x) = omega (arith, x.1)

pub digits_rise : (m n : ℕ) → m < n → n < 16 → hex_digit m < hex_digit n
digits_rise m n h k = by (digit_bounds m (omega arith)) (digit_bounds n k)
  where
    by : ((48 ≤ hex_digit m) × (hex_digit m ≤ 57) × (hex_digit m ≡ 48 + m)) ⊎ ((65 ≤ hex_digit m) × (hex_digit m ≤ 70) × (hex_digit m ≡ 55 + m))
        → ((48 ≤ hex_digit n) × (hex_digit n ≤ 57) × (hex_digit n ≡ 48 + n)) ⊎ ((65 ≤ hex_digit n) × (hex_digit n ≤ 70) × (hex_digit n ≡ 55 + n)) → hex_digit m < hex_digit n
    by (inl x) (inl y) = omega (arith, x.2, y.2)
    by (inl x) (inr y) = omega (arith, x.1, y.0)
    by (inr x) (inl y) = absurd (omega (arith, x.2, y.2, x.0, y.1))
    by (inr x) (inr y) = omega (arith, x.2, y.2)

pub one_digit : (m n : ℕ) → m < 16 → n < 16 → hex_digit m ≡ hex_digit n → m ≡ n
one_digit m n h k e = by (cases_lt m n) (cases_lt n m)
  where
    by : (m < n) ⊎ (n ≤ m) → (n < m) ⊎ (m ≤ n) → m ≡ n
    by (inl lt) other = let r : hex_digit m < hex_digit n = digits_rise m n lt k in absurd (omega (arith, e))
    by (inr le) (inl gt) = let r : hex_digit n < hex_digit m = digits_rise n m gt h in absurd (omega (arith, e))
    by (inr le) (inr ge) = omega arith

-- ---- the node is one

pub not_text : (name : List ℕ) → (IsUtf8 name → ⊥) → (x : Item) → IsItem x → item_name x ≢ name
not_text name bad (Leaf n e) h same = bad (subst IsUtf8 same (IsUtf8-from_is_utf8 n (both_true _ _ h.name).1))
not_text name bad (Sub e) h same = bad (subst IsUtf8 same IsUtf8-nil)

text_of_item : (x : Item) → IsItem x → IsUtf8 (item_name x)
text_of_item (Leaf n e) h = IsUtf8-from_is_utf8 n (both_true _ _ h.name).1
text_of_item (Sub e) h = IsUtf8-nil

entry_of_item : (x : Item) → IsItem x → IsEntry (item_entry x)
entry_of_item (Leaf n e) h = h.entry
entry_of_item (Sub e) h = h

two_ascii : (a b : ℕ) → a < 128 → b < 128 → (i : ℕ) → get_or (a ∷ b ∷ []) i 0 < 128
two_ascii a b h k zero = h
two_ascii a b h k (suc zero) = k
two_ascii a b h k (suc (suc i)) = omega arith

digits_text : (s : ℕ) → s < 256 → IsUtf8 (slot_digits s)
digits_text s h = IsUtf8-from_ascii (slot_digits s) (two_ascii (hex_digit (s / 16)) (hex_digit (s % 16)) (digit_ascii (s / 16) (omega arith)) (digit_ascii (s % 16) (omega arith)))

slot_is_link : (p : InSlot) → IsInSlot p → IsLink (slot_link p)
slot_is_link p h =
    let e = entry_of_item p.1 h.item in
    record { cid = e.cid; name = IsUtf8-append (slot_digits p.0) (item_name p.1) (digits_text p.0 h.slot) (text_of_item p.1 h.item); tsize = e.tsize }

slots_are_links : (l : List InSlot) → AllByRecursion IsInSlot l → AreLinks (map slot_link l)
slots_are_links [] h = tt
slots_are_links (p ∷ l) h = (slot_is_link p h.0, slots_are_links l h.1)

cmp_less : (a b : ℕ) → a < b → nat_cmp a b ≡ Less
cmp_less a b h = ap (λ t. cond t Less (cond (nat_eq a b) Equal Greater)) (lt-ltb a b h)

cmp_same : (a b : ℕ) → a ≡ b → nat_cmp a b ≡ Equal
cmp_same a b e = ap (λ t. cond t Less (cond (nat_eq a b) Equal Greater)) (le-ltb a b (omega arith)) ∙ ap (λ t. cond t Equal Greater) (eq-eqb a b e)

lower : (a b : ℕ) → is_lt (nat_cmp a b) ≡ true → a < b
lower a b h = grind (arith, nat_tests)

names_in_order : (a b : ℕ) (x y : List ℕ) → a < b → b < 256 → is_le (slice_cmp nat_cmp (slot_digits a ++ x) (slot_digits b ++ y)) ≡ true
names_in_order a b x y lt small = by (cases_lt (a / 16) (b / 16))
  where
    by : (a / 16 < b / 16) ⊎ (b / 16 ≤ a / 16) → is_le (slice_cmp nat_cmp (slot_digits a ++ x) (slot_digits b ++ y)) ≡ true
    by (inl high) =
        let rest = ordering_then (nat_cmp (hex_digit (a % 16)) (hex_digit (b % 16))) (slice_cmp nat_cmp x y) in
        ap (λ o. is_le (ordering_then o rest)) (cmp_less (hex_digit (a / 16)) (hex_digit (b / 16)) (digits_rise (a / 16) (b / 16) high (omega arith)))
    by (inr le) =
        let same : a / 16 ≡ b / 16 = omega arith in
        let less : a % 16 < b % 16 = omega arith in
        let rest = ordering_then (nat_cmp (hex_digit (a % 16)) (hex_digit (b % 16))) (slice_cmp nat_cmp x y) in
        ap (λ o. is_le (ordering_then o rest)) (cmp_same (hex_digit (a / 16)) (hex_digit (b / 16)) (ap hex_digit same))
        ∙ ap (λ o. is_le (ordering_then o (slice_cmp nat_cmp x y))) (cmp_less (hex_digit (a % 16)) (hex_digit (b % 16)) (digits_rise (a % 16) (b % 16) less (omega arith)))

slots_sorted : (l : List InSlot) → rises nat_cmp l ≡ true → AllByRecursion IsInSlot l → are_sorted (map slot_link l) ≡ true
slots_sorted [] h all = refl
slots_sorted (a ∷ []) h all = refl
slots_sorted (a ∷ b ∷ l) h all =
    let parts = both_true (is_lt (nat_cmp a.0 b.0)) (rises nat_cmp (b ∷ l)) h in
    let again = slots_sorted (b ∷ l) parts.1 all.1 in
    ap (λ (x : Bool). x && are_sorted (map slot_link (b ∷ l))) (names_in_order a.0 b.0 (item_name a.1) (item_name b.1) (lower a.0 b.0 parts.0) all.1.0.slot) ∙ again

pub shard_dag-node : (node : ShardNode) → IsShardNode node → IsNode (shard_dag node)
shard_dag-node node h = record {
  links = slots_are_links node.items h.items.each;
  sorted = slots_sorted node.items (rises-sorted nat_cmp_total node.items ∙ h.items.sorted) h.items.each;
}

-- ---- the message of the metadata

abbrev slots_of : List InSlot → List ℕ
slots_of items = map (λ (p : InSlot). p.0) items

-- a bitfield is no longer than 64 bits can tell
short_bits : (slots : List ℕ) → length (bitfield slots) < 2 ^ 64
short_bits slots = let few : length (bitfield slots) ≤ 32 = bitfield_length slots in omega arith

fits : (m : Meta) (items : List InSlot) → IsTrue (is_meta m) → IsMessage (shard_message m (map (λ (p : InSlot). p.0) items))
fits m items h = record {
  content = short_bits (map (λ (p : InSlot). p.0) items);
  filesize = tt;
  blocksizes = tt;
  hash_type = omega arith;
  fanout = omega arith;
  mode = mode_fits m h;
  seconds = seconds_fit m h;
  nanos = nanos_fit m h;
}

pub meta_refused : (content : List ℕ) (f : StrictFault) → ((n : Message) → IsMessage n → content ≡ message_bytes n → GivesValue (Err f) n) → MetaOf content (Err f)
meta_refused content strict.Memory only = inl refl
meta_refused content strict.NotCanonical only = inr (λ m items h e. only (shard_message m (map (λ (p : InSlot). p.0) items)) (fits m items h) e)

pub the_meta : (content : List ℕ) (n : Message) (meta : Meta) → ((n' : Message) → IsMessage n' → content ≡ message_bytes n' → GivesValue (Ok n) n') → meta ≡ meta_in n → MetaOf content (Ok meta)
the_meta content n meta only its m items h e = sym (its ∙ ap meta_in (only (shard_message m (map (λ (p : InSlot). p.0) items)) (fits m items h) e))

-- ---- read

pub shard_refused : (bytes : List ℕ) (f : StrictFault) → (f ≡ strict.Memory) ⊎ ((n : Node) → IsNode n → bytes ≢ node_bytes n) → Reads IsShardNode shard_node_block bytes (Err f)
unfolding shard_block
shard_refused bytes f h = node_refused IsShardNode shard_dag shard_dag-node bytes f h

pub shard_read : (bytes : List ℕ) (node : Node) (r : Result ShardNode StrictFault) → length bytes < 2 ^ 64 → IsNode node × (bytes ≡ node_bytes node) → Reads IsShardNode shard_dag node r → Reads IsShardNode shard_node_block bytes r
unfolding shard_block
shard_read bytes node r small h k = node_read IsShardNode shard_dag shard_dag-node bytes node small h.0 h.1 r k

same_item : (x y : Item) → IsItem x → IsItem y → item_name x ≡ item_name y → item_entry x ≡ item_entry y → x ≡ y
same_item (Leaf n e) (Leaf m f) h k a b = λ i. Leaf (a i) (b i)
same_item (Leaf n e) (Sub f) h k a b = let some : 1 ≤ length n = (name_length n h.name).some in let none : length n ≡ 0 = ap length a in absurd (omega arith)
same_item (Sub e) (Leaf m f) h k a b = let some : 1 ≤ length m = (name_length m k.name).some in let none : 0 ≡ length m = ap length a in absurd (omega arith)
same_item (Sub e) (Sub f) h k a b = λ i. Sub (b i)

pub same_slot : (s t : ℕ) → s < 256 → t < 256 → hex_digit (s / 16) ≡ hex_digit (t / 16) → hex_digit (s % 16) ≡ hex_digit (t % 16) → s ≡ t
same_slot s t h k a b =
    let high : s / 16 ≡ t / 16 = one_digit (s / 16) (t / 16) (omega arith) (omega arith) a in
    let low : s % 16 ≡ t % 16 = one_digit (s % 16) (t % 16) (omega arith) (omega arith) b in
    omega arith

record Same (a b c d : ℕ) (x y : List ℕ) : Type 0 where
  first : a ≡ c
  second : b ≡ d
  rest : x ≡ y

parts_of : (a b c d : ℕ) (x y : List ℕ) → a ∷ b ∷ x ≡ c ∷ d ∷ y → Same a b c d x y
parts_of a b c d x y e = record { first = cc; second = cc; rest = cc }

one_slot : (p q : InSlot) → IsInSlot p → IsInSlot q → slot_link p ≡ slot_link q → p ≡ q
one_slot p q h k e =
    let names = parts_of (hex_digit (p.0 / 16)) (hex_digit (p.0 % 16)) (hex_digit (q.0 / 16)) (hex_digit (q.0 % 16)) (item_name p.1) (item_name q.1) (ap (λ (l : Link). l.name) e) in
    let slot : p.0 ≡ q.0 = same_slot p.0 q.0 h.slot k.slot names.first names.second in
    let entry : item_entry p.1 ≡ item_entry q.1 = λ i. record { cid = (e i).cid; tsize = (e i).tsize } in
    let item : p.1 ≡ q.1 = same_item p.1 q.1 h.item k.item names.rest entry in
    λ i. (slot i, item i)

pub one_shard : (l m : List InSlot) → AllByRecursion IsInSlot l → AllByRecursion IsInSlot m → map slot_link l ≡ map slot_link m → l ≡ m
one_shard [] [] h k e = refl
one_shard [] (q ∷ m) h k e = absurd cc
one_shard (p ∷ l) [] h k e = absurd cc
one_shard (p ∷ l) (q ∷ m) h k e =
    let again = one_shard l m h.1 k.1 in
    let first : slot_link p ≡ slot_link q = heads (slot_link p) (slot_link q) (map slot_link l) (map slot_link m) e in
    let rest : map slot_link l ≡ map slot_link m = tails (slot_link p) (slot_link q) (map slot_link l) (map slot_link m) e in
    let one : p ≡ q = one_slot p q h.0 k.0 first in
    let others : l ≡ m = again rest in
    λ i. one i ∷ others i
  where
    heads : (a b : Link) (x y : List Link) → a ∷ x ≡ b ∷ y → a ≡ b
    heads a b x y e = cc

    tails : (a b : Link) (x y : List Link) → a ∷ x ≡ b ∷ y → x ≡ y
    tails a b x y e = cc

abbrev of_parts : List InSlot → Meta → ShardNode
of_parts items meta = record { items = items; meta = meta }

some_is : (x y : List ℕ) → Some x ≡ Some y → x ≡ y
some_is x y e = cc

-- the content that a shard's node has
content_is : (node : Node) (content slice : List ℕ) (v : ShardNode) → node.content ≡ Some content → slice ≡ content → node ≡ shard_dag v → slice ≡ shard_spelling v.meta v.items
content_is node content slice v c s e = s ∙ some_is content (shard_spelling v.meta v.items) (sym c ∙ ap (λ (n : Node). n.content) e)

pub bare_node : (node : Node) → node.content ≡ None → Reads IsShardNode shard_dag node (Err strict.NotCanonical)
bare_node node c = inr (λ v h e. by (shard_spelling v.meta v.items) (sym c ∙ ap (λ (n : Node). n.content) e))
  where
    by : (x : List ℕ) → None ≡ Some x → ⊥
    by x e = cc

pub content_refused : (node : Node) (content slice : List ℕ) (f : StrictFault) → node.content ≡ Some content → slice ≡ content → MetaOf slice (Err f) → Reads IsShardNode shard_dag node (Err f)
content_refused node content slice f c s (inl m) = inl m
content_refused node content slice f c s (inr h) = inr (λ v k e. h v.meta v.items k.meta (content_is node content slice v c s e))

pub links_refused : (node : Node) (links : List Link) (f : StrictFault) → links ≡ node.links → Reads (AllByRecursion IsInSlot) (map slot_link) links (Err f) → Reads IsShardNode shard_dag node (Err f)
links_refused node links f s (inl m) = inl m
links_refused node links f s (inr h) = inr (λ v k e. h v.items k.items.each (s ∙ ap (λ (n : Node). n.links) e))

pub shard_of_parts : (node : Node) (content slice again : List ℕ) (links : List Link) (items : List InSlot) (meta : Meta) (r : Result ShardNode StrictFault) → node.content ≡ Some content → slice ≡ content → again ≡ content
    → links ≡ node.links → MetaOf slice (Ok meta) → AllByRecursion IsInSlot items × (links ≡ map slot_link items)
    → MatchResult r
    (λ v. (v ≡ of_parts items meta) × IsShardNode (of_parts items meta) × (again ≡ shard_spelling meta items))
    (λ f. (f ≡ strict.Memory) ⊎ (IsShardNode (of_parts items meta) → again ≢ shard_spelling meta items))
    → Reads IsShardNode shard_dag node r
shard_of_parts node content slice again links items meta (Ok v) c s a l h k whole =
    let spelt : node.content ≡ Some (shard_spelling meta items) = c ∙ ap (λ (x : List ℕ). Some x) (sym a ∙ whole.2) in
    let linked : node.links ≡ map slot_link items = sym l ∙ k.1 in
    let built : node ≡ shard_dag (of_parts items meta) = λ i. record { links = linked i; content = spelt i } in
    (subst IsShardNode (sym whole.0) whole.1, built ∙ ap shard_dag (sym whole.0))
shard_of_parts node content slice again links items meta (Err f) c s a l h k (inl m) = inl m
shard_of_parts node content slice again links items meta (Err f) c s a l h k (inr none) = inr (λ v j e. by v j e (same v j e))
  where
    same : (v : ShardNode) → IsShardNode v → node ≡ shard_dag v → v ≡ of_parts items meta
    same v j e =
        let listed : v.items ≡ items = one_shard v.items items j.items.each k.0 (sym (ap (λ (n : Node). n.links) e) ∙ sym l ∙ k.1) in
        let carried : v.meta ≡ meta = h v.meta v.items j.meta (content_is node content slice v c s e) in
        λ i. record { items = listed i; meta = carried i }

    by : (v : ShardNode) → IsShardNode v → node ≡ shard_dag v → v ≡ of_parts items meta → ⊥
    by v j e same = none (subst IsShardNode same j) (a ∙ sym s ∙ content_is node content slice v c s e ∙ ap (λ (x : ShardNode). shard_spelling x.meta x.items) same)

-- a node of DAG-PB is that of one shard
pub one_shard_node : (a b : ShardNode) → IsShardNode a → IsShardNode b → shard_dag a ≡ shard_dag b → a ≡ b
one_shard_node a b h k e =
    let listed : a.items ≡ b.items = one_shard a.items b.items h.items.each k.items.each (ap (λ (n : Node). n.links) e) in
    let spelt : shard_spelling a.meta a.items ≡ shard_spelling b.meta b.items = some_is (shard_spelling a.meta a.items) (shard_spelling b.meta b.items) (ap (λ (n : Node). n.content) e) in
    let message : shard_message a.meta (slots_of a.items) ≡ shard_message b.meta (slots_of b.items) =
    one_message (shard_message a.meta (slots_of a.items)) (shard_message b.meta (slots_of b.items)) (fits a.meta a.items h.meta) (fits b.meta b.items k.meta) spelt in
    let carried : a.meta ≡ b.meta = ap meta_in message in
    λ i. record { items = listed i; meta = carried i }
