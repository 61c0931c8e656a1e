-- How long canonical blocks are.
use Rattle.std.proofs.Common.{◌≡◌, ℕ, zero, suc, ◌+◌, ◌-◌, ◌*◌, ◌/◌, ◌%◌, ◌<◌, ◌≤◌, List, [], ◌∷◌, ◌++◌, length, map, refl, ap, arith, ◌⊎◌, inl, inr, Bool, true, false, cond, length-append, Option, None, Some}
use Rattle.std.specs.Prelude.{◌&&◌, ◌==◌, IsTrue, nat_lt, flat_map, sum}
use Rattle.std.specs.Int.{w64, cast_unsigned}
use Rattle.std.specs.List.{AllByRecursion, range_with_len}
use Rattle.std.specs.Ordering.{nat_cmp, is_lt}
use Rattle.std.specs.FinMap.Entries.{is_sorted, below_all}
use Rattle.std.proofs.lemmas.Bool.{cases_lt}
use Rattle.std.proofs.lemmas.Bool.Decides.{nat_tests}
use Rattle.std.proofs.lemmas.List.{length-map}
use Rattle.std.proofs.lemmas.List.Sums.{sum_by-cons}
use Rattle.uf_cid.specs.Read.{IsCid}
use Rattle.uf_cid.specs.Cid.{cid_bytes}
use Rattle.uf_varint.specs.Varint.{varint, varint_within}
use Rattle.uf_varint.specs.Fields.{content_field, number_field, optional}
use Rattle.uf_varint.proofs.Varints.{below, not_below}
use Rattle.uf_dagpb.specs.declared.node.Link.{Link}
use Rattle.uf_dagpb.specs.Spelling.{link_bytes, node_bytes}
use Rattle.uf_message.specs.Spelling.{fixed_field, message_bytes, mtime_bytes}
use Rattle.uf_message.specs.declared.message.Mtime.{Mtime}
use Rattle.uf_tree.specs.declared.meta.Meta.{Meta}
use Rattle.uf_tree.specs.declared.nodes.FileNode.{FileNode}
use Rattle.uf_tree.specs.declared.nodes.Item.{Item}
use Rattle.uf_tree.specs.declared.nodes.Item.TheVariants.{Leaf, Sub}
use Rattle.uf_tree.specs.declared.profile.Profile.{Profile}
use Rattle.uf_tree.specs.DirPlan.{weight, is_sharded}
use Rattle.uf_tree.specs.Names.{is_name}
use Rattle.uf_tree.specs.Nodes.{Named, InSlot, link_of, slot_link, slot_digits, without_zeros, bitfield, bitfield_byte, shard_message, file_message, dir_message, dir_block, shard_block, file_block}
use Rattle.uf_tree.specs.Profiles.{is_profile}
use Rattle.uf_tree.specs.Validity.{IsNamed, IsItem, IsInSlot, IsShard, IsPartLink, IsFileNode}
use Rattle.uf_tree.proofs.Canonical.{light}
use Rattle.uf_tree.proofs.Told.{kept}

-- varints
one_byte : (room n : ℕ) → n < 128 → length (varint_within room n) ≡ 1
unfolding varint_within
one_byte zero n h = refl
one_byte (suc room) n h = ap (λ b. length (cond b (n ∷ []) ((128 + n % 128) ∷ varint_within room (n / 128)))) (below n 128 h)

two_bytes : (n : ℕ) → n < 16384 → length (varint n) ≤ 2
unfolding varint varint_within
two_bytes n h = by (cases_lt n 128)
  where
    by : (n < 128) ⊎ (128 ≤ n) → length (cond (nat_lt n 128) (n ∷ []) ((128 + n % 128) ∷ varint_within 8 (n / 128))) ≤ 2
    by (inl low) = let e : length (cond (nat_lt n 128) (n ∷ []) ((128 + n % 128) ∷ varint_within 8 (n / 128))) ≡ 1 = ap (λ b. length (cond b (n ∷ []) ((128 + n % 128) ∷ varint_within 8 (n / 128)))) (below n 128 low) in omega arith
    by (inr high) =
        let e : length (cond (nat_lt n 128) (n ∷ []) ((128 + n % 128) ∷ varint_within 8 (n / 128))) ≡ suc (length (varint_within 8 (n / 128))) = ap (λ b. length (cond b (n ∷ []) ((128 + n % 128) ∷ varint_within 8 (n / 128)))) (not_below n 128 high) in
        let last : length (varint_within 8 (n / 128)) ≡ 1 = one_byte 8 (n / 128) (omega arith) in
        omega arith

ten_within : (room n : ℕ) → length (varint_within room n) ≤ suc room
unfolding varint_within
ten_within zero n = omega arith
ten_within (suc room) n = elim (nat_lt n 128) as (λ b. length (cond b (n ∷ []) ((128 + n % 128) ∷ varint_within room (n / 128))) ≤ suc (suc room)) [
  | true ↦ let few : 1 ≤ suc (suc room) = omega arith in few
  | false ↦ let rest : length (varint_within room (n / 128)) ≤ suc room = ten_within room (n / 128) in omega arith
]

ten_bytes : (n : ℕ) → length (varint n) ≤ 10
unfolding varint
ten_bytes n = ten_within 9 n

-- fields
content_length : (key v : ℕ) (bytes : List ℕ) → length (varint (length bytes)) ≤ v → length (content_field key bytes) ≤ 1 + v + length bytes
content_length key v bytes h = let e : length (content_field key bytes) ≡ suc (length (varint (length bytes))) + length bytes = length-append (key ∷ varint (length bytes)) bytes in omega arith

number_length : (key n : ℕ) → length (number_field key n) ≤ 11
number_length key n = let t : length (varint n) ≤ 10 = ten_bytes n in omega arith

-- the metadata of a message
abbrev pub meta_fields : Meta → List ℕ
meta_fields m = optional (number_field 0x38) m.mode ++ optional (λ t. content_field 0x42 (mtime_bytes t)) m.mtime

mode_length : (o : Option ℕ) → length (optional (number_field 0x38) o) ≤ 11
mode_length None = omega arith
mode_length (Some n) = number_length 0x38 n

nanos_length : (o : Option ℕ) → length (optional (fixed_field 0x15) o) ≤ 5
nanos_length None = omega arith
nanos_length (Some n) = let e : length (fixed_field 0x15 n) ≡ 5 = refl in omega arith

time_length : (t : Mtime) → length (content_field 0x42 (mtime_bytes t)) ≤ 27
unfolding mtime_bytes
time_length t =
    let a : length (number_field 0x08 (cast_unsigned w64 t.seconds)) ≤ 11 = number_length 0x08 (cast_unsigned w64 t.seconds) in
    let b : length (optional (fixed_field 0x15) t.nanos) ≤ 5 = nanos_length t.nanos in
    let all : length (mtime_bytes t) ≡ length (number_field 0x08 (cast_unsigned w64 t.seconds)) + length (optional (fixed_field 0x15) t.nanos) =
    length-append (number_field 0x08 (cast_unsigned w64 t.seconds)) (optional (fixed_field 0x15) t.nanos) in
    let field : length (content_field 0x42 (mtime_bytes t)) ≤ 1 + 10 + length (mtime_bytes t) = content_length 0x42 10 (mtime_bytes t) (ten_bytes _) in
    omega arith

mtime_length : (o : Option Mtime) → length (optional (λ t. content_field 0x42 (mtime_bytes t)) o) ≤ 27
mtime_length None = omega arith
mtime_length (Some t) = time_length t

pub meta_length : (m : Meta) → length (meta_fields m) ≤ 38
meta_length m =
    let a : length (optional (number_field 0x38) m.mode) ≤ 11 = mode_length m.mode in
    let b : length (optional (λ t. content_field 0x42 (mtime_bytes t)) m.mtime) ≤ 27 = mtime_length m.mtime in
    let all : length (meta_fields m) ≡ length (optional (number_field 0x38) m.mode) + length (optional (λ t. content_field 0x42 (mtime_bytes t)) m.mtime) =
    length-append (optional (number_field 0x38) m.mode) (optional (λ t. content_field 0x42 (mtime_bytes t)) m.mtime) in
    omega arith

-- a link, whose name has a length of n bytes
link_length : (v : ℕ) (l : Link) → IsCid l.cid → length (varint (length l.name)) ≤ v → length (link_bytes l) ≤ 50 + v + length l.name
unfolding varint
link_length v l cid h =
    let all : length (cid_bytes l.cid) ≡ 36 = (let d : length l.cid.digest ≡ 32 = cid.size in omega arith) in
    let one : length (varint (length (cid_bytes l.cid))) ≡ 1 = one_byte 9 (length (cid_bytes l.cid)) (omega arith) in
    let a : length (content_field 0x0a (cid_bytes l.cid)) ≤ 1 + 1 + length (cid_bytes l.cid) = content_length 0x0a 1 (cid_bytes l.cid) (omega arith) in
    let b : length (content_field 0x12 l.name) ≤ 1 + v + length l.name = content_length 0x12 v l.name h in
    let c : length (number_field 0x18 l.tsize) ≤ 11 = number_length 0x18 l.tsize in
    let e : length (link_bytes l) ≡ length (content_field 0x0a (cid_bytes l.cid) ++ content_field 0x12 l.name) + length (number_field 0x18 l.tsize) = length-append (content_field 0x0a (cid_bytes l.cid) ++ content_field 0x12 l.name) (number_field 0x18 l.tsize) in
    let f : length (content_field 0x0a (cid_bytes l.cid) ++ content_field 0x12 l.name) ≡ length (content_field 0x0a (cid_bytes l.cid)) + length (content_field 0x12 l.name) = length-append (content_field 0x0a (cid_bytes l.cid)) (content_field 0x12 l.name) in
    omega arith

abbrev links_bytes : List Link → List ℕ
links_bytes ls = flat_map (λ l. content_field 0x12 (link_bytes l)) ls

links_cons : (l : Link) (ls : List Link) → length (links_bytes (l ∷ ls)) ≡ length (content_field 0x12 (link_bytes l)) + length (links_bytes ls)
links_cons l ls = length-append (content_field 0x12 (link_bytes l)) (links_bytes ls)

-- a good name
pub record HasLength (name : List ℕ) : Type 0 where
  pub some : 1 ≤ length name
  pub short : length name ≤ 255

pub name_length : (name : List ℕ) → IsTrue (is_name name) → HasLength name
name_length name h = record { some = grind (arith, nat_tests); short = grind (arith, nat_tests) }

-- a directory's links by its weight
dir_links : (l : List Named) → AllByRecursion IsNamed l → 37 * length (links_bytes (map (λ (e : Named). link_of e.0 e.1) l)) ≤ 56 * weight l
dir_links [] h = omega arith
dir_links (e ∷ l) h =
    let name = name_length e.0 h.0.name in
    let some : 1 ≤ length e.0 = name.some in
    let short : length e.0 ≤ 255 = name.short in
    let link : length (link_bytes (link_of e.0 e.1)) ≤ 50 + 2 + length e.0 = link_length 2 (link_of e.0 e.1) h.0.entry.cid (two_bytes (length e.0) (omega arith)) in
    let here : length (content_field 0x12 (link_bytes (link_of e.0 e.1))) ≤ 1 + 2 + length (link_bytes (link_of e.0 e.1)) = content_length 0x12 2 (link_bytes (link_of e.0 e.1)) (two_bytes _ (omega arith)) in
    let rest : 37 * length (links_bytes (map (λ (e : Named). link_of e.0 e.1) l)) ≤ 56 * weight l = dir_links l h.1 in
    let all : length (links_bytes (map (λ (e : Named). link_of e.0 e.1) (e ∷ l))) ≡ length (content_field 0x12 (link_bytes (link_of e.0 e.1))) + length (links_bytes (map (λ (e : Named). link_of e.0 e.1) l)) = links_cons (link_of e.0 e.1) (map (λ (e : Named). link_of e.0 e.1) l) in
    let more : weight (e ∷ l) ≡ length e.0 + 36 + weight l = sum_by-cons (λ (e : Named). length e.0 + 36) e l in
    omega arith

pub dir_content : (m : Meta) → length (content_field 0x0a (message_bytes (dir_message m))) ≤ 60
unfolding message_bytes
dir_content m =
    let kind : length (number_field 0x08 1) ≤ 11 = number_length 0x08 1 in
    let fields : length (meta_fields m) ≤ 38 = meta_length m in
    let all : length (message_bytes (dir_message m)) ≡ length (number_field 0x08 1) + length (meta_fields m) = length-append (number_field 0x08 1) (meta_fields m) in
    let field : length (content_field 0x0a (message_bytes (dir_message m))) ≤ 1 + 10 + length (message_bytes (dir_message m)) = content_length 0x0a 10 (message_bytes (dir_message m)) (ten_bytes _) in
    omega arith

pub dir_length : (p : Profile) (m : Meta) (l : List Named) → IsTrue (is_profile p) → AllByRecursion IsNamed l → is_sharded p l ≡ false → length (dir_block m l) ≤ 2097152
unfolding dir_block node_bytes
dir_length p m l ok h basic =
    let links : 37 * length (links_bytes (map (λ (e : Named). link_of e.0 e.1) l)) ≤ 56 * weight l = dir_links l h in
    let few : weight l ≤ p.threshold = light p l basic in
    let most : p.threshold ≤ 1048576 = (kept p ok).threshold in
    let content : length (content_field 0x0a (message_bytes (dir_message m))) ≤ 60 = dir_content m in
    let all : length (dir_block m l) ≡ length (links_bytes (map (λ (e : Named). link_of e.0 e.1) l)) + length (content_field 0x0a (message_bytes (dir_message m))) = length-append (links_bytes (map (λ (e : Named). link_of e.0 e.1) l)) (content_field 0x0a (message_bytes (dir_message m))) in
    omega arith

-- links of at most n bytes each
many_links : (m : ℕ) (ls : List Link) → AllByRecursion (λ (l : Link). length (link_bytes l) ≤ m) ls → length (links_bytes ls) ≤ (m + 11) * length ls
many_links m [] h = omega arith
many_links m (l ∷ ls) h =
    let here : length (content_field 0x12 (link_bytes l)) ≤ 1 + 10 + length (link_bytes l) = content_length 0x12 10 (link_bytes l) (ten_bytes _) in
    let one : length (link_bytes l) ≤ m = h.0 in
    let rest : length (links_bytes ls) ≤ (m + 11) * length ls = many_links m ls h.1 in
    let all : length (links_bytes (l ∷ ls)) ≡ length (content_field 0x12 (link_bytes l)) + length (links_bytes ls) = links_cons l ls in
    more m (length ls) _ _ _ _ all here one rest
  where
    more : (m n a b c d : ℕ) → d ≡ a + b → a ≤ 1 + 10 + c → c ≤ m → b ≤ (m + 11) * n → d ≤ (m + 11) * suc n
    more m n a b c d e f g h = omega arith

-- slots that strictly rise below 256 are no more than 256
lower : (a b : ℕ) → is_lt (nat_cmp a b) ≡ true → a < b
lower a b h = grind (arith, nat_tests)

first_true : (a b : Bool) → a && b ≡ true → a ≡ true
first_true true b h = refl
first_true false b h = h

second_true : (a b : Bool) → a && b ≡ true → b ≡ true
second_true true b h = h
second_true false b h = absurd (no h)
  where
    no : false ≡ true → ⊥
    no e = cc

few_slots : (p : InSlot) (items : List InSlot) → IsTrue (is_sorted nat_cmp (p ∷ items)) → AllByRecursion IsInSlot (p ∷ items) → p.0 + length (p ∷ items) ≤ 256
few_slots p [] h all = let less : p.0 < 256 = all.0.slot in omega arith
few_slots p (q ∷ items) h all =
    let sorted : IsTrue (is_sorted nat_cmp (q ∷ items)) = second_true (below_all nat_cmp p.0 (q ∷ items)) (is_sorted nat_cmp (q ∷ items)) h in
    let above : IsTrue (below_all nat_cmp p.0 (q ∷ items)) = first_true (below_all nat_cmp p.0 (q ∷ items)) (is_sorted nat_cmp (q ∷ items)) h in
    let rest : q.0 + length (q ∷ items) ≤ 256 = few_slots q items sorted all.1 in
    let less : p.0 < q.0 = lower p.0 q.0 (first_true (is_lt (nat_cmp p.0 q.0)) (below_all nat_cmp p.0 items) above) in
    omega arith

shard_count : (items : List InSlot) → IsShard items → length items ≤ 256
shard_count [] h = omega arith
shard_count (p ∷ items) h = let few : p.0 + length (p ∷ items) ≤ 256 = few_slots p items h.sorted h.each in omega arith

digits_and : (s : ℕ) (name : List ℕ) → length (slot_digits s ++ name) ≡ 2 + length name
digits_and s name = length-append (slot_digits s) name

slot_length : (s : ℕ) (item : Item) → IsItem item → length (link_bytes (slot_link (s, item))) ≤ 317
slot_length s (Leaf name e) h =
    let short : length name ≤ 255 = (name_length name h.name).short in
    let digits : length (slot_digits s ++ name) ≡ 2 + length name = digits_and s name in
    let link : length (link_bytes (slot_link (s, Leaf name e))) ≤ 50 + 10 + length (slot_digits s ++ name) = link_length 10 (slot_link (s, Leaf name e)) h.entry.cid (ten_bytes _) in
    omega arith
slot_length s (Sub e) h =
    let digits : length (slot_digits s ++ []) ≡ 2 + 0 = digits_and s [] in
    let link : length (link_bytes (slot_link (s, Sub e))) ≤ 50 + 10 + length (slot_digits s ++ []) = link_length 10 (slot_link (s, Sub e)) h.cid (ten_bytes _) in
    omega arith

slot_lengths : (items : List InSlot) → AllByRecursion IsInSlot items → AllByRecursion (λ (l : Link). length (link_bytes l) ≤ 317) (map slot_link items)
slot_lengths [] h = tt
slot_lengths (p ∷ items) h = (slot_length p.0 p.1 h.0.item, slot_lengths items h.1)

fewer_zeros : (bytes : List ℕ) → length (without_zeros bytes) ≤ length bytes
fewer_zeros [] = omega arith
fewer_zeros (b ∷ bytes) = elim (b == 0) as (λ t. length (cond t (without_zeros bytes) (b ∷ bytes)) ≤ suc (length bytes)) [
  | true ↦ let rest : length (without_zeros bytes) ≤ length bytes = fewer_zeros bytes in omega arith
  | false ↦ omega arith
]

pub bitfield_length : (slots : List ℕ) → length (bitfield slots) ≤ 32
unfolding bitfield
bitfield_length slots = fewer_zeros (map (λ k. bitfield_byte slots (31 - k)) (range_with_len 0 32))

shard_content : (m : Meta) (slots : List ℕ) → length (message_bytes (shard_message m slots)) ≤ 114
unfolding message_bytes
shard_content m slots =
    let fields : length (meta_fields m) ≤ 38 = meta_length m in
    let bits : length (bitfield slots) ≤ 32 = bitfield_length slots in
    let a : length (number_field 0x08 5) ≤ 11 = number_length 0x08 5 in
    let b : length (content_field 0x12 (bitfield slots)) ≤ 1 + 10 + length (bitfield slots) = content_length 0x12 10 (bitfield slots) (ten_bytes _) in
    let c : length (number_field 0x28 0x22) ≤ 11 = number_length 0x28 0x22 in
    let d : length (number_field 0x30 256) ≤ 11 = number_length 0x30 256 in
    let fan = number_field 0x30 256 ++ meta_fields m in
    let hashed = number_field 0x28 0x22 ++ fan in
    let bits_on = content_field 0x12 (bitfield slots) ++ hashed in
    let last : length fan ≡ length (number_field 0x30 256) + length (meta_fields m) = length-append (number_field 0x30 256) (meta_fields m) in
    let hash : length hashed ≡ length (number_field 0x28 0x22) + length fan = length-append (number_field 0x28 0x22) fan in
    let field : length bits_on ≡ length (content_field 0x12 (bitfield slots)) + length hashed = length-append (content_field 0x12 (bitfield slots)) hashed in
    let all : length (message_bytes (shard_message m slots)) ≡ length (number_field 0x08 5) + length bits_on = length-append (number_field 0x08 5) bits_on in
    omega arith

pub shard_length : (m : Meta) (items : List InSlot) → IsShard items → length (shard_block m items) ≤ 2097152
unfolding shard_block node_bytes
shard_length m items h =
    let slots = map (λ (p : InSlot). p.0) items in
    let few : length items ≤ 256 = shard_count items h in
    let count : length (map slot_link items) ≡ length items = length-map items slot_link in
    let links : length (links_bytes (map slot_link items)) ≤ (317 + 11) * length (map slot_link items) = many_links 317 (map slot_link items) (slot_lengths items h.each) in
    let message : length (message_bytes (shard_message m slots)) ≤ 114 = shard_content m slots in
    let content : length (content_field 0x0a (message_bytes (shard_message m slots))) ≤ 1 + 10 + length (message_bytes (shard_message m slots)) = content_length 0x0a 10 (message_bytes (shard_message m slots)) (ten_bytes _) in
    let all : length (shard_block m items) ≡ length (links_bytes (map slot_link items)) + length (content_field 0x0a (message_bytes (shard_message m slots))) = length-append (links_bytes (map slot_link items)) (content_field 0x0a (message_bytes (shard_message m slots))) in
    omega arith

part_lengths : (ls : List Link) → AllByRecursion IsPartLink ls → AllByRecursion (λ (l : Link). length (link_bytes l) ≤ 60) ls
part_lengths [] h = tt
part_lengths (l ∷ ls) h =
    let none : length l.name ≡ 0 = ap length h.0.name in
    let link : length (link_bytes l) ≤ 50 + 10 + length l.name = link_length 10 l h.0.cid (ten_bytes _) in
    (omega arith, part_lengths ls h.1)

size_lengths : (sizes : List ℕ) → length (flat_map (number_field 0x20) sizes) ≤ 11 * length sizes
size_lengths [] = omega arith
size_lengths (n ∷ sizes) =
    let here : length (number_field 0x20 n) ≤ 11 = number_length 0x20 n in
    let rest : length (flat_map (number_field 0x20) sizes) ≤ 11 * length sizes = size_lengths sizes in
    let all : length (flat_map (number_field 0x20) (n ∷ sizes)) ≡ length (number_field 0x20 n) + length (flat_map (number_field 0x20) sizes) = length-append (number_field 0x20 n) (flat_map (number_field 0x20) sizes) in
    omega arith

file_content : (m : Meta) (sizes : List ℕ) → length (message_bytes (file_message m sizes)) ≤ 60 + 11 * length sizes
unfolding message_bytes
file_content m sizes =
    let fields : length (meta_fields m) ≤ 38 = meta_length m in
    let list = flat_map (number_field 0x20) sizes in
    let a : length (number_field 0x08 2) ≤ 11 = number_length 0x08 2 in
    let b : length (number_field 0x18 (sum sizes)) ≤ 11 = number_length 0x18 (sum sizes) in
    let c : length list ≤ 11 * length sizes = size_lengths sizes in
    let listed = list ++ meta_fields m in
    let sized = number_field 0x18 (sum sizes) ++ listed in
    let last : length listed ≡ length list + length (meta_fields m) = length-append list (meta_fields m) in
    let size : length sized ≡ length (number_field 0x18 (sum sizes)) + length listed = length-append (number_field 0x18 (sum sizes)) listed in
    let all : length (message_bytes (file_message m sizes)) ≡ length (number_field 0x08 2) + length sized = length-append (number_field 0x08 2) sized in
    omega arith

pub file_length : (node : FileNode) → IsFileNode node → length (file_block node) ≤ 2097152
unfolding file_block node_bytes
file_length node h =
    let few : length node.parts ≤ 1024 = h.few in
    let same : length node.sizes ≡ length node.parts = h.sizes in
    let links : length (links_bytes node.parts) ≤ (60 + 11) * length node.parts = many_links 60 node.parts (part_lengths node.parts h.each) in
    let message : length (message_bytes (file_message node.meta node.sizes)) ≤ 60 + 11 * length node.sizes = file_content node.meta node.sizes in
    let content : length (content_field 0x0a (message_bytes (file_message node.meta node.sizes))) ≤ 1 + 10 + length (message_bytes (file_message node.meta node.sizes)) = content_length 0x0a 10 (message_bytes (file_message node.meta node.sizes)) (ten_bytes _) in
    let all : length (file_block node) ≡ length (links_bytes node.parts) + length (content_field 0x0a (message_bytes (file_message node.meta node.sizes))) = length-append (links_bytes node.parts) (content_field 0x0a (message_bytes (file_message node.meta node.sizes))) in
    omega arith
