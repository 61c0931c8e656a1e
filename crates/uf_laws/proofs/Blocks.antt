-- How long the blocks of directories are, and what their links have, link for link.
use Rattle.std.proofs.Common.{◌≡◌, ℕ, suc, ◌+◌, ◌-◌, ◌≤◌, List, [], ◌∷◌, ◌++◌, length, map, true, false, cond, refl, ap, arith, length-append}
use Rattle.std.specs.Prelude.{◌==◌, IfSome}
use Rattle.std.specs.List.{AllByRecursion, sum_by, range_with_len}
use Rattle.std.proofs.lemmas.List.Sums.{sum_by-cons}
use Rattle.uf_cid.specs.Cid.{cid_bytes}
use Rattle.uf_cid.specs.Read.{IsCid}
use Rattle.uf_varint.specs.Fields.{content_field, number_field}
use Rattle.uf_varint.specs.Varint.{varint, varint_within}
use Rattle.uf_dagpb.specs.declared.node.Link.{Link}
use Rattle.uf_dagpb.specs.Spelling.{link_bytes, links_bytes, node_bytes}
use Rattle.uf_dagpb.proofs.Lengths.{length-content_field}
use Rattle.uf_message.specs.Spelling.{message_bytes}
use Rattle.uf_tree.specs.declared.meta.Meta.{Meta}
use Rattle.uf_tree.specs.declared.nodes.Entry.{Entry}
use Rattle.uf_tree.specs.declared.nodes.Item.{Item}
use Rattle.uf_tree.specs.FilePlan.{Plan}
use Rattle.uf_tree.specs.Metas.{none}
use Rattle.uf_tree.specs.Nodes.{Named, InSlot, link_of, slot_link, slot_digits, item_name, item_entry, without_zeros, bitfield, bitfield_byte, shard_message, dir_message, dir_block, shard_block}
use Rattle.uf_tree.specs.ShardPlan.{bucket, shard_items, slot_item}
use Rattle.uf_tree.specs.Validity.{IsNamed}
use Rattle.uf_tree.proofs.Each.{each_filter, each_tabulate}
use Rattle.uf_tree.proofs.Sizes.{meta_fields, meta_length}
use Rattle.uf_laws.proofs.Totals.{total, adds, adds-tabulate, of_option}
use Rattle.uf_laws.proofs.Widths.{cost, link-cost, one-byte}

-- a CID with a digest of 32 bytes is spelled in 36 bytes
cid-length : (e : Entry) → IsCid e.cid → length (cid_bytes e.cid) ≡ 36
cid-length e h = let digest : length e.cid.digest ≡ 32 = h.size in omega arith

-- what the links of a block take and have
abbrev links_cost : List Link → ℕ
links_cost ls = adds (λ (l : Link). cost (length l.name) l.tsize) ls

links-cost : (ls : List Link) → AllByRecursion (λ (l : Link). IsCid l.cid) ls → length (links_bytes ls) + adds (λ (l : Link). l.tsize) ls ≡ links_cost ls
unfolding adds
links-cost [] h = refl
links-cost (l ∷ ls) h =
    let size : length (cid_bytes l.cid) ≡ 36 = cid-length (record { cid = l.cid; tsize = l.tsize }) h.0 in
    omega (arith, link-cost l size, links-cost ls h.1, length-append (content_field 0x12 (link_bytes l)) (links_bytes ls))

-- what metadata adds to a block
abbrev pub meta_size : Meta → ℕ
meta_size meta = length (meta_fields meta)

-- ---- one block

-- what a pair adds to the Tsize of a directory in one block
abbrev pub pair_cost : Named → ℕ
pair_cost e = cost (length e.0) e.1.tsize

-- the Tsize of a directory in one block, before it is capped
unfoldable pub basic_size : Meta → List Named → ℕ
basic_size meta l = length (dir_block meta l) + sum_by (λ (e : Entry). e.tsize) (map (λ (e : Named). e.1) l)

pair_links : (l : List Named) → AllByRecursion IsNamed l → AllByRecursion (λ (l : Link). IsCid l.cid) (map (λ (e : Named). link_of e.0 e.1) l)
pair_links [] h = tt
pair_links (e ∷ l) h = (h.0.entry.cid, pair_links l h.1)

pair_sizes : (l : List Named) → sum_by (λ (e : Entry). e.tsize) (map (λ (e : Named). e.1) l) ≡ adds (λ (l : Link). l.tsize) (map (λ (e : Named). link_of e.0 e.1) l)
unfolding adds
pair_sizes [] = refl
pair_sizes (e ∷ l) = omega (arith, sum_by-cons (λ (e : Entry). e.tsize) e.1 (map (λ (e : Named). e.1) l), pair_sizes l)

pair_costs : (l : List Named) → links_cost (map (λ (e : Named). link_of e.0 e.1) l) ≡ adds pair_cost l
unfolding adds
pair_costs [] = refl
pair_costs (e ∷ l) = ap (λ n. pair_cost e + n) (pair_costs l)

dir-begins : number_field 0x08 1 ≡ 0x08 ∷ 0x01 ∷ []
unfolding varint varint_within
dir-begins = refl

dir-message-length : (meta : Meta) → length (message_bytes (dir_message meta)) ≡ 2 + meta_size meta
unfolding message_bytes
dir-message-length meta =
    let first : length (number_field 0x08 1) ≡ 2 = ap length dir-begins in
    omega (arith, first, length-append (number_field 0x08 1) (meta_fields meta))

dir-content-length : (meta : Meta) → length (content_field 0x0a (message_bytes (dir_message meta))) ≡ 4 + meta_size meta
dir-content-length meta =
    let inner : length (message_bytes (dir_message meta)) ≡ 2 + meta_size meta = dir-message-length meta in
    let one : length (varint (length (message_bytes (dir_message meta)))) ≡ 1 = one-byte _ (omega (arith, meta_length meta, inner)) in
    omega (arith, inner, one, length-content_field 0x0a (message_bytes (dir_message meta)))

pub basic-size : (meta : Meta) (l : List Named) → AllByRecursion IsNamed l → basic_size meta l ≡ 4 + meta_size meta + adds pair_cost l
unfolding basic_size dir_block node_bytes
basic-size meta l h =
    let links = map (λ (e : Named). link_of e.0 e.1) l in
    let costs : length (links_bytes links) + adds (λ (l : Link). l.tsize) links ≡ links_cost links = links-cost links (pair_links l h) in
    omega (arith, dir-content-length meta, costs, pair_sizes l, pair_costs l, length-append (links_bytes links) (content_field 0x0a (message_bytes (dir_message meta))))

-- ---- one shard

-- what an item adds to the Tsize of its shard
abbrev pub item_cost : Item → ℕ
item_cost x = cost (2 + length (item_name x)) (item_entry x).tsize

-- the Tsize of a shard of these items, before it is capped
unfoldable pub items_size : Meta → List InSlot → ℕ
items_size meta items = length (shard_block meta items) + sum_by (λ (e : Entry). e.tsize) (map (λ (p : InSlot). item_entry p.1) items)

abbrev HasCid : InSlot → Type 0
HasCid p = IsCid (item_entry p.1).cid

item_links : (items : List InSlot) → AllByRecursion HasCid items → AllByRecursion (λ (l : Link). IsCid l.cid) (map slot_link items)
item_links [] h = tt
item_links (p ∷ items) h = (h.0, item_links items h.1)

item_sizes : (items : List InSlot) → sum_by (λ (e : Entry). e.tsize) (map (λ (p : InSlot). item_entry p.1) items) ≡ adds (λ (l : Link). l.tsize) (map slot_link items)
unfolding adds
item_sizes [] = refl
item_sizes (p ∷ items) = omega (arith, sum_by-cons (λ (e : Entry). e.tsize) (item_entry p.1) (map (λ (p : InSlot). item_entry p.1) items), item_sizes items)

item_costs : (items : List InSlot) → links_cost (map slot_link items) ≡ adds (λ (p : InSlot). item_cost p.1) items
unfolding adds
item_costs [] = refl
item_costs (p ∷ items) = λ i. cost (length-append (slot_digits p.0) (item_name p.1) i) (item_entry p.1).tsize + item_costs items i

fewer_zeros : (bytes : List ℕ) → length (without_zeros bytes) ≤ length bytes
fewer_zeros [] = omega arith
fewer_zeros (b ∷ bytes) = elim (b == 0) as (λ t. length (cond t (without_zeros bytes) (b ∷ bytes)) ≤ suc (length bytes)) [
  | true ↦ let rest : length (without_zeros bytes) ≤ length bytes = fewer_zeros bytes in omega arith
  | false ↦ omega arith
]

abbrev pub slots_of : List InSlot → List ℕ
slots_of items = map (λ (p : InSlot). p.0) items

pub bitfield-short : (slots : List ℕ) → length (bitfield slots) ≤ 32
unfolding bitfield
bitfield-short slots = fewer_zeros (map (λ k. bitfield_byte slots (31 - k)) (range_with_len 0 32))

ends : (rest : List ℕ) → number_field 0x28 0x22 ++ (number_field 0x30 256 ++ rest) ≡ 0x28 ∷ 0x22 ∷ 0x30 ∷ 0x80 ∷ 0x02 ∷ rest
unfolding varint varint_within
ends rest = refl

begins : number_field 0x08 5 ≡ 0x08 ∷ 0x05 ∷ []
unfolding varint varint_within
begins = refl

message-length : (meta : Meta) (slots : List ℕ) → length (message_bytes (shard_message meta slots)) ≡ 9 + length (bitfield slots) + meta_size meta
unfolding message_bytes
message-length meta slots =
    let bits = bitfield slots in
    let tail = number_field 0x28 0x22 ++ (number_field 0x30 256 ++ meta_fields meta) in
    let last : length tail ≡ 5 + meta_size meta = omega (arith, ap length (ends (meta_fields meta))) in
    let first : length (number_field 0x08 5) ≡ 2 = ap length begins in
    let one : length (varint (length bits)) ≡ 1 = one-byte (length bits) (omega (arith, bitfield-short slots)) in
    omega (arith, last, first, one, length-content_field 0x12 bits, length-append (content_field 0x12 bits) tail, length-append (number_field 0x08 5) (content_field 0x12 bits ++ tail))

content-length : (meta : Meta) (slots : List ℕ) → length (content_field 0x0a (message_bytes (shard_message meta slots))) ≡ 11 + length (bitfield slots) + meta_size meta
content-length meta slots =
    let bits = bitfield slots in
    let inner : length (message_bytes (shard_message meta slots)) ≡ 9 + length bits + meta_size meta = message-length meta slots in
    let one : length (varint (length (message_bytes (shard_message meta slots)))) ≡ 1 = one-byte _ (omega (arith, bitfield-short slots, meta_length meta, inner)) in
    omega (arith, inner, one, length-content_field 0x0a (message_bytes (shard_message meta slots)))

-- what metadata adds to a shard
pub items-carried : (meta : Meta) (items : List InSlot) → items_size meta items ≡ items_size none items + meta_size meta
unfolding items_size shard_block node_bytes
items-carried meta items =
    let links = links_bytes (map slot_link items) in
    let own = content_field 0x0a (message_bytes (shard_message meta (slots_of items))) in
    let bare = content_field 0x0a (message_bytes (shard_message none (slots_of items))) in
    omega (arith, content-length meta (slots_of items), content-length none (slots_of items), length-append links own, length-append links bare)

items-size : (items : List InSlot) → AllByRecursion HasCid items → items_size none items ≡ 11 + length (bitfield (slots_of items)) + adds (λ (p : InSlot). item_cost p.1) items
unfolding items_size shard_block node_bytes
items-size items h =
    let links = map slot_link items in
    let content = content_field 0x0a (message_bytes (shard_message none (slots_of items))) in
    let costs : length (links_bytes links) + adds (λ (l : Link). l.tsize) links ≡ links_cost links = links-cost links (item_links items h) in
    omega (arith, content-length none (slots_of items), costs, item_sizes items, item_costs items, length-append (links_bytes links) content)

-- what a slot of these pairs adds to the Tsize of its shard
abbrev pub slot_cost : (List Named → Plan) → List Named → ℕ
slot_cost deeper [] = 0
slot_cost deeper (e ∷ []) = cost (2 + length e.0) e.1.tsize
slot_cost deeper (e ∷ f ∷ l) = cost 2 (deeper (e ∷ f ∷ l)).entry.tsize

cost_of_slot : (deeper : List Named → Plan) (l : List Named) → of_option item_cost (slot_item deeper l) ≡ slot_cost deeper l
cost_of_slot deeper [] = refl
cost_of_slot deeper (e ∷ []) = refl
cost_of_slot deeper (e ∷ f ∷ l) = refl

-- what the shards below are: each has a CID
abbrev pub HaveCids : (List Named → Plan) → Type 0
HaveCids deeper = (l : List Named) → IsCid (deeper l).entry.cid

slot-cid : (deeper : List Named → Plan) → HaveCids deeper → (l : List Named) → AllByRecursion IsNamed l → IfSome (slot_item deeper l) (λ x. IsCid (item_entry x).cid)
slot-cid deeper good [] h = tt
slot-cid deeper good (e ∷ []) h = h.0.entry.cid
slot-cid deeper good (e ∷ f ∷ l) h = good (e ∷ f ∷ l)

-- the shard at level k over the shards of `deeper`
module _ (N : List ℕ → ℕ) (deeper : List Named → Plan) (k : ℕ) where
  -- the Tsize of the shard at level k over shards below it, without metadata, before it is capped
  abbrev pub shard_size : List Named → ℕ
  shard_size l = items_size none (shard_items N deeper k l)

  -- the bytes of its bitfield
  abbrev pub bits : List Named → ℕ
  bits l = length (bitfield (slots_of (shard_items N deeper k l)))

  -- what its slots add
  abbrev pub slots_cost : List Named → ℕ
  slots_cost l = total 256 0 (λ s. slot_cost deeper (bucket N k s l))

  pub shard-size : HaveCids deeper → (l : List Named) → AllByRecursion IsNamed l → shard_size l ≡ 11 + bits l + slots_cost l
  shard-size good l h =
      let cids : AllByRecursion HasCid (shard_items N deeper k l) = each_tabulate HasCid 256 0 256 (λ s. slot_item deeper (bucket N k s l)) (omega arith)
      (λ s less. slot-cid deeper good (bucket N k s l) (each_filter IsNamed _ l h)) in
      let sum : adds (λ (p : InSlot). item_cost p.1) (shard_items N deeper k l) ≡ total 256 0 (λ s. of_option item_cost (slot_item deeper (bucket N k s l))) = adds-tabulate item_cost 256 0 (λ s. slot_item deeper (bucket N k s l)) in
      let costs : total 256 0 (λ s. of_option item_cost (slot_item deeper (bucket N k s l))) ≡ slots_cost l = λ i. total 256 0 (λ s. cost_of_slot deeper (bucket N k s l) i) in
      omega (arith, items-size (shard_items N deeper k l) cids, sum, costs)
