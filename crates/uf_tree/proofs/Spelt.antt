-- How long blocks are.
use Rattle.std.proofs.Common.{◌/◌, ◌%◌, Result, Ok, Err, ◌≡◌, ℕ, zero, suc, ◌+◌, ◌*◌, ◌≤◌, List, [], ◌∷◌, ◌++◌, length, ap, arith, ◌∙◌, Some, sum}
use Rattle.std.specs.List.{AllByRecursion, flat_map}
use Rattle.std.specs.Prelude.{nat_lt, IfOk}
use Rattle.std.proofs.lemmas.Bool.{cond_both}
use Rattle.std.proofs.lemmas.List.{length-append}
use Rattle.uf_cid.specs.declared.bytes.Memory.{Memory}
use Rattle.uf_varint.specs.Varint.{varint, varint_within}
use Rattle.uf_varint.specs.Fields.{content_field, number_field}
use Rattle.uf_cid.specs.Cid.{cid_bytes}
use Rattle.uf_dagpb.specs.declared.node.Link.{Link}
use Rattle.uf_dagpb.specs.Spelling.{link_bytes, links_bytes, node_bytes}
use Rattle.uf_dagpb.proofs.Lengths.{length-content_field, length-link_bytes}
use Rattle.uf_message.specs.Spelling.{message_bytes}
use Rattle.uf_tree.specs.declared.meta.Meta.{Meta}
use Rattle.uf_tree.specs.declared.nodes.Entry.{Entry}
use Rattle.uf_tree.specs.declared.nodes.FileNode.{FileNode}
use Rattle.uf_tree.specs.Nodes.{link_of, file_block, file_message}
use Rattle.uf_tree.specs.Validity.{IsPartLink, IsFileNode}
use Rattle.uf_tree.proofs.Sizes.{meta_fields, meta_length}

-- a varint has at most n bytes
pub varint_is_short : (room n : ℕ) → length (varint_within room n) ≤ room + 1
unfolding varint_within
varint_is_short zero n = omega arith
varint_is_short (suc room) n =
    let later = varint_is_short room (n / 128) in
    cond_both (nat_lt n 128) (n ∷ []) ((128 + n % 128) ∷ varint_within room (n / 128)) (λ (v : List ℕ). length v ≤ suc room + 1) (λ e. omega arith) (λ e. omega arith)

pub varint_short : (n : ℕ) → length (varint n) ≤ 10
unfolding varint
varint_short n = omega (arith, varint_is_short 9 n)

-- the length of a link under a name of two pieces
pub two_pieces : (front name : List ℕ) (e : Entry) (hash long width_long width_tsize : ℕ) → length (cid_bytes e.cid) ≡ hash → hash ≡ 36 → long ≡ length front + length name
    → width_long ≡ length (varint long) → width_tsize ≡ length (varint e.tsize) → 2 + hash + 1 + width_long + long + 1 + width_tsize ≡ length (link_bytes (link_of (front ++ name) e))
two_pieces front name e hash long wl wt size h l a b =
    let pieces : length (front ++ name) ≡ long = omega (arith, length-append front name) in
    let w : length (varint (length (front ++ name))) ≡ length (varint long) = ap (λ n. length (varint n)) pieces in
    omega (arith, length-link_bytes (link_of (front ++ name) e) (size ∙ h), pieces, w)

-- a part's link has at most 80 bytes with its key and its length
part_short : (l : Link) → IsPartLink l → length (content_field 0x12 (link_bytes l)) ≤ 80
part_short l h =
    let size : length (cid_bytes l.cid) ≡ 36 = omega (arith, h.cid.size) in
    let none : length l.name ≡ 0 = ap length h.name in
    omega (arith, length-content_field 0x12 (link_bytes l), length-link_bytes l size, none, varint_short (length l.name), varint_short l.tsize, varint_short (length (link_bytes l)))

parts_short : (links : List Link) → AllByRecursion IsPartLink links → length (links_bytes links) ≤ 80 * length links
parts_short [] h = omega arith
parts_short (l ∷ links) h = omega (arith, part_short l h.0, parts_short links h.1, length-append (content_field 0x12 (link_bytes l)) (links_bytes links))

sizes_short : (sizes : List ℕ) → length (flat_map (number_field 0x20) sizes) ≤ 11 * length sizes
sizes_short [] = omega arith
sizes_short (n ∷ sizes) = omega (arith, varint_short n, sizes_short sizes, length-append (number_field 0x20 n) (flat_map (number_field 0x20) sizes))

pub message_short : (m : Meta) (sizes : List ℕ) → length (message_bytes (file_message m sizes)) ≤ 11 * length sizes + 60
unfolding message_bytes
message_short m sizes =
    let behind = meta_fields m in
    let fields = flat_map (number_field 0x20) sizes in
    let front = varint 2 in
    let total = varint (sum sizes) in
    omega (arith, varint_short 2, varint_short (sum sizes), sizes_short sizes, meta_length m, length-append front (24 ∷ (total ++ (fields ++ behind))), length-append total (fields ++ behind), length-append fields behind)

pub file_short : (node : FileNode) → IsFileNode node → length (file_block node) ≤ 131072
unfolding file_block node_bytes
file_short node h =
    let content = message_bytes (file_message node.meta node.sizes) in
    omega (arith, h.some, h.few, h.sizes, parts_short node.parts h.each, message_short node.meta node.sizes, length-content_field 0x0a content, varint_short (length content), length-append (links_bytes node.parts) (content_field 0x0a content))

pub file_small : (r : Result (List ℕ) Memory) (node : FileNode) → IsFileNode node → IfOk r (λ b. b ≡ file_block node) → IfOk r (λ b. length b ≤ 131072)
file_small (Err e) node h k = tt
file_small (Ok b) node h k = omega (arith, file_short node h, ap length k)

pub file_is : (r : Result (List ℕ) Memory) (node : FileNode) (links : List Link) (slice content : List ℕ) → links ≡ node.parts → slice ≡ content → content ≡ message_bytes (file_message node.meta node.sizes)
    → IfOk r (λ b. b ≡ node_bytes (record { links = links; content = Some slice })) → IfOk r (λ b. b ≡ file_block node)
unfolding file_block
file_is (Err e) node links slice content l s c k = tt
file_is (Ok b) node links slice content l s c k = k ∙ ap (λ (ls : List Link). node_bytes (record { links = ls; content = Some slice })) l ∙ ap (λ (x : List ℕ). node_bytes (record { links = node.parts; content = Some x })) (s ∙ c)
