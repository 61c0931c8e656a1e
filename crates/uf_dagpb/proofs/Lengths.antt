-- How long the spellings are.
use Rattle.std.proofs.Common.{◌≡◌, ℕ, ◌+◌, ◌<◌, List, ◌++◌, ◌∷◌, length, min, get_or, take, refl, ap, arith, ◌∙◌}
use Rattle.std.proofs.lemmas.List.{length-append}
use Rattle.uf_varint.specs.Varint.{varint, varint_within}
use Rattle.uf_varint.specs.Fields.{content_field, number_field}
use Rattle.uf_cid.specs.Cid.{cid_bytes}
use Rattle.uf_dagpb.specs.declared.node.Link.{Link}
use Rattle.uf_dagpb.specs.Spelling.{link_bytes, links_bytes}
use Rattle.uf_dagpb.proofs.Fronts.{next_link, links_bytes-push}

pub length-content_field : (key : ℕ) (bytes : List ℕ) → length (content_field key bytes) ≡ 1 + length (varint (length bytes)) + length bytes
length-content_field key bytes = omega (arith, length-append (key ∷ varint (length bytes)) bytes)

one_byte : length (varint 36) ≡ 1
unfolding varint varint_within
one_byte = refl

pub length-link_bytes : (l : Link) → length (cid_bytes l.cid) ≡ 36 → length (link_bytes l) ≡ 38 + 1 + length (varint (length l.name)) + length l.name + 1 + length (varint l.tsize)
length-link_bytes l size =
    let a = content_field 0x0a (cid_bytes l.cid) in
    let b = content_field 0x12 l.name in
    let one : length (varint (length (cid_bytes l.cid))) ≡ 1 = ap (λ n. length (varint n)) size ∙ one_byte in
    omega (arith, one, size, length-append (a ++ b) (number_field 0x18 l.tsize), length-append a b, length-content_field 0x0a (cid_bytes l.cid), length-content_field 0x12 l.name)

pub links_len_more : (links : List Link) (i : ℕ) (l : Link) (len link field most sum : ℕ) → i < length links → l ≡ get_or links i l → len ≡ min (length (links_bytes (take i links))) most
    → link ≡ length (link_bytes l) → field ≡ min (1 + length (varint link) + link) most → sum ≡ min (len + field) most → sum ≡ min (length (links_bytes (take (i + 1) links))) most
links_len_more links i l len link field most sum lt is so_far a b c =
    let f = content_field 0x12 (link_bytes l) in
    let one : links_bytes (take (i + 1) links) ≡ links_bytes (take i links) ++ f = ap links_bytes (next_link links i l lt is) ∙ links_bytes-push (take i links) l in
    let w : length (varint link) ≡ length (varint (length (link_bytes l))) = ap (λ n. length (varint n)) a in
    omega (arith, ap length one, length-append (links_bytes (take i links)) f, length-content_field 0x12 (link_bytes l), w, a, b, c, so_far)
