-- What a link adds to the Tsize of a node: its own bytes, and the Tsize that it has.
use Rattle.std.proofs.Common.{◌≡◌, ℕ, zero, suc, ◌+◌, ◌/◌, ◌%◌, ◌<◌, ◌≤◌, [], ◌∷◌, length, cond, refl, ap, arith, ◌⊎◌, inl, inr}
use Rattle.std.proofs.lemmas.Bool.{cases_lt}
use Rattle.uf_cid.specs.Cid.{cid_bytes}
use Rattle.uf_varint.specs.Varint.{varint, varint_within}
use Rattle.uf_varint.specs.Fields.{content_field}
use Rattle.uf_varint.proofs.Varints.{below, not_below}
use Rattle.uf_dagpb.specs.declared.node.Link.{Link}
use Rattle.uf_dagpb.specs.Spelling.{link_bytes}
use Rattle.uf_dagpb.proofs.Lengths.{length-content_field, length-link_bytes}

-- varints

low : (room n : ℕ) → n < 128 → length (varint_within (suc room) n) ≡ 1
unfolding varint_within
low room n h = ap (λ b. length (cond b (n ∷ []) ((128 + n % 128) ∷ varint_within room (n / 128)))) (below n 128 h)

high : (room n : ℕ) → 128 ≤ n → length (varint_within (suc room) n) ≡ suc (length (varint_within room (n / 128)))
unfolding varint_within
high room n h = ap (λ b. length (cond b (n ∷ []) ((128 + n % 128) ∷ varint_within room (n / 128)))) (not_below n 128 h)

single : (n : ℕ) → length (varint_within zero n) ≡ 1
unfolding varint_within
single n = refl

one_or_more : (room n : ℕ) → 1 ≤ length (varint_within room n)
one_or_more zero n = omega (arith, single n)
one_or_more (suc room) n = by (cases_lt n 128)
  where
    by : (n < 128) ⊎ (128 ≤ n) → 1 ≤ length (varint_within (suc room) n)
    by (inl h) = omega (arith, low room n h)
    by (inr h) = omega (arith, high room n h)

wider : (room n m : ℕ) → n ≤ m → length (varint_within room n) ≤ length (varint_within room m)
wider zero n m h = omega (arith, single n, single m)
wider (suc room) n m h = by (cases_lt n 128) (cases_lt m 128) (wider room (n / 128) (m / 128) (omega arith))
  where
    by : (n < 128) ⊎ (128 ≤ n) → (m < 128) ⊎ (128 ≤ m) → length (varint_within room (n / 128)) ≤ length (varint_within room (m / 128)) → length (varint_within (suc room) n) ≤ length (varint_within (suc room) m)
    by (inl p) q later = omega (arith, low room n p, one_or_more (suc room) m)
    by (inr p) (inl q) later = absurd (omega arith)
    by (inr p) (inr q) later = omega (arith, high room n p, high room m q)

pub one-byte : (n : ℕ) → n < 128 → length (varint n) ≡ 1
unfolding varint
one-byte n h = low 8 n h

-- a greater number is spelled no shorter
pub width-mono : (n m : ℕ) → n ≤ m → length (varint n) ≤ length (varint m)
unfolding varint
width-mono n m h = wider 9 n m h

pub width-some : (n : ℕ) → 1 ≤ length (varint n)
unfolding varint
width-some n = one_or_more 9 n

-- the bytes of a link, by the length of its name and its Tsize
unfoldable pub link_size : ℕ → ℕ → ℕ
link_size n t = 40 + n + length (varint n) + length (varint t)

-- what a link adds to its node's Tsize: its key, its length, its bytes and its own Tsize
unfoldable pub cost : ℕ → ℕ → ℕ
cost n t = 1 + length (varint (link_size n t)) + link_size n t + t

link_size-mono : (n m t u : ℕ) → n ≤ m → t ≤ u → link_size n t ≤ link_size m u
unfolding link_size
link_size-mono n m t u h k = omega (arith, width-mono n m h, width-mono t u k)

pub cost-mono : (n m t u : ℕ) → n ≤ m → t ≤ u → cost n t ≤ cost m u
unfolding cost
cost-mono n m t u h k =
    let inner : link_size n t ≤ link_size m u = link_size-mono n m t u h k in
    let outer : length (varint (link_size n t)) ≤ length (varint (link_size m u)) = width-mono (link_size n t) (link_size m u) inner in
    omega arith

pub cost-less : (n t u : ℕ) → t < u → cost n t < cost n u
unfolding cost
cost-less n t u h =
    let inner : link_size n t ≤ link_size n u = link_size-mono n n t u (omega arith) (omega arith) in
    let outer : length (varint (link_size n t)) ≤ length (varint (link_size n u)) = width-mono (link_size n t) (link_size n u) inner in
    omega arith

pub cost-least : (n t : ℕ) → 44 + t ≤ cost n t
unfolding cost link_size
cost-least n t = omega (arith, width-some n, width-some t, width-some (40 + n + length (varint n) + length (varint t)))

pub link-cost : (l : Link) → length (cid_bytes l.cid) ≡ 36 → length (content_field 0x12 (link_bytes l)) + l.tsize ≡ cost (length l.name) l.tsize
unfolding cost link_size
link-cost l size =
    let inner : length (link_bytes l) ≡ 40 + length l.name + length (varint (length l.name)) + length (varint l.tsize) = omega (arith, length-link_bytes l size) in
    let outer : length (varint (length (link_bytes l))) ≡ length (varint (40 + length l.name + length (varint (length l.name)) + length (varint l.tsize))) = ap (λ n. length (varint n)) inner in
    omega (arith, length-content_field 0x12 (link_bytes l), inner, outer)
