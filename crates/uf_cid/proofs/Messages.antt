-- The blocks of eight padded messages of one length.
use Rattle.std.proofs.Common.{◌≡◌, ℕ, ◌+◌, ◌-◌, ◌*◌, ◌/◌, ◌%◌, ◌^◌, ◌<◌, ◌≤◌, List, ◌∷◌, ◌++◌, length, take, drop, replicate, refl, sym, ap, subst, ◌∙◌, arith, length-append, length-drop}
use Rattle.std.proofs.lemmas.List.{append_assoc, drop-append-le, drop_at, drop-take, length-replicate, length-take-le, take-append-le, take-take, drop-drop}
use Rattle.std.proofs.lemmas.Nat.{mul-le}
use Rattle.std.proofs.lemmas.Slice.{take-put_mid, take-put_mid_below}
use Rattle.std.specs.Int.{w64, to_be_bytes}
use Rattle.sha2.specs.Sha256.{compress, digest_bytes, hash_after, initial_hash_256, padded_message, padding, sha256}
use Rattle.sha2.proofs.Absorbing256.{hash_after_next}
use Rattle.uf_cid.specs.Bytes.{piece}
use Rattle.uf_cid.specs.Lanes.{IsTail}
use Rattle.uf_cid.proofs.LaneLemmas.{below_eight}
use borrow.Rule.Slice.PartMut.{put_mid, post_of}

-- the length of the padding
pub length-padding : (n : ℕ) → length (padding n) ≡ (119 - n % 64) % 64 + 9
length-padding n =
    let l : length (to_be_bytes w64 (n * 8 % 2 ^ 64)) ≡ 8 = refl in
    let z : length {A = ℕ} (replicate ((119 - n % 64) % 64) 0) ≡ (119 - n % 64) % 64 = length-replicate _ 0 in
    omega (arith, l, z, length-append (0x80 ∷ replicate ((119 - n % 64) % 64) 0) (to_be_bytes w64 (n * 8 % 2 ^ 64)))

-- a whole block of the message
pub block_next : (ini m x h : List ℕ) (i : ℕ) → i < length m / 64 → h ≡ hash_after ini (padded_message m) i
    → x ≡ take 64 (drop (64 * i) m) → compress h x ≡ hash_after ini (padded_message m) (i + 1)
block_next ini m x h i lt held e =
    let at : 64 * i ≡ i * 64 = omega arith in
    let fits : 64 ≤ length (drop (i * 64) m) = omega (arith, length-drop (i * 64) m) in
    let block : take 64 (drop (i * 64) (padded_message m)) ≡ x =
    rw (drop-append-le (i * 64) m (padding (length m)) (omega arith), e, at) (take-append-le 64 (drop (i * 64) m) (padding (length m)) fits) in
    rw (hash_after_next ini (padded_message m) i, block, held) refl

-- a block of what follows the message's whole blocks
pub tail_next : (ini m t x h : List ℕ) (q n i : ℕ) → 64 * i + 64 ≤ n
    → take n t ≡ drop (q * 64) (padded_message m)
    → h ≡ hash_after ini (padded_message m) (q + i)
    → x ≡ take 64 (drop (64 * i) t) → compress h x ≡ hash_after ini (padded_message m) (q + (i + 1))
tail_next ini m t x h q n i fits held he ex =
    let r : ℕ = n - 64 * i in
    let en : n ≡ 64 * i + r = omega arith in
    let at : (q + i) * 64 ≡ q * 64 + 64 * i = omega arith in
    let cut : take 64 (drop (64 * i) (take (64 * i + r) t)) ≡ take 64 (drop (64 * i) t) =
    rw (drop-take (64 * i) r t) (take-take 64 r (drop (64 * i) t) (omega arith)) in
    let block : take 64 (drop ((q + i) * 64) (padded_message m)) ≡ x =
    rw (at, ← drop-drop (64 * i) (q * 64) (padded_message m), ← held, en, ex) cut in
    let next : hash_after ini (padded_message m) ((q + i) + 1) ≡ compress h x =
    rw (hash_after_next ini (padded_message m) (q + i), block, he) refl in
    let place : q + (i + 1) ≡ (q + i) + 1 = omega arith in
    rw place (sym next)

pub length-put_mid : (a k : ℕ) (xs ys : List ℕ) → length ys ≡ k → a + k ≤ length xs → length (put_mid a k xs ys) ≡ length xs
length-put_mid a k xs ys ly fits =
    let front : length (take a xs) ≡ a = length-take-le a xs (omega arith) in
    let back : length (post_of a k xs) ≡ length xs - a - k = length-drop k (drop a xs) ∙ ap (λ n. n - k) (length-drop a xs) in
    omega (arith, front, back, length-append (take a xs) (ys ++ post_of a k xs), length-append ys (post_of a k xs))

-- what `tail` has written, piece by piece
pub tail_is : (m x0 rest pad len : List ℕ) (k1 k2 k3 : ℕ) → length x0 ≡ 128 → k1 ≡ length m % 64 → k2 ≡ (119 - length m % 64) % 64 + 1
    → rest ≡ drop (length m / 64 * 64) m
    → pad ≡ 0x80 ∷ replicate ((119 - length m % 64) % 64) 0
    → len ≡ to_be_bytes w64 (length m * 8 % 2 ^ 64)
    → take (length m % 64 + ((119 - length m % 64) % 64 + 1) + 8)
    (put_mid (length m % 64 + ((119 - length m % 64) % 64 + 1)) k3 (put_mid (length m % 64) k2 (put_mid 0 k1 x0 rest) pad) len)
    ≡ drop (length m / 64 * 64) (padded_message m)
tail_is m x0 rest pad len k1 k2 k3 l0 e1 e2 er ep el =
    let u : ℕ = length m % 64 in
    let z : ℕ = (119 - u) % 64 in
    let x1 : List ℕ = put_mid 0 k1 x0 rest in
    let x2 : List ℕ = put_mid u k2 x1 pad in
    let lr : length rest ≡ u = omega (arith, ap length er, length-drop (length m / 64 * 64) m) in
    let lz : length {A = ℕ} (replicate z 0) ≡ z = length-replicate z 0 in
    let lp : length pad ≡ z + 1 = omega (arith, ap length ep, lz) in
    let ll : length len ≡ 8 = ap length el in
    let l1 : length x1 ≡ 128 = length-put_mid 0 k1 x0 rest (omega arith) (omega arith) ∙ l0 in
    let l2 : length x2 ≡ 128 = length-put_mid u k2 x1 pad (omega arith) (omega arith) ∙ l1 in
    let t1 : take u x1 ≡ rest = take-put_mid 0 k1 x0 rest u (omega arith) (omega arith) in
    let t2 : take (u + (z + 1)) x2 ≡ rest ++ pad =
    take-put_mid u k2 x1 pad (u + (z + 1)) (omega arith) (omega arith) ∙ ap (λ y. y ++ pad) t1 in
    let t3 : take (u + (z + 1) + 8) (put_mid (u + (z + 1)) k3 x2 len) ≡ (rest ++ pad) ++ len =
    take-put_mid (u + (z + 1)) k3 x2 len (u + (z + 1) + 8) (omega arith) (omega arith) ∙ ap (λ y. y ++ len) t2 in
    let whole : drop (length m / 64 * 64) (padded_message m) ≡ rest ++ padding (length m) =
    rw er (drop-append-le (length m / 64 * 64) m (padding (length m)) (omega arith)) in
    t3 ∙ rw (whole, append_assoc, ep, el) refl

-- the blocks of a padded message
pub blocks_of_padded : (m : List ℕ) → length (padded_message m) / 64 ≡ length m / 64 + ((length m % 64 + 8) / 64 + 1)
blocks_of_padded m =
    omega (arith, length-append m (padding (length m)), length-padding (length m))

-- a digest, from the hash value after all blocks of the padded message
pub digest_is : (m h v r : List ℕ) (n i : ℕ) → length m ≡ n → i ≡ (n % 64 + 8) / 64 + 1
    → h ≡ hash_after initial_hash_256 (padded_message m) (n / 64 + i) → v ≡ h → r ≡ digest_bytes v 8 → r ≡ sha256 m
unfolding sha256
digest_is m h v r n i en ei eh ev er =
    let all : n / 64 + i ≡ length (padded_message m) / 64 = omega (arith, blocks_of_padded m) in
    er ∙ ap (λ x. digest_bytes x 8) (ev ∙ eh ∙ ap (hash_after initial_hash_256 (padded_message m)) all)

-- what `tail` ensures of a piece m
pub tail_of : (m r t : List ℕ) (n : ℕ) → r ≡ m → length m ≡ n → IsTail r (length r) t → IsTail m n t
tail_of m r t n e l h =
    subst (λ k. IsTail m k t) l (subst (λ (x : List ℕ). IsTail x (length x) t) e h)

-- a part of a piece
pub part_in_piece : (d : List ℕ) (p size at n : ℕ) → at + n ≤ size → take n (drop at (take size (drop p d))) ≡ take n (drop (p + at) d)
part_in_piece d p size at n h =
    let r : ℕ = size - at in
    let e : size ≡ at + r = omega arith in
    rw (e, drop-take at r (drop p d), drop-drop at p d) (take-take n r (drop (p + at) d) (omega arith))

pub piece_fits : (size n : ℕ) → 8 * size ≤ n → (j : ℕ) → j < 8 → j * size + size ≤ n
piece_fits size n h =
    below_eight (λ j. j * size + size ≤ n) (omega arith) (omega arith) (omega arith) (omega arith) (omega arith) (omega arith) (omega arith) (omega arith)

pub length-piece : (d : List ℕ) (size : ℕ) → 8 * size ≤ length d → (j : ℕ) → j < 8 → length (piece d size j) ≡ size
length-piece d size h j lt =
    let fits = piece_fits size (length d) h j lt in
    length-take-le size (drop (j * size) d) (omega (arith, length-drop (j * size) d))

-- a part that lies before what is written
pub part-below : (xs ys : List ℕ) (a k p n : ℕ) → p + n ≤ a → a ≤ length xs → take n (drop p (put_mid a k xs ys)) ≡ take n (drop p xs)
part-below xs ys a k p n h l =
    sym (drop-take p n (put_mid a k xs ys)) ∙ ap (drop p) (take-put_mid_below a k xs ys (p + n) h l) ∙ drop-take p n xs

-- what is written
pub part-at : (xs ys : List ℕ) (a k n : ℕ) → length ys ≡ n → a ≤ length xs → take n (drop a (put_mid a k xs ys)) ≡ ys
part-at xs ys a k n e l =
    sym (drop-take a n (put_mid a k xs ys)) ∙ ap (drop a) (take-put_mid a k xs ys (a + n) (omega arith) l)
    ∙ drop_at (take a xs) ys a (length-take-le a xs l)

-- k pieces from piece i on lie in the buffer of n pieces
pub pieces_fit : (i k n size b : ℕ) → i + k ≤ n → b ≡ n * size → i * size + k * size ≤ b
pieces_fit i k n size b h e =
    omega (arith, mul-le (i + k) size n size h (omega arith))

-- where piece i lies, j pieces after piece p
pub pieces_at : (p j i size : ℕ) → p + j ≡ i → p * size + j * size ≡ i * size
pieces_at p j i size e =
    omega (arith, ap (λ (k : ℕ). k * size) e)
