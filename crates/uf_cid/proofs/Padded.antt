-- Messages that are padded where they lie, each in its piece.
use Rattle.std.proofs.Common.{◌≡◌, ℕ, ◌+◌, ◌-◌, ◌*◌, ◌/◌, ◌%◌, ◌^◌, ◌<◌, ◌≤◌, List, ◌∷◌, ◌++◌, length, take, drop, replicate, refl, sym, ap, subst, ◌∙◌, arith, slice_index}
use Rattle.std.proofs.lemmas.List.{append_assoc, length-replicate, length-take-le, take-append-drop}
use Rattle.std.proofs.lemmas.Nat.{mul-le}
use Rattle.std.proofs.lemmas.Simd.{get_or-chunk}
use Rattle.std.proofs.lemmas.Slice.{drop-put_mid, take-put_mid, take-put_mid_below}
use Rattle.std.specs.Int.{w64, to_be_bytes}
use Rattle.sha2.specs.Sha256.{compress, digest_bytes, hash_after, initial_hash_256, padded_message, padding, sha256}
use Rattle.sha2.proofs.Absorbing256.{hash_after-append, hash_after_next}
use Rattle.uf_cid.specs.Bytes.{piece}
use Rattle.uf_cid.specs.Lanes.{IsPadded, blocks_of, part_of}
use Rattle.uf_cid.proofs.Messages.{length-put_mid, part-at, part-below, part_in_piece, pieces_at}
use borrow.Rule.Slice.PartMut.{put_mid}

-- what `pad` writes leaves the message
pub pad_keeps : (x pad len : List ℕ) (n a k2 k3 : ℕ) → n ≤ a → a ≤ length x → length pad ≡ k2 → n + k2 ≤ length x
    → take n (put_mid a k3 (put_mid n k2 x pad) len) ≡ take n x
pad_keeps x pad len n a k2 k3 low high lp fits =
    let l1 : length (put_mid n k2 x pad) ≡ length x = length-put_mid n k2 x pad lp fits in
    take-put_mid_below a k3 (put_mid n k2 x pad) len n low (omega arith) ∙ take-put_mid_below n k2 x pad n (omega arith) (omega arith)

-- what `pad` has written, piece by piece
pub padded_is : (x pad len : List ℕ) (n k2 k3 : ℕ) → n + 72 ≤ length x → k2 ≡ (119 - n % 64) % 64 + 1
    → pad ≡ 0x80 ∷ replicate ((119 - n % 64) % 64) 0
    → len ≡ to_be_bytes w64 (n * 8 % 2 ^ 64)
    → IsPadded n (put_mid (n + ((119 - n % 64) % 64 + 1)) k3 (put_mid n k2 x pad) len)
padded_is x pad len n k2 k3 fits e2 ep el =
    let z : ℕ = (119 - n % 64) % 64 in
    let x1 : List ℕ = put_mid n k2 x pad in
    let x2 : List ℕ = put_mid (n + (z + 1)) k3 x1 len in
    let m : List ℕ = take n x in
    let lm : length m ≡ n = length-take-le n x (omega arith) in
    let lz : length {A = ℕ} (replicate z 0) ≡ z = length-replicate z 0 in
    let lp : length pad ≡ z + 1 = omega (arith, ap length ep, lz) in
    let ll : length len ≡ 8 = ap length el in
    let l1 : length x1 ≡ length x = length-put_mid n k2 x pad (omega arith) (omega arith) in
    let t2 : take (n + (z + 1)) x1 ≡ m ++ pad = take-put_mid n k2 x pad (n + (z + 1)) (omega arith) (omega arith) in
    let t3 : take (n + (z + 1) + 8) x2 ≡ (m ++ pad) ++ len =
    take-put_mid (n + (z + 1)) k3 x1 len (n + (z + 1) + 8) (omega arith) (omega arith) ∙ ap (λ y. y ++ len) t2 in
    let size : 64 * blocks_of n ≡ n + (z + 1) + 8 = omega arith in
    let kept : take n x2 ≡ m = pad_keeps x pad len n (n + (z + 1)) k2 k3 (omega arith) (omega arith) (omega arith) (omega arith) in
    let end : padding (length m) ≡ pad ++ len = rw (lm, ep, el) refl in
    rw (size, t3, kept, end) (append_assoc m pad len)

-- the piece that is written
pub piece_same : (d one : List ℕ) (size i k w : ℕ) → length one ≡ size → i ≡ k → i * size ≤ length d
    → piece (put_mid (i * size) w d one) size k ≡ one
piece_same d one size i k w long e fits =
    subst (λ k. piece (put_mid (i * size) w d one) size k ≡ one) e (part-at d one (i * size) w size long fits)

-- a piece before the one that is written
pub piece_before : (d one : List ℕ) (size i k w : ℕ) → k < i → i * size ≤ length d
    → piece (put_mid (i * size) w d one) size k ≡ piece d size k
piece_before d one size i k w lt fits =
    part-below d one (i * size) w (k * size) size (omega (arith, mul-le (k + 1) size i size (omega arith) (omega arith))) fits

-- a piece after the one that is written
pub piece_after : (d one : List ℕ) (size i k w : ℕ) → i < k → w ≡ size → length one ≡ w → i * size ≤ length d
    → piece (put_mid (i * size) w d one) size k ≡ piece d size k
piece_after d one size i k w lt e long fits =
    ap (take size) (drop-put_mid (i * size) w d one (k * size) (omega (arith, mul-le (i + 1) size k size (omega arith) (omega arith))) fits long)

-- the next block of a message
pub next_block : (ini d h h' : List ℕ) (size j i : ℕ) → 64 * i + 64 ≤ size
    → h ≡ hash_after ini (piece d size j) i
    → h' ≡ compress h (part_of d size j (64 * i) 64) → h' ≡ hash_after ini (piece d size j) (i + 1)
next_block ini d h h' size j i fits held next =
    let at : i * 64 ≡ 64 * i = omega arith in
    next ∙ rw (hash_after_next ini (piece d size j) i, at, part_in_piece d (j * size) size (64 * i) 64 fits, held) refl

-- a digest, from the hash value after all blocks of a message
pub ended_is : (t h r : List ℕ) (n i : ℕ) → n + 72 ≤ length t → IsPadded n t → i ≡ blocks_of n
    → h ≡ hash_after initial_hash_256 t i → r ≡ digest_bytes h 8 → r ≡ sha256 (take n t)
unfolding sha256
ended_is t h r n i fits padded at held er =
    let front : List ℕ = take (64 * blocks_of n) t in
    let long : length front ≡ 64 * blocks_of n = length-take-le (64 * blocks_of n) t (omega arith) in
    let whole : front ++ drop (64 * blocks_of n) t ≡ t = take-append-drop (64 * blocks_of n) t in
    let all : length (padded_message (take n t)) / 64 ≡ i = omega (arith, ap length padded) in
    let cut : hash_after initial_hash_256 t i ≡ hash_after initial_hash_256 front i =
    ap (λ x. hash_after initial_hash_256 x i) (sym whole) ∙ hash_after-append initial_hash_256 front (drop (64 * blocks_of n) t) i (omega arith) in
    er ∙ ap (λ x. digest_bytes x 8) (held ∙ cut ∙ rw (all, padded) refl)

-- a piece of a part of a buffer that begins with piece k
pub piece_of_part : (d : List ℕ) (size k w j i : ℕ) → k + j ≡ i → j * size + size ≤ w
    → piece (take w (drop (k * size) d)) size j ≡ piece d size i
piece_of_part d size k w j i e fits =
    part_in_piece d (k * size) w (j * size) size fits ∙ ap (λ p. take size (drop p d)) (pieces_at k j i size e)

-- the length of a message of such a part
pub length_of_part : (lengths : List ℕ) (k w j i : ℕ) → k + j ≡ i → j < w
    → slice_index (take w (drop k lengths)) j ≡ slice_index lengths i
length_of_part lengths k w j i e lt =
    get_or-chunk k w lengths j 0 lt ∙ ap (slice_index lengths) e
