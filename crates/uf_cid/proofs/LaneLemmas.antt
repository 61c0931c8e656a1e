-- What holds of each lane of a vector.
use Rattle.std.proofs.Common.{◌≡◌, ℕ, zero, suc, ◌<◌, ◌≤◌, ◌+◌, ◌-◌, ◌*◌, ◌/◌, ◌%◌, ◌^◌, List, length, take, drop, replicate, slice_index, bit_and, bit_or, bit_xor, arith, refl, sym, ap, ◌∙◌, w32, Fits}
use Rattle.std.specs.Simd.Lanes.{zip2}
use Rattle.std.specs.Int.{rotate_right}
use Rattle.std.proofs.lemmas.List.{get_or-map}
use Rattle.std.proofs.lemmas.Simd.{Each1-get_or, get_or-chunk, get_or-replicate, get_or-zip2, length-replicate, length-zip2}
use lib.Lanes.{Each1}
use Rattle.sha2.specs.Sha256.{ch, maj, word_at}
use Rattle.uf_cid.specs.Lanes.{lane_at, words}
use Rattle.uf_cid.proofs.ChMaj.{ch_short, maj_short}

-- what holds of each of the eight lanes
pub below_eight : (P : ℕ → Type 0) → P 0 → P 1 → P 2 → P 3 → P 4 → P 5 → P 6 → P 7 → (j : ℕ) → j < 8 → P j
below_eight P p0 p1 p2 p3 p4 p5 p6 p7 zero h = p0
below_eight P p0 p1 p2 p3 p4 p5 p6 p7 (suc zero) h = p1
below_eight P p0 p1 p2 p3 p4 p5 p6 p7 (suc (suc zero)) h = p2
below_eight P p0 p1 p2 p3 p4 p5 p6 p7 (suc (suc (suc zero))) h = p3
below_eight P p0 p1 p2 p3 p4 p5 p6 p7 (suc (suc (suc (suc zero)))) h = p4
below_eight P p0 p1 p2 p3 p4 p5 p6 p7 (suc (suc (suc (suc (suc zero))))) h = p5
below_eight P p0 p1 p2 p3 p4 p5 p6 p7 (suc (suc (suc (suc (suc (suc zero)))))) h = p6
below_eight P p0 p1 p2 p3 p4 p5 p6 p7 (suc (suc (suc (suc (suc (suc (suc zero))))))) h = p7
below_eight P p0 p1 p2 p3 p4 p5 p6 p7 (suc (suc (suc (suc (suc (suc (suc (suc n)))))))) h = absurd (omega arith)

-- an operator on two vectors
pub of_two : (f : ℕ → ℕ → ℕ) (n : ℕ) (x y : List ℕ) → length x ≡ n → length y ≡ n → (j : ℕ) → j < n
    → slice_index (zip2 f x y) j ≡ f (slice_index x j) (slice_index y j)
of_two f n x y ex ey j h = get_or-zip2 f x y j 0 0 0 (omega arith) (omega arith)

-- an operator on a vector and a splat
pub of_splat : (f : ℕ → ℕ → ℕ) (n : ℕ) (x : List ℕ) (k : ℕ) → length x ≡ n → (j : ℕ) → j < n
    → slice_index (zip2 f x (replicate n k)) j ≡ f (slice_index x j) k
of_splat f n x k ex j h =
    of_two f n x (replicate n k) ex (length-replicate n k) j h ∙ ap (f (slice_index x j)) (get_or-replicate n j k 0 h)

-- two shifts of each lane and an or are a rotation
pub rotates : (n k : ℕ) → 0 < k → k < 32 → (x : List ℕ) → length x ≡ n → (j : ℕ) → j < n
    → slice_index (zip2 bit_or (zip2 (λ a i. a / 2 ^ i) x (replicate n k)) (zip2 (λ a i. a * 2 ^ i % 2 ^ 32) x (replicate n (32 - k)))) j
    ≡ rotate_right w32 (slice_index x j) k
rotates n k low high x ex j h =
    let left : k % 32 ≡ k = omega arith in
    let right : (32 - k) % 32 ≡ 32 - k = omega arith in
    let down = of_splat (λ a i. a / 2 ^ i) n x k ex j h in
    let up = of_splat (λ a i. a * 2 ^ i % 2 ^ 32) n x (32 - k) ex j h in
    let ld = length-zip2 (λ a i. a / 2 ^ i) x (replicate n k) (ex ∙ sym (length-replicate n k)) ∙ ex in
    let lu = length-zip2 (λ a i. a * 2 ^ i % 2 ^ 32) x (replicate n (32 - k)) (ex ∙ sym (length-replicate n (32 - k))) ∙ ex in
    of_two bit_or n _ _ ld lu j h ∙ rw (down, up, left, right) refl

-- Ch of each lane
pub chooses : (n : ℕ) (x y z : List ℕ) → length x ≡ n → length y ≡ n → length z ≡ n
    → Each1 (Fits w32) x → Each1 (Fits w32) y → Each1 (Fits w32) z → (j : ℕ) → j < n
    → slice_index (zip2 bit_xor z (zip2 bit_and x (zip2 bit_xor y z))) j ≡ ch (slice_index x j) (slice_index y j) (slice_index z j)
chooses n x y z ex ey ez fx fy fz j h =
    let a = zip2 bit_xor y z in
    let b = zip2 bit_and x a in
    let la : length a ≡ n = length-zip2 bit_xor y z (ey ∙ sym ez) ∙ ey in
    let lb : length b ≡ n = length-zip2 bit_and x a (ex ∙ sym la) ∙ ex in
    of_two bit_xor n z b ez lb j h
    ∙ rw (of_two bit_and n x a ex la j h, of_two bit_xor n y z ey ez j h)
    (ch_short w32 (slice_index x j) (slice_index y j) (slice_index z j)
    (Each1-get_or (Fits w32) x j 0 (omega arith) fx).fits
    (Each1-get_or (Fits w32) y j 0 (omega arith) fy).fits
    (Each1-get_or (Fits w32) z j 0 (omega arith) fz).fits)

-- Maj of each lane
pub majors : (n : ℕ) (x y z : List ℕ) → length x ≡ n → length y ≡ n → length z ≡ n → (j : ℕ) → j < n
    → slice_index (zip2 bit_xor y (zip2 bit_and (zip2 bit_xor x y) (zip2 bit_xor y z))) j
    ≡ maj (slice_index x j) (slice_index y j) (slice_index z j)
majors n x y z ex ey ez j h =
    let a = zip2 bit_xor x y in
    let b = zip2 bit_xor y z in
    let c = zip2 bit_and a b in
    let la : length a ≡ n = length-zip2 bit_xor x y (ex ∙ sym ey) ∙ ex in
    let lb : length b ≡ n = length-zip2 bit_xor y z (ey ∙ sym ez) ∙ ey in
    let lc : length c ≡ n = length-zip2 bit_and a b (la ∙ sym lb) ∙ la in
    of_two bit_xor n y c ey lc j h
    ∙ rw (of_two bit_and n a b la lb j h, of_two bit_xor n x y ex ey j h, of_two bit_xor n y z ey ez j h)
    (maj_short (slice_index x j) (slice_index y j) (slice_index z j))

-- a word of a part of a list
pub word_at-part : (d : List ℕ) (p i : ℕ) → i + 4 ≤ 64 → word_at (take 64 (drop p d)) i ≡ word_at d (p + i)
word_at-part d p i h =
    let e0 = get_or-chunk p 64 d i 0 (omega arith) in
    let e1 = get_or-chunk p 64 d (i + 1) 0 (omega arith) in
    let e2 = get_or-chunk p 64 d (i + 2) 0 (omega arith) in
    let e3 = get_or-chunk p 64 d (i + 3) 0 (omega arith) in
    let a1 : p + (i + 1) ≡ p + i + 1 = omega arith in
    let a2 : p + (i + 2) ≡ p + i + 2 = omega arith in
    let a3 : p + (i + 3) ≡ p + i + 3 = omega arith in
    rw (e0, e1, e2, e3, a1, a2, a3) refl

-- word k of lane j
pub word_in : (w : List (List ℕ)) (j k : ℕ) → k < length w → slice_index (words j w) k ≡ lane_at w k j
word_in w j k h = get_or-map (λ v. slice_index v j) w k _ 0 h
