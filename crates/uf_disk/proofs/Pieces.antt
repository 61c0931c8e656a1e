-- The pieces with which a buffer begins.
use Rattle.std.proofs.Common.{◌≡◌, ℕ, ◌+◌, ◌*◌, ◌<◌, ◌≤◌, List, ◌++◌, length, length-drop, take, drop, sym, ap, ◌∙◌, arith, slice_index}
use Rattle.std.proofs.lemmas.List.{drop-append-le, take-append-le, take-take}
use Rattle.std.proofs.lemmas.Nat.{mul-le}
use Rattle.uf_cid.specs.Bytes.{block_in}

-- a block lies in the front of a buffer as in all of it
pub block_in_front : (front rest lengths : List ℕ) (size count k : ℕ) → length front ≡ count * size → k < count
    → slice_index lengths k ≤ size → block_in (front ++ rest) size lengths k ≡ block_in front size lengths k
block_in_front front rest lengths size count k long lt short =
    let n = slice_index lengths k in
    let at = k * size in
    let end : at + size ≤ count * size = omega (arith, mul-le (k + 1) size count size (omega arith) (omega arith)) in
    let room : n ≤ length (drop at front) = omega (arith, length-drop at front, long, end) in
    ap (λ xs. take n (take size xs)) (drop-append-le at front rest (omega (arith, long, end)))
    ∙ take-take n size (drop at front ++ rest) short
    ∙ take-append-le n (drop at front) rest room
    ∙ sym (take-take n size (drop at front) short)
