use Rattle.std.proofs.Common.{◌≡◌, ℕ, [], ◌+◌, ◌-◌, ◌*◌, ◌<◌, take, drop, arith, refl, sym, ap, subst, slice_index, slice_index_or, ◌∙◌}
use Rattle.sha2.specs.Sha256.{sha256}
use Rattle.uf_cid.specs.Bytes.{piece}
use Rattle.uf_cid.specs.Lanes.{IsPadded}
use Rattle.uf_cid.proofs.Messages.{piece_fits}
use Rattle.uf_cid.proofs.Padded.{length_of_part, piece_of_part}
use Rattle.uf_cid.proofs.lanes.apart.write_group.Goals as goal

pub sha256_group-digests-requires-clause-padded : goal.sha256_group-digests-requires-clause-padded
sha256_group-digests-requires-clause-padded c = λ j lt.
    let d = c.args.bytes.now in
    let size = c.args.size in
    let lengths = c.args.lengths.now in
    let k = c.args.k in
    let w : ℕ = k * size + 8 * size - k * size in
    let part = piece (take w (drop (k * size) d)) size j in
    let long = length_of_part lengths k (k + 8 - k) j (k + j) refl (omega arith) in
    let here = piece_of_part d size k w j (k + j) refl (piece_fits size w (omega arith) j lt) in
    subst (λ n. IsPadded n part) (sym long)
    (subst (λ p. IsPadded (slice_index lengths (k + j)) p) (sym here) (c.requires.padded (k + j) (omega arith)))

pub returns-clause-written : goal.returns-clause-written
returns-clause-written c = λ i low high.
    let d = c.args.bytes.now in
    let size = c.args.size in
    let lengths = c.args.lengths.now in
    let k = c.args.k in
    let j : ℕ = i - k in
    let at : k + j ≡ i = omega arith in
    let below : j < 8 = omega arith in
    let w : ℕ = k * size + 8 * size - k * size in
    let part = piece (take w (drop (k * size) d)) size j in
    let long = length_of_part lengths k (k + 8 - k) j i at (omega arith) in
    let here = piece_of_part d size k w j i at (piece_fits size w (omega arith) j below) in
    ap (λ x. slice_index_or c.places.out x []) (sym at) ∙ c.places.invariant.2 j (omega arith)
    ∙ c.sha256_group-digests.ensures j below
    ∙ ap sha256 (ap (λ n. take n part) long ∙ ap (take (slice_index lengths i)) here)
