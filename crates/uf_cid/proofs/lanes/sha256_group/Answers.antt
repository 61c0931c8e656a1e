use Rattle.std.proofs.Common.{◌≡◌, ℕ, [], ◌+◌, ◌-◌, ◌*◌, ◌/◌, ◌%◌, length-set, take, drop, inl, inr, arith, sym, ap, subst, slice_index_or, slice_set, ◌∙◌}
use Rattle.std.proofs.lemmas.Bool.{cases_lt}
use Rattle.std.proofs.lemmas.List.{get_or-set_other, get_or-set_same}
use Rattle.sha2.specs.Sha256.{hash_after, initial_hash_256, sha256}
use Rattle.uf_cid.specs.Bytes.{piece}
use Rattle.uf_cid.specs.Lanes.{part_of}
use Rattle.uf_cid.proofs.Messages.{block_next, digest_is, length-piece, part_in_piece, tail_next}
use Rattle.uf_cid.proofs.lanes.sha256_group.Goals as goal

pub whole-init : goal.whole-init
unfolding hash_after
whole-init c = λ j lt. c.initial_state-state.ensures j lt

pub whole-preserved : goal.whole-preserved
whole-preserved c = λ j lt.
    let d = c.args.bytes.now in
    let size = c.args.size in
    let m = piece d size j in
    let i = c.whole.i in
    let long = length-piece d size (omega arith) j lt in
    c.compress.ensures j lt
    ∙ block_next initial_hash_256 m _ _ i (omega arith) (c.whole.invariant j lt) (sym (part_in_piece d (j * size) size (64 * i) 64 (omega arith)))

pub tails-preserved : goal.tails-preserved
tails-preserved c = λ j lt.
    let d = c.args.bytes.now in
    let size = c.args.size in
    let m = piece d size j in
    let i = c.tails.i in
    let ends = c.tails-ends.result in
    let n : ℕ = size % 64 + ((119 - size % 64) % 64 + 1) + 8 in
    let at : j * 128 + 0 + 64 * i ≡ j * 128 + 64 * i = omega arith in
    let x = sym (part_in_piece ends (j * 128 + 0) 128 (64 * i) 64 (omega arith)) in
    c.compress-in-tails.ensures j lt
    ∙ tail_next initial_hash_256 m (part_of ends 128 j 0 128) _ _ (size / 64) n i (omega arith) (c.tails-ends.ensures j lt) (c.tails.invariant j lt)
    (ap (λ p. take 64 (drop p ends)) (sym at) ∙ x)

pub digests-preserved : goal.digests-preserved
digests-preserved c =
    let d = c.args.bytes.now in
    let size = c.args.size in
    let k = c.digests.j in
    let i = c.tails.i in
    let r = c.digest.result in (
      length-set c.digests.out k r ∙ c.digests.invariant.0,
      λ j lt. elim (cases_lt j k) [
        | inl below ↦ get_or-set_other c.digests.out k j r [] (omega arith) ∙ c.digests.invariant.1 j below
        | inr above ↦
            let e : k ≡ j = omega arith in
            let done = digest_is (piece d size k) _ _ _ size i (length-piece d size (omega arith) k (omega arith)) (omega arith)
            (c.tails.invariant k (omega arith)) c.hash_value.ensures c.digest.ensures in
            subst (λ j. slice_index_or (slice_set c.digests.out k r) j [] ≡ sha256 (piece d size j)) e
            (get_or-set_same c.digests.out k r [] (omega arith) ∙ done)
      ],
    )
