use Rattle.std.proofs.Common.{◌≡◌, ℕ, ◌+◌, ◌<◌, ◌==◌, [], inl, inr, arith, sym, slice_index, slice_index_or, ◌∙◌}
use Rattle.std.proofs.lemmas.Bool.{cond-true, cond-false}
use Rattle.std.proofs.lemmas.Bool.Decides.{eqb_tells}
use Rattle.sha2.specs.Sha256.{digest_bytes, hash_after, initial_hash_256}
use Rattle.uf_cid.specs.Bytes.{piece}
use Rattle.uf_cid.specs.Lanes.{blocks_of, lane}
use Rattle.uf_cid.proofs.Messages.{length-piece}
use Rattle.uf_cid.proofs.Padded.{ended_is, next_block}
use Rattle.uf_cid.proofs.lanes.apart.sha256_group.Goals as goal

pub loop-i-init : goal.loop-i-init
unfolding hash_after
loop-i-init c = record {
  hashed = λ j lt. c.initial_state-state.ensures j lt;
  ended = λ j lt none. absurd (omega arith);
}

pub loop-i-preserved : goal.loop-i-preserved
loop-i-preserved c =
    let d = c.args.bytes.now in
    let size = c.args.size in
    let i = c.loop-i.i in
    let state = c.compress.new.state in
    let hashed : (j : ℕ) → j < 8 → lane j state ≡ hash_after initial_hash_256 (piece d size j) (i + 1) = λ j lt.
    next_block initial_hash_256 d _ _ size j i (omega (arith, c.most_blocks-count.ensures.inside)) (c.loop-i.invariant.hashed j lt)
    (c.compress.ensures j lt) in
    record {
      hashed = hashed;
      ended = λ j lt le.
          let n = slice_index c.args.lengths.now j in
          let out = slice_index_or c.loop-i.out j [] in
          let digest = digest_bytes (lane j state) 8 in
          let long = length-piece d size (omega (arith, c.requires.pieces)) j lt in
          elim (eqb_tells (blocks_of n) (i + 1)) [
            | inl last ↦ ended_is (piece d size j) _ _ n (i + 1) (omega (arith, c.requires.room j lt)) (c.requires.padded j lt)
                (sym last.1) (hashed j lt) (c.note_ended.ensures j lt ∙ cond-true (blocks_of n == i + 1) digest out last.0)
            | inr other ↦ c.note_ended.ensures j lt ∙ cond-false (blocks_of n == i + 1) digest out other.0
                ∙ c.loop-i.invariant.ended j lt (omega (arith, other.1))
          ];
    }
