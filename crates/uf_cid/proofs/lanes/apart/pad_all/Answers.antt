use Rattle.std.proofs.Common.{◌≡◌, ℕ, ◌+◌, ◌-◌, ◌*◌, ◌≤◌, length, length-drop, length-take-le, take, drop, inl, inr, arith, sym, ap, subst, slice_index, ◌∙◌}
use Rattle.std.proofs.lemmas.Bool.{cases_lt}
use Rattle.uf_cid.specs.Bytes.{block_in}
use Rattle.uf_cid.specs.Lanes.{IsPadded}
use Rattle.uf_cid.proofs.Messages.{pieces_fit}
use Rattle.uf_cid.proofs.Padded.{piece_after, piece_before, piece_same}
use Rattle.uf_cid.proofs.lanes.apart.pad_all.Goals as goal

pub pieces-preserved : goal.pieces-preserved
pieces-preserved c =
    let d = c.pieces.bytes in
    let size = c.args.size in
    let lengths = c.args.lengths.now in
    let i = c.pieces.i in
    let one = c.pad.new.piece in
    let w : ℕ = i * size + size - i * size in
    let wide : w ≡ size = omega arith in
    let fits : i * size + 1 * size ≤ length d =
    pieces_fit i 1 (length lengths) size (length d) (omega arith) (c.pieces.auto.bytes ∙ c.requires.pieces) in
    let long : length one ≡ size =
    c.pad.auto.piece ∙ length-take-le w (drop (i * size) d) (omega (arith, length-drop (i * size) d)) ∙ wide in
    record {
      padded = λ k lt. elim (cases_lt k i) [
        | inl below ↦ subst (λ p. IsPadded (slice_index lengths k) p) (sym (piece_before d one size i k w below (omega arith)))
            (c.pieces.invariant.padded k below)
        | inr above ↦
            let e : i ≡ k = omega arith in
            subst (λ p. IsPadded (slice_index lengths k) p) (sym (piece_same d one size i k w long e (omega arith)))
            (subst (λ k. IsPadded (slice_index lengths k) one) e c.pad.ensures.padded)
      ];
      kept = λ k lt. elim (cases_lt k i) [
        | inl below ↦ ap (take (slice_index lengths k)) (piece_before d one size i k w below (omega arith))
            ∙ c.pieces.invariant.kept k lt
        | inr above ↦ elim (cases_lt i k) [
          | inl after ↦ ap (take (slice_index lengths k)) (piece_after d one size i k w after wide (long ∙ sym wide) (omega arith))
              ∙ c.pieces.invariant.kept k lt
          | inr same ↦
              let e : i ≡ k = omega arith in
              ap (take (slice_index lengths k)) (piece_same d one size i k w long e (omega arith))
              ∙ subst (λ k. take (slice_index lengths k) one ≡ block_in c.args.bytes.now size lengths k) e
              (c.pad.ensures.kept ∙ ap (λ n. take (slice_index lengths i) (take n (drop (i * size) d))) wide
              ∙ c.pieces.invariant.kept i (omega arith))
        ]
      ];
    }
